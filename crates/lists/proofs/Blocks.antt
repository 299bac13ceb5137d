-- Laws of `blocks` and `tab`: lengths, equality by index, a block read back, the front of the blocks; and of `runs` and `map`.
-- Assumes nothing.
use mathlib.Core.Path.{◌≡◌, refl, sym, ap, ◌∙◌}
use mathlib.Core.List.{List, [], ◌∷◌, ◌++◌, map, map-append}
use Prim.Native.Nat.{ℕ, zero, suc, ◌+◌, ◌*◌, ◌≤◌, ◌<◌}
use native.Mathlib.Nat.{le_refl, le_of_suc-le-suc, mul-one, add-zero}
use native.Mathlib.Numerals.{add-one}
use native.Mathlib.Decide.{le_ind}
use native.Mathlib.Omega.{arith}
use lib.ListN.{length, get_or, take, replicate, length-append, length-replicate, get_or-replicate}
use lib.Seq.{take-length, take_all, take-append-le, ext_get_or}
use Rattle.lists.specs.Blocks.{blocks, tab, part, nth_piece, sum_to, runs}
use Rattle.lists.proofs.Parts.{part_left, part_right, part_last, part_of_take, take_part, get_d_part}
use Rattle.lists.proofs.Sums.{times-fits, sum_to-fits, sum_to_const}

module _ {A : Type 0} where
  pub blocks-next : (n : ℕ) (f : ℕ → List A) → blocks (n + 1) f ≡ blocks n f ++ f n
  unfolding blocks
  blocks-next n f = rw add-one refl

  -- ---- lengths

  pub length-blocks : (n : ℕ) (f : ℕ → List A) (size : ℕ → ℕ) → ((i : ℕ) → i < n → length (f i) ≡ size i) → length (blocks n f) ≡ sum_to n size
  unfolding blocks sum_to
  length-blocks zero f size e = refl
  length-blocks (suc n) f size e =
      length-append (blocks n f) (f n) ∙ rw (length-blocks n f size (λ i h. e i (omega arith)), e n (le_refl (suc n)))

  pub length_blocks_same : (n s : ℕ) (f : ℕ → List A) → ((i : ℕ) → i < n → length (f i) ≡ s) → length (blocks n f) ≡ n * s
  length_blocks_same n s f e = length-blocks n f (λ _. s) e ∙ sum_to_const n s

  pub length-tab : (n : ℕ) (f : ℕ → A) → length (tab n f) ≡ n
  length-tab n f = length_blocks_same n 1 (λ i. f i ∷ []) (λ _ _. refl) ∙ mul-one n

  -- ---- equality by index

  pub blocks_ext : (n : ℕ) (f g : ℕ → List A) → ((i : ℕ) → i < n → f i ≡ g i) → blocks n f ≡ blocks n g
  unfolding blocks
  blocks_ext zero f g e = refl
  blocks_ext (suc n) f g e = rw (blocks_ext n f g (λ i h. e i (omega arith)), e n (le_refl (suc n)))

  pub tab_ext : (n : ℕ) (f g : ℕ → A) → ((i : ℕ) → i < n → f i ≡ g i) → tab n f ≡ tab n g
  tab_ext n f g e = blocks_ext n (λ i. f i ∷ []) (λ i. g i ∷ []) (λ i h. ap (λ (a : A). a ∷ []) (e i h))

  -- ---- more blocks are no shorter

  grows : (i n : ℕ) (f : ℕ → List A) → i ≤ n → length (blocks i f) ≤ length (blocks n f)
  unfolding blocks
  grows i n f h =
      le_ind (λ (m : ℕ). length (blocks i f) ≤ length (blocks m f)) (le_refl (length (blocks i f)))
      (λ m _ r. simp length-append (omega arith)) n h

  -- ---- the front of the blocks, and a block read back: of blocks of any sizes, then of equal ones

  front_of : (i n : ℕ) (f : ℕ → List A) → i ≤ n → take (length (blocks i f)) (blocks n f) ≡ blocks i f
  unfolding blocks
  front_of i n f h =
      le_ind (λ (m : ℕ). take (length (blocks i f)) (blocks m f) ≡ blocks i f) (take-length (blocks i f))
      (λ m l r. take-append-le (length (blocks i f)) (blocks m f) (f m) (grows i m f l) ∙ r)
      n h

  module _ (n : ℕ) (f : ℕ → List A) (size : ℕ → ℕ) (e : (i : ℕ) → i < n → length (f i) ≡ size i) where
    pub take-blocks : (i : ℕ) → i ≤ n → take (sum_to i size) (blocks n f) ≡ blocks i f
    take-blocks i h = rw (← length-blocks i f size (λ j l. e j (omega arith))) (front_of i n f h)

    last : (i : ℕ) → i < n → part (blocks (suc i) f) (sum_to i size) (size i) ≡ f i
    unfolding blocks
    last i h = part_last (blocks i f) (f i) (sum_to i size) (size i) (length-blocks i f size (λ j l. e j (omega arith))) (e i h)

    pub part-blocks : (i : ℕ) → i < n → part (blocks n f) (sum_to i size) (size i) ≡ f i
    part-blocks i h =
        sym (part_of_take (blocks n f) (sum_to (suc i) size) (sum_to i size) (size i) (sum_to-fits i (suc i) size (le_refl (suc i))))
        ∙ rw (take-blocks (suc i) h) (last i h)

    pub get_or-blocks : (i j : ℕ) (d : A) → i < n → j < size i → get_or (blocks n f) (sum_to i size + j) d ≡ get_or (f i) j d
    get_or-blocks i j d h k = sym (get_d_part (blocks n f) (sum_to i size) (size i) j d k) ∙ rw (part-blocks i h)

  module _ (n s : ℕ) (f : ℕ → List A) (e : (i : ℕ) → i < n → length (f i) ≡ s) where
    pub take_blocks_same : (i : ℕ) → i ≤ n → take (i * s) (blocks n f) ≡ blocks i f
    take_blocks_same i h = rw (← sum_to_const i s) (take-blocks n f (λ _. s) e i h)

    pub part_blocks_same : (i : ℕ) → i < n → part (blocks n f) (i * s) s ≡ f i
    part_blocks_same i h = rw (← sum_to_const i s) (part-blocks n f (λ _. s) e i h)

    pub get_or_blocks_same : (i j : ℕ) (d : A) → i < n → j < s → get_or (blocks n f) (i * s + j) d ≡ get_or (f i) j d
    get_or_blocks_same i j d h k = rw (← sum_to_const i s) (get_or-blocks n f (λ _. s) e i j d h k)

  -- ---- a table's values, its front, and a list that is a table by its elements

  pub get_or-tab : (n : ℕ) (f : ℕ → A) (i : ℕ) (d : A) → i < n → get_or (tab n f) i d ≡ f i
  get_or-tab n f i d h =
      ap (λ (k : ℕ). get_or (tab n f) k d) (sym (add-zero (i * 1) ∙ mul-one i)) ∙ get_or_blocks_same n 1 (λ j. f j ∷ []) (λ _ _. refl) i 0 d h (le_refl 1)

  pub take-tab : (n : ℕ) (f : ℕ → A) (i : ℕ) → i ≤ n → take i (tab n f) ≡ tab i f
  take-tab n f i h = ap (λ (k : ℕ). take k (tab n f)) (sym (mul-one i)) ∙ take_blocks_same n 1 (λ j. f j ∷ []) (λ _ _. refl) i h

  pub is-tab : (n : ℕ) (f : ℕ → A) (xs : List A) (d : A) → length xs ≡ n → ((i : ℕ) → i < n → get_or xs i d ≡ f i) → xs ≡ tab n f
  is-tab n f xs d l e =
      ext_get_or d xs (tab n f) (l ∙ sym (length-tab n f)) (λ i h. e i (omega arith) ∙ sym (get_or-tab n f i d (omega arith)))

  pub replicate-tab : (n : ℕ) (a : A) → replicate n a ≡ tab n (λ _. a)
  replicate-tab n a = is-tab n (λ _. a) (replicate n a) a (length-replicate n a) (λ i h. get_or-replicate n i a a h)

  pub take-replicate : (m n : ℕ) (a : A) → m ≤ n → take m (replicate n a) ≡ replicate m a
  take-replicate zero n a h = refl
  take-replicate (suc m) zero a h = absurd (omega arith)
  take-replicate (suc m) (suc n) a h = ap (λ (l : List A). a ∷ l) (take-replicate m n a (le_of_suc-le-suc h))

  -- ---- a list is its parts, one after another

  pub blocks_parts : (n : ℕ) (size : ℕ → ℕ) (xs : List A) → blocks n (λ i. part xs (sum_to i size) (size i)) ≡ take (sum_to n size) xs
  unfolding blocks sum_to
  blocks_parts zero size xs = refl
  blocks_parts (suc n) size xs = rw (blocks_parts n size xs) (sym (take_part xs (sum_to n size) (size n)))

  pub blocks_nth : (n s : ℕ) (xs : List A) → length xs ≡ n * s → blocks n (λ i. nth_piece xs s i) ≡ xs
  blocks_nth n s xs l =
      blocks_ext n (λ i. nth_piece xs s i) (λ i. part xs (sum_to i (λ _. s)) s) (λ i _. rw (sum_to_const i s))
      ∙ blocks_parts n (λ _. s) xs
      ∙ take_all (sum_to n (λ _. s)) xs (omega (arith, sum_to_const n s))

  -- pieces of one size of two lists in a row: those of the first, then those of the second
  pub nth_left : (xs ys : List A) (m s r : ℕ) → length xs ≡ m * s → r < m → nth_piece (xs ++ ys) s r ≡ nth_piece xs s r
  nth_left xs ys m s r e h = part_left xs ys (r * s) s (omega (arith, times-fits r m s h))

  pub nth_right : (xs ys : List A) (m s r : ℕ) → length xs ≡ m * s → nth_piece (xs ++ ys) s (m + r) ≡ nth_piece ys s r
  nth_right xs ys m s r e =
      let place : (m + r) * s ≡ length xs + r * s = omega arith in
      ap (λ (at : ℕ). part (xs ++ ys) at s) place ∙ part_right xs ys (r * s) s

  -- ---- runs of one value

  pub length_runs : (n : ℕ) (size : ℕ → ℕ) (m : ℕ → A) → length (runs n size m) ≡ sum_to n size
  length_runs n size m = length-blocks n (λ i. replicate (size i) (m i)) size (λ i _. length-replicate (size i) (m i))

  pub get_or-runs : (n : ℕ) (size : ℕ → ℕ) (m : ℕ → A) (i j : ℕ) (d : A) → i < n → j < size i → get_or (runs n size m) (sum_to i size + j) d ≡ m i
  get_or-runs n size m i j d h k =
      get_or-blocks n (λ i. replicate (size i) (m i)) size (λ i _. length-replicate (size i) (m i)) i j d h k ∙ get_or-replicate (size i) j (m i) d k

pub map-tab : {A B : Type 0} (f : ℕ → A) (g : A → B) (n : ℕ) → map g (tab n f) ≡ tab n (λ i. g (f i))
unfolding blocks
map-tab f g zero = refl
map-tab f g (suc n) = map-append g (tab n f) (f n ∷ []) ∙ ap (λ (l : List _). l ++ (g (f n) ∷ [])) (map-tab f g n)
