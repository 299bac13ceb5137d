-- Vectors put on a buffer or taken off it, and the pads of a row: one receiver after another.
-- Assumes nothing.
use mathlib.Core.Path.{◌≡◌, refl, sym, ap, subst, ◌∙◌}
use mathlib.Core.Bool.{Bool, true, false, not}
use mathlib.Core.List.{List, ◌++◌, zip_with}
use Prim.Native.Nat.{ℕ, zero, suc, ◌+◌, ◌-◌, ◌*◌, ◌≤◌, ◌<◌}
use native.Mathlib.Nat.{le_refl}
use native.Mathlib.Omega.{arith}
use lib.ListN.{length, get_or, take, drop, replicate, length-replicate}
use Rattle.lists.specs.Blocks.{blocks, part, nth_piece}
use Rattle.lists.proofs.Blocks.{blocks_nth, length_blocks_same}
use Rattle.lists.proofs.Parts.{part_range, length_part}
use Rattle.lists.proofs.Steps.{Level, level_place, level_whole, steps_long, steps_call}
use Rattle.lists.proofs.Sums.{times-fits}
use Rattle.lists.proofs.Written.{lent}
use Rattle.lists.proofs.Wrote.{wrote_behind}
use Rattle.residue.specs.Vector.{add_v, sub_v, AllBelow}
use Rattle.residue.proofs.Laws.{sub_v-add_v, add_v_assoc}
use Rattle.residue.proofs.Parts.{zip_append, below-take, below-drop}
use Rattle.residue.proofs.Vectors.{zip_length, zip_below, add-below, sub-below}
use Rattle.residue.proofs.VectorRing.{vring}
use Rattle.residue.proofs.VectorRing.VExpr.{vec, ◌⊞◌, ◌⊟◌}
use Rattle.pads.specs.Moved.{shifted, moved, Asked}
use Rattle.pads.specs.Pad.{Under, shake_pad, pad_sum, pad_row}
use Rattle.pads.proofs.Sizes.{shake_pad-length, pad_sum-length}

pub moved_length : (minus : Bool) (q : ℕ) (xs ys : List ℕ) → length xs ≡ length ys → length (moved minus q xs ys) ≡ length xs
unfolding moved
moved_length minus q xs ys e = zip_length (shifted minus q) xs ys e

shifted-below : (minus : Bool) {q : ℕ} → 0 < q → (a b : ℕ) → shifted minus q a b < q
unfolding shifted
shifted-below false h a b = add-below h a b
shifted-below true h a b = sub-below h a b

pub moved-below : (minus : Bool) {q : ℕ} → 0 < q → (xs ys : List ℕ) → AllBelow q (moved minus q xs ys)
unfolding moved
moved-below minus {q} h xs ys = record { entry = zip_below (shifted minus q) q (shifted-below minus h) xs ys }

zeros : (n i : ℕ) → ◌≡◌ {A = ℕ} (get_or (replicate n 0) i 0) 0
zeros zero i = refl
zeros (suc n) zero = refl
zeros (suc n) (suc i) = zeros n i

-- nothing put on or taken off
pub moved_zeros : (minus : Bool) {q : ℕ} → 0 < q → (xs : List ℕ) → AllBelow q xs → moved minus q xs (replicate (length xs) 0) ≡ xs
unfolding moved shifted add_v sub_v
moved_zeros false h xs below =
    vring h (length xs) (vec xs ⊞ vec (replicate (length xs) 0)) (vec xs) (refl, length-replicate {A = ℕ} (length xs) 0) refl tt below (λ i. omega (arith, zeros (length xs) i))
moved_zeros true h xs below =
    vring h (length xs) (vec xs ⊟ vec (replicate (length xs) 0)) (vec xs) (refl, length-replicate {A = ℕ} (length xs) 0) refl tt below (λ i. omega (arith, zeros (length xs) i))

-- twice is once with the sum
pub moved_twice : (minus : Bool) {q : ℕ} → 0 < q → (xs ys zs : List ℕ) → length xs ≡ length ys → length xs ≡ length zs
    → moved minus q (moved minus q xs ys) zs ≡ moved minus q xs (add_v q ys zs)
unfolding moved shifted add_v sub_v
moved_twice false h xs ys zs s t = add_v_assoc h xs ys s zs t
moved_twice true h xs ys zs s t =
    vring h (length xs) (vec xs ⊟ vec ys ⊟ vec zs) (vec xs ⊟ (vec ys ⊞ vec zs)) (omega arith) (omega arith) tt tt (λ i. omega arith)

-- what was put on is taken off again, and the other way round
pub moved_back : (minus : Bool) {q : ℕ} → 0 < q → (xs ys : List ℕ) → length xs ≡ length ys → AllBelow q xs → moved minus q (moved (not minus) q xs ys) ys ≡ xs
unfolding moved shifted add_v sub_v
moved_back false h xs ys e below = vring h (length xs) (vec xs ⊟ vec ys ⊞ vec ys) (vec xs) (omega arith) refl tt below (λ i. omega arith)
moved_back true h xs ys e below = sub_v-add_v h xs ys e below

moved_append : (minus : Bool) (q : ℕ) (xs ys xs' ys' : List ℕ) → length xs ≡ length ys → moved minus q (xs ++ xs') (ys ++ ys') ≡ moved minus q xs ys ++ moved minus q xs' ys'
unfolding moved
moved_append minus q xs ys xs' ys' e = zip_append (shifted minus q) xs ys xs' ys' e

-- block by block is all at once
moved-blocks : (minus : Bool) (q K : ℕ) (f g : ℕ → List ℕ) (n : ℕ) → ((i : ℕ) → i < n → length (f i) ≡ K) → ((i : ℕ) → i < n → length (g i) ≡ K)
    → blocks n (λ i. moved minus q (f i) (g i)) ≡ moved minus q (blocks n f) (blocks n g)
unfolding blocks moved zip_with
moved-blocks minus q K f g zero s t = refl
moved-blocks minus q K f g (suc n) s t =
    let s' : (i : ℕ) → i < n → length (f i) ≡ K = λ i h. s i (omega arith) in
    let t' : (i : ℕ) → i < n → length (g i) ≡ K = λ i h. t i (omega arith) in
    ap (λ (l : List ℕ). l ++ moved minus q (f n) (g n)) (moved-blocks minus q K f g n s' t')
    ∙ sym (moved_append minus q (blocks n f) (blocks n g) (f n) (g n) (length_blocks_same n K f s' ∙ sym (length_blocks_same n K g t')))

-- ---- one receiver after another

module _ (round : ℕ) (minus : Bool) (q : ℕ) (under : Under) (keys : List ℕ) (n K : ℕ) (out₀ : List ℕ) where
  abbrev entry : ℕ → List ℕ
  entry i = moved minus q (nth_piece out₀ K i) (pad_sum (shake_pad round) K q under keys i n)

  -- the loop's invariant: the entries of the first i receivers are done
  abbrev pub Done : ℕ → ℕ → List ℕ → Type 0
  Done i at out = Level out₀ 0 i n K entry at out

  module _ {i at : ℕ} {out : List ℕ} (r : Done i at out) (h : i < n) where
    -- what is lent for the next receiver is still as it was
    pub receiver_part : {to : ℕ} → to ≡ at + K → take (to - at) (drop at out) ≡ nth_piece out₀ K i
    receiver_part {to} e =
        part_range out at to K e ∙ wrote_behind r.wrote at K (le_refl at) ∙ ap (λ (a : ℕ). part out₀ a K) (omega (arith, level_place r))

    pub receiver_asked : {to : ℕ} → to ≡ at + K → Asked q K out₀ → Asked q (length (take (to - at) (drop at out))) (take (to - at) (drop at out))
    unfolding part
    receiver_asked {to} e a =
        record {
          modulus = a.modulus;
          short = omega (arith, steps_long r h e);
          below = subst (AllBelow q) (sym (receiver_part e)) (below-take q K (below-drop q (i * K) a.below));
        }

    pub receivers-more : {to : ℕ} {ys : List ℕ} → to ≡ at + K → length ys ≡ length (take (to - at) (drop at out))
        → ys ≡ moved minus q (take (to - at) (drop at out)) (pad_sum (shake_pad round) (length (take (to - at) (drop at out))) q under keys i n)
        → Done (i + 1) to (lent at to out ys)
    receivers-more {to} {ys} e k t =
        steps_call r h e k
        (t
        ∙ ap (λ (m : ℕ). moved minus q (take (to - at) (drop at out)) (pad_sum (shake_pad round) m q under keys i n)) (steps_long r h e)
        ∙ ap (λ (l : List ℕ). moved minus q l (pad_sum (shake_pad round) K q under keys i n)) (receiver_part e))

  pub receivers-all : {i at : ℕ} {out : List ℕ} → Done i at out → n ≤ i → length out₀ ≡ n * K → out ≡ moved minus q out₀ (pad_row (shake_pad round) K q under keys n)
  unfolding pad_row
  receivers-all {i} {at} {out} r h l =
      level_whole r h l
      ∙ moved-blocks minus q K (λ i. nth_piece out₀ K i) (λ i. pad_sum (shake_pad round) K q under keys i n) n
      (λ i k. length_part out₀ (i * K) K (omega (arith, times-fits i n K k)))
      (λ i k. pad_sum-length (shake_pad round) K q (shake_pad-length round q K) under keys i n)
      ∙ ap (λ (x : List ℕ). moved minus q x (blocks n (λ i. pad_sum (shake_pad round) K q under keys i n))) (blocks_nth n K out₀ l)
