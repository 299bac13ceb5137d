-- One gate, garbled and opened, from its operands alone: its rows have the length that is counted, each row opened under the keys that it was garbled
-- under is its message, and the messages come to the gate's key. No circuit is in sight: the wires that the gate uses are known to be opened rightly.
-- Assumes nothing.
use mathlib.Core.Path.{◌≡◌, refl, ap, ap₂, ◌∙◌}
use mathlib.Core.List.{List, ◌++◌}
use Prim.Native.Nat.{ℕ, zero, suc, ◌+◌, ◌*◌, ◌≤◌, ◌<◌}
use native.Mathlib.Omega.{arith}
use lib.ListN.{length, length-append}
use Rattle.lists.specs.Blocks.{blocks, nth_piece}
use Rattle.lists.proofs.Blocks.{length_blocks_same, part_blocks_same, nth_left, nth_right}
use Rattle.residue.specs.Residue.{add, sub, mul}
use Rattle.residue.specs.Vector.{add_v, sub_v, mul_v, key_v}
use Rattle.residue.proofs.Laws.{sub-add}
use Rattle.residue.proofs.Vectors.{add-below}
use Rattle.pads.specs.Pad.{Pad, pad_row, placed}
use Rattle.scheme.specs.Keyed.{Keyed, less}
use Rattle.scheme.specs.Message.{project_message, product_message₀, product_message₁, chooser_message₀, chooser_message₁, corrector_message₀, corrector_message₁}
use Rattle.scheme.specs.Gate.{row, table_row, table_rows, product_row₀, product_row₁, product_rows, chooser_row₀, chooser_row₁, corrector_row₀, corrector_row₁, choice_rows}
use Rattle.scheme.specs.Opening.{Opened, chosen, corrector, bared, table_keys, product_keys, choice_keys}
use Rattle.scheme.specs.Drawn.{PadSize}
use Rattle.scheme.proofs.Contributed.{nth_whole}
use Rattle.scheme.proofs.Messages.{Message, project-message, product-message₀, product-message₁, chooser-message₀, chooser-message₁, corrector-message₀, corrector-message₁, product-opened, choice-opened₀, choice-opened₁}
use Rattle.scheme.proofs.Padded.{padded-size, unpadded_is}
use Rattle.scheme.proofs.Known.{Known}

-- ---- rows of one size, one after another

two-lengths : (xs ys : List ℕ) (m m' s : ℕ) → length xs ≡ m * s → length ys ≡ m' * s → length (xs ++ ys) ≡ (m + m') * s
two-lengths xs ys m m' s e f = length-append xs ys ∙ omega arith

module _ {pad : Pad} (pads : PadSize pad) (n K w p : ℕ) (two : 2 ≤ p) (D : List ℕ) (offset : length D ≡ n * K) where
  above : 0 < p
  above = omega arith

  row_size : (q component : ℕ) (keys : List ℕ) {xs : List ℕ} → Message p (n * K) xs → length (row pad n K w p q component keys xs) ≡ n * K
  unfolding row
  row_size q component keys m = padded-size pads n K p above (placed q w component) keys m

  -- a row opened under the keys that it was garbled under is its message
  bared_is : (rows : List ℕ) (q component : ℕ) (opening garbling : List ℕ) (r r' : ℕ) {xs : List ℕ} → Message p (n * K) xs → opening ≡ garbling → r ≡ r'
      → nth_piece rows (n * K) r' ≡ row pad n K w p q component garbling xs
      → bared pad n K w p rows q component opening r ≡ xs
  unfolding bared row
  bared_is rows q component opening garbling r r' fits e f g =
      ap₂ (λ (x u : List ℕ). sub_v p x (pad_row pad K p (placed q w component) u n)) (ap (λ (i : ℕ). nth_piece rows (n * K) i) f ∙ g) e
      ∙ unpadded_is pads n K p above (placed q w component) garbling fits

  -- ---- project

  module _ (image : ℕ → ℕ) (q : ℕ) (a : Keyed) (Dₐ : List ℕ) (z : Keyed) (whole : length z.key ≡ n * K) where
    table_message : (α : ℕ) → Message p (n * K) (project_message p D z.key z.mask (image (sub q α a.mask)))
    table_message α = project-message above D offset z.key whole z.mask _

    table_row_size : (α : ℕ) → length (table_row pad n K w image q a Dₐ p z D α) ≡ n * K
    unfolding table_row
    table_row_size α = row_size q 0 _ (table_message α)

    pub table-size : length (table_rows pad n K w image q a Dₐ p z D) ≡ q * (n * K)
    unfolding table_rows
    table-size = length_blocks_same q (n * K) (table_row pad n K w image q a Dₐ p z D) (λ α _. table_row_size α)

    pub table-opens : {v : ℕ} {o : Opened} → 0 < q → Known q (n * K) v a Dₐ o
        → table_keys pad n K w p (table_rows pad n K w image q a Dₐ p z D) q o ≡ key_v p z.key (add p (image v) z.mask) D
    unfolding table_keys table_rows table_row project_message key_v
    table-opens {v} {o} positive k =
        let α : ℕ = add q v a.mask in
        bared_is _ q 0 o.keys (key_v q a.key α Dₐ) o.external α (table_message α) k.keys k.external
        (part_blocks_same q (n * K) (table_row pad n K w image q a Dₐ p z D) (λ i _. table_row_size i) α (add-below positive v a.mask))
        ∙ ap (λ (x : ℕ). key_v p z.key (add p (image x) z.mask) D) (sub-add positive k.value a.mask)

  -- ---- multiply

  module _ (a b z first : Keyed) (left : length a.key ≡ n * K) (whole : length z.key ≡ n * K) (one : length first.key ≡ n * K) where
    message₀ : (m mₐ mᵦ α : ℕ) → Message p (n * K) (product_message₀ p D first.key m mₐ mᵦ α)
    message₀ m mₐ mᵦ α = product-message₀ above D offset first.key one m mₐ mᵦ α

    message₁ : (m mₐ β : ℕ) → Message p (n * K) (product_message₁ p D (less p z first).key m a.key mₐ β)
    message₁ m mₐ β = product-message₁ above D offset z.key whole first.key one m a.key left mₐ β

    abbrev rows₀ : ℕ → List ℕ
    rows₀ = product_row₀ pad n K w p D a b z first

    abbrev rows₁ : ℕ → List ℕ
    rows₁ = product_row₁ pad n K w p D a b z first

    row₀-size : (α : ℕ) → length (rows₀ α) ≡ n * K
    unfolding product_row₀
    row₀-size α = row_size p _ _ (message₀ _ _ _ α)

    row₁-size : (β : ℕ) → length (rows₁ β) ≡ n * K
    unfolding product_row₁
    row₁-size β = row_size p _ _ (message₁ _ _ β)

    rows₀-size : length (blocks p rows₀) ≡ p * (n * K)
    rows₀-size = length_blocks_same p (n * K) rows₀ (λ i _. row₀-size i)

    pub product-size : length (product_rows pad n K w p D a b z first) ≡ 2 * p * (n * K)
    unfolding product_rows
    product-size =
        two-lengths (blocks p rows₀) (blocks p rows₁) p p (n * K) rows₀-size (length_blocks_same p (n * K) rows₁ (λ i _. row₁-size i)) ∙ omega arith

    pub product-opens : {x y : ℕ} {o o' : Opened} → Known p (n * K) x a D o → Known p (n * K) y b D o'
        → product_keys pad n K w p (product_rows pad n K w p D a b z first) o o' ≡ key_v p z.key (add p (mul p x y) z.mask) D
    unfolding product_keys product_rows product_row₀ product_row₁
    product-opens {x} {y} {o} {o'} k l =
        let α : ℕ = add p x a.mask in
        let β : ℕ = add p y b.mask in
        ap₂ (add_v p)
        (ap₂ (add_v p)
        (bared_is _ p 0 o.keys (key_v p a.key α D) o.external α (message₀ _ _ _ α) k.keys k.external
        (nth_left (blocks p rows₀) (blocks p rows₁) p (n * K) α rows₀-size (add-below above x a.mask)
        ∙ part_blocks_same p (n * K) rows₀ (λ i _. row₀-size i) α (add-below above x a.mask)))
        (bared_is _ p 1 o'.keys (key_v p b.key β D) (p + o'.external) (p + β) (message₁ _ _ β) l.keys (omega (arith, l.external))
        (nth_right (blocks p rows₀) (blocks p rows₁) p (n * K) β rows₀-size
        ∙ part_blocks_same p (n * K) rows₁ (λ i _. row₁-size i) β (add-below above y b.mask))))
        (ap₂ (mul_v p) l.external k.keys)
        ∙ product-opened p (n * K) two D offset z.key first.key a.key whole one left z.mask first.mask x a.mask y b.mask

  -- ---- select

  module _ (D₂ : List ℕ) (bit d z first second : Keyed) (difference : length d.key ≡ n * K) (whole : length z.key ≡ n * K)
      (one : length first.key ≡ n * K) (other : length second.key ≡ n * K) where
    abbrev chooser₀ : List ℕ
    chooser₀ = chooser_row₀ pad n K w p D D₂ bit d z first second

    abbrev chooser₁ : List ℕ
    chooser₁ = chooser_row₁ pad n K w p D D₂ bit d z first second

    abbrev correctors₀ : ℕ → List ℕ
    correctors₀ = corrector_row₀ pad n K w p D D₂ bit d z first second

    abbrev correctors₁ : ℕ → List ℕ
    correctors₁ = corrector_row₁ pad n K w p D D₂ bit d z first second

    abbrev all : List ℕ
    all = choice_rows pad n K w p D D₂ bit d z first second

    chooser-m₀ : (m : ℕ) → Message p (n * K) (chooser_message₀ p D first.key m)
    chooser-m₀ m = chooser-message₀ above D offset first.key one m

    chooser-m₁ : (m y : ℕ) → Message p (n * K) (chooser_message₁ p D second.key m d.key y)
    chooser-m₁ m y = chooser-message₁ above D offset second.key other m d.key difference y

    corrector-m₀ : (m v y α : ℕ) → Message p (n * K) (corrector_message₀ p D (less p z first).key m v y α)
    corrector-m₀ m v y α = corrector-message₀ above D offset z.key whole first.key one m v y α

    corrector-m₁ : (m v y α : ℕ) → Message p (n * K) (corrector_message₁ p D (less p z second).key m v y α)
    corrector-m₁ m v y α = corrector-message₁ above D offset z.key whole second.key other m v y α

    chooser₀-size : length chooser₀ ≡ n * K
    unfolding chooser_row₀
    chooser₀-size = row_size 2 _ _ (chooser-m₀ _)

    chooser₁-size : length chooser₁ ≡ n * K
    unfolding chooser_row₁
    chooser₁-size = row_size 2 _ _ (chooser-m₁ _ _)

    corrector₀-size : (α : ℕ) → length (correctors₀ α) ≡ n * K
    unfolding corrector_row₀
    corrector₀-size α = row_size p _ _ (corrector-m₀ _ _ _ α)

    corrector₁-size : (α : ℕ) → length (correctors₁ α) ≡ n * K
    unfolding corrector_row₁
    corrector₁-size α = row_size p _ _ (corrector-m₁ _ _ _ α)

    choosers_size : length (chooser₀ ++ chooser₁) ≡ 2 * (n * K)
    choosers_size = two-lengths chooser₀ chooser₁ 1 1 (n * K) (omega (arith, chooser₀-size)) (omega (arith, chooser₁-size))

    front-size : length (blocks p correctors₀) ≡ p * (n * K)
    front-size = length_blocks_same p (n * K) correctors₀ (λ i _. corrector₀-size i)

    pub choice_size : length all ≡ (2 * p + 2) * (n * K)
    unfolding choice_rows
    choice_size =
        two-lengths (chooser₀ ++ chooser₁) (blocks p correctors₀ ++ blocks p correctors₁) 2 (p + p) (n * K) choosers_size
        (two-lengths (blocks p correctors₀) (blocks p correctors₁) p p (n * K) front-size
        (length_blocks_same p (n * K) correctors₁ (λ i _. corrector₁-size i)))
        ∙ omega arith

    chooser_row : (e : ℕ) → e < 2 → nth_piece all (n * K) e ≡ nth_piece (chooser₀ ++ chooser₁) (n * K) e
    unfolding choice_rows
    chooser_row e h = nth_left (chooser₀ ++ chooser₁) _ 2 (n * K) e choosers_size h

    corrector_row : (r : ℕ) → nth_piece all (n * K) (2 + r) ≡ nth_piece (blocks p correctors₀ ++ blocks p correctors₁) (n * K) r
    unfolding choice_rows
    corrector_row r = nth_right (chooser₀ ++ chooser₁) _ 2 (n * K) r choosers_size

    module _ {v x : ℕ} {o o' : Opened} (k : Known 2 (n * K) v bit D₂ o) (l : Known p (n * K) x d D o') where
      -- what is opened where the bit's external value is e
      opens_by : (e : ℕ) → add 2 v bit.mask ≡ e → e < 2
          → add_v p (chosen e p (bared pad n K w p all 2 0 o.keys e) o'.keys)
          (bared pad n K w p all p (1 + e) o'.keys (corrector p e o'.external))
          ≡ key_v p z.key (add p (mul p v x) z.mask) D
      unfolding chosen corrector chooser_row₀ chooser_row₁ corrector_row₀ corrector_row₁
      opens_by zero e h =
          let α : ℕ = add p x d.mask in
          ap₂ (add_v p)
          (bared_is all 2 0 o.keys (key_v 2 bit.key 0 D₂) 0 0 (chooser-m₀ _) (k.keys ∙ ap (λ (c : ℕ). key_v 2 bit.key c D₂) e) refl
          (chooser_row 0 (omega arith)
          ∙ nth_left chooser₀ chooser₁ 1 (n * K) 0 (omega (arith, chooser₀-size)) (omega arith)
          ∙ nth_whole chooser₀ (n * K) chooser₀-size))
          (bared_is all p 1 o'.keys (key_v p d.key α D) (2 + o'.external) (2 + α) (corrector-m₀ _ _ _ α) l.keys (omega (arith, l.external))
          (corrector_row α
          ∙ nth_left (blocks p correctors₀) (blocks p correctors₁) p (n * K) α front-size (add-below above x d.mask)
          ∙ part_blocks_same p (n * K) correctors₀ (λ i _. corrector₀-size i) α (add-below above x d.mask)))
          ∙ choice-opened₀ p (n * K) two D offset z.key first.key whole one z.mask first.mask v bit.mask x d.mask k.value k.mask e
      opens_by (suc zero) e h =
          let α : ℕ = add p x d.mask in
          ap₂ (add_v p)
          (ap₂ (add_v p)
          (bared_is all 2 0 o.keys (key_v 2 bit.key 1 D₂) 1 1 (chooser-m₁ _ _) (k.keys ∙ ap (λ (c : ℕ). key_v 2 bit.key c D₂) e) refl
          (chooser_row 1 (omega arith)
          ∙ nth_right chooser₀ chooser₁ 1 (n * K) 0 (omega (arith, chooser₀-size))
          ∙ nth_whole chooser₁ (n * K) chooser₁-size))
          l.keys)
          (bared_is all p 2 o'.keys (key_v p d.key α D) (2 + p + o'.external) (2 + (p + α)) (corrector-m₁ _ _ _ α) l.keys
          (omega (arith, l.external))
          (corrector_row (p + α)
          ∙ nth_right (blocks p correctors₀) (blocks p correctors₁) p (n * K) α front-size
          ∙ part_blocks_same p (n * K) correctors₁ (λ i _. corrector₁-size i) α (add-below above x d.mask)))
          ∙ choice-opened₁ p (n * K) two D offset z.key second.key d.key whole other difference z.mask second.mask v bit.mask x d.mask
          k.value k.mask e
      opens_by (suc (suc e)) z h = absurd (omega arith)

      pub choice_opens : choice_keys pad n K w p all o o' ≡ key_v p z.key (add p (mul p v x) z.mask) D
      unfolding choice_keys
      choice_opens =
          ap
          (λ (e : ℕ).
          add_v p (chosen e p (bared pad n K w p all 2 0 o.keys e) o'.keys)
          (bared pad n K w p all p (1 + e) o'.keys (corrector p e o'.external)))
          k.external
          ∙ opens_by (add 2 v bit.mask) refl (add-below (omega arith) v bit.mask)
