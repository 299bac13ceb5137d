-- What the code makes of keys, masks and offsets is a row's message, by kind: each law is an identity modulo p.
-- Assumes nothing.
use mathlib.Core.Path.{◌≡◌, refl, sym, ap, ap₂, subst, ◌∙◌}
use mathlib.Core.List.{List, ◌++◌}
use Prim.Native.Nat.{ℕ, ◌-◌, ◌<◌}
use native.Mathlib.Omega.{arith}
use lib.ListN.{length, get_or}
use Rattle.lists.specs.Blocks.{blocks}
use Rattle.lists.proofs.Blocks.{blocks_ext}
use Rattle.residue.specs.Residue.{add, sub, mul}
use Rattle.residue.specs.Vector.{add_v, mul_v, key_v, AllBelow}
use Rattle.residue.proofs.Differences.{minus_one}
use Rattle.residue.proofs.Ring.{ring}
use Rattle.residue.proofs.Ring.Expr.{var, ◌⊕◌, ◌⊖◌, ◌⊗◌}
use Rattle.residue.proofs.VectorRing.{vring}
use Rattle.residue.proofs.VectorRing.VExpr.{vec, ◌⊞◌, ◌⊟◌, ◌⊡◌}
use Rattle.residue.proofs.Vectors.{add-below, sub-below, mul-below, key_v-below}
use Rattle.pads.specs.Pad.{shake_pad, pad_row}
use Rattle.pads.specs.Binding.{under_of}
use Rattle.pads.specs.Moved.{Asked, Row}
use Rattle.scheme.specs.Keyed.{Keyed, less}
use Rattle.scheme.specs.Gate.{row, product_row₀, product_row₁, product_rows, chooser_row₀, chooser_row₁, corrector_row₀, corrector_row₁, choice_rows}
use Rattle.scheme.specs.Message.{product_message₀, product_message₁, chooser_message₀, chooser_message₁, corrector_message₀, corrector_message₁}
use Rattle.session.specs.Sizes.{Vector}
use Rattle.rows.specs.Made.{Room, Factors, row_of, component_rows, row_for, padded, linear_made, second_made, product_made, both_choosers, correctors_made, choice_made}
use Rattle.rows.specs.declared.gates.Made.{Made}
use Rattle.rows.specs.declared.rows.Row.{Row as Shape}

-- ---- results are residues

module _ {p r : ℕ} where
  pub below_as : {x : ℕ} → r ≡ x → x < p → r < p
  below_as e h = subst (λ (m : ℕ). m < p) (sym e) h

  pub mul_small : (a b : ℕ) → 0 < p → r ≡ mul p a b → r < p
  mul_small a b h e = below_as e (mul-below h a b)

  pub add_small : (a b : ℕ) → 0 < p → r ≡ add p a b → r < p
  add_small a b h e = below_as e (add-below h a b)

  pub sub_small : (a b : ℕ) → 0 < p → r ≡ sub p a b → r < p
  sub_small a b h e = below_as e (sub-below h a b)

-- ---- one row: the message stands in the buffer, and the pads are put on it

module _ {n K q : ℕ} {out message : List ℕ} where
  pub row_asked : (base : List ℕ) (c : ℕ) (D : List ℕ) → Room n K q out 1 → message ≡ key_v q base c D → Asked q K message
  row_asked base c D v e =
      record {
        modulus = v.modulus;
        short = v.sizes.short;
        below = subst (AllBelow q) (sym e) (key_v-below (omega (arith, v.modulus)) base c D);
      }

  pub row-sizes : {keys : List ℕ} → Room n K q out 1 → Vector n K keys → length message ≡ length out → Row n K keys message
  row-sizes v k e = record { parties = omega (arith, v.sizes.parties); senders = k.size; receivers = omega (arith, v.size) }

module _ (r : Shape) {out : List ℕ} where
  pub row_made : (keys base : List ℕ) (c : ℕ) (D : List ℕ) {message : List ℕ} → message ≡ key_v r.q base c D
      → out ≡ add_v r.q message (pad_row (shake_pad r.bound.round) r.k r.q (under_of r.bound) keys r.n) → out ≡ row_of r keys (key_v r.q base c D)
  unfolding row
  row_made keys base c D e t = t ∙ ap (λ (l : List ℕ). add_v r.q l (pad_row (shake_pad r.bound.round) r.k r.q (under_of r.bound) keys r.n)) e

  -- keys under another name
  pub row_under_lem : (message : List ℕ) {keys keys' : List ℕ} → keys ≡ keys' → out ≡ row_of r keys message → out ≡ row_of r keys' message
  row_under_lem message e t = t ∙ ap (λ (l : List ℕ). row_of r l message) e

-- ---- a component of a gate: the row that the code makes for it, and its rows

module _ {made : Made} {q component : ℕ} {r : Shape} (e : r ≡ row_for made q component) where
  pub component_is : (k D b g : List ℕ) {f : ℕ → ℕ} {factors out : List ℕ} (message : ℕ → List ℕ) → Factors q f factors
      → ((α : ℕ) → key_v made.modulus b (f α) g ≡ message α) → out ≡ component_rows r factors k D b g
      → out ≡ blocks q (λ α. padded made q component (key_v q k α D) (message α))
  component_is k D b g {f} {factors} {out} message t h o =
      o
      ∙ ap (λ (s : Shape). component_rows s factors k D b g) e
      ∙ blocks_ext q (λ α. padded made q component (key_v q k α D) (key_v made.modulus b (get_or factors α 0) g)) (λ α. padded made q component (key_v q k α D) (message α))
      (λ α l. ap (λ (m : List ℕ). padded made q component (key_v q k α D) m) (ap (λ (x : ℕ). key_v made.modulus b x g) (t.at α l) ∙ h α))

-- ---- keys and masks as pairs

pub keyed_same : {k k' : List ℕ} {m m' : ℕ} → k ≡ k' → m ≡ m' → ◌≡◌ {A = Keyed} (record { key = k; mask = m }) (record { key = k'; mask = m' })
keyed_same e t = ap₂ (λ (k : List ℕ) (m : ℕ). record { key = k; mask = m }) e t

-- ---- linear rows under another name

module _ (made : Made) (component : ℕ) (D k base : List ℕ) (start step : ℕ) where
  abbrev p : ℕ
  p = made.modulus

  linear_is : {out : List ℕ} (g : ℕ → ℕ) → ((α : ℕ) → add p start (mul p α step) ≡ g α) → out ≡ linear_made made component D k base start step
      → out ≡ blocks p (λ α. padded made p component (key_v p k α D) (key_v p base (g α) D))
  linear_is g e t =
      t
      ∙ blocks_ext p (λ α. padded made p component (key_v p k α D) (key_v p base (add p start (mul p α step)) D))
      (λ α. padded made p component (key_v p k α D) (key_v p base (g α) D))
      (λ α _. ap (λ (m : ℕ). padded made p component (key_v p k α D) (key_v p base m D)) (e α))

module _ (made : Made) (D k base : List ℕ) (m x y : ℕ) (h : 0 < made.modulus) where
  abbrev q : ℕ
  q = made.modulus

  -- a product's component 0: the masks of a and b, the first part of the mask
  pub first_is : {z start step : ℕ} {out : List ℕ} → z ≡ mul q y x → start ≡ add q z m → step ≡ sub q 0 y → out ≡ linear_made made 0 D k base start step
      → out ≡ blocks q (λ α. padded made q 0 (key_v q k α D) (product_message₀ q D base m x y α))
  unfolding product_message₀ key_v
  first_is {z} {start} {step} e t s o =
      linear_is made 0 D k base start step (λ α. add q (add q (sub q 0 (mul q y α)) (mul q y x)) m)
      (λ α.
      ap₂ (λ (a b : ℕ). add q a (mul q α b)) (t ∙ ap (λ (a : ℕ). add q a m) e) s
      ∙ ring h (var y ⊗ var x ⊕ var m ⊕ var α ⊗ (var 0 ⊖ var y)) (var 0 ⊖ var y ⊗ var α ⊕ var y ⊗ var x ⊕ var m) tt tt (omega arith))
      o

  -- the two correctors: the bit's mask, d's mask, the second part of the mask
  pub correct₀-is : {z start : ℕ} {out : List ℕ} → z ≡ mul q x y → start ≡ sub q m z → out ≡ linear_made made 1 D k base start x
      → out ≡ blocks q (λ α. padded made q 1 (key_v q k α D) (corrector_message₀ q D base m x y α))
  unfolding corrector_message₀ key_v
  correct₀-is {z} {start} e t o =
      linear_is made 1 D k base start x (λ α. add q (sub q (mul q α x) (mul q x y)) m)
      (λ α.
      ap (λ (a : ℕ). add q a (mul q α x)) (t ∙ ap (sub q m) e)
      ∙ ring h (var m ⊖ var x ⊗ var y ⊕ var α ⊗ var x) (var α ⊗ var x ⊖ var x ⊗ var y ⊕ var m) tt tt (omega arith))
      o

  pub correct₁-is : {z start step : ℕ} {out : List ℕ} → z ≡ mul q x y → start ≡ add q m z → step ≡ sub q 0 x → out ≡ linear_made made 2 D k base start step
      → out ≡ blocks q (λ α. padded made q 2 (key_v q k α D) (corrector_message₁ q D base m x y α))
  unfolding corrector_message₁ key_v
  correct₁-is {z} {start} {step} e t s o =
      linear_is made 2 D k base start step (λ α. add q (add q (sub q 0 (mul q α x)) (mul q x y)) m)
      (λ α.
      ap₂ (λ (a b : ℕ). add q a (mul q α b)) (t ∙ ap (add q m) e) s
      ∙ ring h (var m ⊕ var x ⊗ var y ⊕ var α ⊗ (var 0 ⊖ var x)) (var 0 ⊖ var α ⊗ var x ⊕ var x ⊗ var y ⊕ var m) tt tt (omega arith))
      o

-- ---- a product's component 1: base and multiple are made before its rows

module _ {p : ℕ} (h : 0 < p) where
  -- β times p - 1 is minus β
  minus_times : (β : ℕ) → add p 0 (mul p β (p - 1)) ≡ sub p 0 β
  minus_times β =
      ap (λ (x : ℕ). add p 0 (mul p β x)) (sym (minus_one p h)) ∙ ring h (var 0 ⊕ var β ⊗ (var 0 ⊖ var 1)) (var 0 ⊖ var β) tt tt (omega arith)

  pub second_is : (D k a : List ℕ) (m x β : ℕ) {base given : List ℕ} → length k ≡ length D → length a ≡ length D
      → base ≡ key_v p k m D → given ≡ key_v p a x D → key_v p base (add p 0 (mul p β (p - 1))) given ≡ product_message₁ p D k m a x β
  unfolding product_message₁ key_v
  second_is D k a m x β {base} {given} l n e t =
      ap (λ (c : ℕ). add_v p base (mul_v p c given)) (minus_times β)
      ∙ ap₂ (λ (b g : List ℕ). add_v p b (mul_v p (sub p 0 β) g)) e t
      ∙ vring h (length D) (vec k ⊞ var m ⊡ vec D ⊞ (var 0 ⊖ var β) ⊡ (vec a ⊞ var x ⊡ vec D)) (vec k ⊟ var β ⊡ vec a ⊞ (var m ⊖ var β ⊗ var x) ⊡ vec D)
      ((l, refl), (n, refl)) ((l, n), refl) tt tt (λ i. omega arith)

-- ---- gates, of their components

module _ (made : Made) (D : List ℕ) where
  pub product_is : (a b z first second : Keyed) → second ≡ less made.modulus z first
      → blocks made.modulus (λ α. padded made made.modulus 0 (key_v made.modulus a.key α D) (product_message₀ made.modulus D first.key first.mask a.mask b.mask α))
      ++ second_made made D a b second ≡ product_made made D a b z first
  unfolding product_rows product_row₀ product_row₁
  product_is a b z first second e =
      ap (λ (s : Keyed). blocks made.modulus (product_row₀ (shake_pad made.round) made.n made.k made.wire made.modulus D a b z first) ++ second_made made D a b s) e

  pub choice_is : (D₂ : List ℕ) (bit d z first second : Keyed) {chosen rest₀ rest₁ : Keyed} → chosen ≡ less made.modulus second d
      → rest₀ ≡ less made.modulus z first → rest₁ ≡ less made.modulus z second
      → both_choosers made D D₂ bit.key first chosen ++ correctors_made made D bit.mask d rest₀ rest₁ ≡ choice_made made D D₂ bit d z first second
  unfolding choice_rows chooser_row₀ chooser_row₁ corrector_row₀ corrector_row₁ chooser_message₀ chooser_message₁ key_v
  choice_is D₂ bit d z first second e t s =
      ap₂ (λ (x y : List ℕ). x ++ y) (ap (both_choosers made D D₂ bit.key first) e) (ap₂ (correctors_made made D bit.mask d) t s)
