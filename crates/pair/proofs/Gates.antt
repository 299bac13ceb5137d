-- One gate, opened from what it was garbled to, its operands' keys being those for their values: a projection gives the key for the image, a product that
-- for the product. No circuit is in sight: lower wires are looked up, and K entries of their keys and offsets are all that is asked.
-- Assumes nothing.
use mathlib.Core.Path.{◌≡◌, sym, ap, ap₂, ◌∙◌}
use mathlib.Core.List.{List, ◌++◌}
use Prim.Native.Nat.{ℕ, ◌-◌, ◌*◌, ◌<◌}
use native.Mathlib.Omega.{arith}
use lib.ListN.{length}
use Rattle.lists.specs.Blocks.{part}
use Rattle.lists.proofs.Parts.{part_left, part-whole, part_last}
use Rattle.residue.specs.Residue.{add, sub, mul}
use Rattle.residue.specs.Vector.{add_v, mul_v, key_v}
use Rattle.residue.proofs.Ring.Expr.{var, ◌⊕◌, ◌⊖◌, ◌⊗◌}
use Rattle.residue.proofs.VectorRing.{vring}
use Rattle.residue.proofs.VectorRing.VExpr.{vec, ◌⊞◌, ◌⊡◌}
use Rattle.words.specs.declared.gate.Gate.TheVariants.{Multiply, Project}
use Rattle.words.specs.declared.gate.Pair.{Pair}
use Rattle.words.specs.declared.gate.Projection.{Projection}
use Rattle.counts.specs.declared.recipe.Images.TheVariants.{File}
use Rattle.counts.specs.Recipe.{image_of}
use Rattle.pads.specs.Pad.{Pad}
use Rattle.scheme.specs.Drawn.{PadSize}
use Rattle.pair.specs.Key.{Keys, external_of, key_of, mask_of}
use Rattle.pair.specs.Half.{Half, half_key, half_rows, open_half}
use Rattle.pair.specs.Gate.{keys_of, table_half, first_half, second_half, zero_by, rows_by, open_product}
use Rattle.pair.proofs.External.{KeySizes, value-for, key_of-external}
use Rattle.pair.proofs.Halves.{HalfFits, half_key-size, half_rows-size, half_opens_value}
use Rattle.pair.proofs.Sizes.{table_fits, first_fits, second_fits}

-- wire w, of modulus p above 0, whose offset has K entries
module _ {pad : Pad} (pads : PadSize pad) (file : List ℕ) (K w p : ℕ) (some : 0 < K) (above : 0 < p) (modulus_of : ℕ → ℕ) (offset_of zero_of : ℕ → List ℕ)
    (offset : length (offset_of p) ≡ K) (drawn : List ℕ) where
  abbrev wire : ℕ → Keys
  wire = keys_of file modulus_of offset_of zero_of

  -- ---- project

  pub table-opens : (g : Projection) → KeySizes K (wire g.a) → external_of (wire g.a).offset ≡ 1 → (v : ℕ) → v < modulus_of g.a
      → open_half pad K w 0 p (modulus_of g.a) (rows_by file modulus_of offset_of zero_of pad K w p (Project g)) (key_of (wire g.a) v)
      ≡ key_v p (zero_by file modulus_of offset_of zero_of pad K w p drawn (Project g)) (image_of file (File g.table) p v) (offset_of p)
  unfolding zero_by rows_by
  table-opens g sizes unit v h =
      half_opens_value pads w (table_fits pads file K w p above modulus_of offset_of zero_of offset g) sizes some unit v h
      ∙ ap (λ (x : ℕ). key_v p (half_key pad K w (table_half file modulus_of offset_of zero_of p g)) (image_of file (File g.table) p x) (offset_of p))
      (value-for (wire g.a) sizes.positive v h)

  -- ---- multiply

  -- −mᵦ·x times D, −β times a's zero key, and β times a's key, β being y + mᵦ
  product_sum : (k k' a : List ℕ) → length k ≡ K → length k' ≡ K → length a ≡ K → (x y m : ℕ)
      → add_v p (add_v p (key_v p k (sub p 0 (mul p m x)) (offset_of p)) (key_v p k' (sub p 0 (add p y m)) a)) (mul_v p (add p y m) (key_v p a x (offset_of p)))
      ≡ key_v p (add_v p k k') (mul p x y) (offset_of p)
  unfolding key_v
  product_sum k k' a e f g x y m =
      let D = offset_of p in
      vring above K
      (vec k ⊞ (var 0 ⊖ var m ⊗ var x) ⊡ vec D ⊞ (vec k' ⊞ (var 0 ⊖ (var y ⊕ var m)) ⊡ vec a) ⊞ (var y ⊕ var m) ⊡ (vec a ⊞ var x ⊡ vec D))
      (vec k ⊞ vec k' ⊞ (var x ⊗ var y) ⊡ vec D) (omega arith) (omega arith) tt tt (λ i. omega arith)

  -- the operands are of modulus p too
  module _ (g : Pair) (a-is : modulus_of g.a ≡ p) (b-is : modulus_of g.b ≡ p) (left : KeySizes K (wire g.a)) (right : KeySizes K (wire g.b))
      (unit : external_of (offset_of p) ≡ 1) where
    abbrev first : Half
    first = first_half file modulus_of offset_of zero_of p g

    abbrev second : Half
    second = second_half file modulus_of offset_of zero_of p g

    abbrev rows : List ℕ
    rows = half_rows pad K w first ++ half_rows pad K w second

    one : HalfFits K first
    one = first_fits pads file K w p above modulus_of offset_of zero_of offset g

    other : HalfFits K second
    other = second_fits pads file K w p above modulus_of offset_of zero_of offset g left.zero right.zero

    first_size : length (half_rows pad K w first) ≡ (p - 1) * K
    first_size = half_rows-size pads w one ∙ ap (λ (q : ℕ). (q - 1) * K) a-is

    second_size : length (half_rows pad K w second) ≡ (p - 1) * K
    second_size = half_rows-size pads w other ∙ ap (λ (q : ℕ). (q - 1) * K) b-is

    front : part rows 0 ((p - 1) * K) ≡ half_rows pad K w first
    front =
        part_left (half_rows pad K w first) (half_rows pad K w second) 0 ((p - 1) * K) (omega (arith, first_size))
        ∙ part-whole (half_rows pad K w first) ((p - 1) * K) (omega (arith, first_size))

    rest : part rows ((p - 1) * K) ((p - 1) * K) ≡ half_rows pad K w second
    rest = part_last (half_rows pad K w first) (half_rows pad K w second) ((p - 1) * K) ((p - 1) * K) first_size second_size

    -- the offset of an operand's modulus
    unit_at : (q : ℕ) → q ≡ p → external_of (offset_of q) ≡ 1
    unit_at q e = ap (λ (m : ℕ). external_of (offset_of m)) e ∙ unit

    -- the first half, under a's key for x
    first_opens : (x : ℕ) → x < modulus_of g.a
        → open_half pad K w 0 p p (part rows 0 ((p - 1) * K)) (key_of (wire g.a) x)
        ≡ key_v p (half_key pad K w first) (sub p 0 (mul p (mask_of (wire g.b)) x)) (offset_of p)
    first_opens x h =
        ap₂ (λ (q : ℕ) (r : List ℕ). open_half pad K w 0 p q r (key_of (wire g.a) x)) (sym a-is) front
        ∙ half_opens_value pads w one left some (unit_at (modulus_of g.a) a-is) x h
        ∙ ap (λ (v : ℕ). key_v p (half_key pad K w first) (sub p 0 (mul p (mask_of (wire g.b)) v)) (offset_of p)) (value-for (wire g.a) left.positive x h)

    -- the second, under b's key for y
    second_opens : (y : ℕ) → y < modulus_of g.b
        → open_half pad K w second.component p p (part rows ((p - 1) * K) ((p - 1) * K)) (key_of (wire g.b) y)
        ≡ key_v p (half_key pad K w second) (sub p 0 (add p y (mask_of (wire g.b)))) (zero_of g.a)
    second_opens y h =
        ap₂ (λ (q : ℕ) (r : List ℕ). open_half pad K w second.component p q r (key_of (wire g.b) y)) (sym b-is) rest
        ∙ half_opens_value pads w other right some (unit_at (modulus_of g.b) b-is) y h
        ∙ ap (λ (q : ℕ). key_v p (half_key pad K w second) (sub p 0 (add q y (mask_of (wire g.b)))) (zero_of g.a)) b-is

    -- β times a's key
    multiple_is : (x y : ℕ)
        → mul_v p (external_of (key_of (wire g.b) y)) (key_of (wire g.a) x)
        ≡ mul_v p (add p y (mask_of (wire g.b))) (key_v p (zero_of g.a) x (offset_of p))
    multiple_is x y =
        ap₂ (mul_v p)
        (key_of-external right some (unit_at (modulus_of g.b) b-is) y ∙ ap (λ (q : ℕ). add q y (mask_of (wire g.b))) b-is)
        (ap (λ (q : ℕ). key_v q (zero_of g.a) x (offset_of q)) a-is)

    pub product-opens : (x y : ℕ) → x < modulus_of g.a → y < modulus_of g.b
        → open_product pad K w p (rows_by file modulus_of offset_of zero_of pad K w p (Multiply g)) (key_of (wire g.a) x)
        (key_of (wire g.b) y)
        ≡ key_v p (zero_by file modulus_of offset_of zero_of pad K w p drawn (Multiply g)) (mul p x y) (offset_of p)
    unfolding open_product zero_by rows_by
    product-opens x y h l =
        ap₂ (add_v p) (ap₂ (add_v p) (first_opens x h) (second_opens y l)) (multiple_is x y)
        ∙ product_sum (half_key pad K w first) (half_key pad K w second) (zero_of g.a) (half_key-size pads w one) (half_key-size pads w other) left.zero x y
        (mask_of (wire g.b))
