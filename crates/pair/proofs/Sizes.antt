-- Sizes, where each offset and each input's zero key has K bytes: each zero key has K entries, each gate as many rows as are counted, and the rows of a
-- wire among all rows are those of its gate.
-- Assumes nothing.
use mathlib.Core.Path.{◌≡◌, refl, sym, ap, ◌∙◌}
use mathlib.Core.Bool.{true}
use mathlib.Core.List.{List}
use Prim.Native.Nat.{ℕ, ◌+◌, ◌-◌, ◌*◌, ◌≤◌, ◌<◌}
use native.Mathlib.Nat.{mul-add, mul_comm, mul-le-mul_left}
use native.Mathlib.Omega.{arith}
use lib.ListN.{length, length-append, length-replicate}
use Rattle.lists.specs.Blocks.{part, sum_to}
use Rattle.lists.proofs.Sums.{sum_to_ext, sum_to_times}
use Rattle.lists.proofs.Blocks.{length-blocks, part-blocks}
use Rattle.residue.proofs.Vectors.{add_v-length, mul_v-length}
use Rattle.words.specs.declared.gate.Gate.{Gate}
use Rattle.words.specs.declared.gate.Gate.TheVariants.{Multiply}
use Rattle.words.specs.declared.gate.Pair.{Pair}
use Rattle.words.specs.declared.gate.Projection.{Projection}
use Rattle.words.specs.declared.gate.Wire.{Wire}
use Rattle.circuit.specs.Wires.{wire_at, modulus_at, inputs_in}
use Rattle.circuit.specs.Accepted.{GateFits, AcceptedCircuit}
use Rattle.counts.specs.Moduli.{used, moduli_used}
use Rattle.pads.specs.Pad.{Pad}
use Rattle.scheme.specs.Contribution.{offset_at}
use Rattle.scheme.specs.Drawn.{PadSize}
use Rattle.scheme.proofs.Places.{offset_past}
use Rattle.scheme.proofs.Steps.{by-lower}
use Rattle.scheme.proofs.Bounds.{positive, input-first}
use Rattle.pair.specs.Draw.{draw_size, input_at, offset_in, zero_in}
use Rattle.pair.specs.Gate.{table_half, first_half, second_half, zero_by, rows_by}
use Rattle.pair.specs.Count.{pair_rows_by, pair_rows_of, pair_rows_in}
use Rattle.pair.specs.Rows.{zero_key, gate_rows, pair_rows}
use Rattle.pair.specs.Opening.{own_rows}
use Rattle.pair.specs.Undone.{DrawnForTwo}
use Rattle.pair.proofs.Halves.{HalfFits, half_key-size, half_rows-size}
use Rattle.pair.proofs.Steps.{zero_key-step}

-- where an offset and an input's zero key lie in a draw
module _ (K : ℕ) (wires : List Wire) where
  pub offset-inside : (p : ℕ) → used wires p ≡ true → p < 256 → offset_at K wires p + K ≤ draw_size K wires
  unfolding offset_at draw_size
  offset-inside p e h = omega (arith, offset_past K wires p 256 e h, mul-add K (moduli_used wires) (inputs_in wires))

  pub input-inside : (w : ℕ) → w < inputs_in wires → input_at K wires w + K ≤ draw_size K wires
  unfolding input_at draw_size
  input-inside w h =
      let most : K * (w + 1) ≤ K * inputs_in wires = mul-le-mul_left K (omega arith) in
      omega (arith, mul-add K (moduli_used wires) w, mul-add K (moduli_used wires) (inputs_in wires), mul-add K w 1)

-- what sizes rest on: each offset and each input's zero key has K bytes
pub record DrawSizes (K : ℕ) (wires : List Wire) (draw : List ℕ) : Type 0 where
  pub offset : (w : ℕ) → w < length wires → length (offset_in K wires draw (modulus_at wires w)) ≡ K
  pub zero : (w : ℕ) → w < inputs_in wires → length (zero_in K wires draw w) ≡ K

pub drawn-sizes : {K : ℕ} {wires : List Wire} {draw : List ℕ} → DrawnForTwo K wires draw → DrawSizes K wires draw
drawn-sizes drawn = record { offset = drawn.offset_size; zero = drawn.zero_size }

-- ---- one gate, from look-ups

-- wire w, of modulus p above 0; its offset and the zero keys of lower wires have K entries
module _ {pad : Pad} (pads : PadSize pad) (file : List ℕ) (K w p : ℕ) (above : 0 < p) (modulus_of : ℕ → ℕ) (offset_of zero_of : ℕ → List ℕ)
    (offset : length (offset_of p) ≡ K) where
  pub table_fits : (g : Projection) → HalfFits K (table_half file modulus_of offset_of zero_of p g)
  table_fits g = record { positive = above; vector = offset }

  pub first_fits : (g : Pair) → HalfFits K (first_half file modulus_of offset_of zero_of p g)
  first_fits g = record { positive = above; vector = offset }

  pub second_fits : (g : Pair) → length (zero_of g.a) ≡ K → length (zero_of g.b) ≡ K → HalfFits K (second_half file modulus_of offset_of zero_of p g)
  second_fits g left right = record { positive = above; vector = omega (arith, left, right) }

  pub product_key_size : (g : Pair) → length (zero_of g.a) ≡ K → length (zero_of g.b) ≡ K → (drawn : List ℕ)
      → length (zero_by file modulus_of offset_of zero_of pad K w p drawn (Multiply g)) ≡ K
  unfolding zero_by
  product_key_size g left right drawn =
      let first = half_key-size pads w (first_fits g) in
      let second = half_key-size pads w (second_fits g left right) in
      add_v-length p _ _ (omega (arith, first, second)) ∙ first

  pub product_rows_size : (g : Pair) → length (zero_of g.a) ≡ K → length (zero_of g.b) ≡ K → modulus_of g.a ≡ p → modulus_of g.b ≡ p
      → length (rows_by file modulus_of offset_of zero_of pad K w p (Multiply g)) ≡ 2 * (p - 1) * K
  unfolding rows_by
  product_rows_size g left right a b =
      let first = half_rows-size pads w (first_fits g) ∙ ap (λ (q : ℕ). (q - 1) * K) a in
      let second = half_rows-size pads w (second_fits g left right) ∙ ap (λ (q : ℕ). (q - 1) * K) b in
      simp length-append (omega (arith, first, second))

-- ---- a circuit

module _ {pad : Pad} (pads : PadSize pad) {file : List ℕ} {wires : List Wire} {outputs : List ℕ} (accepted : AcceptedCircuit file wires outputs)
    {K : ℕ} {draw : List ℕ} (sizes : DrawSizes K wires draw) where
  abbrev zero_at : ℕ → List ℕ
  zero_at = zero_key pad K file wires draw

  module _ (w : ℕ) (made : w < length wires) where
    abbrev p : ℕ
    p = modulus_at wires w

    zero_sized : {gate : Gate} → GateFits file wires w gate → (wire_at wires w).gate ≡ gate → ((a : ℕ) → a < w → length (zero_at a) ≡ K)
        → length (zero_by file (modulus_at wires) (offset_in K wires draw) zero_at pad K w p (zero_in K wires draw w) gate) ≡ K
    unfolding zero_by
    zero_sized (GateFits.input fits) is lower = sizes.zero w (input-first accepted w made is)
    zero_sized (GateFits.add {gate = g} fits) is lower =
        add_v-length _ _ _ (lower g.a fits.a.lower ∙ sym (lower g.b fits.b.lower)) ∙ lower g.a fits.a.lower
    zero_sized (GateFits.scale {gate = g} fits) is lower = mul_v-length _ _ _ ∙ lower g.a fits.a.lower
    zero_sized (GateFits.multiply {gate = g} fits) is lower =
        product_key_size pads file K w p (positive accepted w made) (modulus_at wires) (offset_in K wires draw) zero_at (sizes.offset w made) g
        (lower g.a fits.a.lower) (lower g.b fits.b.lower) (zero_in K wires draw w)
    zero_sized (GateFits.project {gate = g} fits) is lower =
        half_key-size pads w
        (table_fits pads file K w p (positive accepted w made) (modulus_at wires) (offset_in K wires draw) zero_at (sizes.offset w made) g)
    zero_sized (GateFits.select fits) is lower = length-replicate K 0

  pub zero_key-size : (w : ℕ) → w < length wires → length (zero_at w) ≡ K
  zero_key-size = by-lower (λ w. w < length wires → length (zero_at w) ≡ K) (λ w lower made.
      ap length (zero_key-step accepted w made pad K draw)
      ∙ zero_sized w made (accepted.fits w made).gate refl (λ a l. lower a l (omega arith)))

  -- ---- rows

  module _ (w : ℕ) (made : w < length wires) where
    rows_sized : {gate : Gate} → GateFits file wires w gate
        → length (rows_by file (modulus_at wires) (offset_in K wires draw) zero_at pad K w (p w made) gate)
        ≡ pair_rows_by gate (modulus_at wires) (p w made) * K
    unfolding rows_by
    rows_sized (GateFits.input fits) = omega arith
    rows_sized (GateFits.add fits) = omega arith
    rows_sized (GateFits.scale fits) = omega arith
    rows_sized (GateFits.multiply {gate = g} fits) =
        product_rows_size pads file K w (p w made) (positive accepted w made) (modulus_at wires) (offset_in K wires draw) zero_at (sizes.offset w made) g
        (zero_key-size g.a (omega (arith, fits.a.lower))) (zero_key-size g.b (omega (arith, fits.b.lower))) fits.a.same fits.b.same
    rows_sized (GateFits.project {gate = g} fits) =
        half_rows-size pads w
        (table_fits pads file K w (p w made) (positive accepted w made) (modulus_at wires) (offset_in K wires draw) zero_at (sizes.offset w made) g)
    rows_sized (GateFits.select fits) = omega arith

  pub gate-size : (w : ℕ) → w < length wires → length (gate_rows pad K file wires draw w) ≡ pair_rows_of wires w * K
  unfolding gate_rows
  gate-size w made = rows_sized w made (accepted.fits w made).gate

  rows_before : (w : ℕ) → sum_to w (λ v. pair_rows_of wires v * K) ≡ sum_to w (pair_rows_of wires) * K
  rows_before w =
      sum_to_ext w (λ v. pair_rows_of wires v * K) (λ v. K * pair_rows_of wires v) (λ v _. mul_comm (pair_rows_of wires v) K)
      ∙ sum_to_times w K (pair_rows_of wires)
      ∙ mul_comm K (sum_to w (pair_rows_of wires))

  pub own-rows : (w : ℕ) → w < length wires → own_rows K wires (pair_rows pad K file wires draw) w ≡ gate_rows pad K file wires draw w
  unfolding own_rows pair_rows
  own-rows w made =
      ap (λ (at : ℕ). part (pair_rows pad K file wires draw) at (pair_rows_of wires w * K)) (sym (rows_before w))
      ∙ part-blocks (length wires) (gate_rows pad K file wires draw) (λ v. pair_rows_of wires v * K) gate-size w made

  pub rows-size : length (pair_rows pad K file wires draw) ≡ pair_rows_in wires * K
  unfolding pair_rows
  rows-size =
      length-blocks (length wires) (gate_rows pad K file wires draw) (λ v. pair_rows_of wires v * K) gate-size ∙ rows_before (length wires)
