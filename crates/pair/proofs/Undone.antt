-- Document 02, order 8: every gate of an accepted circuit without selectors is opened rightly where the wires that it uses are; and so, by induction over the
-- wires, opening undoes garbling in the two-party form.
-- Assumes nothing.
use mathlib.Core.Path.{◌≡◌, refl, sym, ap, ap₂, ◌∙◌, subst}
use mathlib.Core.Bool.{true≢false}
use mathlib.Core.List.{List}
use Prim.Native.Nat.{ℕ, ◌<◌}
use native.Mathlib.Omega.{arith}
use lib.ListN.{length, get_or}
use Rattle.lists.specs.Blocks.{nth_piece}
use Rattle.residue.specs.Residue.{add, mul}
use Rattle.residue.specs.Vector.{add_v, mul_v, key_v}
use Rattle.residue.proofs.Identities.{sum_key, multiple_key}
use Rattle.residue.proofs.Vectors.{add-below, mul-below}
use Rattle.words.specs.declared.gate.Gate.{Gate}
use Rattle.words.specs.declared.gate.Wire.{Wire}
use Rattle.circuit.specs.Wires.{wire_at, modulus_at}
use Rattle.circuit.specs.Accepted.{Alike, GateFits}
use Rattle.counts.specs.Recipe.{image_of}
use Rattle.plain.specs.Plain.{plain_by, plain_values}
use Rattle.plain.proofs.ByRecipe.{plain_value}
use Rattle.pads.specs.Pad.{Pad}
use Rattle.scheme.proofs.Steps.{by-lower}
use Rattle.scheme.proofs.Bounds.{positive, input-first}
use Rattle.pair.specs.Key.{external_of}
use Rattle.pair.specs.Draw.{offset_in, zero_in}
use Rattle.pair.specs.Half.{open_half}
use Rattle.pair.specs.Gate.{keys_of, zero_by, rows_by, open_product, open_by}
use Rattle.pair.specs.Rows.{zero_key, gate_rows, pair_mask}
use Rattle.pair.specs.Opening.{own_rows, opened_key}
use Rattle.pair.specs.InputKeys.{pair_input_key}
use Rattle.pair.specs.Undone.{is_select, PairRoundAt, PairOpeningUndoesGarbling}
use Rattle.pair.proofs.External.{KeySizes, external-key}
use Rattle.pair.proofs.Steps.{zero_key-step, opened_key-step}
use Rattle.pair.proofs.Sizes.{drawn-sizes, zero_key-size, own-rows}
use Rattle.pair.proofs.Gates.{table-opens, product-opens}

-- what the induction over the wires carries: a wire's key is that for its value, which is below its modulus
pub record Known (p v : ℕ) (k D key : List ℕ) : Type 0 where
  pub key_is : key ≡ key_v p k v D
  pub value : v < p

-- what is known under other names
known_at : {p v v' : ℕ} {k k' D key key' : List ℕ} → v ≡ v' → k ≡ k' → key ≡ key' → Known p v' k' D key' → Known p v k D key
known_at e f g r = rw (e, f, g) r

-- ---- a sum and a multiple

module _ {p K : ℕ} (above : 0 < p) {D : List ℕ} (offset : length D ≡ K) where
  sum_known : {v v' : ℕ} {k k' key key' : List ℕ} → length k ≡ K → length k' ≡ K → Known p v k D key → Known p v' k' D key'
      → Known p (add p v v') (add_v p k k') D (add_v p key key')
  sum_known {v} {v'} {k} {k'} e f a b =
      record { key_is = ap₂ (add_v p) a.key_is b.key_is ∙ sum_key p K above k k' D e f offset v v'; value = add-below above v v' }

  multiple_known : {v : ℕ} {k key : List ℕ} (c : ℕ) → length k ≡ K → Known p v k D key → Known p (mul p c v) (mul_v p c k) D (mul_v p c key)
  multiple_known {v} {k} c e a =
      record { key_is = ap (mul_v p c) a.key_is ∙ multiple_key p K above k k D e e offset c v; value = mul-below above c v }

-- ---- a round

module _ {pad : Pad} {K : ℕ} {file : List ℕ} {wires : List Wire} {outputs draw values keys rows : List ℕ}
    (round : PairRoundAt pad K file wires outputs draw values keys rows) where
  -- of a wire: its value, its zero key, what it is opened to; and the offset of a modulus
  abbrev value_of : ℕ → ℕ
  value_of a = get_or (plain_values file wires values) a 0

  abbrev zero_of : ℕ → List ℕ
  zero_of = zero_key pad K file wires draw

  abbrev open_of : ℕ → List ℕ
  open_of = opened_key pad K wires keys rows

  abbrev offset_of : ℕ → List ℕ
  offset_of = offset_in K wires draw

  -- what is known of wire a, its modulus being p
  abbrev At : ℕ → ℕ → Type 0
  At p a = Known p (value_of a) (zero_of a) (offset_of p) (open_of a)

  zero-size : (a : ℕ) → a < length wires → length (zero_of a) ≡ K
  zero-size = zero_key-size round.pads round.accepted (drawn-sizes round.drawn)

  module _ (w : ℕ) (made : w < length wires) where
    abbrev p : ℕ
    p = modulus_at wires w

    above : 0 < p
    above = positive round.accepted w made

    offset-size : length (offset_of p) ≡ K
    offset-size = round.drawn.offset_size w made

    lower_size : (a : ℕ) → a < w → length (zero_of a) ≡ K
    lower_size a h = zero-size a (omega arith)

    key_sizes : (a : ℕ) → a < w → KeySizes K (keys_of file (modulus_at wires) offset_of zero_of a)
    key_sizes a h =
        record {
          positive = positive round.accepted a (omega arith);
          zero = lower_size a h;
          offset = round.drawn.offset_size a (omega arith);
        }

    -- a lower wire, its modulus known by another name
    alike : {a : ℕ} → Alike wires w a → At (modulus_at wires a) a → At p a
    alike {a} fits r = subst (λ (q : ℕ). At q a) fits.same r

    gate_known : {gate : Gate} → GateFits file wires w gate → (wire_at wires w).gate ≡ gate → ((a : ℕ) → a < w → At (modulus_at wires a) a)
        → Known p (plain_by file values w p gate value_of) (zero_by file (modulus_at wires) offset_of zero_of pad K w p (zero_in K wires draw w) gate)
        (offset_of p)
        (open_by pad K w p (modulus_at wires) (rows_by file (modulus_at wires) offset_of zero_of pad K w p gate) (nth_piece keys K w) open_of gate)
    unfolding plain_by zero_by rows_by open_by pair_input_key image_of
    gate_known (GateFits.input fits) is lower =
        let here = input-first round.accepted w made is in
        record { key_is = round.key w here; value = round.value w here }
    gate_known (GateFits.add {gate = g} fits) is lower =
        sum_known above offset-size (lower_size g.a fits.a.lower) (lower_size g.b fits.b.lower)
        (alike fits.a (lower g.a fits.a.lower)) (alike fits.b (lower g.b fits.b.lower))
    gate_known (GateFits.scale {gate = g} fits) is lower =
        multiple_known above offset-size g.constant (lower_size g.a fits.a.lower) (alike fits.a (lower g.a fits.a.lower))
    gate_known (GateFits.multiply {gate = g} fits) is lower =
        let a = lower g.a fits.a.lower in
        let b = lower g.b fits.b.lower in
        record {
          key_is =
              ap₂ (open_product pad K w p _) a.key_is b.key_is
              ∙ product-opens round.pads file K w p round.drawn.some above (modulus_at wires) offset_of zero_of offset-size (zero_in K wires draw w) g
              fits.a.same fits.b.same (key_sizes g.a fits.a.lower) (key_sizes g.b fits.b.lower) (round.drawn.unit w made)
              (value_of g.a) (value_of g.b) a.value b.value;
          value = mul-below above (value_of g.a) (value_of g.b);
        }
    gate_known (GateFits.project {gate = g} fits) is lower =
        let a = lower g.a fits.lower in
        record {
          key_is =
              ap (open_half pad K w 0 p (modulus_at wires g.a) _) a.key_is
              ∙ table-opens round.pads file K w p round.drawn.some above (modulus_at wires) offset_of zero_of offset-size (zero_in K wires draw w) g
              (key_sizes g.a fits.lower) (round.drawn.unit g.a (omega (arith, fits.lower))) (value_of g.a) a.value;
          value = (fits.entries (value_of g.a) a.value).image;
        }
    gate_known (GateFits.select fits) is lower = absurd (true≢false (sym (ap is_select is) ∙ round.selects.none w made))

    -- the wire's own rows are those of its gate
    here : own_rows K wires rows w ≡ rows_by file (modulus_at wires) offset_of zero_of pad K w p (wire_at wires w).gate
    unfolding gate_rows
    here = ap (λ (l : List ℕ). own_rows K wires l w) round.garbled ∙ own-rows round.pads round.accepted (drawn-sizes round.drawn) w made

    wire_known : ((a : ℕ) → a < w → At (modulus_at wires a) a) → At p w
    wire_known lower =
        known_at (plain_value round.accepted w made values) (zero_key-step round.accepted w made pad K draw)
        (opened_key-step round.accepted w made pad K keys rows
        ∙ ap (λ (l : List ℕ). open_by pad K w p (modulus_at wires) l (nth_piece keys K w) open_of (wire_at wires w).gate) here)
        (gate_known (round.accepted.fits w made).gate refl lower)

  pub opened_known : (w : ℕ) → w < length wires → At (modulus_at wires w) w
  opened_known =
      by-lower (λ w. w < length wires → At (modulus_at wires w) w) (λ w lower made. wire_known w made (λ a l. lower a l (omega arith)))

  -- component 0 of an opened key is value plus mask
  opened-external : (w : ℕ) → w < length wires → external_of (open_of w) ≡ add (modulus_at wires w) (value_of w) (pair_mask pad K file wires draw w)
  unfolding pair_mask
  opened-external w made =
      let size = zero-size w made in
      ap external_of (opened_known w made).key_is
      ∙ external-key (modulus_at wires w) (positive round.accepted w made) (zero_of w) (value_of w) (offset_of (modulus_at wires w))
      (size ∙ sym (round.drawn.offset_size w made)) (omega (arith, size, round.drawn.some)) (round.drawn.unit w made)

pub opening_undoes : PairOpeningUndoesGarbling
opening_undoes pad K file wires outputs draw values keys rows round w made =
    record { key_is = (opened_known round w made).key_is; external = opened-external round w made }
