-- One turn is the definition's: `open_at` at what is cut out for a wire is the wire's opened key. And the external value of every opened key is a residue.
-- Assumes nothing.
use mathlib.Core.Path.{◌≡◌, refl, sym, ap, subst, ◌∙◌}
use mathlib.Core.List.{List, [], ◌∷◌}
use Prim.Native.Nat.{ℕ, ◌+◌, ◌*◌, ◌≤◌, ◌<◌}
use native.Mathlib.Nat.{mul_comm, one-mul, zero-lt-suc}
use native.Mathlib.Omega.{arith}
use lib.ListN.{length}
use Rattle.lists.specs.Blocks.{sum_to, nth_piece}
use Rattle.lists.proofs.Sums.{sum_to_ext, sum_to_times, sum_to-fits}
use Rattle.residue.specs.Vector.{AllBelow}
use Rattle.residue.proofs.Vectors.{add_v-below, sub_v-below, mul_v-below}
use Rattle.checks.specs.declared.Refusal.TheVariants.{KeyOrRowTooLarge}
use Rattle.words.specs.declared.gate.Gate.{Gate}
use Rattle.words.specs.declared.gate.Gate.TheVariants.{Input, Add, Scale, Multiply, Project, Select}
use Rattle.words.specs.declared.gate.Wire.{Wire}
use Rattle.circuit.specs.Wires.{wire_at, modulus_at, inputs_in}
use Rattle.circuit.specs.Accepted.{AcceptedCircuit}
use Rattle.pads.specs.Pad.{Pad, shake_pad}
use Rattle.scheme.specs.Bytes.{keys_checked, counted_rows_checked}
use Rattle.scheme.proofs.ByteChecks.{run_below, keys_below}
use Rattle.scheme.proofs.Bounds.{positive, input-first}
use Rattle.pair.specs.Key.{external_of}
use Rattle.pair.specs.Half.{open_half}
use Rattle.pair.specs.Gate.{open_product, open_by}
use Rattle.pair.specs.Count.{pair_rows_of, pair_rows_in}
use Rattle.pair.specs.Opening.{own_rows, opened_key}
use Rattle.pair.proofs.Steps.{open_same, opened_key-step}
use Rattle.pair_opening.specs.declared.turn.Turn.{Turn}
use Rattle.pair_opening.specs.Step.{over_by, open_at}
use Rattle.pair.proofs.Halves.{zeros_below}
use Rattle.checks.specs.Answer.{accepts}

-- ---- the turn at wire w

abbrev pub turn_at : ℕ → ℕ → List Wire → ℕ → Turn
turn_at K round wires w =
    record { k = K; round = round; wire = w; modulus = modulus_at wires w; over = over_by (wire_at wires w).gate (modulus_at wires) }

pub over_same : (gate : Gate) (f g : ℕ → ℕ) → ((a : ℕ) → f a ≡ g a) → over_by gate f ≡ over_by gate g
over_same (Input o) f g e = refl
over_same (Add o) f g e = refl
over_same (Scale o) f g e = refl
over_same (Multiply o) f g e = refl
over_same (Project o) f g e = e o.a
over_same (Select o) f g e = refl

-- no other modulus of a lower wire is looked up
module _ (pad : Pad) (K w p : ℕ) (modulus_of : ℕ → ℕ) (rows given : List ℕ) (look : ℕ → List ℕ) where
  one_modulus : (gate : Gate) → open_by pad K w p (λ _. over_by gate modulus_of) rows given look gate ≡ open_by pad K w p modulus_of rows given look gate
  unfolding open_by open_product
  one_modulus (Input o) = refl
  one_modulus (Add o) = refl
  one_modulus (Scale o) = refl
  one_modulus (Multiply o) = refl
  one_modulus (Project o) = refl
  one_modulus (Select o) = refl

module _ {file : List ℕ} {wires : List Wire} {outputs : List ℕ} (accepted : AcceptedCircuit file wires outputs) (K round : ℕ) (keys rows : List ℕ) where
  abbrev final : ℕ → List ℕ
  final = opened_key (shake_pad round) K wires keys rows

  pub wire_is : (w : ℕ) → w < length wires → (wkeys : List ℕ) → ((a : ℕ) → a < w → nth_piece wkeys K a ≡ final a)
      → open_at (turn_at K round wires w) keys (own_rows K wires rows w) wkeys (wire_at wires w).gate ≡ final w
  unfolding open_at
  wire_is w made wkeys below =
      one_modulus (shake_pad round) K w (modulus_at wires w) (modulus_at wires) (own_rows K wires rows w) (nth_piece keys K w) (λ a. nth_piece wkeys K a)
      (wire_at wires w).gate
      ∙ open_same (shake_pad round) K (modulus_at wires w) (modulus_at wires) (own_rows K wires rows w) (nth_piece keys K w) (λ a. nth_piece wkeys K a) final
      (accepted.fits w made).gate below
      ∙ sym (opened_key-step accepted w made (shake_pad round) K keys rows)

-- ---- checked bytes

module _ (K : ℕ) (wires : List Wire) where
  pub key_below : (keys : List ℕ) → length keys ≡ inputs_in wires * K → keys_checked 1 K wires keys ≡ accepts → (w : ℕ) → w < inputs_in wires
      → AllBelow (modulus_at wires w) (nth_piece keys K w)
  key_below keys size e w h =
      rw (one-mul K) at (keys_below 1 K wires keys (size ∙ ap (λ (x : ℕ). inputs_in wires * x) (sym (one-mul K))) e w h)

  abbrev bytes_of : ℕ → ℕ
  bytes_of v = pair_rows_of wires v * (1 * K)

  rows_place : (w : ℕ) → sum_to w bytes_of ≡ sum_to w (pair_rows_of wires) * K
  rows_place w =
      sum_to_ext w bytes_of (λ v. K * pair_rows_of wires v) (λ v _. ap (λ (x : ℕ). pair_rows_of wires v * x) (one-mul K) ∙ mul_comm (pair_rows_of wires v) K)
      ∙ sum_to_times w K (pair_rows_of wires) ∙ mul_comm K (sum_to w (pair_rows_of wires))

  module _ (rows : List ℕ) (size : length rows ≡ pair_rows_in wires * K) (w : ℕ) (h : w < length wires) where
    own_bytes : bytes_of w ≡ pair_rows_of wires w * K
    own_bytes = ap (λ (x : ℕ). pair_rows_of wires w * x) (one-mul K)

    pub rows_inside : sum_to w (pair_rows_of wires) * K + pair_rows_of wires w * K ≤ length rows
    rows_inside = omega (arith, sum_to-fits w (length wires) bytes_of h, rows_place w, rows_place (length wires), own_bytes, size)

    pub rows-below : counted_rows_checked 1 K wires (pair_rows_of wires) rows ≡ accepts → AllBelow (modulus_at wires w) (own_rows K wires rows w)
    unfolding counted_rows_checked own_rows
    rows-below e =
        rw (rows_place w, own_bytes) at
        (run_below (length wires) bytes_of (modulus_at wires) rows KeyOrRowTooLarge e w h (omega (arith, rows_inside, rows_place w, own_bytes)))

-- ---- external values are residues

entry-below : {p : ℕ} (xs : List ℕ) → 0 < p → AllBelow p xs → external_of xs < p
unfolding external_of
entry-below [] h b = h
entry-below (x ∷ xs) h b = b.entry 0 (zero-lt-suc (length xs))

module _ {file : List ℕ} {wires : List Wire} {outputs : List ℕ} (accepted : AcceptedCircuit file wires outputs) (K : ℕ) (keys rows : List ℕ)
    (inputs : (w : ℕ) → w < inputs_in wires → AllBelow (modulus_at wires w) (nth_piece keys K w)) (pad : Pad) (w : ℕ) (made : w < length wires) where
  abbrev p : ℕ
  p = modulus_at wires w

  by-gate : (own : List ℕ) (look : ℕ → List ℕ) (gate : Gate) → (wire_at wires w).gate ≡ gate
      → AllBelow p (open_by pad K w p (modulus_at wires) own (nth_piece keys K w) look gate)
  unfolding open_by open_product open_half
  by-gate own look (Input g) is = inputs w (input-first accepted w made is)
  by-gate own look (Add g) is = add_v-below (positive accepted w made) _ _
  by-gate own look (Scale g) is = mul_v-below (positive accepted w made) _ _
  by-gate own look (Multiply g) is = add_v-below (positive accepted w made) _ _
  by-gate own look (Project g) is = sub_v-below (positive accepted w made) _ _
  by-gate own look (Select g) is = zeros_below K (positive accepted w made)

  pub external-below : external_of (opened_key pad K wires keys rows w) < p
  external-below =
      entry-below (opened_key pad K wires keys rows w) (positive accepted w made)
      (subst (λ (xs : List ℕ). AllBelow p xs) (sym (opened_key-step accepted w made pad K keys rows))
      (by-gate (own_rows K wires rows w) (opened_key pad K wires keys rows) (wire_at wires w).gate refl))
