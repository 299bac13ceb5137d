-- A draw: its size, and the search in it, in its offsets and then in the zero keys of the inputs.
-- Assumes nothing.
use mathlib.Core.Path.{◌≡◌, sym, ap, ap₂, ◌∙◌}
use mathlib.Core.List.{List}
use Prim.Native.Nat.{ℕ, ◌+◌, ◌-◌, ◌*◌, ◌≤◌, ◌<◌}
use native.Mathlib.Nat.{mul-add, mul_comm}
use native.Mathlib.Omega.{arith}
use lib.ListN.{length, get_or, take, drop, length-drop}
use lib.Seq.{length-take-le, take_all}
use Rattle.lists.specs.Blocks.{runs}
use Rattle.lists.proofs.Parts.{length_range}
use Rattle.lists.proofs.Sums.{sum_to_times}
use Rattle.lists.proofs.Blocks.{length_runs}
use Rattle.lists.proofs.First.{first-most}
use Rattle.words.specs.declared.gate.Wire.{Wire}
use Rattle.circuit.specs.Wires.{modulus_at, inputs_in}
use Rattle.counts.specs.Counts.{Counts, mark}
use Rattle.counts.specs.Moduli.{used, moduli_used}
use Rattle.session.specs.Session.{too_large}
use Rattle.contribution.specs.Large.{first_large}
use Rattle.contribution.proofs.Sizes.{times-most}
use Rattle.contribution.proofs.Joined.{front-found, rest-found}
use Rattle.pair.specs.Draw.{draw_size, draw_moduli}

-- ---- the size

module _ (K : ℕ) (wires : List Wire) {moduli inputs : ℕ} (h : K ≤ 128) (a : Counts 256 (moduli_used wires) moduli) (f : inputs ≡ inputs_in wires)
    (l : inputs ≤ 1024) where
  pub draw-most : K * (moduli + inputs) ≤ 163840
  draw-most = times-most K (moduli + inputs) 128 1280 h (omega arith)

  pub draw-counts : Counts 163840 (draw_size K wires) (K * (moduli + inputs))
  unfolding draw_size
  draw-counts = record { is = ap₂ (λ (x y : ℕ). K * (x + y)) a.is f; most = draw-most }

-- ---- the search: the offsets end where the zero keys start

module _ (K : ℕ) (wires : List Wire) (xs : List ℕ) (e : length xs ≡ draw_size K wires) {moduli : ℕ} (a : Counts 256 (moduli_used wires) moduli) where
  abbrev of_offsets : List ℕ
  of_offsets = runs 256 (λ p. K * mark (used wires p)) (λ p. p)

  abbrev of_zeros : List ℕ
  of_zeros = runs (inputs_in wires) (λ w. K) (modulus_at wires)

  -- what stands behind the offsets, as the code cuts it
  abbrev behind_offsets : List ℕ
  behind_offsets = take (length xs - K * moduli) (drop (K * moduli) xs)

  split_is : K * moduli ≡ K * moduli_used wires
  split_is = ap (λ (x : ℕ). K * x) a.is

  offsets_long : length of_offsets ≡ K * moduli
  offsets_long =
      length_runs 256 (λ p. K * mark (used wires p)) (λ p. p) ∙ sum_to_times 256 K (λ p. mark (used wires p)) ∙ sym split_is

  size_is : length xs ≡ K * moduli + inputs_in wires * K
  unfolding draw_size
  size_is = e ∙ mul-add K (moduli_used wires) (inputs_in wires) ∙ ap₂ ◌+◌ (sym split_is) (mul_comm K (inputs_in wires))

  pub split-fits : K * moduli ≤ length xs
  split-fits = omega (arith, size_is)

  pub front-size : K * moduli ≡ length (take (K * moduli) xs)
  front-size = sym (length-take-le (K * moduli) xs split-fits)

  pub front_long : length (take (K * moduli) xs) ≡ K * moduli_used wires
  front_long = length-take-le (K * moduli) xs split-fits ∙ split_is

  rest_size : length behind_offsets ≡ length xs - K * moduli
  rest_size = length_range xs (K * moduli) (length xs) split-fits (omega arith)

  pub rest-long : length behind_offsets ≡ inputs_in wires * K
  rest-long = rest_size ∙ omega (arith, size_is)

  rest_whole : behind_offsets ≡ drop (K * moduli) xs
  rest_whole = take_all (length xs - K * moduli) (drop (K * moduli) xs) (omega (arith, length-drop (K * moduli) xs))

  pub rest-fits : {rest : ℕ} → rest ≡ first_large behind_offsets (λ i. get_or of_zeros i 0) → K * moduli + rest ≤ length xs
  rest-fits {rest} g =
      omega (arith, g, rest_size, split-fits, first-most (length behind_offsets) (too_large behind_offsets (λ i. get_or of_zeros i 0)))

  module _ {found : ℕ} (t : found ≡ first_large (take (K * moduli) xs) (λ i. get_or of_offsets i 0)) where
    pub in_offsets : found < K * moduli → found ≡ first_large xs (λ i. get_or (draw_moduli K wires) i 0)
    unfolding draw_moduli
    in_offsets l = front-found xs of_offsets of_zeros (K * moduli) split-fits offsets_long t l

    pub in_zeros : {rest : ℕ} → K * moduli ≤ found → rest ≡ first_large behind_offsets (λ i. get_or of_zeros i 0)
        → K * moduli + rest ≡ first_large xs (λ i. get_or (draw_moduli K wires) i 0)
    unfolding draw_moduli
    in_zeros {rest} l g =
        rest-found xs of_offsets of_zeros (K * moduli) split-fits offsets_long t
        (g ∙ ap (λ (ys : List ℕ). first_large ys (λ i. get_or of_zeros i 0)) rest_whole) l
