-- A search in two parts of a list of bytes, the second behind the first: the offsets of a contribution, then its records.
-- Assumes nothing.
use mathlib.Core.Path.{◌≡◌, sym, ap, ap₂, ◌∙◌, subst}
use mathlib.Core.List.{List, ◌++◌}
use Prim.Native.Nat.{ℕ, ◌+◌, ◌-◌, ◌*◌, ◌≤◌, ◌<◌}
use native.Mathlib.Nat.{zero-add}
use native.Mathlib.Omega.{arith}
use lib.Dec.{leb}
use lib.ListN.{length, get_or, take, drop, length-drop, get_or-append}
use lib.Seq.{get_or-take, get_or-drop, get_or-append-add, length-take-le, take_all}
use Rattle.lists.specs.Blocks.{runs}
use Rattle.lists.specs.First.{first}
use Rattle.lists.proofs.Parts.{length_range}
use Rattle.lists.proofs.Sums.{sum_to_times}
use Rattle.lists.proofs.Blocks.{length_runs}
use Rattle.lists.proofs.First.{first-most}
use Rattle.lists.proofs.Search.{Looking, looking_start}
use Rattle.lists.proofs.Windows.{window_on, window_found, window_last}
use Rattle.words.specs.declared.gate.Wire.{Wire}
use Rattle.circuit.specs.Wires.{modulus_at}
use Rattle.counts.specs.Counts.{mark, record_keys_of, record_keys_in}
use Rattle.counts.specs.Moduli.{used, moduli_used}
use Rattle.session.specs.Session.{too_large}
use Rattle.scheme.specs.Contribution.{record_at, contribution_size, contribution_moduli}
use Rattle.contribution.specs.Large.{first_large}
use Rattle.contribution.proofs.Cursor.{record_first}

module _ (xs ms ns : List ℕ) (split : ℕ) (h : split ≤ length xs) (e : length ms ≡ split) {found : ℕ}
    (f : found ≡ first_large (take split xs) (λ i. get_or ms i 0)) where
  front : (j : ℕ) → j < split → too_large xs (λ i. get_or (ms ++ ns) i 0) (0 + j) ≡ too_large (take split xs) (λ i. get_or ms i 0) j
  front j l =
      ap (λ (i : ℕ). too_large xs (λ a. get_or (ms ++ ns) a 0) i) (zero-add j)
      ∙ ap₂ leb (get_or-append ms ns 0 j (omega arith)) (sym (get_or-take split xs j 0 l))

  first_is : found ≡ first split (too_large (take split xs) (λ i. get_or ms i 0))
  first_is = f ∙ ap (λ (n : ℕ). first n (too_large (take split xs) (λ i. get_or ms i 0))) (length-take-le split xs h)

  pub front-found : found < split → found ≡ first_large xs (λ i. get_or (ms ++ ns) i 0)
  front-found l = sym (zero-add found) ∙ window_found looking_start (omega arith) front first_is l

  pub front_past : split ≤ found → Looking (length xs) (too_large xs (λ i. get_or (ms ++ ns) i 0)) split
  front_past l =
      subst (λ (i : ℕ). Looking (length xs) (too_large xs (λ i. get_or (ms ++ ns) i 0)) i) (zero-add split)
      (window_on looking_start (omega arith) front first_is l)

  module _ {rest : ℕ} (g : rest ≡ first_large (drop split xs) (λ i. get_or ns i 0)) where
    behind : (j : ℕ) → j < length xs - split → too_large xs (λ i. get_or (ms ++ ns) i 0) (split + j) ≡ too_large (drop split xs) (λ i. get_or ns i 0) j
    behind j l =
        ap₂ leb (ap (λ (a : ℕ). get_or (ms ++ ns) (a + j) 0) (sym e) ∙ get_or-append-add ms ns j 0) (sym (get_or-drop split xs j 0))

    pub rest-found : split ≤ found → split + rest ≡ first_large xs (λ i. get_or (ms ++ ns) i 0)
    rest-found l =
        window_last (front_past l) (omega arith) behind
        (g ∙ ap (λ (n : ℕ). first n (too_large (drop split xs) (λ i. get_or ns i 0))) (length-drop split xs))
        (omega arith)

-- ---- a contribution: its offsets end where its records start

module _ (K : ℕ) (wires : List Wire) (xs : List ℕ) (e : length xs ≡ contribution_size K wires) {split : ℕ} (s : split ≡ record_at K wires 0) where
  abbrev of_offsets : List ℕ
  of_offsets = runs 256 (λ p. K * mark (used wires p)) (λ p. p)

  abbrev of_records : List ℕ
  of_records = runs (length wires) (λ w. (K + 1) * record_keys_of wires w) (modulus_at wires)

  -- what stands behind the offsets, as the code cuts it
  abbrev behind_offsets : List ℕ
  behind_offsets = take (length xs - split) (drop split xs)

  split_is : split ≡ K * moduli_used wires
  split_is = s ∙ record_first K wires

  offsets_long : length of_offsets ≡ split
  offsets_long =
      length_runs 256 (λ p. K * mark (used wires p)) (λ p. p) ∙ sum_to_times 256 K (λ p. mark (used wires p)) ∙ sym split_is

  pub split-fits : split ≤ length xs
  unfolding contribution_size
  split-fits = omega (arith, e, split_is)

  pub front-size : split ≡ length (take split xs)
  front-size = sym (length-take-le split xs split-fits)

  pub front_long : length (take split xs) ≡ K * moduli_used wires
  front_long = length-take-le split xs split-fits ∙ split_is

  rest_size : length behind_offsets ≡ length xs - split
  rest_size = length_range xs split (length xs) split-fits (omega arith)

  pub rest-long : length behind_offsets ≡ (K + 1) * record_keys_in wires
  unfolding contribution_size
  rest-long = rest_size ∙ omega (arith, e, split_is)

  rest_whole : behind_offsets ≡ drop split xs
  rest_whole = take_all (length xs - split) (drop split xs) (omega (arith, length-drop split xs))

  pub rest-fits : {rest : ℕ} → rest ≡ first_large behind_offsets (λ i. get_or of_records i 0) → split + rest ≤ length xs
  rest-fits {rest} g =
      omega (arith, g, rest_size, split-fits, first-most (length behind_offsets) (too_large behind_offsets (λ i. get_or of_records i 0)))

  module _ {found : ℕ} (t : found ≡ first_large (take split xs) (λ i. get_or of_offsets i 0)) where
    pub in_offsets : found < split → found ≡ first_large xs (λ i. get_or (contribution_moduli K wires) i 0)
    unfolding contribution_moduli
    in_offsets l = front-found xs of_offsets of_records split split-fits offsets_long t l

    pub in_records : {rest : ℕ} → split ≤ found → rest ≡ first_large behind_offsets (λ i. get_or of_records i 0)
        → split + rest ≡ first_large xs (λ i. get_or (contribution_moduli K wires) i 0)
    unfolding contribution_moduli
    in_records {rest} l g =
        rest-found xs of_offsets of_records split split-fits offsets_long t
        (g ∙ ap (λ (ys : List ℕ). first_large ys (λ i. get_or of_records i 0)) rest_whole) l
