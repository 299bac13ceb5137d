-- The call for the external values of a party's own inputs, from their values and masks, a byte each per own input (n and party given, no K).
-- Assumes nothing.
use Rattle.std.specs.Prelude.{◌≡◌, ◌||◌, cond, List, [], ◌∷◌, ℕ, length, get_or}
use Rattle.lists.specs.Blocks.{blocks, tab}
use Rattle.residue.specs.Residue.{add}
use Rattle.checks.specs.declared.Refusal.TheVariants.{ValueTooLarge}
use Rattle.checks.specs.Checked.{Reports, and_then, none_bad, afterwards}
use Rattle.words.specs.declared.gate.Wire.{Wire}
use Rattle.circuit.specs.Wires.{wire_at, modulus_at}
use Rattle.circuit.specs.File.{read_file}
use Rattle.counts.specs.Counts.{owned_by}
use Rattle.session.specs.Session.{file_checked, parties_checked, party_checked, partakers_checked, lengths_checked, too_large}
use Rattle.checks.specs.Answer.{Answer}

-- the wires of a party's own inputs, ascending
unfoldable pub own_inputs : ℕ → List Wire → List ℕ
own_inputs party wires = blocks (length wires) (λ w. cond (owned_by party (wire_at wires w).gate) (w ∷ []) [])

-- on the wires of a circuit
module _ (party : ℕ) (wires : List Wire) (values masks : List ℕ) where
  abbrev own : List ℕ
  own = own_inputs party wires

  abbrev own_modulus : ℕ → ℕ
  own_modulus i = modulus_at wires (get_or own i 0)

  -- 15 over two buffers: the lowest index over both
  abbrev pub externals_bytes : Answer
  externals_bytes = none_bad (length own) (λ i. too_large values own_modulus i || too_large masks own_modulus i) ValueTooLarge

  -- 14, where so many bytes are lent for the external values, then 15
  abbrev pub externals_lent : ℕ → Answer
  externals_lent externals =
      and_then (lengths_checked (length values ∷ length masks ∷ externals ∷ []) (length own ∷ length own ∷ length own ∷ [])) externals_bytes

  -- 11, 12, 13 and 28, with n parties, where the outputs name these, then those
  abbrev pub externals_asked : List ℕ → ℕ → ℕ → Answer
  externals_asked named n externals =
      and_then (parties_checked n) (and_then (party_checked n party) (and_then (partakers_checked n wires named) (externals_lent externals)))

  -- e = (v + m) mod p
  abbrev pub externals_made : List ℕ
  externals_made = tab (length own) (λ i. add (own_modulus i) (get_or values i 0) (get_or masks i 0))

-- the call: the file first
module _ (file : List ℕ) (n party : ℕ) (values masks externals : List ℕ) where
  abbrev wires : List Wire
  wires = (read_file file).wires

  unfoldable pub externals_checked : Answer
  externals_checked = and_then (file_checked file) (externals_asked party wires values masks (read_file file).named n (length externals))

  unfoldable pub externals_after : List ℕ
  externals_after = afterwards externals_checked (externals_made party wires values masks) externals

-- the call's promise: the number and place that it answers, and what the bytes lent for the external values hold afterwards
pub record ExternalsCall (file : List ℕ) (n party : ℕ) (values masks externals₀ : List ℕ) (number place : ℕ) (externals : List ℕ) : Type 0 where
  pub answer : Reports (externals_checked file n party values masks externals₀) number place
  pub externals_is : externals ≡ externals_after file n party values masks externals₀
