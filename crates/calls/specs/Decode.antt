-- The call for decoding: e − m modulo the wire's prime for each output that the party may read, 255 for the others, from external values of all wires and
-- the party's sheet of output masks (order 9: n and party given, no K).
-- Assumes nothing.
use Rattle.std.specs.Prelude.{◌≡◌, Bool, ◌&&◌, ◌||◌, cond, ltb, List, [], ◌∷◌, ℕ, max, length, get_or}
use Rattle.lists.specs.Blocks.{tab}
use Rattle.residue.specs.Residue.{sub}
use Rattle.checks.specs.declared.Refusal.TheVariants.{ValueTooLarge}
use Rattle.checks.specs.Checked.{Reports, and_then, none_bad, afterwards}
use Rattle.words.specs.declared.gate.Wire.{Wire}
use Rattle.circuit.specs.Wires.{modulus_at}
use Rattle.circuit.specs.File.{read_file}
use Rattle.circuit.specs.Named.{readable}
use Rattle.session.specs.Session.{file_checked, parties_checked, party_checked, partakers_checked, lengths_checked, too_large}
use Rattle.checks.specs.Answer.{Answer}

-- on the wires and outputs of a circuit, by someone who may read certain outputs
module _ (wires : List Wire) (outputs : List ℕ) (may : ℕ → Bool) (externals masks : List ℕ) where
  abbrev output_modulus : ℕ → ℕ
  output_modulus i = modulus_at wires (get_or outputs i 0)

  -- 15 over two buffers: the lowest index over both, each counted from its own start; it "passes over the mask byte of an output that this seat may not
  -- read"
  abbrev pub decode_bytes : Answer
  decode_bytes =
      none_bad (max (length wires) (length outputs))
      (λ i. (ltb i (length wires) && too_large externals (modulus_at wires) i) || (ltb i (length outputs) && (may i && too_large masks output_modulus i)))
      ValueTooLarge

  -- 14, where so many bytes are lent for the results, then 15
  abbrev pub decode_lent : ℕ → Answer
  decode_lent results =
      and_then (lengths_checked (length externals ∷ length masks ∷ results ∷ []) (length wires ∷ length outputs ∷ length outputs ∷ [])) decode_bytes

  -- 11, 12, 13 and 28, with n parties, where the outputs name these, then those
  abbrev pub decode_asked : List ℕ → ℕ → ℕ → ℕ → Answer
  decode_asked named n party results =
      and_then (parties_checked n) (and_then (party_checked n party) (and_then (partakers_checked n wires named) (decode_lent results)))

  -- e − m for each output that may be read, 255 for the others
  abbrev pub decode_made : List ℕ
  decode_made = tab (length outputs) (λ i. cond (may i) (sub (output_modulus i) (get_or externals (get_or outputs i 0) 0) (get_or masks i 0)) 255)

-- the call: the file first
module _ (file : List ℕ) (n party : ℕ) (externals masks results : List ℕ) where
  abbrev wires : List Wire
  wires = (read_file file).wires

  abbrev outputs : List ℕ
  outputs = (read_file file).outputs

  abbrev named : List ℕ
  named = (read_file file).named

  unfoldable pub decode_checked : Answer
  decode_checked = and_then (file_checked file) (decode_asked wires outputs (readable named party) externals masks named n party (length results))

  unfoldable pub decode_after : List ℕ
  decode_after = afterwards decode_checked (decode_made wires outputs (readable named party) externals masks) results

-- the call's promise: the number and place that it answers, and what the bytes lent for the results hold afterwards
pub record DecodeCall (file : List ℕ) (n party : ℕ) (externals masks results₀ : List ℕ) (number place : ℕ) (results : List ℕ) : Type 0 where
  pub answer : Reports (decode_checked file n party externals masks results₀) number place
  pub results_is : results ≡ decode_after file n party externals masks results₀
