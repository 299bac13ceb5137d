-- Decoding on a circuit of the code, by a party: what its check of the bytes and writing the results rest on, and what it comes to.
-- Assumes nothing.
use Rattle.std.specs.Prelude.{◌≡◌, true, List, ℕ, ◌<◌, length, get_or}
use Rattle.checks.specs.Checked.{afterwards}
use Rattle.circuit.specs.declared.Circuit.{Circuit}
use Rattle.circuit.specs.Wires.{modulus_at}
use Rattle.circuit.specs.Named.{readable}
use Rattle.circuit.specs.Held.{wires_in, outputs_in, named_in, Held}
use Rattle.calls.specs.Decode.{decode_bytes, decode_lent, decode_made}
use Rattle.checks.specs.Answer.{Answer}

-- the definitions, on a circuit of the code
abbrev pub bytes_by : Circuit → ℕ → List ℕ → List ℕ → Answer
bytes_by circuit party = decode_bytes (wires_in circuit) (outputs_in circuit) (readable (named_in circuit) party)

abbrev pub lent_by : Circuit → ℕ → List ℕ → List ℕ → ℕ → Answer
lent_by circuit party = decode_lent (wires_in circuit) (outputs_in circuit) (readable (named_in circuit) party)

abbrev pub made_by : Circuit → ℕ → List ℕ → List ℕ → List ℕ
made_by circuit party = decode_made (wires_in circuit) (outputs_in circuit) (readable (named_in circuit) party)

-- an external value for each wire of a circuit of the code, a mask for each output
pub record Masked (circuit : Circuit) (externals masks : List ℕ) : Type 0 where
  pub held : Held circuit
  pub externals_size : length externals ≡ circuit.made
  pub masks_size : length masks ≡ circuit.given

-- .. the external values residues, and so the masks that the party may read, with a byte for each output
pub record Decodes (circuit : Circuit) (party : ℕ) (externals masks : List ℕ) (bytes : ℕ) : Type 0 where
  pub masked : Masked circuit externals masks
  pub size : bytes ≡ circuit.given
  pub made : (i : ℕ) → i < circuit.given → get_or (outputs_in circuit) i 0 < circuit.made
  pub external : (w : ℕ) → w < circuit.made → get_or externals w 0 < modulus_at (wires_in circuit) w
  pub mask : (i : ℕ) → i < circuit.given → readable (named_in circuit) party i ≡ true
      → get_or masks i 0 < modulus_at (wires_in circuit) (get_or (outputs_in circuit) i 0)

-- each output is a wire
pub record Ready (circuit : Circuit) : Type 0 where
  pub held : Held circuit
  pub made : (i : ℕ) → i < circuit.given → get_or (outputs_in circuit) i 0 < circuit.made

-- the answer, and what the bytes lent for the results hold afterwards
pub record Decoded (circuit : Circuit) (party : ℕ) (externals masks before : List ℕ) (answer : Answer) (results : List ℕ) : Type 0 where
  pub answer_is : answer ≡ lent_by circuit party externals masks (length before)
  pub results_is : results ≡ afterwards answer (made_by circuit party externals masks) before
