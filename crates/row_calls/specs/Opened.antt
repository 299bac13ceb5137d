-- Opening, on a circuit of the code: what the checks of the bytes and of the party's own keys rest on, and what the last two stages come to.
-- Assumes nothing.
use Rattle.std.specs.Prelude.{◌≡◌, List, ℕ, ◌*◌, ◌≤◌, ◌<◌, length, replicate}
use Rattle.lists.specs.First.{first}
use Rattle.checks.specs.Checked.{and_then, afterwards}
use Rattle.words.specs.declared.gate.Wire.{Wire}
use Rattle.circuit.specs.declared.Circuit.{Circuit}
use Rattle.circuit.specs.Wires.{inputs_in}
use Rattle.circuit.specs.Held.{wires_in, Held}
use Rattle.counts.specs.Counts.{rows_in}
use Rattle.scheme.specs.Contribution.{contribution_size}
use Rattle.scheme.specs.Draw.{drawn}
use Rattle.scheme.specs.Opening.{wire_keys, wire_externals}
use Rattle.pads.specs.Pad.{shake_pad}
use Rattle.calls.specs.Open.{input_key_wrong, own_keys_checked, gates_checked}
use Rattle.checks.specs.Answer.{Answer}

-- buffers of their lengths
pub record OpenSizes (circuit : Circuit) (n K : ℕ) (contribution externals keys rows : List ℕ) : Type 0 where
  pub held : Held circuit
  pub parties : n ≤ 8
  pub most : K ≤ 128
  pub contribution_length : length contribution ≡ contribution_size K (wires_in circuit)
  pub externals_length : length externals ≡ inputs_in (wires_in circuit)
  pub keys_length : length keys ≡ inputs_in (wires_in circuit) * (n * K)
  pub rows_length : length rows ≡ rows_in (wires_in circuit) * (n * K)

-- n keys of K bytes on each of so many inputs, and one key of the party itself on each
pub record Compared (n K party inputs : ℕ) (keys own : List ℕ) : Type 0 where
  pub seated : party < n
  pub parties : n ≤ 8
  pub most : K ≤ 128
  pub few : inputs ≤ 1024
  pub keys_length : length keys ≡ inputs * (n * K)
  pub own_length : length own ≡ inputs * K

-- the lowest input on which the party's key is not its own; their number where there is none
abbrev pub first_wrong : ℕ → ℕ → ℕ → List Wire → List ℕ → List ℕ → List ℕ → ℕ
first_wrong n K party wires contribution externals keys = first (inputs_in wires) (input_key_wrong n K party wires contribution externals keys)

module _ (n K party round : ℕ) (wires : List Wire) (contribution externals keys rows wkeys₀ wexternals₀ : List ℕ) where
  abbrev own_keys : Answer
  own_keys = own_keys_checked n K party wires contribution externals keys

  abbrev gates : Answer
  gates = gates_checked (shake_pad round) n K party wires (drawn 1 K wires contribution) externals keys rows

  -- the keys and the external values of all wires, or zeros where no multiplier fits
  abbrev new_keys : List ℕ
  new_keys = afterwards gates (wire_keys (shake_pad round) n K party wires (drawn 1 K wires contribution) externals keys rows) (replicate (length wkeys₀) 0)

  abbrev new_externals : List ℕ
  new_externals =
      afterwards gates (wire_externals (shake_pad round) n K party wires (drawn 1 K wires contribution) externals keys rows) (replicate (length wexternals₀) 0)

  -- the gates' stage: 20, and what both buffers hold then
  pub record GatesOpened (answer : Answer) (wkeys wexternals : List ℕ) : Type 0 where
    pub answer_is : answer ≡ gates
    pub keys_are : wkeys ≡ new_keys
    pub externals_are : wexternals ≡ new_externals

  -- 19, then that stage
  pub record InputsOpened (answer : Answer) (wkeys wexternals : List ℕ) : Type 0 where
    pub answer_is : answer ≡ and_then own_keys gates
    pub keys_are : wkeys ≡ afterwards own_keys new_keys wkeys₀
    pub externals_are : wexternals ≡ afterwards own_keys new_externals wexternals₀
