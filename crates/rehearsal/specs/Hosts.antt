-- What a host does with bytes between the calls.
-- Assumes nothing.
use Rattle.std.specs.Prelude.{◌≡◌, cond, List, ℕ, zero, suc, ◌<◌, length, get_or, take, replicate}
use Rattle.lists.specs.Blocks.{tab, nth_piece, sum_to}
use Rattle.words.specs.declared.gate.Wire.{Wire}
use Rattle.circuit.specs.Wires.{wire_at}
use Rattle.counts.specs.Counts.{mark, owned_by}
use Rattle.calls.specs.Externals.{own_inputs, externals_after, ExternalsCall}
use Rattle.round.specs.Round.{own_of, by_input}
use Rattle.round.specs.Played.{Answered}

-- a party's own of all inputs' bytes stand at the front of an array
pub record Picked (party : ℕ) (wires : List Wire) (all xs : List ℕ) : Type 0 where
  pub long : length xs ≡ 1024
  pub front : take (length (own_inputs party wires)) xs ≡ own_of wires all party

-- a party's bytes, at the wires of its inputs; what others have there stays
abbrev pub scattered : ℕ → List Wire → List ℕ → List ℕ → List ℕ
scattered party wires mine before =
    tab (length before) (λ w.
    cond (owned_by party (wire_at wires w).gate) (get_or mine (sum_to w (λ v. mark (owned_by party (wire_at wires v).gate))) 0) (get_or before w 0))

-- keys that lie party by party, by input and then party
abbrev pub keys_by_input : ℕ → ℕ → ℕ → ℕ → List ℕ → List ℕ
keys_by_input n K inputs each mine = by_input n K inputs (λ party. nth_piece mine each party)

-- what a party's call for its external values writes, on a buffer of zeros
abbrev pub own_after : List ℕ → ℕ → List Wire → List ℕ → List ℕ → ℕ → List ℕ
own_after file n wires values masks party =
    externals_after file n party (own_of wires values party) (own_of wires masks party) (replicate (length (own_inputs party wires)) 0)

-- and that at the wires of the party's inputs
abbrev pub own_scattered : List ℕ → ℕ → List Wire → List ℕ → List ℕ → ℕ → List ℕ → List ℕ
own_scattered file n wires values masks party before = scattered party wires (own_after file n wires values masks party) before

-- the promise of that call
abbrev pub OwnCall : List ℕ → ℕ → List Wire → List ℕ → List ℕ → ℕ → ℕ → ℕ → Type 0
OwnCall file n wires values masks party number place =
    ExternalsCall file n party (own_of wires values party) (own_of wires masks party) (replicate (length (own_inputs party wires)) 0) number place
    (own_after file n wires values masks party)

-- the values of the first n parties, at their inputs' wires
unfoldable pub gathered : List ℕ → ℕ → List Wire → List ℕ → List ℕ → List ℕ → ℕ → List ℕ
gathered file n wires values masks before zero = before
gathered file n wires values masks before (suc party) =
    own_scattered file n wires values masks party (gathered file n wires values masks before party)

-- each party's call was made, and what they wrote stands at their inputs' wires
pub record Masked (file : List ℕ) (n : ℕ) (wires : List Wire) (values masks before after : List ℕ) : Type 0 where
  pub calls : (party : ℕ) → party < n → Answered (OwnCall file n wires values masks party)
  pub after_is : after ≡ gathered file n wires values masks before n
