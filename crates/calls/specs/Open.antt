-- The call for opening in a round at party s, from its contribution, the external inputs, all input keys and the rows: n·K key
-- bytes and one external byte per wire. After 20 both written buffers are all zero.
-- Assumes nothing.
use Rattle.std.specs.Prelude.{◌≡◌, Bool, not, List, [], ◌∷◌, ℕ, ◌+◌, ◌*◌, length, get_or, replicate}
use Rattle.lists.specs.Blocks.{nth_piece}
use Rattle.checks.specs.declared.Refusal.TheVariants.{WrongInputKey, NoMultiplier}
use Rattle.checks.specs.Checked.{Reports, and_then, none_bad, afterwards}
use Rattle.words.specs.declared.gate.Wire.{Wire}
use Rattle.circuit.specs.Wires.{modulus_at, inputs_in}
use Rattle.circuit.specs.File.{read_file}
use Rattle.counts.specs.Counts.{rows_in}
use Rattle.scheme.specs.Contribution.{contribution_size}
use Rattle.scheme.specs.Draw.{Draw, drawn}
use Rattle.pads.specs.Pad.{Pad, shake_pad}
use Rattle.search.specs.Search.{same}
use Rattle.scheme.specs.Opening.{opened, wire_keys, wire_externals, nothing}
use Rattle.session.specs.Session.{file_checked, session_checked, party_checked, partakers_checked, lengths_checked, values_checked}
use Rattle.scheme.specs.Bytes.{contributions_checked, offsets_checked, keys_checked, rows_checked}
use Rattle.calls.specs.InputKeys.{input_key}
use Rattle.checks.specs.Answer.{Answer}

-- on the wires of a circuit
module _ (n K : ℕ) (wires : List Wire) (contribution externals keys rows : List ℕ) where
  -- 14, where so many bytes are lent for the wires' keys and external values
  abbrev pub open_lengths : ℕ → ℕ → Answer
  open_lengths wkeys wexternals =
      lengths_checked (length contribution ∷ length externals ∷ length keys ∷ length rows ∷ wkeys ∷ wexternals ∷ [])
      (contribution_size K wires ∷ inputs_in wires ∷ inputs_in wires * (n * K) ∷ rows_in wires * (n * K) ∷ length wires * (n * K)
      ∷ length wires ∷ [])

  -- 15 to 18
  abbrev pub open_bytes : Answer
  open_bytes =
      and_then (values_checked externals (modulus_at wires))
      (and_then (contributions_checked 1 K wires contribution)
      (and_then (offsets_checked 1 K wires contribution)
      (and_then (keys_checked n K wires keys)
      (rows_checked n K wires rows))))

  -- 14, then those
  abbrev pub open_lent : ℕ → ℕ → Answer
  open_lent wkeys wexternals = and_then (open_lengths wkeys wexternals) open_bytes

  -- 12, 13 and 28, where the outputs name these, then those
  abbrev pub open_party : List ℕ → ℕ → ℕ → ℕ → Answer
  open_party named party wkeys wexternals = and_then (party_checked n party) (and_then (partakers_checked n wires named) (open_lent wkeys wexternals))

  -- 11, then those
  abbrev pub open_asked : List ℕ → ℕ → ℕ → ℕ → Answer
  open_asked named party wkeys wexternals = and_then (session_checked n K) (open_party named party wkeys wexternals)

-- 19: the party's own key on each input is zero key plus external value times offset
module _ (n K party : ℕ) (wires : List Wire) (contribution externals keys : List ℕ) where
  abbrev pub input_key_wrong : ℕ → Bool
  input_key_wrong w = not (same (nth_piece keys K (w * n + party)) (input_key wires (drawn 1 K wires contribution) externals w))

  abbrev pub own_keys_checked : Answer
  own_keys_checked = none_bad (inputs_in wires) input_key_wrong WrongInputKey

-- 20: no multiplier fits
abbrev pub gates_checked : Pad → ℕ → ℕ → ℕ → List Wire → Draw → List ℕ → List ℕ → List ℕ → Answer
gates_checked pad n K party wires own externals keys rows =
    none_bad (length wires) (λ w. not (get_or (opened pad n K party wires own externals keys rows) w nothing).fits) NoMultiplier

-- what is checked before any gate: the file first
unfoldable pub before_opening : List ℕ → ℕ → ℕ → ℕ → List ℕ → List ℕ → List ℕ → List ℕ → List ℕ → List ℕ → Answer
before_opening file n K party contribution externals keys rows wkeys wexternals =
    and_then
    (and_then (file_checked file)
    (open_asked n K (read_file file).wires contribution externals keys rows (read_file file).named party (length wkeys) (length wexternals)))
    (own_keys_checked n K party (read_file file).wires contribution externals keys)

module _ (pad : Pad) (file : List ℕ) (n K party : ℕ) (contribution externals keys rows wkeys wexternals : List ℕ) where
  abbrev wires : List Wire
  wires = (read_file file).wires

  abbrev own : Draw
  own = drawn 1 K wires contribution

  abbrev before : Answer
  before = before_opening file n K party contribution externals keys rows wkeys wexternals

  abbrev gates : Answer
  gates = gates_checked pad n K party wires own externals keys rows

  unfoldable pub open_checked : Answer
  open_checked = and_then before gates

  -- after 20 both written buffers are all zero; after any other refusal they are as they were
  unfoldable pub open_keys : List ℕ
  open_keys =
      afterwards before (afterwards gates (wire_keys pad n K party wires own externals keys rows) (replicate (length wkeys) 0)) wkeys

  unfoldable pub open_externals : List ℕ
  open_externals =
      afterwards before (afterwards gates (wire_externals pad n K party wires own externals keys rows) (replicate (length wexternals) 0)) wexternals

-- the call's promise, in the round given, which may be any number and enters by the pads alone: the number and place that it answers, and what
-- the bytes lent for the wires' keys and external values hold afterwards
pub record OpenCall (file : List ℕ) (n K party round : ℕ) (contribution externals keys rows wkeys₀ wexternals₀ : List ℕ)
    (number place : ℕ) (wkeys wexternals : List ℕ) : Type 0 where
  pub answer : Reports (open_checked (shake_pad round) file n K party contribution externals keys rows wkeys₀ wexternals₀) number place
  pub wire_keys_is : wkeys ≡ open_keys (shake_pad round) file n K party contribution externals keys rows wkeys₀ wexternals₀
  pub wire_externals_is : wexternals ≡ open_externals (shake_pad round) file n K party contribution externals keys rows wkeys₀ wexternals₀
