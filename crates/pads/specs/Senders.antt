-- Order 7 of document 02, "Pads sender by sender": what the sums of an entry hold after each sender, and the step that takes one.
-- Assumes nothing.
use Rattle.std.specs.Prelude.{◌≡◌, Bool, List, ℕ, ◌+◌, ◌<◌, length}
use Rattle.lists.specs.Blocks.{nth_piece}
use Rattle.residue.specs.Vector.{AllBelow}
use Rattle.pads.specs.Pad.{shake_pad, pad_sum}
use Rattle.pads.specs.Moved.{moved}
use Rattle.pads.specs.Binding.{under_of, bound_by}
use Rattle.pads.specs.declared.input.Bound.{Bound}

-- the sums of an entry after the first j senders: their pads for its receiver, put on what stood there before, or taken off it
abbrev pub sums : Bool → ℕ → Bound → ℕ → List ℕ → List ℕ → ℕ → List ℕ
sums minus q b receiver keys before j = moved minus q before (pad_sum (shake_pad b.round) (length before) q (under_of b) keys receiver j)

-- a step takes sender j: sums of the first j senders in, of the first j + 1 out, whatever stood there before
pub record TakesSender (minus : Bool) (q : ℕ) (b : Bound) (receiver : ℕ) (keys : List ℕ) (j : ℕ) (ins outs : List ℕ) : Type 0 where
  pub next : (before : List ℕ) → ins ≡ sums minus q b receiver keys before j → outs ≡ sums minus q b receiver keys before (j + 1)

-- of an entry whose bytes are residues, such a step takes the pad of sender j completely, and nothing else: it leaves no byte open
abbrev pub TakesCompletely : Type 0
TakesCompletely =
    (minus : Bool) (q : ℕ) (b : Bound) (receiver : ℕ) (keys : List ℕ) (j : ℕ) (ins outs : List ℕ)
    → 1 < q → AllBelow q ins → TakesSender minus q b receiver keys j ins outs
    → outs ≡ moved minus q ins (shake_pad b.round q (length ins) (bound_by b receiver (nth_piece keys (length ins) j)))
