-- `circuit::reader::read` meets its contract. The loop's invariant is `Loop` of proofs/Turn.antt, and the answers are its laws,
-- one for each thing that a word can do. The measure is the number of words that are left.
-- Assumes nothing.
use mathlib.Core.Path.{◌≡◌, refl, ◌∙◌, sym, ap}
use mathlib.Core.Bool.{Bool, true, false, cond}
use Prim.Native.Nat.{ℕ, ◌≤◌, ◌<◌}
use native.Mathlib.Omega.{arith}
use lib.ListN.{take}
use lib.Seq.{length-take-le}
use mathlib.Core.List.{List}
use Rattle.words.specs.declared.gate.Due.{Due}
use Rattle.words.specs.declared.gate.Step.{Step}
use Rattle.words.specs.declared.gate.Wire.{Wire}
use Rattle.words.specs.Bits.{word_at}
use Rattle.words.specs.Reading.{read_word}
use Rattle.circuit.specs.declared.Circuit.{Circuit}
use Rattle.circuit.specs.Wires.{is_input}
use Rattle.circuit.specs.File.{words_in}
use Rattle.circuit.proofs.Turn.{Loop, Turn, near, few, turn, stopped, wire-room, output_room, made_one, gone, given_one, ended_well, holds, ended_early, ran_out, start, no_head, refused-there}
use Rattle.circuit.proofs.Entry.{ran}
use Rattle.circuit.proofs.reader.read.Goals as goal

-- what the word at hand does
turned :
    {file : List ℕ} {wires : List Wire} {moduli outputs : List ℕ} {made inputs given : ℕ} {due : Due} {at words w : ℕ} {r step : Step}
    → Loop file wires moduli outputs made inputs given due at → words ≡ words_in file → at < words → w ≡ word_at file at
    → r ≡ step → r ≡ read_word (take made moduli) given at due w
    → Turn file at (take made wires) (take given outputs) step
turned {step = step} l e h f g k = turn l (omega (arith, e, h)) _ f step (sym g ∙ k)

small : (b : Bool) {n : ℕ} → n ≡ cond b 1 0 → n ≤ 1
small true e = omega arith
small false e = omega arith

pub returns-then-not-has_head : goal.returns-then-not-has_head
returns-then-not-has_head c = record { ok = tt; err = refused-there _ (no_head _ (sym c.if-not-has_head.ensures)) c.at.ensures }

pub loop-at-init : goal.loop-at-init
loop-at-init c = (refl, start _ _ _ _ (ap (λ (e : Circuit). e.wires) c.empty-circuit.ensures) c.scratch-moduli.ensures (ap (λ (e : Circuit). e.outputs) c.empty-circuit.ensures) (sym c.if-not-has_head.ensures))

pub loop-at-preserved-then-run-gt0 : goal.loop-at-preserved-then-run-gt0
loop-at-preserved-then-run-gt0 c = let l = c.loop-at.invariant.1 in (
  c.loop-at.invariant.0,
  rw c.after_run-due.ensures (ran l _ _ c.entries_here-run.result
      c.in-Entries.is c.if-run-gt0.true c.entries_here-run.ensures),
)

pub overflow_cast-at : goal.overflow_cast-at
overflow_cast-at c = omega (arith, near c.loop-at.invariant.1)

pub read_word-requires : goal.read_word-requires
read_word-requires c = let l = c.loop-at.invariant.1 in
    omega (arith, near l, l.moduli_room, l.made_within, length-take-le c.loop-at.made c.loop-at.moduli)

pub returns-in-Refused : goal.returns-in-Refused
returns-in-Refused c = let l = c.loop-at.invariant.1 in
    record { ok = tt; err = refused-there _ (stopped l (turned l c.loop-at.invariant.0 c.loop-at-test.true c.word_at-w.ensures c.in-Refused.is c.read_word.ensures)) c.at-in-Refused.ensures }

pub bounds-circuit-made : goal.bounds-circuit-made
bounds-circuit-made c = let l = c.loop-at.invariant.1 in
    wire-room l (turned l c.loop-at.invariant.0 c.loop-at-test.true c.word_at-w.ensures c.in-Makes.is c.read_word.ensures)

pub bounds-moduli-made : goal.bounds-moduli-made
bounds-moduli-made c = let l = c.loop-at.invariant.1 in
    wire-room l (turned l c.loop-at.invariant.0 c.loop-at-test.true c.word_at-w.ensures c.in-Makes.is c.read_word.ensures)

pub overflow_add-inputs : goal.overflow_add-inputs
overflow_add-inputs c = let l = c.loop-at.invariant.1 in
    omega (arith, few l, small (is_input c.in-Makes.wire.gate) c.inputs_of-inputs.ensures)

pub loop-at-preserved-in-Makes : goal.loop-at-preserved-in-Makes
loop-at-preserved-in-Makes c = let l = c.loop-at.invariant.1 in (
  c.loop-at.invariant.0,
  rw c.inputs_of-inputs.ensures (made_one l (turned l c.loop-at.invariant.0 c.loop-at-test.true c.word_at-w.ensures c.in-Makes.is c.read_word.ensures)),
)

pub loop-at-preserved-in-Goes : goal.loop-at-preserved-in-Goes
loop-at-preserved-in-Goes c = let l = c.loop-at.invariant.1 in (
  c.loop-at.invariant.0,
  gone l (turned l c.loop-at.invariant.0 c.loop-at-test.true c.word_at-w.ensures c.in-Goes.is c.read_word.ensures),
)

pub bounds-circuit-given : goal.bounds-circuit-given
bounds-circuit-given c = let l = c.loop-at.invariant.1 in
    output_room l (turned l c.loop-at.invariant.0 c.loop-at-test.true c.word_at-w.ensures c.in-Gives.is c.read_word.ensures)

pub loop-at-preserved : goal.loop-at-preserved
loop-at-preserved c = let l = c.loop-at.invariant.1 in (
  c.loop-at.invariant.0,
  given_one l (turned l c.loop-at.invariant.0 c.loop-at-test.true c.word_at-w.ensures c.in-Gives.is c.read_word.ensures),
)

pub returns-then-file-next : goal.returns-then-file-next
returns-then-file-next c = let l = c.loop-at.invariant.1 in
    record {
      ok =
          holds l c.named_before-circuit.ensures
          (ended_well l (turned l c.loop-at.invariant.0 c.loop-at-test.true c.word_at-w.ensures c.in-Ends.is c.read_word.ensures) c.if-file-next.true);
      err = tt;
    }

pub returns-in-Ends : goal.returns-in-Ends
returns-in-Ends c = let l = c.loop-at.invariant.1 in
    record { ok = tt; err = refused-there _ (ended_early l (turned l c.loop-at.invariant.0 c.loop-at-test.true c.word_at-w.ensures c.in-Ends.is c.read_word.ensures) c.if-file-next.false) c.at-in-Ends.ensures }

pub returns : goal.returns
returns c = record { ok = tt; err = refused-there _ (ran_out c.loop-at.invariant.1 (omega (arith, c.loop-at.invariant.0, c.loop-at-test.false))) c.at-2.ensures }
