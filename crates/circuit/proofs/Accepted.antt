-- The theorem: an accepted file gives a circuit of which all of `AcceptedCircuit` is true. By induction on the words that are left:
-- each word keeps the state (State.antt), and the end word accepts it.
-- Assumes nothing.
use mathlib.Core.Path.{◌≡◌, refl}
use mathlib.Core.Bool.{Bool, true, false}
use mathlib.Core.List.{List, []}
use Prim.Native.Nat.{ℕ, zero, suc, ◌+◌, ◌-◌, ◌≤◌, ◌<◌}
use native.Mathlib.Omega.{arith}
use lib.Dec.{ltb}
use lib.ListN.{length}
use borrow.Author.Tests.{ltb-true}
use Rattle.residue.proofs.Table.{and_left}
use Rattle.checks.proofs.Passed.{never}
use Rattle.words.specs.declared.gate.Wire.{Wire}
use Rattle.words.specs.declared.gate.Due.{Due}
use Rattle.words.specs.declared.gate.Due.TheVariants.{Inputs}
use Rattle.words.specs.declared.gate.Step.{Step}
use Rattle.circuit.specs.File.{Read, words_in, ended, after, read_from, headed, read_file}
use Rattle.circuit.specs.Accepted.{AcceptedCircuit}
use Rattle.circuit.proofs.State.{Sound, State, Next, next, nothing}
use Rattle.checks.specs.Answer.{accepts}

-- what acceptance is to give
abbrev Good : List ℕ → Read → Type 0
Good file read = read.answer ≡ accepts → AcceptedCircuit file read.wires read.outputs

finish :
    (b : Bool) (file : List ℕ) (at : ℕ) (wires : List Wire) (given named : List ℕ)
    → Sound file at wires given
    → 0 < length given
    → Good file (ended b at wires given named)
unfolding ended
finish true file at wires given named s l e =
    record {
      wires_limit = s.wires_limit;
      outputs_some = l;
      outputs_limit = s.outputs_limit;
      outputs_made = s.outputs_made;
      inputs_first = s.inputs_first;
      fits = s.fits;
    }
finish false file at wires given named s l e = never e

module _ (file : List ℕ) (at : ℕ) (wires : List Wire) (given : List ℕ) (then : Due → List Wire → List ℕ → Read)
    (rest : (due : Due) (wires : List Wire) (given : List ℕ) → State file (suc at) due wires given → Good file (then due wires given)) where
  step : {s : Step} → Next file at wires given s → Good file (after then file at wires given s)
  unfolding after
  step Next.stops e = never e
  step (Next.makes st) e = rest _ _ _ st e
  step (Next.goes st) e = rest _ _ _ st e
  step (Next.gives st) e = rest _ _ _ st e
  step (Next.ends s some) e = finish _ file at wires given _ s some e

from :
    (file : List ℕ) (left at : ℕ) (due : Due) (wires : List Wire) (given : List ℕ)
    → at + left ≤ words_in file
    → State file at due wires given
    → Good file (read_from file left at due wires given)
unfolding read_from
from file zero at due wires given l st e = never e
from file (suc left) at due wires given l st e =
    step file at wires given (read_from file left (suc at))
    (λ due' wires' given' st'. from file left (suc at) due' wires' given' (omega arith) st')
    (next file at (omega arith) due wires given st)
    e

begun : (b : Bool) (file : List ℕ) → (b ≡ true → 0 < words_in file) → Good file (headed b file)
unfolding headed
begun true file h e = from file (words_in file - 1) 1 Inputs [] [] (omega (arith, h refl)) (nothing file) e
begun false file h e = never e

-- an accepted file's circuit is as document 01 says
pub accepted : (file : List ℕ) → (read_file file).answer ≡ accepts → AcceptedCircuit file (read_file file).wires (read_file file).outputs
unfolding read_file
accepted file = begun _ file (λ e. ltb-true 0 (words_in file) (and_left (ltb 0 (words_in file)) _ e))
