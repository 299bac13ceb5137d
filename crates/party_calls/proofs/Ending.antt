-- How a call goes on and ends: behind the reader, with its buffer written or left.
-- Assumes nothing.
use mathlib.Core.Path.{◌≡◌, refl, sym, ap, subst, ◌∙◌}
use mathlib.Core.Bool.{Bool, true, false, ◌&&◌, ◌||◌}
use mathlib.Core.List.{List}
use Prim.Native.Nat.{ℕ}
use native.Mathlib.Omega.{arith}
use lib.ListN.{get_or}
use Rattle.std.specs.Prelude.{Ok, Err}
use Rattle.checks.specs.declared.Refused.{Refused}
use Rattle.checks.specs.Answer.{Answer, number_in, place_in, accepts}
use Rattle.checks.specs.Checked.{Reports, and_then, afterwards}
use Rattle.checks.proofs.Answers.{afterwards-refused, reports, and_then_stop, and_then-next}
use Rattle.checks.proofs.Passed.{afterwards_passed}
use Rattle.words.specs.declared.gate.Wire.{Wire}
use Rattle.circuit.specs.declared.Circuit.{Circuit}
use Rattle.circuit.specs.File.{read_file}
use Rattle.circuit.specs.Accepted.{AcceptedCircuit}
use Rattle.circuit.specs.Held.{wires_in, outputs_in, Holds}
use Rattle.circuit.proofs.Accepted.{accepted}
use Rattle.session.specs.Session.{file_checked, lengths_checked}
use Rattle.session.proofs.Sessions.{lengths_same}

-- ---- one stage of checks, and then the next: what follows both follows the second

pub stage_within : (a b c : Answer) → and_then (and_then a b) c ≡ and_then a (and_then b c)
unfolding and_then
stage_within (Ok done) b c = refl
stage_within (Err why) b c = refl

-- ---- where the lengths pass, each is the one wanted

pub lent_is : (lent wanted : List ℕ) → lengths_checked lent wanted ≡ accepts → (i : ℕ) → get_or lent i 0 ≡ get_or wanted i 0
lent_is lent wanted e i = ap (λ (l : List ℕ). get_or l i 0) (lengths_same lent wanted e)

-- ---- what two tests that fail say

pub fails_left : (a b : Bool) → (a || b) ≡ false → a ≡ false
fails_left false b e = refl
fails_left true b e = e

pub fails_right : (a b : Bool) → (a || b) ≡ false → b ≡ false
fails_right false b e = e
fails_right true b e = let z : ◌≡◌ {A = ℕ} 0 1 = cc in absurd (omega arith)

pub fails_guarded : (t b : Bool) → t ≡ true → (t && b) ≡ false → b ≡ false
fails_guarded true b k e = e
fails_guarded false b k e = let z : ◌≡◌ {A = ℕ} 0 1 = cc in absurd (omega arith)

-- ---- the reader comes first

pub circuit-accepted : {circuit : Circuit} (file : List ℕ) → Holds circuit (read_file file) → AcceptedCircuit file (wires_in circuit) (outputs_in circuit)
circuit-accepted {circuit} file h =
    subst (λ (w : List Wire). AcceptedCircuit file w (outputs_in circuit)) (sym h.wires)
    (subst (λ (o : List ℕ). AcceptedCircuit file (read_file file).wires o) (sym h.outputs) (accepted file h.accepted))

module _ (file : List ℕ) (rest : Answer) where
  pub unread : {why : Refused} → (read_file file).answer ≡ Err why → Err why ≡ and_then (file_checked file) rest
  unread e = and_then_stop rest e

  pub behind_file : {circuit : Circuit} → Holds circuit (read_file file) → {check : Answer} → check ≡ rest → check ≡ and_then (file_checked file) rest
  behind_file h m = m ∙ sym (and_then-next rest h.accepted)

-- ---- the buffer

pub ends-refused : {checks answer : Answer} {why : Refused} (new old : List ℕ) → answer ≡ Err why → Err why ≡ checks
    → Reports checks (number_in answer) (place_in answer) × (old ≡ afterwards checks new old)
ends-refused new old e m = (reports (e ∙ m), afterwards-refused (sym m) new old)

pub ends-written : {checks : Answer} {new out : List ℕ} (old : List ℕ) → checks ≡ accepts → out ≡ new → Reports checks 0 0 × (out ≡ afterwards checks new old)
ends-written {new = new} old m o = (reports (sym m), o ∙ sym (afterwards_passed m new old))
