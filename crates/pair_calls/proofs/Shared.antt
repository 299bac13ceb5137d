-- What the calls share: the reader's answer and 26, what acceptance gives, and the session of two.
-- Assumes nothing.
use mathlib.Core.Path.{◌≡◌, sym, ap, subst, ◌∙◌}
use mathlib.Core.List.{List}
use Prim.Native.Nat.{ℕ, ◌*◌, ◌≤◌}
use native.Mathlib.Nat.{mul-le-mul}
use native.Mathlib.Omega.{arith}
use Rattle.checks.specs.declared.Refusal.{Refusal}
use Rattle.checks.specs.Checked.{and_then}
use Rattle.checks.proofs.Passed.{and_then-left}
use Rattle.words.specs.declared.gate.Wire.{Wire}
use Rattle.circuit.specs.declared.Circuit.{Circuit}
use Rattle.circuit.specs.File.{read_file}
use Rattle.circuit.specs.Accepted.{AcceptedCircuit}
use Rattle.circuit.specs.Held.{wires_in, outputs_in, Held, Holds}
use Rattle.circuit.proofs.Accepted.{accepted}
use Rattle.session.specs.Session.{file_checked, session_checked}
use Rattle.session.proofs.Sessions.{session-fits}
use Rattle.party_calls.proofs.Ending.{behind_file}
use Rattle.checks.proofs.Answers.{and_then_stop, and_then-next}
use Rattle.pair_calls.specs.Counted.{ReadsForTwo}
use Rattle.pair.specs.Bytes.{selects_checked, pair_file_checked}
use Rattle.pair_calls.specs.Lent.{Ranged}
use Rattle.std.specs.Prelude.{Result, Err, IfErr}
use Rattle.checks.specs.declared.Refused.{Refused}
use Rattle.checks.specs.Answer.{Answer, accepts}

pub small_product : {a b m n : ℕ} → a ≤ m → b ≤ n → a * b ≤ m * n
small_product h k = mul-le-mul h k

-- what is said of a refusal, of the value that holds it
pub refusal_as : {A : Type 0} (P : Refused → Type 0) {r : Result A Refused} {why : Refused} → r ≡ Err why → P why → IfErr r P
refusal_as P e p = rw e p

-- ---- 1 to 10, and 26

module _ (file : List ℕ) where
  pub two_unread : {why : Refused} → (read_file file).answer ≡ Err why → pair_file_checked file ≡ Err why
  two_unread e = sym (and_then_stop (selects_checked file) e)

  pub two_selected : {circuit : Circuit} → Holds circuit (read_file file) → {answer : Answer} → answer ≡ selects_checked file → answer ≡ pair_file_checked file
  two_selected h m = behind_file file (selects_checked file) h m

  -- what is checked behind them
  module _ (rest : Answer) where
    pub two_behind : {circuit : Circuit} → ReadsForTwo file circuit → {check : Answer} → check ≡ rest → check ≡ and_then (pair_file_checked file) rest
    two_behind r m = m ∙ sym (and_then-next rest r.accepted)

-- ---- 11

pub ranged : {circuit : Circuit} (K : ℕ) → Held circuit → session_checked 2 K ≡ accepts → Ranged circuit K
ranged K held e = let f = session-fits 2 K e in record { held = held; long = f.least; short = f.most }
