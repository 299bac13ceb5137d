-- Document 01, "Where each check stands": what checks come to, which is an answer, and what a call then tells its caller and leaves in what it
-- was lent.
-- Assumes nothing.
use Rattle.std.specs.Prelude.{◌≡◌, Bool, true, false, ℕ, leb, Ok, Err}
use Rattle.lists.specs.First.{first}
use Rattle.checks.specs.declared.Refusal.{Refusal}
use Rattle.checks.specs.Answer.{Answer, accepts, refuses, number_in, place_in}

-- a check is made where those before it accept
unfoldable pub and_then : Answer → Answer → Answer
and_then (Ok done) next = next
and_then (Err why) next = Err why

-- one test, refused at a place
unfoldable pub unless : Bool → Refusal → ℕ → Answer
unless true reason place = accepts
unless false reason place = refuses reason place

-- what a search of the numbers below n comes to: refused at the one that it found; a number not below n tells that there was none
abbrev pub named : ℕ → ℕ → Refusal → Answer
named n found reason = unless (leb n found) reason found

-- a test of each number below n, refused at the lowest that is bad
unfoldable pub none_bad : ℕ → (ℕ → Bool) → Refusal → Answer
none_bad n bad reason = named n (first n bad) reason

-- the two numbers that a C call gives its caller
pub record Reports (answer : Answer) (number place : ℕ) : Type 0 where
  pub number_is : number ≡ number_in answer
  pub place_is : place ≡ place_in answer

-- what a lent buffer holds after the call: what is written where the call is accepted, what it held where it is refused
unfoldable pub afterwards {ℓ} : {A : Type ℓ} → Answer → A → A → A
afterwards (Ok done) new old = new
afterwards (Err why) new old = old
