-- What C is told of a call that gives a value where it is accepted: number and place, and what the value's place holds afterwards.
-- Assumes nothing.
use Rattle.std.specs.Prelude.{◌≡◌, ℕ, Result, Ok, Err}
use Rattle.checks.specs.declared.Refused.{Refused}
use Rattle.checks.specs.Answer.{answer_of, number_in, place_in}

-- the value, or where the call is refused what was there before
abbrev pub value_told : {A : Type 0} → Result A Refused → A → A
value_told (Ok value) before = value
value_told (Err why) before = before

pub record Told {A : Type 0} (found : Result A Refused) (before : A) (number place : ℕ) (after : A) : Type 0 where
  pub number_is : number ≡ number_in (answer_of found)
  pub place_is : place ≡ place_in (answer_of found)
  pub after_is : after ≡ value_told found before
