-- What is left to judge after the last record, in the code's terms.
-- Assumes nothing.
use Rattle.std.specs.Prelude.{◌≡◌, Bool, true, false, ℕ, ◌+◌, ◌*◌, ◌≤◌, ◌<◌, leb, ltb}
use Rattle.checks.specs.declared.Refusal.TheVariants.{NoOutput, WrongLength, TooShort}
use Rattle.writer.specs.declared.pen.Pen.{Pen}
use Rattle.std.specs.Prelude.{Result, Ok, Err}
use Rattle.checks.specs.declared.Refused.{Refused}
use Rattle.checks.specs.Answer.{Answer}

-- the numbers of a pen are small
pub record Fair (pen : Pen) : Type 0 where
  pub made : pen.made ≤ 1024
  pub given : pen.given ≤ 256
  pub at : pen.at < 900000

-- how many words the file has, or a refusal: 9, entries left over, and 22 last
unfoldable pub room_for : Pen → Bool → Result ℕ Refused
room_for pen true = Ok (pen.at + 1)
room_for pen false = Err (record { reason = TooShort; place = 0 })

unfoldable pub all_taken_by : Pen → ℕ → Bool → Result ℕ Refused
all_taken_by pen file true = room_for pen (leb (4 * (pen.at + 1)) file)
all_taken_by pen file false = Err (record { reason = WrongLength; place = pen.made + pen.given })

unfoldable pub some_given_by : Pen → ℕ → ℕ → Bool → Result ℕ Refused
some_given_by pen tables file true = all_taken_by pen file (leb tables pen.taken)
some_given_by pen tables file false = Err (record { reason = NoOutput; place = pen.made + pen.given })

unfoldable pub settled_from : Pen → ℕ → ℕ → Answer → Result ℕ Refused
settled_from pen tables file (Ok done) = some_given_by pen tables file (ltb 0 pen.given)
settled_from pen tables file (Err why) = Err why

pub record Settles (judged : Pen) (tables file : ℕ) (settled : Result ℕ Refused) : Type 0 where
  pub settles : settled ≡ settled_from judged tables file judged.answer
