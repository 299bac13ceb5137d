-- Laws of what is left to judge after the last record: one a test.
-- Assumes nothing.
use mathlib.Core.Path.{◌≡◌, sym, ap, ◌∙◌}
use Prim.Native.Nat.{ℕ, ◌+◌, ◌*◌, ◌≤◌, ◌<◌}
use lib.Dec.{leb, ltb}
use borrow.Author.Tests.{le-leb, lt-leb, lt-ltb}
use Rattle.checks.specs.declared.Refusal.TheVariants.{NoOutput, WrongLength, TooShort}
use Rattle.writer.specs.declared.pen.Pen.{Pen}
use Rattle.writer.specs.Settling.{room_for, all_taken_by, some_given_by, settled_from}
use Rattle.std.specs.Prelude.{Result, Ok, Err}
use Rattle.checks.specs.declared.Refused.{Refused}
use Rattle.checks.specs.Answer.{accepts}

module _ (pen : Pen) (tables file : ℕ) {s : Result ℕ Refused} where
  pub none-given : pen.given ≡ 0 → s ≡ Err (record { reason = NoOutput; place = pen.made + pen.given }) → s ≡ some_given_by pen tables file (ltb 0 pen.given)
  unfolding some_given_by
  none-given h e = e ∙ sym (ap (λ (g : ℕ). some_given_by pen tables file (ltb 0 g)) h)

  module _ (given : 0 < pen.given) where
    some_given : s ≡ all_taken_by pen file (leb tables pen.taken) → s ≡ some_given_by pen tables file (ltb 0 pen.given)
    unfolding some_given_by
    some_given e = e ∙ sym (ap (some_given_by pen tables file) (lt-ltb 0 pen.given given))

    pub left_over : pen.taken < tables → s ≡ Err (record { reason = WrongLength; place = pen.made + pen.given }) → s ≡ some_given_by pen tables file (ltb 0 pen.given)
    unfolding all_taken_by
    left_over h e = some_given (e ∙ sym (ap (all_taken_by pen file) (lt-leb tables pen.taken h)))

    module _ (taken : tables ≤ pen.taken) where
      all-taken : s ≡ room_for pen (leb (4 * (pen.at + 1)) file) → s ≡ some_given_by pen tables file (ltb 0 pen.given)
      unfolding all_taken_by
      all-taken e = some_given (e ∙ sym (ap (all_taken_by pen file) (le-leb tables pen.taken taken)))

      pub too_short : file < 4 * (pen.at + 1) → s ≡ Err (record { reason = TooShort; place = 0 }) → s ≡ some_given_by pen tables file (ltb 0 pen.given)
      unfolding room_for
      too_short h e = all-taken (e ∙ sym (ap (room_for pen) (lt-leb (4 * (pen.at + 1)) file h)))

      pub has_room :
          4 * (pen.at + 1) ≤ file
          → s ≡ Ok (pen.at + 1)
          → s ≡ some_given_by pen tables file (ltb 0 pen.given)
      unfolding room_for
      has_room h e = all-taken (e ∙ sym (ap (room_for pen) (le-leb (4 * (pen.at + 1)) file h)))

  pub settles_on : pen.answer ≡ accepts → s ≡ some_given_by pen tables file (ltb 0 pen.given) → s ≡ settled_from pen tables file pen.answer
  unfolding settled_from
  settles_on e f = f ∙ sym (ap (settled_from pen tables file) e)

  pub settles_off :
      {why : Refused}
      → pen.answer ≡ Err why
      → s ≡ Err why
      → s ≡ settled_from pen tables file pen.answer
  unfolding settled_from
  settles_off e f = f ∙ sym (ap (settled_from pen tables file) e)
