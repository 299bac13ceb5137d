-- How the code puts an answer together: from what a search found, one check after another; and what a call that is refused leaves.
-- Assumes nothing.
use mathlib.Core.Path.{◌≡◌, refl, sym, ap, ◌∙◌}
use mathlib.Core.Bool.{Bool, false}
use Prim.Native.Nat.{ℕ, ◌≤◌, ◌<◌}
use borrow.Author.Tests.{le-leb, lt-leb}
use Rattle.lists.specs.First.{first}
use Rattle.checks.specs.declared.Refusal.{Refusal}
use Rattle.checks.specs.Answer.{Answer, number_in, place_in, accepts, refuses}
use Rattle.checks.specs.Checked.{Reports, and_then, unless, named, none_bad, afterwards}
use Rattle.std.specs.Prelude.{Result, Err, IsErrAnd}
use Rattle.std.proofs.lemmas.Result.{err_from_is_err_and}
use Rattle.checks.specs.declared.Refused.{Refused}

-- ---- one test, and a search

pub unless-refused : {b : Bool} (reason : Refusal) (place : ℕ) → b ≡ false → unless b reason place ≡ refuses reason place
unfolding unless
unless-refused reason place e = rw (e, unless)

module _ (n found : ℕ) (reason : Refusal) where
  pub named_past : n ≤ found → named n found reason ≡ accepts
  unfolding unless
  named_past h = rw (le-leb n found h)

  pub named-found : found < n → named n found reason ≡ refuses reason found
  unfolding unless
  named-found h = rw (lt-leb n found h)

pub none_bad-found : (n : ℕ) (bad : ℕ → Bool) (reason : Refusal) {found : ℕ} {answer : Answer} → found ≡ first n bad → answer ≡ named n found reason → answer ≡ none_bad n bad reason
unfolding none_bad
none_bad-found n bad reason e f = f ∙ ap (λ (i : ℕ). named n i reason) e

-- ---- one check after another, for code that returns at the first refusal

pub and_then_stop : {a : Answer} {why : Refused} (next : Answer) → a ≡ Err why → Err why ≡ and_then a next
unfolding and_then
and_then_stop next e = rw (e, and_then)

pub and_then-next : {a : Answer} (next : Answer) → a ≡ accepts → and_then a next ≡ next
unfolding and_then
and_then-next next e = rw (e, and_then)

-- the same for code that goes on with `?` behind a call that answers what a check is defined to

module _ {x a : Answer} (is : x ≡ a) where
  pub stage_refused : {why : Refused} (next : Answer) → x ≡ Err why → Err why ≡ and_then a next
  stage_refused next e = and_then_stop next (sym is ∙ e)

  pub stage_passed : {answer next : Answer} → x ≡ accepts → answer ≡ next → answer ≡ and_then a next
  stage_passed {answer} {next} e f = f ∙ sym (and_then-next next (sym is ∙ e))

-- the exit of that `?`: what it returns is the refusal that it got
pub passed_on : {A : Type 0} {r : Result A Refused} {why : Refused} → IsErrAnd r (λ w. w ≡ why) → r ≡ Err why
passed_on {A} {r} e = let p = err_from_is_err_and r e in p.1 ∙ ap (λ (w : Refused). Err w) p.2

-- a refusal that code makes
pub refused_at : {reason : Refusal} {place : ℕ} {why : Refused} → why ≡ record { reason = reason; place = place } → Err why ≡ refuses reason place
refused_at e = ap (λ (w : Refused). Err w) e

-- ---- what the caller is told, and a lent buffer after a refusal

pub told : {checks answer : Answer} {number place : ℕ} → answer ≡ checks → number ≡ number_in answer → place ≡ place_in answer → Reports checks number place
told m e f = record { number_is = e ∙ ap number_in m; place_is = f ∙ ap place_in m }

pub reports : {checks answer : Answer} → answer ≡ checks → Reports checks (number_in answer) (place_in answer)
reports m = told m refl refl

pub afterwards-refused {ℓ} : {A : Type ℓ} {checks : Answer} {why : Refused} → checks ≡ Err why → (new old : A) → old ≡ afterwards checks new old
unfolding afterwards
afterwards-refused e new old = rw (e, afterwards)
