-- Laws of the bound on a run of bytes, and of an answer that names the lowest byte that is too large.
-- Assumes nothing.
use mathlib.Core.Bool.{Bool, cond}
use mathlib.Core.Path.{◌≡◌, refl, sym, ap, ◌∙◌}
use mathlib.Core.List.{List}
use lib.Dec.{ltb}
use Rattle.std.specs.List.{position, position_or_len}
use Rattle.std.specs.Option.{unwrap_or}
use Rattle.std.specs.declared.option.Option.{Option}
use Rattle.std.specs.declared.option.Option.TheVariants.{Some, None}
use Rattle.std.proofs.lemmas.Bool.{cond_below, cond_above}
use Rattle.std.proofs.lemmas.List.Sums.{position_or_len_is}
use Prim.Native.Nat.{ℕ, ◌*◌, ◌≤◌, ◌<◌}
use native.Mathlib.Decide.{dec_lt}
use native.Mathlib.Omega.{arith}
use lib.Dec.{leb}
use lib.ListN.{length, get_or}
use borrow.Author.Tests.{lt-leb}
use Rattle.lists.specs.Blocks.{blocks, runs}
use Rattle.lists.specs.First.{first}
use Rattle.lists.proofs.First.{first_none, first-most, first-before, first-here}
use Rattle.checks.specs.declared.Refusal.{Refusal}
use Rattle.checks.specs.declared.Refusal.TheVariants.{ContributionTooLarge, KeyOrRowTooLarge}
use Rattle.checks.specs.Checked.{named}
use Rattle.checks.proofs.Answers.{none_bad-found}
use Rattle.words.specs.declared.gate.Wire.{Wire}
use Rattle.circuit.specs.Wires.{inputs_in, modulus_at}
use Rattle.counts.specs.Counts.{rows_of}
use Rattle.session.specs.Session.{too_large}
use Rattle.scheme.specs.Contribution.{contribution_moduli}
use Rattle.scheme.specs.Bytes.{bytes_checked, contributions_checked, keys_checked, rows_checked, counted_rows_checked}
use Rattle.contribution.specs.Large.{first_large, Bounded}
use Rattle.checks.specs.Answer.{Answer}

-- ---- a bound, entry by entry

pub record BoundedTo (xs : List ℕ) (most i : ℕ) : Type 0 where
  pub within : i ≤ length xs
  pub entry : (j : ℕ) → j < i → get_or xs j 0 ≤ most

-- where a bound is below p, nothing is too large
pub bounded_none : {xs : List ℕ} {most p : ℕ} → Bounded most xs → most < p → length xs ≡ first (length xs) (λ i. leb p (get_or xs i 0))
bounded_none {xs} {most} {p} r h =
    sym (first_none (length xs) (λ i. leb p (get_or xs i 0)) (λ j l. lt-leb p (get_or xs j 0) (omega (arith, r.entry j l))))

-- where the library looks for the place, and the number of bytes stands for none
pub placed : (p : ℕ) (xs : List ℕ) {found : Option ℕ} → found ≡ position (λ x. leb p x) xs → unwrap_or found (length xs) ≡ first (length xs) (λ i. leb p (get_or xs i 0))
placed p xs {found} e = by (dec_lt least n)
  where
    n : ℕ
    n = length xs

    test : ℕ → Bool
    test i = leb p (get_or xs i 0)

    least : ℕ
    least = first n test

    same : position_or_len (λ x. leb p x) xs ≡ least
    same = position_or_len_is (λ x. leb p x) xs least 0 (first-most n test) (λ k l. first-before n k test l) (λ l. first-here n test l)

    is : found ≡ cond (ltb least n) (Some least) None
    is = e ∙ ap (λ (m : ℕ). cond (ltb m n) (Some m) None) same

    by : Dec (least < n) → unwrap_or found n ≡ least
    by (yes l) = ap (λ (o : Option ℕ). unwrap_or o n) (is ∙ sym (cond_below least n (Some least) None l))
    by (no l) = ap (λ (o : Option ℕ). unwrap_or o n) (is ∙ sym (cond_above least n (Some least) None None (omega arith) refl)) ∙ omega (arith, first-most n test)

-- ---- the answer

pub bytes_met : (xs moduli : List ℕ) (reason : Refusal) {found : ℕ} {answer : Answer} → found ≡ first_large xs (λ i. get_or moduli i 0) → answer ≡ named (length xs) found reason
    → answer ≡ bytes_checked xs moduli reason
unfolding bytes_checked
bytes_met xs moduli reason e f = none_bad-found (length xs) (too_large xs (λ i. get_or moduli i 0)) reason e f

module _ (n K : ℕ) (wires : List Wire) (xs : List ℕ) {found : ℕ} {answer : Answer} where
  pub contributions_met : found ≡ first_large xs (λ i. get_or (blocks n (λ party. contribution_moduli K wires)) i 0) → answer ≡ named (length xs) found ContributionTooLarge
      → answer ≡ contributions_checked n K wires xs
  unfolding contributions_checked
  contributions_met e f = bytes_met xs (blocks n (λ party. contribution_moduli K wires)) ContributionTooLarge e f

  pub keys_met : found ≡ first_large xs (λ i. get_or (runs (inputs_in wires) (λ w. n * K) (modulus_at wires)) i 0) → answer ≡ named (length xs) found KeyOrRowTooLarge
      → answer ≡ keys_checked n K wires xs
  unfolding keys_checked
  keys_met e f = bytes_met xs (runs (inputs_in wires) (λ w. n * K) (modulus_at wires)) KeyOrRowTooLarge e f

  pub rows_met : found ≡ first_large xs (λ i. get_or (runs (length wires) (λ w. rows_of wires w * (n * K)) (modulus_at wires)) i 0) → answer ≡ named (length xs) found KeyOrRowTooLarge
      → answer ≡ rows_checked n K wires xs
  unfolding counted_rows_checked
  rows_met e f = bytes_met xs (runs (length wires) (λ w. rows_of wires w * (n * K)) (modulus_at wires)) KeyOrRowTooLarge e f
