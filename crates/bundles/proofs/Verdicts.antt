-- What the checks of the calls come to, test by test, and what they give where they accept.
-- Assumes nothing.
use mathlib.Core.Path.{◌≡◌, sym, ap, subst, ◌∙◌}
use mathlib.Core.Bool.{Bool, true, ◌&&◌}
use mathlib.Core.List.{List}
use Prim.Native.Nat.{ℕ, ◌+◌, ◌*◌, ◌≤◌, ◌<◌}
use native.Mathlib.Omega.{arith}
use lib.Dec.{eqb, leb, ltb}
use lib.ListN.{length}
use borrow.Author.Tests.{leb-true, ltb-true, eqb-true}
use Rattle.residue.proofs.Table.{and_left, and_right}
use Rattle.checks.specs.declared.Refusal.{Refusal}
use Rattle.checks.specs.declared.Refusal.TheVariants.{NotMade, TooMany, WrongLength, TooShort, BundleRange, IntegerTooLarge}
use Rattle.checks.specs.Answer.{Answer, accepts, number_in, place_in}
use Rattle.checks.specs.Checked.{and_then, unless}
use Rattle.checks.proofs.Answers.{afterwards-refused, reports}
use Rattle.checks.proofs.Passed.{and_then-left, and_then-right, unless-true, afterwards_passed}
use Rattle.writer.specs.Call.{file_with}
use Rattle.bundles.specs.declared.operation.Operation.{Operation}
use Rattle.bundles.specs.Primes.{product}
use Rattle.bundles.specs.Part.{part_words}
use Rattle.bundles.specs.Integers.{split, join, all_below}
use Rattle.bundles.specs.Call.{range_checked, size_checked, integer_checked, split_checked, join_checked, constant_checked, are_below, place_checked, part_checked, SplitCall}
use Rattle.bundles.specs.Climb.{Joins}
use Rattle.bundles.specs.Laying.{Counts, taken_to, Makes}
use Rattle.std.specs.Prelude.{Result, Ok, Err}
use Rattle.checks.specs.declared.Refused.{Refused}

-- ---- one test, of a Bool that is known under another name

pub test_is : {b t : Bool} (reason : Refusal) {answer : Answer} → answer ≡ unless t reason 0 → t ≡ b → answer ≡ unless b reason 0
test_is reason e f = e ∙ ap (λ (x : Bool). unless x reason 0) f

-- ---- what acceptance gives

pub record InRange (r : ℕ) : Type 0 where
  pub two : 2 ≤ r
  pub ten : r ≤ 10

range_passed : (r : ℕ) → range_checked r ≡ accepts → InRange r
unfolding range_checked
range_passed r e =
    let both = unless-true (leb 2 r && leb r 10) BundleRange 0 e in
    record { two = leb-true 2 r (and_left (leb 2 r) (leb r 10) both); ten = leb-true r 10 (and_right (leb 2 r) (leb r 10) both) }

size_passed : (r size : ℕ) → size_checked r size ≡ accepts → size ≡ r
size_passed r size e = eqb-true size r (unless-true (eqb size r) WrongLength 0 e)

-- as the code asks for it, behind its check
pub range_ten : {r : ℕ} {answer : Answer} → answer ≡ range_checked r → answer ≡ accepts → r ≤ 10
range_ten {r} e f = (range_passed r (sym e ∙ f)).ten

pub size_same : {r size : ℕ} {answer : Answer} → answer ≡ size_checked r size → answer ≡ accepts → size ≡ r
size_same {r} {size} e f = size_passed r size (sym e ∙ f)

pub record SplitPassed (r x bytes : ℕ) : Type 0 where
  pub range : InRange r
  pub size : bytes ≡ r
  pub below : x < product r

pub split_passed : (r x bytes : ℕ) → split_checked r x bytes ≡ accepts → SplitPassed r x bytes
unfolding split_checked
split_passed r x bytes e =
    let rest = and_then-right (range_checked r) (and_then (size_checked r bytes) (integer_checked r x)) e in
    record {
      range = range_passed r (and_then-left (range_checked r) (and_then (size_checked r bytes) (integer_checked r x)) e);
      size = size_passed r bytes (and_then-left (size_checked r bytes) (integer_checked r x) rest);
      below = ltb-true x (product r) (unless-true (ltb x (product r)) IntegerTooLarge 0 (and_then-right (size_checked r bytes) (integer_checked r x) rest));
    }

pub record JoinPassed (r : ℕ) (residues : List ℕ) : Type 0 where
  pub range : InRange r
  pub size : length residues ≡ r
  pub below : all_below r residues ≡ true

pub join_passed : (r : ℕ) (residues : List ℕ) → join_checked r residues ≡ accepts → JoinPassed r residues
unfolding join_checked
join_passed r residues e =
    let last = unless (all_below r residues) IntegerTooLarge 0 in
    let rest = and_then-right (range_checked r) (and_then (size_checked r (length residues)) last) e in
    record {
      range = range_passed r (and_then-left (range_checked r) (and_then (size_checked r (length residues)) last) e);
      size = size_passed r (length residues) (and_then-left (size_checked r (length residues)) last rest);
      below = unless-true (all_below r residues) IntegerTooLarge 0 (and_then-right (size_checked r (length residues)) last rest);
    }

-- as the code asks for it
pub join_asks : {r : ℕ} {residues : List ℕ} → JoinPassed r residues → (length residues ≤ 10) × (all_below (length residues) residues ≡ true)
join_asks p = (omega (arith, p.range.ten, p.size), rw p.size p.below)

pub record PartPassed (operation : Operation) (r first a size : ℕ) : Type 0 where
  pub range : InRange r
  pub below : are_below operation r first a ≡ true
  pub wires : first + r ≤ 1024
  pub room : 4 * length (part_words operation r a) ≤ size

taken_below : (operation : Operation) (r first a : ℕ) → first + r ≤ 1024 → are_below operation r first a ≡ true → taken_to operation a r ≤ 1024
taken_below (Operation.Add b) r first a h e =
    omega (
      arith,
      leb-true (a + r) first (and_left (leb (a + r) first) (leb (b + r) first) e),
      leb-true (b + r) first (and_right (leb (a + r) first) (leb (b + r) first) e),
    )
taken_below (Operation.Multiply b) r first a h e =
    omega (
      arith,
      leb-true (a + r) first (and_left (leb (a + r) first) (leb (b + r) first) e),
      leb-true (b + r) first (and_right (leb (a + r) first) (leb (b + r) first) e),
    )
taken_below (Operation.Scale constant) r first a h e = omega (arith, leb-true (a + r) first e)

pub part_passed : (operation : Operation) (r first a size : ℕ) {answer : Answer} → answer ≡ part_checked operation r first a size → answer ≡ accepts
    → PartPassed operation r first a size
unfolding part_checked
part_passed operation r first a size m passes =
    let e : part_checked operation r first a size ≡ accepts = sym m ∙ passes in
    let n = 4 * length (part_words operation r a) in
    let fifth = unless (are_below operation r first a) NotMade 0 in
    let eighth = unless (leb (first + r) 1024) TooMany 0 in
    let last = unless (leb n size) TooShort 0 in
    let second = and_then (constant_checked operation r) (place_checked operation r first a size) in
    let place = and_then-right (constant_checked operation r) (place_checked operation r first a size) (and_then-right (range_checked r) second e) in
    let rest = and_then-right fifth (and_then eighth last) place in
    record {
      range = range_passed r (and_then-left (range_checked r) second e);
      below = unless-true (are_below operation r first a) NotMade 0 (and_then-left fifth (and_then eighth last) place);
      wires = leb-true (first + r) 1024 (unless-true (leb (first + r) 1024) TooMany 0 (and_then-left eighth last rest));
      room = leb-true n size (unless-true (leb n size) TooShort 0 (and_then-right eighth last rest));
    }

pub part_placed : {operation : Operation} {r first a size : ℕ} → PartPassed operation r first a size → taken_to operation a r ≤ 1024
part_placed {operation} {r} {first} {a} p = taken_below operation r first a p.wires p.below

-- ---- what the calls promise, accepted and refused

module _ {r : ℕ} {residues : List ℕ} {answer : Answer} (m : answer ≡ join_checked r residues) where
  pub joins_accepted : {x : ℕ} → answer ≡ accepts → x ≡ join (length residues) residues → Joins r residues (Ok x)
  joins_accepted e f =
      record { answer = sym e ∙ m; integer = f ∙ ap (λ (n : ℕ). join n residues) (join_passed r residues (sym m ∙ e)).size }

  pub joins_refused : {why : Refused} {found : Result ℕ Refused} → answer ≡ Err why → found ≡ Err why → Joins r residues found
  joins_refused e f = subst (Joins r residues) (sym f) (record { answer = sym e ∙ m; integer = tt })

module _ {operation : Operation} {r first a : ℕ} {before : List ℕ} {answer : Answer} (m : answer ≡ part_checked operation r first a (length before)) where
  pub makes_laid : {n : ℕ} {after : List ℕ} → answer ≡ accepts → Counts operation r n → after ≡ file_with (part_words operation r a) before
      → Makes operation r first a before (Ok n) after
  makes_laid e g k =
      record {
        answer = sym e ∙ m;
        words = g.count a;
        file_is = k ∙ sym (afterwards_passed (sym m ∙ e) (file_with (part_words operation r a) before) before);
      }

  pub makes_refused : {why : Refused} {made : Result ℕ Refused} → answer ≡ Err why → made ≡ Err why → Makes operation r first a before made before
  makes_refused e f =
      subst (λ (made : Result ℕ Refused). Makes operation r first a before made before) (sym f)
      (record {
        answer = sym e ∙ m;
        words = tt;
        file_is = afterwards-refused (sym m ∙ e) (file_with (part_words operation r a) before) before;
      })

module _ {r x : ℕ} {before : List ℕ} {answer : Answer} (m : answer ≡ split_checked r x (length before)) where
  pub splits_accepted : {after : List ℕ} → answer ≡ accepts → after ≡ split (length before) x → SplitCall r x before 0 0 after
  splits_accepted e f =
      record {
        answer = reports (sym e ∙ m);
        residues_are =
            f
            ∙ ap (λ (n : ℕ). split n x) (split_passed r x (length before) (sym m ∙ e)).size
            ∙ sym (afterwards_passed (sym m ∙ e) (split r x) before);
      }

  pub splits_refused : {why : Refused} {told : Answer} → answer ≡ Err why → told ≡ Err why → SplitCall r x before (number_in told) (place_in told) before
  splits_refused e f =
      record { answer = reports (f ∙ sym e ∙ m); residues_are = afterwards-refused (sym m ∙ e) (split r x) before }
