-- What a host in C sees of whole numbers, from what the calls promise.
-- Assumes nothing.
use mathlib.Core.Path.{◌≡◌, refl, sym, ap, ap₂, subst, ◌∙◌}
use mathlib.Core.Bool.{true, ◌&&◌}
use mathlib.Core.List.{List}
use Prim.Native.Nat.{ℕ, zero, suc, ◌*◌, ◌%◌, ◌≤◌, ◌<◌}
use native.Mathlib.Nat.{mod-lt, mod-eq_of_lt, le_refl}
use native.Mathlib.Omega.{arith}
use lib.ListN.{length, get_or, take, drop}
use lib.Seq.{take_at}
use borrow.Author.Tests.{le-leb, lt-ltb, eq-eqb}
use Rattle.lists.specs.Blocks.{tab}
use Rattle.lists.proofs.Blocks.{length-tab, get_or-tab}
use Rattle.checks.proofs.Numbers.{zero_passed, passed_zero}
use Rattle.checks.proofs.Passed.{and_then_passed, unless_passed, afterwards_passed}
use Rattle.words.specs.Encode.{file_of}
use Rattle.words.proofs.Files.{length-file}
use Rattle.writer.specs.Call.{file_with}
use Rattle.bundles.specs.declared.operation.Operation.{Operation}
use Rattle.bundles.specs.Primes.{prime, product}
use Rattle.bundles.specs.Integers.{split, join, all_below}
use Rattle.bundles.specs.Part.{part_words}
use Rattle.bundles.specs.Call.{range_checked, split_checked, join_checked, SplitCall, PartCall, JoinCall}
use Rattle.bundles.proofs.JoinedLaws.{prime-positive, products_positive, join_any, split-join}
use Rattle.bundles.proofs.Verdicts.{InRange, split_passed, join_passed, part_passed}
use Rattle.integers.specs.Reach.{Has}
use Rattle.integers.specs.Bundle.{result}
use Rattle.integers.specs.Host.{SplitIsCarried, JoinedTo, SplitThenJoined, JoinedThenSplit, JoinedIsCarried, JoinedIsResult}
use Rattle.integers.proofs.Computes.{computes}
use Rattle.integers.proofs.Figures.{entered, decoded_are}
use Rattle.checks.specs.Answer.{accepts}

-- what a call that accepts has written
split_wrote : {r x place : ℕ} {residues₀ residues : List ℕ} → SplitCall r x residues₀ 0 place residues → residues ≡ split r x
split_wrote {r} {x} {residues₀ = residues₀} c = c.residues_are ∙ afterwards_passed (zero_passed c.answer refl) (split r x) residues₀

pub split_is_carried : SplitIsCarried
split_is_carried file values residues₀ residues r first x place good bundle within call same =
    entered file values r first x good bundle within (same ∙ split_wrote call)

part_wrote : {operation : Operation} {r first a words₀ place words : ℕ} {buffer₀ buffer : List ℕ} → PartCall operation r first a buffer₀ words₀ 0 place buffer words
    → take (4 * words) buffer ≡ file_of (part_words operation r a)
part_wrote {operation} {r} {first} {a} {words₀} {buffer₀ = buffer₀} {buffer} c =
    let good = zero_passed c.answer refl in
    let ws : List ℕ = part_words operation r a in
    ap (λ (n : ℕ). take (4 * n) buffer) (c.words_is ∙ afterwards_passed good (length ws) words₀)
    ∙ ap (take (4 * length ws)) (c.file_is ∙ afterwards_passed good (file_with ws buffer₀) buffer₀)
    ∙ take_at (file_of ws) (drop (4 * length ws) buffer₀) (4 * length ws) (length-file ws)

-- residues of an integer are below their primes, so joining accepts them
module _ (r z : ℕ) (ten : r ≤ 10) where
  below_primes : (k : ℕ) → k ≤ r → all_below k (split r z) ≡ true
  unfolding all_below split
  below_primes zero h = refl
  below_primes (suc k) h =
      ap₂ ◌&&◌ (below_primes k (omega arith))
      (lt-ltb (get_or (tab r (λ i. z % prime i)) k 0) (prime k)
      (rw (get_or-tab r (λ i. z % prime i) k 0 (omega arith)) (mod-lt z (prime-positive k (omega arith)))))

  joins : 2 ≤ r → join_checked r (split r z) ≡ accepts
  unfolding join_checked range_checked split
  joins two =
      and_then_passed (unless_passed _ 0 (ap₂ ◌&&◌ (le-leb 2 r two) (le-leb r 10 ten)))
      (and_then_passed (unless_passed _ 0 (eq-eqb (length (tab r (λ i. z % prime i))) r (length-tab r (λ i. z % prime i)))) (unless_passed _ 0 (below_primes r (le_refl r))))

joined_to : (r z : ℕ) {bytes : List ℕ} {integer₀ number place integer : ℕ} → 2 ≤ r → r ≤ 10 → bytes ≡ split r z → JoinCall r bytes integer₀ number place integer
    → JoinedTo (z % product r) number integer
joined_to r z {bytes} {integer₀} two ten e c =
    let good : join_checked r bytes ≡ accepts = ap (join_checked r) e ∙ joins r z ten two in
    record {
      accepted = passed_zero c.answer good;
      is = c.integer_is ∙ afterwards_passed good (join r bytes) integer₀ ∙ ap (join r) e ∙ join_any r ten z;
    }

-- ---- there and back

pub split_then_joined : SplitThenJoined
split_then_joined residues₀ residues r x place integer₀ number place' integer call join-call =
    let p = split_passed r x (length residues₀) (zero_passed call.answer refl) in
    let j = joined_to r x p.range.two p.range.ten (split_wrote call) join-call in
    record { accepted = j.accepted; is = j.is ∙ mod-eq_of_lt p.below }

-- what joining gives is below the product
join-small : (r : ℕ) (residues : List ℕ) → r ≤ 10 → residues ≡ split r (join r residues) → join r residues < product r
join-small r residues ten e = omega (arith, ap (join r) e ∙ join_any r ten (join r residues), mod-lt (join r residues) (products_positive r ten))

split_accepts : (r x size : ℕ) → InRange r → size ≡ r → x < product r → split_checked r x size ≡ accepts
unfolding split_checked range_checked
split_accepts r x size range e below =
    and_then_passed (unless_passed _ 0 (ap₂ ◌&&◌ (le-leb 2 r range.two) (le-leb r 10 range.ten)))
    (and_then_passed (unless_passed _ 0 (eq-eqb size r e)) (unless_passed _ 0 (lt-ltb x (product r) below)))

pub joined_then_split : JoinedThenSplit
joined_then_split residues residues₀ given r integer₀ integer place number place' call size split-call =
    let good = zero_passed call.answer refl in
    let p = join_passed r residues good in
    let same : split r (join r residues) ≡ residues = split-join r residues p.range.ten p.size p.below in
    let is : integer ≡ join r residues = call.integer_is ∙ afterwards_passed good (join r residues) integer₀ in
    let accepts = split_accepts r integer (length residues₀) p.range size (rw is (join-small r residues p.range.ten (sym same))) in
    record {
      accepted = passed_zero split-call.answer accepts;
      is = split-call.residues_are ∙ afterwards_passed accepts (split r integer) residues₀ ∙ ap (split r) is ∙ same;
    }

-- ---- a round, and joining

pub joined_is_carried : JoinedIsCarried
joined_is_carried file n K round contributions values meter lent results r first z at party integer₀ number place integer
    conditions played two ten carries shown below may join-call =
    joined_to r z two ten (decoded_are file n K round contributions values meter lent results conditions played carries shown party below may) join-call

pub joined_is_result : JoinedIsResult
joined_is_result file n K round contributions values meter lent results operation r first a x y at party buffer₀ buffer words₀ words place integer₀ number place' integer
    conditions played call has carried shown below may join-call =
    let checks = zero_passed call.answer refl in
    let range = (part_passed operation r first a (length buffer₀) refl checks).range in
    let there : Has file first (file_of (part_words operation r a)) = subst (Has file first) (part_wrote call) has in
    let carries = computes file values operation r first a x y (length buffer₀) conditions.accepted checks there carried in
    joined_is_carried file n K round contributions values meter lent results r first (result operation x y) at party integer₀ number place' integer
    conditions played range.two range.ten carries shown below may join-call
