-- Laws of the marks: a table of 0 and 1, one more wire at a time.
-- Assumes nothing.
use mathlib.Core.Path.{◌≡◌, refl, sym, ap, ◌∙◌}
use mathlib.Core.Bool.{Bool, true, false, ◌||◌}
use mathlib.Core.List.{List}
use Prim.Native.Nat.{ℕ, ◌+◌, ◌≤◌, ◌<◌}
use mir.Val.{bool_byte}
use native.Mathlib.Numerals.{add-one}
use native.Mathlib.Omega.{arith}
use native.Mathlib.Decide.{ℕ_discrete}
use borrow.Author.Tests.{eq-eqb, ne_eqb}
use lib.Dec.{eqb}
use lib.ListN.{length, get_or, set, replicate, length-set}
use lib.Seq.{get_or-set_same, get_or-set_other}
use Rattle.lists.specs.Blocks.{tab, sum_to}
use Rattle.lists.proofs.Sums.{sum_to_ext}
use Rattle.lists.proofs.Blocks.{length-tab, get_or-tab, is-tab, replicate-tab}
use Rattle.counts.specs.Counts.{mark, Counts}
use Rattle.counts.specs.Moduli.{some_below}

-- which values f takes below i, among the numbers below n
abbrev pub marked : ℕ → (ℕ → ℕ) → ℕ → List ℕ
marked n f i = tab n (λ p. mark (some_below i (λ w. eqb (f w) p)))

pub marked_none : (n : ℕ) (f : ℕ → ℕ) → replicate n 0 ≡ marked n f 0
unfolding some_below
marked_none n f = replicate-tab n 0

same-mark : (b : Bool) → 1 ≡ mark (b || true)
same-mark true = refl
same-mark false = refl

other_mark : (b : Bool) → mark b ≡ mark (b || false)
other_mark true = refl
other_mark false = refl

pub marked_next : (n : ℕ) (f : ℕ → ℕ) (i q : ℕ) → q < n → q ≡ f i → set (marked n f i) q 1 ≡ marked n f (i + 1)
unfolding some_below
marked_next n f i q h e =
    rw add-one
    (is-tab n (λ p. mark (some_below i (λ w. eqb (f w) p) || eqb (f i) p)) (set (marked n f i) q 1) 0
    (length-set (marked n f i) q 1 ∙ length-tab n (λ p. mark (some_below i (λ w. eqb (f w) p))))
    at)
  where
    at : (p : ℕ) → p < n → get_or (set (marked n f i) q 1) p 0 ≡ mark (some_below i (λ w. eqb (f w) p) || eqb (f i) p)
    at p l = by_case (ℕ_discrete p q)
      where
        long : q < length (marked n f i)
        long = omega (arith, length-tab n (λ p. mark (some_below i (λ w. eqb (f w) p))))

        by_case : Dec (p ≡ q) → get_or (set (marked n f i) q 1) p 0 ≡ mark (some_below i (λ w. eqb (f w) p) || eqb (f i) p)
        by_case (yes k) =
            ap (λ (j : ℕ). get_or (set (marked n f i) q 1) j 0) k
            ∙ get_or-set_same (marked n f i) q 1 0 long
            ∙ same-mark (some_below i (λ w. eqb (f w) p))
            ∙ ap (λ (b : Bool). mark (some_below i (λ w. eqb (f w) p) || b)) (sym (eq-eqb (f i) p (sym e ∙ sym k)))
        by_case (no k) =
            get_or-set_other (marked n f i) q p 1 0 k
            ∙ get_or-tab n (λ p. mark (some_below i (λ w. eqb (f w) p))) p 0 l
            ∙ other_mark (some_below i (λ w. eqb (f w) p))
            ∙ ap (λ (b : Bool). mark (some_below i (λ w. eqb (f w) p) || b)) (sym (ne_eqb (f i) p (λ z. k (sym z ∙ sym e))))

-- a test as a number is a mark
pub test_counts : (b : Bool) {r : ℕ} → r ≡ bool_byte b → Counts 1 (mark b) r
test_counts true e = record { is = e; most = omega (arith, e) }
test_counts false e = record { is = e; most = omega (arith, e) }

-- all turns are taken
pub marked_all : (f : ℕ → ℕ) {i n : ℕ} {out : List ℕ} → out ≡ marked 256 f i → i ≤ n → n ≤ i → out ≡ marked 256 f n
marked_all f {i} {n} e h k =
    let same : i ≡ n = omega arith in
    e ∙ ap (λ (m : ℕ). marked 256 f m) same

-- a mark is 1 or 0, so the marks that are 1 add up to the sum of all
mark-again : (b : Bool) → mark (eqb (mark b) 1) ≡ mark b
mark-again true = refl
mark-again false = refl

pub marks_summed : (n : ℕ) (test : ℕ → Bool) {marks : List ℕ} {total : ℕ} → marks ≡ tab n (λ p. mark (test p)) → Counts n (sum_to n (λ p. mark (eqb (get_or marks p 0) 1))) total
    → Counts n (sum_to n (λ p. mark (test p))) total
marks_summed n test {marks} {total} e r =
    record {
      is =
          r.is
          ∙ sum_to_ext n (λ p. mark (eqb (get_or marks p 0) 1)) (λ p. mark (test p))
          (λ p l.
          ap (λ (l : List ℕ). mark (eqb (get_or l p 0) 1)) e
          ∙ ap (λ (x : ℕ). mark (eqb x 1)) (get_or-tab n (λ p. mark (test p)) p 0 l)
          ∙ mark-again (test p));
      most = r.most;
    }
