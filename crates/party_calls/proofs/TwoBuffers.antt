-- Laws of the check of two buffers at once.
-- Assumes nothing.
use mathlib.Core.Path.{◌≡◌, refl, sym, ap, ap₂, ◌∙◌}
use mathlib.Core.Bool.{Bool, true, false, ◌&&◌, ◌||◌}
use mathlib.Core.List.{List}
use Prim.Native.Nat.{ℕ, zero, suc, max, ◌≤◌, ◌<◌}
use native.Mathlib.Nat.{max-eq_left, le_refl}
use native.Mathlib.Decide.{dec_lt}
use native.Mathlib.Omega.{arith}
use borrow.Author.Tests.{lt-ltb, ltb-true}
use lib.Dec.{ltb, leb}
use lib.ListN.{length, get_or, replicate}
use Rattle.lists.specs.First.{first}
use Rattle.lists.proofs.Search.{Looking, looking_found, looking_none}
use Rattle.lists.proofs.First.{first-at, first_none, first-before, first-here}
use Rattle.checks.specs.declared.Refusal.{Refusal}
use Rattle.checks.specs.declared.Refusal.TheVariants.{ValueTooLarge}
use Rattle.checks.specs.Checked.{none_bad, named}
use Rattle.checks.proofs.Answers.{named_past, named-found, none_bad-found}
use Rattle.circuit.specs.Named.{readable}
use Rattle.circuit.proofs.Allowed.{everyone_may}
use Rattle.session.specs.Session.{too_large}
use Rattle.party_calls.specs.Either.{bad_at, bad_read, either_bad, either_checked}
use Rattle.checks.specs.Answer.{accepts, refuses}

pub or_left : {a : Bool} (b : Bool) → a ≡ true → (a || b) ≡ true
or_left b e = rw e

pub or_right : (a : Bool) {b : Bool} → b ≡ true → (a || b) ≡ true
or_right true e = refl
or_right false e = e

-- the loop that looks for the lowest index: refused there, or accepted past all
module _ (xs ps ys qs readers : List ℕ) (party : ℕ) where
  abbrev some_bad : ℕ → Bool
  some_bad = either_bad xs ps ys qs readers party

  abbrev longer : ℕ
  longer = max (length xs) (length ys)

  pub either_found : {i : ℕ} → Looking longer some_bad i → i < longer → some_bad i ≡ true → refuses ValueTooLarge i ≡ either_checked xs ps ys qs readers party
  unfolding either_checked
  either_found {i} r h e = none_bad-found longer some_bad ValueTooLarge (looking_found r h e) (sym (named-found longer i ValueTooLarge h))

  pub either_none : {i : ℕ} → Looking longer some_bad i → longer ≤ i → accepts ≡ either_checked xs ps ys qs readers party
  unfolding either_checked
  either_none {i} r h = none_bad-found longer some_bad ValueTooLarge (looking_none r h) (sym (named_past longer i ValueTooLarge h))

-- a test that is the same of every number below n finds the same
module _ (n : ℕ) (f g : ℕ → Bool) (same : (i : ℕ) → i < n → f i ≡ g i) where
  pub first_ext : first n f ≡ first n g
  first_ext = by (dec_lt (first n f) n)
    where
      none : (i : ℕ) → n ≤ first n f → i < n → f i ≡ false
      none i l h = first-before n i f (omega arith)

      by : Dec (first n f < n) → first n f ≡ first n g
      by (yes h) =
          sym (first-at n (first n f) g h (λ j l. sym (same j (omega arith)) ∙ first-before n j f l) (sym (same (first n f) h) ∙ first-here n f h))
      by (no h) =
          first_none n f (λ j l. none j (omega arith) l) ∙ sym (first_none n g (λ j l. sym (same j l) ∙ none j (omega arith) l))

  pub none_bad_ext : (reason : Refusal) → none_bad n f reason ≡ none_bad n g reason
  unfolding none_bad
  none_bad_ext reason = ap (λ (k : ℕ). named n k reason) first_ext

-- one buffer, with its length and its moduli under other names
bad_as : (xs ps : List ℕ) (m : ℕ) (p : ℕ → ℕ) → length xs ≡ m → ((i : ℕ) → i < m → get_or ps i 0 ≡ p i) → (i : ℕ) → bad_at xs ps i ≡ (ltb i m && too_large xs p i)
bad_as xs ps m p e f i = ap (λ (k : ℕ). ltb i k && leb (get_or ps i 0) (get_or xs i 0)) e ∙ go (ltb i m) refl
  where
    go : (t : Bool) → ltb i m ≡ t → (t && leb (get_or ps i 0) (get_or xs i 0)) ≡ (t && leb (p i) (get_or xs i 0))
    go true k = ap (λ (q : ℕ). leb q (get_or xs i 0)) (f i (ltb-true i m k))
    go false k = refl

-- .. and those who may read
read_as : (ys qs readers : List ℕ) (party n : ℕ) (q : ℕ → ℕ) (may : ℕ → Bool) → length ys ≡ n → ((i : ℕ) → i < n → get_or qs i 0 ≡ q i)
    → ((i : ℕ) → i < n → readable readers party i ≡ may i) → (i : ℕ) → bad_read ys qs readers party i ≡ (ltb i n && (may i && too_large ys q i))
read_as ys qs readers party n q may e f s i =
    ap (λ (k : ℕ). ltb i k && (readable readers party i && leb (get_or qs i 0) (get_or ys i 0))) e ∙ go (ltb i n) refl
  where
    go : (t : Bool) → ltb i n ≡ t → (t && (readable readers party i && leb (get_or qs i 0) (get_or ys i 0))) ≡ (t && (may i && leb (q i) (get_or ys i 0)))
    go true k = ap₂ (λ (b : Bool) (m : ℕ). b && leb m (get_or ys i 0)) (s i (ltb-true i n k)) (f i (ltb-true i n k))
    go false k = refl

module _ (xs ps ys qs readers : List ℕ) (party m n : ℕ) (p q : ℕ → ℕ) (may : ℕ → Bool) (e : length xs ≡ m) (f : length ys ≡ n)
    (l : (i : ℕ) → i < m → get_or ps i 0 ≡ p i) (r : (i : ℕ) → i < n → get_or qs i 0 ≡ q i) (s : (i : ℕ) → i < n → readable readers party i ≡ may i) where
  abbrev bad : ℕ → Bool
  bad i = (ltb i m && too_large xs p i) || (ltb i n && (may i && too_large ys q i))

  pub either_is : either_checked xs ps ys qs readers party ≡ none_bad (max m n) bad ValueTooLarge
  unfolding either_checked
  either_is =
      rw (e, f)
      (none_bad_ext (max m n) (either_bad xs ps ys qs readers party) bad
      (λ i _. rw (bad_as xs ps m p e l i, read_as ys qs readers party n q may f r s i)) ValueTooLarge)

-- nobody is named, so everyone may read
zeros_at : (n i : ℕ) → let none : ℕ = 0 in get_or (replicate n none) i 0 ≡ none
zeros_at zero i = refl
zeros_at (suc n) zero = refl
zeros_at (suc n) (suc i) = zeros_at n i

pub all_read : (n party i : ℕ) {readers : List ℕ} → readers ≡ replicate n 0 → readable readers party i ≡ true
all_read n party i {readers} e = sym (everyone_may (get_or readers i 0) party (ap (λ (l : List ℕ). get_or l i 0) e ∙ zeros_at n i))

-- buffers of one length, of which everything is read
module _ (xs ps ys qs readers : List ℕ) (party m : ℕ) (p : ℕ → ℕ) (e : length xs ≡ m) (f : length ys ≡ m)
    (l : (i : ℕ) → i < m → get_or ps i 0 ≡ p i) (r : (i : ℕ) → i < m → get_or qs i 0 ≡ p i) (s : (i : ℕ) → i < m → readable readers party i ≡ true) where
  alike : none_bad (max m m) (λ i. (ltb i m && too_large xs p i) || (ltb i m && too_large ys p i)) ValueTooLarge
      ≡ none_bad m (λ i. too_large xs p i || too_large ys p i) ValueTooLarge
  alike =
      rw (max-eq_left (le_refl m))
      (none_bad_ext m (λ i. (ltb i m && too_large xs p i) || (ltb i m && too_large ys p i)) (λ i. too_large xs p i || too_large ys p i)
      (λ i h. rw (lt-ltb i m h)) ValueTooLarge)

  pub both_is : either_checked xs ps ys qs readers party ≡ none_bad m (λ i. too_large xs p i || too_large ys p i) ValueTooLarge
  both_is = either_is xs ps ys qs readers party m m p p (λ i. true) e f l r s ∙ alike
