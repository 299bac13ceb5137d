-- Laws of primes: the test means what it says, and how the number of primes below a number grows. From these and one
-- computed test of the table all that the table's functions promise follows.
-- Assumes nothing.
use mathlib.Core.Path.{◌≡◌, refl, ◌∙◌, sym, ap, subst}
use mathlib.Core.Logic.{⊎_elim}
use mathlib.Core.Bool.{Bool, true, false, cond, ◌&&◌, ◌||◌, true≢false}
use mathlib.Core.List.{List}
use Prim.Native.Nat.{ℕ, zero, suc, ◌+◌, ◌-◌, ◌%◌, ◌≤◌, ◌<◌}
use native.Mathlib.Nat.{le_of_suc-le-suc, not-suc-le-zero, eq-or-lt_of_le, le_refl, le-suc, le_trans, le_of_lt}
use native.Mathlib.Decide.{le_ind, dec_lt}
use native.Mathlib.Omega.{arith}
use lib.Dec.{leb, ltb, eqb}
use lib.ListN.{length, get_or}
use Rattle.std.specs.Prelude.{Some, nat_eq, slice_get}
use Rattle.std.specs.Option.{option_eq}
use Rattle.std.specs.List.Sorted.{IsPartitionPoint, IsNonDecreasingBy}
use Rattle.std.proofs.lemmas.Bool.{and_from, or_right}
use Rattle.std.proofs.lemmas.Option.{slice_get-get_or, slice_get_past}
use Rattle.std.proofs.lemmas.List.Sorted.{IsNonDecreasingBy-from_default}
use borrow.Author.Tests.{ltb-true, ltb-false, leb-true, eqb-true, le-ltb, lt-ltb, le-leb, eq-eqb, ne_eqb}
use Rattle.residue.specs.Prime.{remainders_below, is_prime, Prime, primes_below, prime_within, prime_from, found, PrimeAt, Primes}
use Rattle.residue.proofs.Table.{and_left, and_right, every, at}

remainders : (p n : ℕ) → remainders_below p n ≡ true → (d : ℕ) → 2 ≤ d → d < n → 0 < p % d
unfolding remainders_below
remainders p zero e d h l = absurd (not-suc-le-zero l)
remainders p (suc n) e d h l =
    ⊎_elim
    (λ (w : d ≡ n). subst (λ (x : ℕ). 0 < p % x) (sym w) (last (subst (λ (x : ℕ). 2 ≤ x) w h)))
    (λ (w : d < n). remainders p n (and_left (remainders_below p n) _ e) d h w)
    (eq-or-lt_of_le (le_of_suc-le-suc l))
  where
    last : 2 ≤ n → 0 < p % n
    last t = ltb-true 0 (p % n) (rw (le-ltb n 2 t) at (and_right (remainders_below p n) (ltb n 2 || ltb 0 (p % n)) e))

-- the test passes at primes alone
pub is_prime→Prime : (p : ℕ) → is_prime p ≡ true → Prime p
unfolding is_prime
is_prime→Prime p e = record {
  two = leb-true 2 p (and_left (leb 2 p) (remainders_below p p) e);
  remainder = λ d h l. remainders p p (and_right (leb 2 p) (remainders_below p p) e) d h l;
}

remainders_hold : (p n : ℕ) → ((d : ℕ) → 2 ≤ d → d < n → 0 < p % d) → remainders_below p n ≡ true
unfolding remainders_below
remainders_hold p zero h = refl
remainders_hold p (suc n) h =
    and_from (remainders_below p n) _ (remainders_hold p n (λ d t l. h d t (omega arith))) (last n (p % n) (λ t. h n t (omega arith)))
  where
    last : (d r : ℕ) → (2 ≤ d → 0 < r) → (ltb d 2 || ltb 0 r) ≡ true
    last zero r k = refl
    last (suc zero) r k = refl
    last (suc (suc d)) r k = or_right (ltb (suc (suc d)) 2) (ltb 0 r) (lt-ltb 0 r (k (omega arith)))

-- and at every prime
pub Prime→is_prime : {p : ℕ} → Prime p → is_prime p ≡ true
unfolding is_prime
Prime→is_prime {p} h = and_from (leb 2 p) _ (le-leb 2 p h.two) (remainders_hold p p h.remainder)

-- a prime is one more for the numbers above it
pub primes_below_prime : (n : ℕ) → is_prime n ≡ true → primes_below (suc n) ≡ suc (primes_below n)
unfolding primes_below
primes_below_prime n e = rw e

step : (n : ℕ) → primes_below n ≤ primes_below (suc n)
unfolding primes_below
step n = go (is_prime n)
  where
    go : (b : Bool) → primes_below n ≤ cond b (suc (primes_below n)) (primes_below n)
    go true = le-suc _
    go false = le_refl _

pub primes_below_mono : {m n : ℕ} → m ≤ n → primes_below m ≤ primes_below n
primes_below_mono {m} {n} h = le_ind (λ k. primes_below m ≤ primes_below k) (le_refl _) (λ k _ t. le_trans t (step k)) n h

-- so there are more primes below x than below a prime q under it
pub primes_below_past : {q x : ℕ} → is_prime q ≡ true → q < x → primes_below q < primes_below x
primes_below_past {q} {x} e h = subst (λ (k : ℕ). k ≤ primes_below x) (primes_below_prime q e) (primes_below_mono h)

-- two primes with as many primes below them are the same
pub place_unique : {i q r : ℕ} → PrimeAt i q → PrimeAt i r → q ≡ r
place_unique {i} {q} {r} a b =
    let below : q < r → ⊥ = λ h. omega (arith, primes_below_past a.prime h, a.place, b.place) in
    let above : r < q → ⊥ = λ h. omega (arith, primes_below_past b.prime h, a.place, b.place) in
    omega arith

-- the test of a table, computed entry by entry
unfoldable pub right : ℕ → ℕ → Bool
right i x = is_prime x && eqb (primes_below x) i

pub rightly : {xs : List ℕ} → length xs ≡ 54 → every right 0 xs ≡ true → Primes xs
unfolding right
rightly {xs} s t = record { size = s; entry = λ i h. entry i (get_or xs i 0) (at right xs t i (omega arith)) }
  where
    entry : (i x : ℕ) → (is_prime x && eqb (primes_below x) i) ≡ true → PrimeAt i x
    entry i x t = record {
      prime = and_left (is_prime x) (eqb (primes_below x) i) t;
      place = eqb-true (primes_below x) i (and_right (is_prime x) (eqb (primes_below x) i) t);
    }

-- no byte has more than 54 primes below it
pub bytes_primes : primes_below 256 ≡ 54
unfolding primes_below is_prime remainders_below
bytes_primes = refl

-- a table's entry at i is below x exactly where more than i primes are
pub entry-below : {i r x : ℕ} → PrimeAt i r → r < x → i < primes_below x
entry-below a h = omega (arith, primes_below_past a.prime h, a.place)

pub entry-from : {i r x : ℕ} → PrimeAt i r → x ≤ r → primes_below x ≤ i
entry-from a h = omega (arith, primes_below_mono h, a.place)

-- a byte's primes are all in a table, and lie at their places
pub byte-place : {x : ℕ} → x < 256 → primes_below x ≤ 54
byte-place h = omega (arith, primes_below_mono (le_of_lt h), bytes_primes)

-- where a table's entries cease to be below x, as many stand as primes are below x
pub place_found : {xs : List ℕ} {x i : ℕ} → Primes xs → x < 256 → i ≤ length xs → IsPartitionPoint (λ y. ltb y x ≡ true) (λ y. ltb y x ≡ false) xs i
    → i ≡ primes_below x
place_found {xs} {x} {i} t h s d =
    let fewer : primes_below x < i → ⊥ = λ w. omega (arith, entry-below (t.entry (i - 1) (omega (arith, t.size))) (ltb-true (get_or xs (i - 1) 0) x (d.0 (i - 1) 0 (omega arith) (omega arith)))) in
    let more : i < primes_below x → ⊥ = λ w. omega (arith, entry-from (t.entry i (omega (arith, byte-place h))) (ltb-false (get_or xs i 0) x (d.1 i 0 (omega arith) (omega (arith, t.size, byte-place h))))) in
    omega arith

pub prime-place : {p : ℕ} → is_prime p ≡ true → p < 256 → primes_below p < 54
prime-place e h = omega (arith, primes_below_past e h, bytes_primes)

pub prime-entry : {p : ℕ} {xs : List ℕ} → Primes xs → is_prime p ≡ true → p < 256 → get_or xs (primes_below p) 0 ≡ p
prime-entry t e h = place_unique (t.entry _ (prime-place e h)) (record { prime = e; place = refl })

-- a byte that is prime is at most 251
pub byte_prime_most : {p : ℕ} → is_prime p ≡ true → p < 256 → p ≤ 251
unfolding primes_below is_prime remainders_below
byte_prime_most {p} e h =
    let not-above : 251 < p → ⊥ = λ w. omega (arith, primes_below_mono w, prime-place e h, bytes_primes) in
    omega arith

-- a table ascends
pub ascending : {xs : List ℕ} {i j : ℕ} → Primes xs → i < j → j < 54 → get_or xs i 0 < get_or xs j 0
ascending {xs} {i} {j} t l h =
    let left = t.entry i (omega arith) in
    let not-below : get_or xs j 0 ≤ get_or xs i 0 → ⊥ = λ w. omega (arith, entry-from left w, (t.entry j h).place) in
    omega arith

pub rising : {xs : List ℕ} → Primes xs → IsNonDecreasingBy (λ p. p) xs
rising {xs} t = IsNonDecreasingBy-from_default (λ p. p) xs 0 (λ i j l h. (let fallen : get_or xs j 0 < get_or xs i 0 → ⊥ = λ w. ⊎_elim (λ (v : i ≡ j). omega (arith, ap (λ (k : ℕ). get_or xs k 0) v)) (λ (v : i < j). omega (arith, ascending t v (omega (arith, t.size)))) (eq-or-lt_of_le l) in omega arith))

-- the entry at the place of x is the smallest prime at least x
pub first_reaches : {x r : ℕ} → PrimeAt (primes_below x) r → x ≤ r
first_reaches {x} {r} a =
    let not-below : r < x → ⊥ = λ w. omega (arith, entry-below a w) in
    omega arith

pub first_least : {x r q : ℕ} → PrimeAt (primes_below x) r → is_prime q ≡ true → x ≤ q → r ≤ q
first_least {x} {r} {q} a e h =
    let not-below : q < r → ⊥ = λ w. omega (arith, primes_below_past e w, primes_below_mono h, a.place) in
    omega arith

-- which is what trying one number after another gives
within_is : {r : ℕ} → is_prime r ≡ true → (left x : ℕ) → x ≤ r → r < x + left → ((q : ℕ) → is_prime q ≡ true → x ≤ q → r ≤ q) → r ≡ prime_within x left
unfolding prime_within
within_is p zero x h l least = absurd (omega arith)
within_is {r} p (suc left) x h l least = go (is_prime x) refl (λ w. within_is p left (suc x) w (omega arith) (λ q t k. least q t (omega arith)))
  where
    go : (b : Bool) → is_prime x ≡ b → (x < r → r ≡ prime_within (suc x) left) → r ≡ cond b x (prime_within (suc x) left)
    go true e later = omega (arith, least x e (le_refl x))
    go false e later =
        later (⊎_elim (λ (w : x ≡ r). absurd (true≢false (sym p ∙ ap is_prime (sym w) ∙ e))) (λ (w : x < r). w) (eq-or-lt_of_le h))

within_none : (left x : ℕ) → ((q : ℕ) → x ≤ q → q < x + left → is_prime q ≡ false) → 0 ≡ prime_within x left
unfolding prime_within
within_none zero x h = refl
within_none (suc left) x h = rw (h x (le_refl x) (omega arith)) (within_none left (suc x) (λ q k l. h q (omega arith) (omega arith)))

pub entry_first : (x : ℕ) {i r : ℕ} → i ≡ primes_below x → i < 54 → PrimeAt i r → r ≡ prime_from x
unfolding prime_from
entry_first x {i} {r} e h a =
    let b : PrimeAt (primes_below x) r = subst (λ (k : ℕ). PrimeAt k r) e a in
    let byte : 256 ≤ r → ⊥ = λ w. omega (arith, primes_below_mono w, bytes_primes, a.place) in
    within_is b.prime (256 - x) x (first_reaches b) (omega (arith, first_reaches b)) (λ q t k. first_least b t k)

pub none_first : (x : ℕ) {i : ℕ} → i ≡ primes_below x → 54 ≤ i → 0 ≡ prime_from x
unfolding prime_from
none_first x {i} e h = within_none (256 - x) x (λ q k l. go q k (omega arith) (is_prime q) refl)
  where
    go : (q : ℕ) → x ≤ q → q < 256 → (b : Bool) → is_prime q ≡ b → is_prime q ≡ false
    go q k l true w = absurd (omega (arith, prime-place w l, primes_below_mono k))
    go q k l false w = w

-- both ways: the entry at the place of x, and none past the table's end
some_prime : (r : ℕ) → is_prime r ≡ true → Some r ≡ found r
unfolding is_prime
some_prime zero e = cc
some_prime (suc r) e = refl

pub prime_found : {xs : List ℕ} (x : ℕ) {i : ℕ} → Primes xs → i ≡ primes_below x → slice_get xs i ≡ found (prime_from x)
prime_found {xs} x {i} t e = go (dec_lt i 54)
  where
    go : Dec (i < 54) → slice_get xs i ≡ found (prime_from x)
    go (yes h) =
        slice_get-get_or xs i 0 (omega (arith, t.size))
        ∙ some_prime (get_or xs i 0) (t.entry i h).prime
        ∙ ap found (entry_first x e h (t.entry i h))
    go (no h) = slice_get_past xs i (omega (arith, t.size)) ∙ ap found (none_first x e (omega arith))

-- whatever prime byte lies from x on, the smallest is reached: it is prime, at least x, and no larger
pub record Reached (x q r : ℕ) : Type 0 where
  pub prime : is_prime r ≡ true
  pub from : x ≤ r
  pub most : r ≤ q

within_reaches : {q : ℕ} → is_prime q ≡ true → (left x : ℕ) → x ≤ q → q < x + left → Reached x q (prime_within x left)
unfolding prime_within
within_reaches p zero x h l = absurd (omega arith)
within_reaches {q} p (suc left) x h l = go (is_prime x) refl (λ w. within_reaches p left (suc x) w (omega arith))
  where
    go : (b : Bool) → is_prime x ≡ b → (x < q → Reached (suc x) q (prime_within (suc x) left)) → Reached x q (cond b x (prime_within (suc x) left))
    go true e later = record { prime = e; from = le_refl x; most = h }
    go false e later = ⊎_elim
        (λ (w : x ≡ q). absurd (true≢false (sym p ∙ ap is_prime (sym w) ∙ e)))
        (λ (w : x < q). (let r = later w in record { prime = r.prime; from = le_of_lt r.from; most = r.most }))
        (eq-or-lt_of_le h)

pub prime_from_reaches : {x q : ℕ} → is_prime q ≡ true → x ≤ q → q < 256 → Reached x q (prime_from x)
unfolding prime_from
prime_from_reaches {x} e h l = within_reaches e (256 - x) x h (omega arith)

-- so a byte is prime exactly where it is the smallest from itself on
within_prime : (left x : ℕ) → 0 < prime_within x left → is_prime (prime_within x left) ≡ true
unfolding prime_within
within_prime zero x h = absurd (omega arith)
within_prime (suc left) x h = go (is_prime x) refl (within_prime left (suc x)) h
  where
    go : (b : Bool) → is_prime x ≡ b → (0 < prime_within (suc x) left → is_prime (prime_within (suc x) left) ≡ true)
        → 0 < cond b x (prime_within (suc x) left) → is_prime (cond b x (prime_within (suc x) left)) ≡ true
    go true e later k = e
    go false e later k = later k

zero-first : prime_from 0 ≡ 2
unfolding prime_from prime_within is_prime remainders_below
zero-first = refl

first_tells : {p r : ℕ} → p < 256 → r ≡ prime_from p → eqb r p ≡ is_prime p
unfolding prime_from
first_tells {p} {r} b s = rw s (go (is_prime p) refl)
  where
    itself : (n : ℕ) → prime_from n ≡ n → is_prime n ≡ true
    itself zero e = absurd (omega (arith, zero-first))
    itself (suc n) e = subst (λ (m : ℕ). is_prime m ≡ true) e (within_prime (256 - suc n) (suc n) (omega (arith, e)))

    go : (q : Bool) → is_prime p ≡ q → eqb (prime_from p) p ≡ is_prime p
    go true w = eq-eqb (prime_from p) p (sym (within_is w (256 - p) p (le_refl p) (omega arith) (λ q t k. k))) ∙ sym w
    go false w = ne_eqb (prime_from p) p (λ e. true≢false (sym (itself p e) ∙ w)) ∙ sym w

pub found_tells : {p r : ℕ} → p < 256 → r ≡ prime_from p → option_eq nat_eq (found r) (Some p) ≡ is_prime p
found_tells {p} {r = suc r} h e = first_tells h e
found_tells {p = suc p} {r = zero} h e = sym (ne_eqb 0 (suc p) (λ w. cc)) ∙ first_tells h e
found_tells {p = zero} {r = zero} h e = absurd (omega (arith, e, zero-first))
