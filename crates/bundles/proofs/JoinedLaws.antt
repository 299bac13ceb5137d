-- The first ten primes: what is computed of them once, and from that the laws of splitting and joining.
-- Assumes nothing.
use mathlib.Core.Path.{◌≡◌, refl, sym, ap, ap₂, subst, ◌∙◌}
use mathlib.Core.Logic.{◌⊎◌, ⊎_elim}
use mathlib.Core.Bool.{Bool, true, false, ◌&&◌}
use mathlib.Core.List.{List, [], ◌∷◌}
use Prim.Native.Nat.{ℕ, zero, suc, ◌+◌, ◌*◌, ◌%◌, ◌≤◌, ◌<◌}
use native.Mathlib.Nat.{mod-lt, mod-eq_of_lt, mul-le-mul_left, eq-or-lt_of_le, le_of_suc-le-suc, not-suc-le-zero, le_refl}
use native.Mathlib.Numerals.{add-one}
use native.Mathlib.Omega.{arith}
use lib.Dec.{eqb, leb, ltb}
use lib.ListN.{length, get_or}
use borrow.Author.Tests.{ltb-true, leb-true, eqb-true, eq-eqb, lt-ltb}
use Rattle.lists.specs.Blocks.{tab}
use Rattle.lists.proofs.Blocks.{get_or-tab, is-tab}
use Rattle.lists.proofs.First.{first-only}
use Rattle.residue.specs.Residue.{mul, sub}
use Rattle.residue.specs.Prime.{remainders_below, is_prime, primes_below, prime_within, prime_from, PrimeAt}
use Rattle.residue.proofs.Table.{and_left, and_right, every, at}
use Rattle.residue.proofs.Moduli.{place_unique}
use Rattle.residue.proofs.Vectors.{mul-below}
use Rattle.bundles.specs.Primes.{prime, product_to, product}
use Rattle.bundles.specs.Integers.{split, agrees, join, all_below, SplitIsJoined, JoinedIsSplit, SplitIsReduced}
use Rattle.bundles.specs.Climb.{Inverts, Inverses, Climbs, Climbed}
use Rattle.bundles.proofs.Chinese.{Inverted, climbs, mod_product, product-positive, unique}

-- ---- what is computed: the ten primes, and of each an inverse of the product of those before it

abbrev ten : List ℕ
ten = 2 ∷ 3 ∷ 5 ∷ 7 ∷ 11 ∷ 13 ∷ 17 ∷ 19 ∷ 23 ∷ 29 ∷ []

abbrev inverses : List ℕ
inverses = 1 ∷ 2 ∷ 1 ∷ 4 ∷ 1 ∷ 3 ∷ 15 ∷ 18 ∷ 20 ∷ 12 ∷ []

inverse : ℕ → ℕ
inverse i = get_or inverses i 0

unfoldable primal : ℕ → ℕ → Bool
primal i p = eqb (prime i) p && (is_prime p && (eqb (primes_below p) i && (ltb 0 p && leb p 29)))

unfoldable pub inverting : ℕ → ℕ → Bool
inverting i r = eqb (mul (prime i) (product i) r) 1

primal_all : every primal 0 ten ≡ true
unfolding primal prime prime_from prime_within is_prime remainders_below primes_below
primal_all = refl

inverting_all : every inverting 0 inverses ≡ true
unfolding inverting mul prime product_to prime_from prime_within is_prime remainders_below
inverting_all = refl

-- no product of them is more than that of all ten
unfoldable few : ℕ → ℕ → Bool
few i _ = leb (product i) 6469693230

few-all : every few 0 (0 ∷ ten) ≡ true
unfolding few prime product_to prime_from prime_within is_prime remainders_below
few-all = refl

-- ---- the primes

record Listed (i p : ℕ) : Type 0 where
  is : prime i ≡ p
  tested : is_prime p ≡ true
  place : primes_below p ≡ i
  positive : 0 < p
  most : p ≤ 29

listed : (i : ℕ) → i < 10 → Listed i (get_or ten i 0)
unfolding primal
listed i h = by (get_or ten i 0) (at primal ten primal_all i h)
  where
    by : (p : ℕ) → primal i p ≡ true → Listed i p
    by p e =
        let rest = and_right (eqb (prime i) p) (is_prime p && (eqb (primes_below p) i && (ltb 0 p && leb p 29))) e in
        let rest2 = and_right (is_prime p) (eqb (primes_below p) i && (ltb 0 p && leb p 29)) rest in
        let rest3 = and_right (eqb (primes_below p) i) (ltb 0 p && leb p 29) rest2 in
        record {
          is = eqb-true (prime i) p (and_left (eqb (prime i) p) (is_prime p && (eqb (primes_below p) i && (ltb 0 p && leb p 29))) e);
          tested = and_left (is_prime p) (eqb (primes_below p) i && (ltb 0 p && leb p 29)) rest;
          place = eqb-true (primes_below p) i (and_left (eqb (primes_below p) i) (ltb 0 p && leb p 29) rest2);
          positive = ltb-true 0 p (and_left (ltb 0 p) (leb p 29) rest3);
          most = leb-true p 29 (and_right (ltb 0 p) (leb p 29) rest3);
        }

pub prime_is : (i : ℕ) → i < 10 → is_prime (prime i) ≡ true
prime_is i h = let l = listed i h in ap is_prime l.is ∙ l.tested

pub prime-positive : (i : ℕ) → i < 10 → 0 < prime i
prime-positive i h = let l = listed i h in omega (arith, l.is, l.positive)

pub prime-most : (i : ℕ) → i < 10 → prime i ≤ 29
prime-most i h = let l = listed i h in omega (arith, l.is, l.most)

pub prime-small : (i : ℕ) → i < 10 → prime i < 256
prime-small i h = omega (arith, prime-most i h)

-- so it stands at its place in the table of the moduli
pub prime-at : (i : ℕ) → i < 10 → {r : ℕ} → PrimeAt i r → r ≡ prime i
prime-at i h a = let l = listed i h in place_unique a (record { prime = l.tested; place = l.place }) ∙ sym l.is

-- ---- their products

pub product-most : (i : ℕ) → i ≤ 10 → product i ≤ 6469693230
unfolding few
product-most i h = let l : i < 11 = omega arith in leb-true (product i) 6469693230 (at few (0 ∷ ten) few-all i l)

product-next : (i : ℕ) → product (i + 1) ≡ product i * prime i
unfolding product_to
product-next i = rw add-one refl

pub product_none : 1 ≡ product 0
unfolding product_to
product_none = refl

pub product-step : (i : ℕ) {m p : ℕ} → m ≡ product i → p ≡ prime i → m * p ≡ product (i + 1)
product-step i e f = ap₂ (λ (x y : ℕ). x * y) e f ∙ sym (product-next i)

-- ---- the inverses

pub inverses_right : {xs : List ℕ} → length xs ≡ 10 → every inverting 0 xs ≡ true → Inverses xs
unfolding inverting
inverses_right {xs} s t =
    record {
      size = s;
      entry = λ i h. record { rule = eqb-true (mul (prime i) (product i) (get_or xs i 0)) 1 (at inverting xs t i (omega arith)) };
    }

inverted : Inverted prime inverse 10
unfolding inverse
inverted = record { positive = prime-positive; rule = λ i h. ((inverses_right {xs = inverses} refl inverting_all).entry i h).rule }

pub products_positive : (i : ℕ) → i ≤ 10 → 0 < product i
products_positive = product-positive inverted

-- ---- a number that has the residues

module _ (residues : List ℕ) where
  agrees_has : (r x : ℕ) → agrees r residues x ≡ true → (j : ℕ) → j < r → x % prime j ≡ get_or residues j 0
  unfolding agrees
  agrees_has zero x e j h = absurd (not-suc-le-zero h)
  agrees_has (suc r) x e j h =
      ⊎_elim
      (λ (w : j ≡ r). rw w (eqb-true (x % prime r) (get_or residues r 0) (and_right (agrees r residues x) (eqb (x % prime r) (get_or residues r 0)) e)))
      (λ (w : j < r). agrees_has r x (and_left (agrees r residues x) (eqb (x % prime r) (get_or residues r 0)) e) j w)
      (eq-or-lt_of_le (le_of_suc-le-suc h))

  has_agrees : (r x : ℕ) → ((j : ℕ) → j < r → x % prime j ≡ get_or residues j 0) → agrees r residues x ≡ true
  unfolding agrees
  has_agrees zero x has = refl
  has_agrees (suc r) x has = rw (has_agrees r x (λ j h. has j (omega arith))) (eq-eqb (x % prime r) (get_or residues r 0) (has r (omega arith)))

  -- the one below the product is what joining gives
  join_is : (r x : ℕ) → r ≤ 10 → Climbed residues r x → join r residues ≡ x
  unfolding join
  join_is r x h c = first-only (product r) x (agrees r residues) c.below (has_agrees r x c.has) only
    where
      only : (y : ℕ) → y < product r → agrees r residues y ≡ true → y ≡ x
      only y l e =
          sym (mod-eq_of_lt l)
          ∙ unique inverted r h (record { same = λ j k. agrees_has r y e j k ∙ sym (c.has j k) })
          ∙ mod-eq_of_lt c.below

  -- how it is reached: from 0, prime by prime
  pub climbed_none : Climbed residues 0 0
  unfolding product_to
  climbed_none = record { below = omega arith; has = λ j h. absurd (not-suc-le-zero h) }

  pub climbed_more : {i x y : ℕ} → Climbed residues i x → Climbs (product i) (prime i) x (get_or residues i 0) y → Climbed residues (i + 1) y
  unfolding product_to
  climbed_more {i} {x} {y} c k =
      record {
        below = rw add-one k.below;
        has = λ j h. by j (eq-or-lt_of_le (omega arith));
      }
    where
      by : (j : ℕ) → (j ≡ i) ⊎ (j < i) → y % prime j ≡ get_or residues j 0
      by j w =
          ⊎_elim
          (λ (e : j ≡ i). rw e k.new)
          (λ (l : j < i). sym (mod_product prime i j l y) ∙ ap (λ (n : ℕ). n % prime j) k.kept ∙ c.has j l)
          w

  pub below_at : (r : ℕ) → all_below r residues ≡ true → (j : ℕ) → j < r → get_or residues j 0 < prime j
  unfolding all_below
  below_at zero e j h = absurd (not-suc-le-zero h)
  below_at (suc r) e j h =
      ⊎_elim
      (λ (w : j ≡ r). rw w (ltb-true (get_or residues r 0) (prime r) (and_right (all_below r residues) (ltb (get_or residues r 0) (prime r)) e)))
      (λ (w : j < r). below_at r (and_left (all_below r residues) (ltb (get_or residues r 0) (prime r)) e) j w)
      (eq-or-lt_of_le (le_of_suc-le-suc h))

  pub below_none : all_below 0 residues ≡ true
  unfolding all_below
  below_none = refl

  pub below_more : (i : ℕ) → all_below i residues ≡ true → get_or residues i 0 < prime i → all_below (i + 1) residues ≡ true
  unfolding all_below
  below_more i e h = rw (add-one, all_below, e) (lt-ltb (get_or residues i 0) (prime i) h)

  pub below_fails : (r i : ℕ) → i < r → prime i ≤ get_or residues i 0 → false ≡ all_below r residues
  below_fails r i h l = by (all_below r residues) refl
    where
      by : (b : Bool) → all_below r residues ≡ b → false ≡ b
      by true e = absurd (omega (arith, below_at r e i h))
      by false e = refl

  pub below-done : {i r : ℕ} → i ≤ r → r ≤ i → all_below i residues ≡ true → true ≡ all_below r residues
  below-done {i} {r} h k e = let s : i ≡ r = omega arith in sym (subst (λ (n : ℕ). all_below n residues ≡ true) s e)

  pub climbed_done : {i r x : ℕ} → i ≤ r → r ≤ i → r ≤ 10 → Climbed residues i x → x ≡ join r residues
  climbed_done {i} {r} {x} h k l c = let s : i ≡ r = omega arith in sym (join_is r x l (subst (λ (n : ℕ). Climbed residues n x) s c))

  record Reached (i : ℕ) : Type 0 where
    number : ℕ
    climbed : Climbed residues i number

  reached : (r : ℕ) → r ≤ 10 → all_below r residues ≡ true → (i : ℕ) → i ≤ r → Reached i
  reached r h e zero l = record { number = 0; climbed = climbed_none }
  reached r h e (suc i) l =
      let before = reached r h e i (omega arith) in
      let k = climbs (prime i) (product i) (inverse i) (prime-positive i (omega arith)) (inverted.rule i (omega arith)) before.number (get_or residues i 0) before.climbed.below (below_at r e i l) in
      let s : i + 1 ≡ suc i = omega arith in
      record { number = _; climbed = rw s at (climbed_more before.climbed k) }

-- ---- as the code climbs

pub climb_is : (i : ℕ) {m x residue p had s inv t w : ℕ} → i < 10 → m ≡ product i → x < m → residue < prime i
    → p ≡ prime i → had ≡ x % prime i → s ≡ sub p residue had → Inverts i inv → t ≡ mul p s inv → w ≡ t
    → Climbs (product i) (prime i) x residue (x + m * w)
climb_is i {m} {x} {residue} {p} {had} {s} {inv} {t} {w} h e l k f g u v a b =
    let times : w ≡ mul (prime i) (sub (prime i) residue (x % prime i)) inv = cc in
    subst (λ (n : ℕ). Climbs (product i) (prime i) x residue n) (ap₂ (λ (y z : ℕ). x + y * z) (sym e) (sym times))
    (climbs (prime i) (product i) inv (prime-positive i h) v.rule x residue (omega (arith, e)) k)

-- and what it computes on the way stays below the product of all ten
pub climb_fits : (i s inv : ℕ) {m x p t w : ℕ} → i < 10 → m ≡ product i → x < m → p ≡ prime i → t ≡ mul p s inv → w ≡ t → x + m * w < 6469693230
climb_fits i s inv {m} {x} {p} {t} {w} h e l f a b =
    let less : w < p = omega (arith, b, a, mul-below {p = p} (omega (arith, f, prime-positive i h)) s inv) in
    omega (arith, mul-le-mul_left m less, product-step i e f, product-most (i + 1) (omega arith))

-- ---- splitting and joining

pub join_any : SplitIsReduced
unfolding split
join_any r h x =
    join_is (split r x) r (x % product r) h
    (record {
      below = mod-lt x (products_positive r h);
      has = λ j l. mod_product prime r j l x ∙ sym (get_or-tab r (λ i. x % prime i) j 0 l);
    })

pub join-split : SplitIsJoined
join-split r x h l = join_any r h x ∙ mod-eq_of_lt l

pub split-join : JoinedIsSplit
unfolding split
split-join r residues h s e =
    let found = reached residues r h e r (le_refl r) in
    let x = found.number in
    ap (λ (n : ℕ). tab r (λ i. n % prime i)) (join_is residues r x h found.climbed)
    ∙ sym (is-tab r (λ i. x % prime i) residues 0 s (λ i l. sym (found.climbed.has i l)))
