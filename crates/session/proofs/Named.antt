-- Order 9: whom outputs name. That a number of 2 ^ n or more names a party from n up, and the other way round; when 28 passes; and what the code's
-- search comes to.
-- Assumes nothing.
use mathlib.Core.Path.{◌≡◌, refl, sym, ap, ◌∙◌}
use mathlib.Core.Bool.{Bool, true, false}
use mathlib.Core.List.{List}
use Prim.Native.Nat.{ℕ, zero, suc, ◌+◌, ◌/◌, ◌%◌, ◌^◌, ◌≤◌, ◌<◌}
use native.Mathlib.Nat.{div-eq_of_lt, le-div_iff_mul-le}
use native.Mathlib.Decide.{dec_lt}
use native.Mathlib.Omega.{arith}
use borrow.Author.Tests.{lt-leb, leb-true, leb-false, eqb-true, eq-eqb}
use lib.Dec.{eqb}
use lib.ListN.{length, get_or}
use lib.Seq.{length-take-le}
use lib.Pow.{pow_pos, pow_mono, shr-shr}
use Rattle.lists.specs.First.{first}
use Rattle.checks.specs.declared.Refusal.TheVariants.{NamedAbsent}
use Rattle.checks.specs.Checked.{none_bad, named}
use Rattle.checks.proofs.Answers.{none_bad-found}
use Rattle.checks.proofs.Passed.{and_then_passed, none_bad_passed, none_bad_none}
use Rattle.words.specs.declared.gate.Wire.{Wire}
use Rattle.circuit.specs.declared.Circuit.{Circuit}
use Rattle.circuit.specs.Held.{named_in, Held}
use Rattle.circuit.specs.Named.{names}
use Rattle.session.specs.Session.{named_absent, named_checked, partakers_checked}
use Rattle.session.proofs.Sessions.{OwnersFit, owners_passed}
use Rattle.checks.specs.Answer.{Answer, accepts}

-- ---- a number names a party from n up exactly if it is 2 ^ n or more

-- a party that is named
pub record Party (parties least : ℕ) : Type 0 where
  pub party : ℕ
  pub from : least ≤ party
  pub named : names parties party ≡ true

-- the parties from k up are those that the number over 2 ^ k names, counted from 0
raised : (parties k : ℕ) → Party (parties / 2 ^ k) 0 → Party parties k
raised parties k p =
    record { party = k + p.party; from = omega arith; named = ap (λ (x : ℕ). eqb (x % 2) 1) (sym (shr-shr parties k p.party)) ∙ p.named }

-- a number that is not 0 names one: party 0 where it is odd, else the next after one that its half names
halved : (parties bit : ℕ) → parties % 2 ≡ bit → (bit ≡ 0 → Party (parties / 2) 0) → Party parties 0
halved parties zero e half = let p = raised parties 1 (half refl) in record { party = p.party; from = omega arith; named = p.named }
halved parties (suc bit) e half = record { party = 0; from = omega arith; named = eq-eqb (parties / 2 ^ 0 % 2) 1 (omega arith) }

some-named : (most parties : ℕ) → parties ≤ most → 0 < parties → Party parties 0
some-named zero parties h some = absurd (omega arith)
some-named (suc most) parties h some =
    halved parties (parties % 2) refl (λ even. some-named most (parties / 2) (omega arith) (omega arith))

pub absent_named : (n parties : ℕ) → named_absent n parties ≡ true → Party parties n
absent_named n parties e =
    let high : ℕ = parties / 2 ^ n in
    raised parties n (some-named high high (omega arith) ((le-div_iff_mul-le (pow_pos n)).1 (omega (arith, leb-true (2 ^ n) parties e))))

pub named-below : (n parties s : ℕ) → parties < 2 ^ n → names parties s ≡ true → s < n
named-below n parties s l e = go (dec_lt s n)
  where
    go : Dec (s < n) → s < n
    go (yes h) = h
    go (no h) =
        let high : parties < 2 ^ s = omega (arith, pow_mono {i = n} {j = s} (omega arith)) in
        let z : ◌≡◌ {A = ℕ} 0 1 = ap (λ (x : ℕ). x % 2) (sym (div-eq_of_lt high)) ∙ eqb-true (parties / 2 ^ s % 2) 1 e in
        absurd (omega arith)

pub none_absent : (n parties : ℕ) → ((s : ℕ) → names parties s ≡ true → s < n) → named_absent n parties ≡ false
none_absent n parties below = go (named_absent n parties) refl
  where
    go : (b : Bool) → named_absent n parties ≡ b → b ≡ false
    go true e = let p = absent_named n parties e in absurd (omega (arith, p.from, below p.party p.named))
    go false e = refl

-- ---- 28, and 13 before it

-- every party that an output names takes part
pub record NamedFit (n : ℕ) (named : List ℕ) : Type 0 where
  pub below : (i s : ℕ) → i < length named → names (get_or named i 0) s ≡ true → s < n

module _ {n : ℕ} {named : List ℕ} where
  pub named_passed : NamedFit n named → named_checked n named ≡ accepts
  unfolding named_checked
  named_passed fit =
      none_bad_passed (length named) (λ i. named_absent n (get_or named i 0)) NamedAbsent (λ i h. none_absent n (get_or named i 0) (λ s e. fit.below i s h e))

  pub partakers_passed : {wires : List Wire} → OwnersFit n wires → NamedFit n named → partakers_checked n wires named ≡ accepts
  unfolding partakers_checked
  partakers_passed owners fit = and_then_passed (owners_passed owners) (named_passed fit)

pub named_fit : (n : ℕ) (named : List ℕ) → named_checked n named ≡ accepts → NamedFit n named
unfolding named_checked
named_fit n named e =
    record {
      below =
          λ i s h is.
          named-below n (get_or named i 0) s
          (leb-false (2 ^ n) (get_or named i 0) (none_bad_none (length named) (λ j. named_absent n (get_or named j 0)) NamedAbsent e i h)) is;
    }

-- ---- the code's test, 1 << n where n is below 8

eight : {n : ℕ} → 8 ≤ n → 256 ≤ 2 ^ n
eight h = pow_mono h

-- of eight parties none is absent where n is 8 or more
pub all_take_part : (n parties : ℕ) → 8 ≤ n → parties < 256 → false ≡ named_absent n parties
all_take_part n parties h l = sym (lt-leb (2 ^ n) parties (omega (arith, l, eight h)))

-- ---- a search's answer, 28

abbrev pub named_at : Circuit → ℕ → ℕ → Bool
named_at circuit n i = named_absent n (get_or (named_in circuit) i 0)

pub named_met : (circuit : Circuit) (n : ℕ) {found : ℕ} {answer : Answer} → Held circuit → found ≡ first circuit.given (named_at circuit n) → answer ≡ named circuit.given found NamedAbsent
    → answer ≡ named_checked n (named_in circuit)
unfolding named_checked
named_met circuit n held e f =
    none_bad-found circuit.given (named_at circuit n) NamedAbsent e f
    ∙ ap (λ (m : ℕ). none_bad m (named_at circuit n) NamedAbsent) (sym (length-take-le circuit.given circuit.named (omega (arith, held.given, held.named))))
