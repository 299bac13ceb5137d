-- The session's checks, 11 to 14: when they pass, and what it gives that they did.
-- Assumes nothing.
use mathlib.Core.Path.{◌≡◌, refl, sym, ap, ◌∙◌}
use mathlib.Core.Bool.{Bool, true, false, ◌&&◌}
use mathlib.Core.List.{List, [], ◌∷◌}
use Prim.Native.Nat.{ℕ, ◌≤◌, ◌<◌}
use lib.Dec.{eqb, leb, ltb}
use lib.ListN.{length}
use borrow.Author.Tests.{leb-true, le-leb, ltb-true, lt-ltb, leb-false, lt-leb, eqb-true, eq-eqb}
use Rattle.residue.proofs.Table.{and_left, and_right}
use Rattle.checks.specs.declared.Refusal.TheVariants.{SessionRange, NoSuchParty, OwnerAbsent, WrongLength}
use Rattle.checks.proofs.Passed.{unless_passed, unless-true, none_bad_passed, none_bad_none}
use Rattle.words.specs.declared.gate.Owned.{Owned}
use Rattle.words.specs.declared.gate.Gate.{Gate}
use Rattle.words.specs.declared.gate.Gate.TheVariants.{Input, Add, Scale, Multiply, Project, Select}
use Rattle.words.specs.declared.gate.Wire.{Wire}
use Rattle.circuit.specs.Wires.{wire_at}
use Rattle.session.specs.Session.{parties_checked, session_checked, party_checked, owner_absent, owners_checked, same_numbers, lengths_checked}
use Rattle.checks.specs.Answer.{accepts}

-- ---- 11

both : {a b : Bool} → a ≡ true → b ≡ true → (a && b) ≡ true
both e f = rw (e, f)

-- a range, tested
ranged : (low high x : ℕ) → low ≤ x → x ≤ high → (leb low x && leb x high) ≡ true
ranged low high x h k = both (le-leb low x h) (le-leb x high k)

-- 2 to 8 parties; with key length, 1 to 128
pub record PartiesFit (n : ℕ) : Type 0 where
  pub least : 2 ≤ n
  pub most : n ≤ 8

pub record SessionFits (n K : ℕ) : Type 0 where
  pub parties : PartiesFit n
  pub least : 1 ≤ K
  pub most : K ≤ 128

fit : (n : ℕ) → (leb 2 n && leb n 8) ≡ true → PartiesFit n
fit n e = record { least = leb-true 2 n (and_left (leb 2 n) (leb n 8) e); most = leb-true n 8 (and_right (leb 2 n) (leb n 8) e) }

pub parties_passed : {n : ℕ} → PartiesFit n → parties_checked n ≡ accepts
unfolding parties_checked
parties_passed {n} r = unless_passed SessionRange 0 (ranged 2 8 n r.least r.most)

pub session_passed : {n K : ℕ} → SessionFits n K → session_checked n K ≡ accepts
unfolding session_checked
session_passed {n} {K} r =
    unless_passed SessionRange 0 (both (ranged 2 8 n r.parties.least r.parties.most) (ranged 1 128 K r.least r.most))

pub session-fits : (n K : ℕ) → session_checked n K ≡ accepts → SessionFits n K
unfolding session_checked
session-fits n K e =
    let test = unless-true ((leb 2 n && leb n 8) && (leb 1 K && leb K 128)) SessionRange 0 e in
    let key = and_right (leb 2 n && leb n 8) (leb 1 K && leb K 128) test in
    record {
      parties = fit n (and_left (leb 2 n && leb n 8) (leb 1 K && leb K 128) test);
      least = leb-true 1 K (and_left (leb 1 K) (leb K 128) key);
      most = leb-true K 128 (and_right (leb 1 K) (leb K 128) key);
    }

-- ---- 12

pub party_passed : {n party : ℕ} → party < n → party_checked n party ≡ accepts
unfolding party_checked
party_passed {n} {party} h = unless_passed NoSuchParty party (lt-ltb party n h)

pub party-below : (n party : ℕ) → party_checked n party ≡ accepts → party < n
unfolding party_checked
party-below n party e = ltb-true party n (unless-true (ltb party n) NoSuchParty party e)

-- ---- 13

-- every input's owner is one of the parties
pub record OwnersFit (n : ℕ) (wires : List Wire) : Type 0 where
  pub below : (w : ℕ) (g : Owned) → w < length wires → (wire_at wires w).gate ≡ Input g → g.owner < n

owner_fine : (n : ℕ) (gate : Gate) → ((g : Owned) → gate ≡ Input g → g.owner < n) → owner_absent n gate ≡ false
owner_fine n (Input g) h = lt-leb n g.owner (h g refl)
owner_fine n (Add g) h = refl
owner_fine n (Scale g) h = refl
owner_fine n (Multiply g) h = refl
owner_fine n (Project g) h = refl
owner_fine n (Select g) h = refl

pub owners_passed : {n : ℕ} {wires : List Wire} → OwnersFit n wires → owners_checked n wires ≡ accepts
unfolding owners_checked
owners_passed {n} {wires} r =
    none_bad_passed (length wires) (λ w. owner_absent n (wire_at wires w).gate) OwnerAbsent
    (λ w h. owner_fine n (wire_at wires w).gate (λ g e. r.below w g h e))

pub owners_fit : (n : ℕ) (wires : List Wire) → owners_checked n wires ≡ accepts → OwnersFit n wires
unfolding owners_checked
owners_fit n wires e = record {
  below = λ w g h k.
      leb-false n g.owner
      (ap (owner_absent n) (sym k) ∙ none_bad_none (length wires) (λ v. owner_absent n (wire_at wires v).gate) OwnerAbsent e w h);
}

-- ---- 14

pub same-numbers : (xs : List ℕ) → same_numbers xs xs ≡ true
unfolding same_numbers
same-numbers [] = refl
same-numbers (x ∷ xs) = rw (eq-eqb x x refl) (same-numbers xs)

pub numbers_same : (xs ys : List ℕ) → same_numbers xs ys ≡ true → xs ≡ ys
unfolding same_numbers
numbers_same [] [] e = refl
numbers_same [] (y ∷ ys) e = cc
numbers_same (x ∷ xs) [] e = cc
numbers_same (x ∷ xs) (y ∷ ys) e =
    rw (eqb-true x y (and_left (eqb x y) (same_numbers xs ys) e), numbers_same xs ys (and_right (eqb x y) (same_numbers xs ys) e))

pub lengths-passed : {lent wanted : List ℕ} → lent ≡ wanted → lengths_checked lent wanted ≡ accepts
unfolding lengths_checked
lengths-passed {lent} {wanted} e = unless_passed WrongLength 0 (rw e (same-numbers wanted))

pub lengths_same : (lent wanted : List ℕ) → lengths_checked lent wanted ≡ accepts → lent ≡ wanted
unfolding lengths_checked
lengths_same lent wanted e = numbers_same lent wanted (unless-true (same_numbers lent wanted) WrongLength 0 e)
