-- What the code's searches and tests come to: the answers of the session's checks.
-- Assumes nothing.
use mathlib.Core.Path.{◌≡◌, refl, sym, ap, ◌∙◌}
use mathlib.Core.Bool.{Bool, true, false, ◌&&◌}
use mathlib.Core.Logic.{◌⊎◌, inl, inr}
use mathlib.Core.List.{List, [], ◌∷◌}
use Prim.Native.Nat.{ℕ, ◌≤◌, ◌<◌}
use native.Mathlib.Omega.{arith}
use borrow.Author.Tests.{le-leb, lt-leb, le-ltb}
use lib.Dec.{eqb, leb}
use lib.ListN.{length, get_or}
use lib.Seq.{length-take-le}
use lib.Pointwise.{pointwise}
use Rattle.std.specs.List.{zip}
use Rattle.std.proofs.lemmas.Slice.Zip.{get_or-zip, length-zip}
use Rattle.lists.specs.First.{first}
use Rattle.lists.proofs.First.{first_ext}
use Rattle.checks.specs.declared.Refusal.TheVariants.{SessionRange, NoSuchParty, OwnerAbsent, WrongLength, ValueTooLarge}
use Rattle.checks.specs.Checked.{none_bad, named}
use Rattle.checks.proofs.Answers.{unless-refused, none_bad-found}
use Rattle.checks.proofs.Passed.{unless_passed}
use Rattle.words.specs.declared.gate.Wire.{Wire}
use Rattle.circuit.specs.declared.Circuit.{Circuit}
use Rattle.circuit.specs.Wires.{no_wire, wire_at, modulus_at}
use Rattle.circuit.specs.Held.{wires_in, Room}
use Rattle.session.proofs.Sessions.{parties_passed}
use Rattle.session.specs.Session.{parties_checked, session_checked, party_checked, owner_absent, owners_checked, same_numbers, lengths_checked, too_large, values_checked}
use Rattle.checks.specs.Answer.{Answer, accepts, refuses}

-- ---- 11

no_and : (a : Bool) {b : Bool} → b ≡ false → (a && b) ≡ false
no_and true e = e
no_and false e = refl

-- a number that is not in a range
out-of : (low high : ℕ) {x : ℕ} → (x < low) ⊎ (high < x) → (leb low x && leb x high) ≡ false
out-of low high {x} (inl h) = rw (lt-leb low x h)
out-of low high {x} (inr h) = no_and (leb low x) (lt-leb x high h)

pub parties-out : {n : ℕ} → (n < 2) ⊎ (8 < n) → refuses SessionRange 0 ≡ parties_checked n
unfolding parties_checked
parties-out h = sym (unless-refused SessionRange 0 (out-of 2 8 h))

pub parties_met : {n : ℕ} → 2 ≤ n → n ≤ 8 → accepts ≡ parties_checked n
parties_met h k = sym (parties_passed (record { least = h; most = k }))

-- key length too: 1 to 128
yes_and : (a : Bool) {b : Bool} → b ≡ true → (a && b) ≡ a
yes_and true e = e
yes_and false e = refl

pub keys-out : (n : ℕ) {K : ℕ} → (K < 1) ⊎ (128 < K) → refuses SessionRange 0 ≡ session_checked n K
unfolding session_checked
keys-out n h = sym (unless-refused SessionRange 0 (no_and (leb 2 n && leb n 8) (out-of 1 128 h)))

pub session_met : (n : ℕ) {K : ℕ} {answer : Answer} → 1 ≤ K → K ≤ 128 → answer ≡ parties_checked n → answer ≡ session_checked n K
unfolding session_checked parties_checked
session_met n {K} h k m =
    rw (yes_and (leb 2 n && leb n 8) {b = leb 1 K && leb K 128} (rw (le-leb 1 K h, le-leb K 128 k))) m

-- ---- 12

pub party_absent : {n party : ℕ} → n ≤ party → refuses NoSuchParty party ≡ party_checked n party
unfolding party_checked
party_absent {n} {party} h = sym (unless-refused NoSuchParty party (le-ltb party n h))

-- ---- 14

-- the code compares the lists as the definition does
pointwise-same : (xs ys : List ℕ) → pointwise eqb xs ys ≡ same_numbers xs ys
unfolding same_numbers
pointwise-same [] [] = refl
pointwise-same [] (y ∷ ys) = refl
pointwise-same (x ∷ xs) [] = refl
pointwise-same (x ∷ xs) (y ∷ ys) = ap (λ (b : Bool). eqb x y && b) (pointwise-same xs ys)

module _ (lent wanted : List ℕ) where
  pub lengths_met : true ≡ pointwise eqb lent wanted → accepts ≡ lengths_checked lent wanted
  unfolding lengths_checked
  lengths_met e = sym (unless_passed WrongLength 0 (sym (e ∙ pointwise-same lent wanted)))

  pub lengths-wrong : false ≡ pointwise eqb lent wanted → refuses WrongLength 0 ≡ lengths_checked lent wanted
  unfolding lengths_checked
  lengths-wrong e = sym (unless-refused WrongLength 0 (sym (e ∙ pointwise-same lent wanted)))

-- ---- a search's answer, 13 and 15

abbrev pub absent_at : Circuit → ℕ → ℕ → Bool
absent_at circuit n w = owner_absent n (wire_at (wires_in circuit) w).gate

pub owners_met : (circuit : Circuit) (n : ℕ) {found : ℕ} {answer : Answer} → Room circuit → found ≡ first circuit.made (absent_at circuit n) → answer ≡ named circuit.made found OwnerAbsent
    → answer ≡ owners_checked n (wires_in circuit)
unfolding owners_checked
owners_met circuit n room e f =
    none_bad-found circuit.made (absent_at circuit n) OwnerAbsent e f
    ∙ ap (λ (m : ℕ). none_bad m (absent_at circuit n) OwnerAbsent) (sym (length-take-le circuit.made circuit.wires (omega arith)))

pub values_met : (circuit : Circuit) (values : List ℕ) {found : ℕ} {answer : Answer} → Room circuit → found ≡ first (length values) (too_large values (modulus_at (wires_in circuit))) → answer ≡ named (length values) found ValueTooLarge
    → answer ≡ values_checked values (modulus_at (wires_in circuit))
unfolding values_checked
values_met circuit values room e f = none_bad-found (length values) (too_large values (modulus_at (wires_in circuit))) ValueTooLarge e f

-- a value beside its wire is too large where it is by their numbers
module _ (values : List ℕ) (wires : List Wire) (room : length values ≤ length wires) where
  pub pairs : length (zip values wires) ≡ length values
  pairs = omega (arith, length-zip values wires)

  pub first-large : first (length values) (λ i. leb (get_or (zip values wires) i (0, no_wire)).1.modulus (get_or (zip values wires) i (0, no_wire)).0) ≡ first (length values) (too_large values (modulus_at wires))
  first-large =
      first_ext (length values) (λ i. leb (get_or (zip values wires) i (0, no_wire)).1.modulus (get_or (zip values wires) i (0, no_wire)).0) (too_large values (modulus_at wires))
      (λ i h. ap (λ (p : ℕ × Wire). leb p.1.modulus p.0) (get_or-zip values wires i (0, no_wire) h (omega arith)))
