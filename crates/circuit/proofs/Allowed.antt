-- Who may read an output, by the code's three cases: nobody is named, so everyone may; a party that has no bit; and a party's own bit.
-- Assumes nothing.
use mathlib.Core.Path.{◌≡◌, sym, ap, ◌∙◌}
use mathlib.Core.Bool.{Bool, true, false, ◌||◌}
use Prim.Native.Nat.{ℕ, ◌%◌, ◌^◌, ◌≤◌, ◌<◌}
use native.Mathlib.Nat.{div-eq_of_lt}
use native.Mathlib.Omega.{arith}
use borrow.Author.Tests.{eq-eqb, ne_eqb}
use lib.Dec.{eqb}
use lib.Pow.{pow_mono}
use Rattle.circuit.specs.Named.{names, may_read}

pub everyone_may : (named party : ℕ) → named ≡ 0 → true ≡ may_read named party
unfolding may_read
everyone_may named party e = sym (ap (λ (b : Bool). b || names named party) (eq-eqb named 0 e))

-- where somebody is named, it is the party's bit that counts
pub named-may : (named party : ℕ) → (named ≡ 0 → ⊥) → names named party ≡ may_read named party
unfolding may_read
named-may named party n = sym (ap (λ (b : Bool). b || names named party) (ne_eqb named 0 n))

-- .. and a byte has eight
nine : {party : ℕ} → 8 ≤ party → 256 ≤ 2 ^ party
nine h = pow_mono h

pub ninth_may_not : (named party : ℕ) → named < 256 → (named ≡ 0 → ⊥) → 8 ≤ party → false ≡ may_read named party
ninth_may_not named party l n h =
    ap (λ (x : ℕ). eqb (x % 2) 1) (sym (div-eq_of_lt {n = named} {m = 2 ^ party} (omega (arith, l, nine h)))) ∙ named-may named party n
