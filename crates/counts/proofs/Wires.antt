-- Laws of a wire by its number, in a list and in the array that begins with it.
-- Assumes nothing.
use mathlib.Core.Path.{◌≡◌, refl, ap, ◌∙◌}
use mathlib.Core.List.{List, [], ◌∷◌, ◌++◌}
use Prim.Native.Nat.{ℕ, zero, suc, ◌+◌, ◌-◌, ◌≤◌, ◌<◌}
use native.Mathlib.Nat.{sub-zero, zero-sub, suc-sub-suc}
use native.Mathlib.Omega.{arith}
use lib.ListN.{length, get_or, take, drop, set, replicate, length-replicate}
use lib.Seq.{get_or-take, length-take-le}
use Rattle.lists.proofs.Filled.{Filled, filled_start, filled_step, filled_done}
use Rattle.circuit.specs.declared.Circuit.{Circuit}
use Rattle.circuit.specs.File.{Read}
use Rattle.circuit.proofs.More.{made, modulus-of}
use Rattle.words.specs.declared.gate.Wire.{Wire}
use Rattle.circuit.specs.Wires.{no_wire, wire_at, modulus_at, moduli_of}
use Rattle.circuit.specs.Held.{wires_in, Room, Holds}

pub wire-at : (wires : List Wire) (made w : ℕ) → w < made → wire_at (take made wires) w ≡ wire_at wires w
wire-at wires made w h = get_or-take made wires w no_wire h

pub modulus-at : (wires : List Wire) (made w : ℕ) → w < made → modulus_at (take made wires) w ≡ modulus_at wires w
modulus-at wires made w h = ap (λ (a : Wire). a.modulus) (wire-at wires made w h)

pub drop-replicate : (n m a : ℕ) → drop m (replicate n a) ≡ replicate (n - m) a
drop-replicate n zero a = rw sub-zero
drop-replicate zero (suc m) a = rw zero-sub
drop-replicate (suc n) (suc m) a = rw suc-sub-suc (drop-replicate n m a)

get_or_zeros : (n a : ℕ) → ◌≡◌ {A = ℕ} (get_or (replicate n 0) a 0) 0
get_or_zeros zero a = refl
get_or_zeros (suc n) zero = refl
get_or_zeros (suc n) (suc a) = get_or_zeros n a

pub get_or-padded : (xs : List ℕ) (n a : ℕ) → get_or (xs ++ replicate n 0) a 0 ≡ get_or xs a 0
get_or-padded [] n a = get_or_zeros n a
get_or-padded (x ∷ xs) n zero = refl
get_or-padded (x ∷ xs) n (suc a) = get_or-padded xs n a

-- the moduli of the wires, with zeros behind them
pub padded-modulus : (wires : List Wire) (n a : ℕ) → get_or (moduli_of wires ++ replicate n 0) a 0 ≡ modulus_at wires a
padded-modulus wires n a = get_or-padded (moduli_of wires) n a ∙ modulus-of wires a

-- a circuit's array has room for its wires
pub made-in : {circuit : Circuit} → Room circuit → length (wires_in circuit) ≡ circuit.made
made-in {circuit} r = length-take-le circuit.made circuit.wires (omega (arith, r.made, r.wires))

pub few-wires : {circuit : Circuit} → Room circuit → length (wires_in circuit) ≤ 1024
few-wires r = omega (arith, made-in r, r.made)

-- the loop that writes the moduli of wires down
module _ (wires : List Wire) {out₀ : List ℕ} (blank : out₀ ≡ replicate 1024 0) where
  pub table_start : length wires ≤ 1024 → Filled out₀ 0 (length wires) (moduli_of wires) out₀
  table_start h = filled_start (made wires) (omega (arith, h, ap length blank ∙ length-replicate {A = ℕ} 1024 0))

  pub table-step : {out : List ℕ} {w : ℕ} → Filled out₀ w (length wires) (moduli_of wires) out → w < length wires → Filled out₀ (w + 1) (length wires) (moduli_of wires) (set out w (modulus_at wires w))
  table-step {out} {w} r h = filled_step r h (modulus-of wires w)

  pub table-done : {out : List ℕ} {w : ℕ} → Filled out₀ w (length wires) (moduli_of wires) out → length wires ≤ w → out ≡ moduli_of wires ++ replicate (1024 - length wires) 0
  table-done {out} {w} r h =
      filled_done r h
      ∙ ap (λ (l : List ℕ). moduli_of wires ++ l) (ap (λ (l : List ℕ). drop (length wires) l) blank ∙ drop-replicate 1024 (length wires) 0)

-- what the reader hands out has room for its wires
pub room : {circuit : Circuit} {read : Read} → Holds circuit read → Room circuit
room h = h.held.room
