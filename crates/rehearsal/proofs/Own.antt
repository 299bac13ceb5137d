-- A party's own of all inputs' bytes: the loop that picks them out, and the loop that puts its external values back to their wires.
-- Assumes nothing.
use mathlib.Core.Path.{◌≡◌, refl, sym, ap, ap₂, ◌∙◌}
use mathlib.Core.Bool.{Bool, true, false, cond}
use mathlib.Core.List.{List, [], ◌∷◌, map}
use Prim.Native.Nat.{ℕ, zero, suc, ◌+◌, ◌≤◌, ◌<◌}
use native.Mathlib.Nat.{not-suc-le-zero, le_of_suc-le-suc}
use native.Mathlib.Decide.{dec_lt}
use native.Mathlib.Omega.{arith}
use lib.Dec.{eqb}
use lib.ListN.{length, get_or, set, take, replicate, length-replicate, length-set, length-map}
use lib.Seq.{get_or-take, get_or-set_same, get_or-set_other, length-take-le, ext_get_or}
use Rattle.lists.specs.Blocks.{sum_to}
use Rattle.lists.proofs.Blocks.{length-tab, get_or-tab}
use Rattle.lists.proofs.Sums.{sum_to-next}
use Rattle.lists.proofs.Filled.{Filled, filled_start, filled_step, filled_old}
use Rattle.words.specs.declared.gate.Wire.{Wire}
use Rattle.circuit.specs.declared.Circuit.{Circuit}
use Rattle.circuit.specs.Wires.{wire_at}
use Rattle.circuit.specs.Held.{wires_in, Room, Held}
use Rattle.counts.specs.Counts.{mark, owned_by, Counts}
use Rattle.counts.proofs.Wires.{wire-at}
use Rattle.session.proofs.Circuits.{inputs-made}
use Rattle.calls.specs.Externals.{own_inputs}
use Rattle.calls.proofs.OwnInputs.{owns, place_of, own-length, own_at}
use Rattle.rehearsal.specs.Hosts.{Picked, scattered}

blank-long : {out : List ℕ} → out ≡ replicate 1024 0 → length out ≡ 1024
blank-long e = ap length e ∙ length-replicate {A = ℕ} 1024 0

map_at : (f : ℕ → ℕ) (xs : List ℕ) (i : ℕ) → i < length xs → get_or (map f xs) i 0 ≡ f (get_or xs i 0)
map_at f [] i h = absurd (not-suc-le-zero h)
map_at f (x ∷ xs) zero h = refl
map_at f (x ∷ xs) (suc i) h = map_at f xs i (le_of_suc-le-suc h)

-- ---- those among the first w wires stand at the front

pub record OwnTo (party : ℕ) (wires : List Wire) (all : List ℕ) (w count : ℕ) (out : List ℕ) : Type 0 where
  pub counted : count ≡ place_of party wires w
  pub most : count ≤ w
  pub long : length out ≡ 1024
  pub entry : (j : ℕ) → j < count → get_or out j 0 ≡ get_or all (get_or (own_inputs party wires) j 0) 0

pub own_start : (party : ℕ) (wires : List Wire) (all : List ℕ) {out : List ℕ} → out ≡ replicate 1024 0 → OwnTo party wires all 0 0 out
unfolding sum_to
own_start party wires all e = record { counted = refl; most = omega arith; long = blank-long e; entry = λ j l. absurd (omega arith) }

module _ {circuit : Circuit} (room : Room circuit) (party : ℕ) where
  abbrev wires : List Wire
  wires = wires_in circuit

  made-is : length wires ≡ circuit.made
  made-is = length-take-le circuit.made circuit.wires (omega (arith, room.made, room.wires))

  module _ {all : List ℕ} {w count v x : ℕ} {out : List ℕ} (r : OwnTo party wires all w count out) (h : w < circuit.made)
      (k : Counts 1 (mark (owned_by party (wire_at circuit.wires w).gate)) v) (z : x ≡ get_or all w 0) where
    here : v ≡ mark (owns party wires w)
    here = k.is ∙ ap (λ (wire : Wire). mark (owned_by party wire.gate)) (sym (wire-at circuit.wires circuit.made w h))

    new : (b : Bool) → owns party wires w ≡ b → (j : ℕ) → j ≡ count → j < count + v → x ≡ get_or all (get_or (own_inputs party wires) j 0) 0
    new true e j q l =
        z
        ∙ ap (λ (i : ℕ). get_or all i 0)
        (sym (own_at party wires w 0 (omega (arith, made-is)) e) ∙ ap (λ (i : ℕ). get_or (own_inputs party wires) i 0) (sym r.counted ∙ sym q))
    new false e j q l = absurd (omega (arith, here ∙ ap mark e))

    pub own-step : OwnTo party wires all (w + 1) (count + v) (set out count x)
    own-step =
        record {
          counted = ap (λ (n : ℕ). n + v) r.counted ∙ ap (λ (n : ℕ). place_of party wires w + n) here ∙ sym (sum_to-next w (λ i. mark (owns party wires i)));
          most = omega (arith, r.most, k.most);
          long = length-set out count x ∙ r.long;
          entry = λ j l. by j l (dec_lt j count);
        }
      where
        by : (j : ℕ) → j < count + v → Dec (j < count) → get_or (set out count x) j 0 ≡ get_or all (get_or (own_inputs party wires) j 0) 0
        by j l (yes m) = get_or-set_other out count j x 0 (λ q. absurd (omega arith)) ∙ r.entry j m
        by j l (no m) =
            let q : j ≡ count = omega (arith, k.most) in
            ap (λ (i : ℕ). get_or (set out count x) i 0) q
            ∙ get_or-set_same out count x 0 (omega (arith, r.most, r.long, room.made))
            ∙ new (owns party wires w) refl j q l

  pub own-front : {all : List ℕ} {w count : ℕ} {out : List ℕ} → OwnTo party wires all w count out → w ≤ circuit.made → circuit.made ≤ w → Picked party wires all out
  own-front {all} {w} {count} {out} r h k =
      let e : w ≡ length wires = omega (arith, made-is) in
      let full : length (own_inputs party wires) ≡ count = own-length party wires ∙ ap (place_of party wires) (sym e) ∙ sym r.counted in
      let size : length (take (length (own_inputs party wires)) out) ≡ length (own_inputs party wires) =
      length-take-le (length (own_inputs party wires)) out (omega (arith, r.most, r.long, room.made)) in
      record {
        long = r.long;
        front =
            ext_get_or 0 (take (length (own_inputs party wires)) out) (map (λ v. get_or all v 0) (own_inputs party wires))
            (size ∙ sym (length-map (own_inputs party wires) (λ v. get_or all v 0)))
            (λ i l.
            get_or-take (length (own_inputs party wires)) out i 0 (omega arith)
            ∙ r.entry i (omega arith)
            ∙ sym (map_at (λ v. get_or all v 0) (own_inputs party wires) i (omega arith)));
      }

-- ---- a party's external values at the first w wires

mark-eqb : (b : Bool) → eqb (mark b) 1 ≡ b
mark-eqb true = refl
mark-eqb false = refl

pub record ScatterTo (party : ℕ) (wires : List Wire) (mine before : List ℕ) (w count : ℕ) (out : List ℕ) : Type 0 where
  pub counted : count ≡ place_of party wires w
  pub most : count ≤ w
  pub filled : Filled before w (length before) (scattered party wires mine before) out

pub scatter_start : (party : ℕ) (wires : List Wire) (mine before : List ℕ) → ScatterTo party wires mine before 0 0 before
unfolding sum_to
scatter_start party wires mine before =
    record {
      counted = refl;
      most = omega arith;
      filled = filled_start (length-tab (length before) _) (omega arith);
    }

module _ {circuit : Circuit} (held : Held circuit) (party : ℕ) where
  abbrev ws : List Wire
  ws = wires_in circuit

  pub scatter_step : {mine before : List ℕ} → length before ≡ circuit.inputs → {w count v x : ℕ} {out : List ℕ} → ScatterTo party ws mine before w count out → w < circuit.inputs
      → Counts 1 (mark (owned_by party (wire_at circuit.wires w).gate)) v → x ≡ cond (eqb v 1) (get_or mine count 0) (get_or out w 0)
      → ScatterTo party ws mine before (w + 1) (count + v) (set out w x)
  scatter_step {mine} {before} size {w} {count} {v} {x} {out} r h k e =
      let here : v ≡ mark (owns party ws w) =
      k.is ∙ ap (λ (wire : Wire). mark (owned_by party wire.gate)) (sym (wire-at circuit.wires circuit.made w (omega (arith, inputs-made held)))) in
      let test : eqb v 1 ≡ owns party ws w = ap (λ (i : ℕ). eqb i 1) here ∙ mark-eqb (owns party ws w) in
      record {
        counted = ap (λ (n : ℕ). n + v) r.counted ∙ ap (λ (n : ℕ). place_of party ws w + n) here ∙ sym (sum_to-next w (λ i. mark (owns party ws i)));
        most = omega (arith, r.most, k.most);
        filled =
            filled_step r.filled (omega arith)
            (get_or-tab (length before) _ w 0 (omega arith)
            ∙ sym (e
            ∙ ap (λ (b : Bool). cond b (get_or mine count 0) (get_or out w 0)) test
            ∙ ap₂ (λ (i o : ℕ). cond (owns party ws w) (get_or mine i 0) o) r.counted (filled_old r.filled w (omega arith))));
      }
