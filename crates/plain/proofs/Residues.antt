-- Laws of the plain circuit: its values are below their moduli, and what a loop holds that computes them.
-- Assumes nothing.
use mathlib.Core.Path.{◌≡◌, refl, sym, ap, ap₂, ◌∙◌}
use mathlib.Core.Bool.{Bool, true, false}
use mathlib.Core.List.{List, [], ◌∷◌, ◌++◌}
use Prim.Native.Nat.{ℕ, zero, suc, ◌+◌, ◌*◌, ◌/◌, ◌≤◌, ◌<◌}
use native.Mathlib.Numerals.{add-one}
use native.Mathlib.Decide.{dec_lt}
use native.Mathlib.Omega.{arith}
use borrow.Author.Tests.{ltb-true}
use lib.Dec.{ltb, eqb}
use lib.ListN.{length, get_or, set, length-set, get_or-append}
use lib.Seq.{get_or-take, get_or_at, take-suc-set}
use Rattle.residue.proofs.Vectors.{add-below, mul-below}
use Rattle.residue.specs.Residue.{add, mul}
use Rattle.words.specs.Bits.{image, word_at}
use Rattle.words.specs.declared.gate.Gate.{Gate}
use Rattle.words.specs.declared.gate.Wire.{Wire}
use Rattle.circuit.specs.Wires.{wire_at, modulus_at, inputs_in, is_input}
use Rattle.circuit.specs.Accepted.{GateFits, Alike}
use Rattle.circuit.proofs.Moduli.{wire-positive}
use Rattle.lists.specs.Grown.{grown, extended}
use Rattle.lists.proofs.Grown.{length-grown}
use Rattle.plain.specs.Plain.{chosen_by, plain_by, plain_to}
use Rattle.plain.specs.Ready.{Below, Ready, Fed, Done}

-- ---- one wire more

pub plain-length : (file : List ℕ) (wires : List Wire) (values : List ℕ) (w : ℕ) → length (plain_to file wires values w) ≡ w
unfolding plain_to
plain-length file wires values w = length-grown (λ v below. plain_by file values v (modulus_at wires v) (wire_at wires v).gate (λ a. get_or below a 0)) w

more : (P : ℕ → ℕ → Type 0) (xs : List ℕ) (x n : ℕ) → length xs ≡ n → ((a : ℕ) → a < n → P a (get_or xs a 0)) → P n x → (a : ℕ) → a < suc n → P a (get_or (xs ++ (x ∷ [])) a 0)
more P xs x n e lower new a h = by_place (dec_lt a n)
  where
    by_place : Dec (a < n) → P a (get_or (xs ++ (x ∷ [])) a 0)
    by_place (yes l) = rw (get_or-append xs (x ∷ []) 0 a (omega arith)) (lower a l)
    by_place (no l) = let k : a ≡ n = omega arith in rw (get_or_at xs x [] 0 a (e ∙ sym k), k) new

-- ---- a gate's value is below its wire's modulus, where the values that it looks up are below theirs

choose_below : (which : Bool) (a b p : ℕ) → a < p → b < p → chosen_by which a b < p
choose_below true a b p h k = h
choose_below false a b p h k = k

module _ {file : List ℕ} {wires : List Wire} {outputs values : List ℕ} (fed : Fed file wires outputs values) (w : ℕ) (h : w < length wires) where
  abbrev p : ℕ
  p = modulus_at wires w

  positive : 0 < p
  positive = wire-positive fed.accepted w h

  module _ (look : ℕ → ℕ) (lower : (a : ℕ) → a < w → look a < modulus_at wires a) where
    alike : {a : ℕ} → Alike wires w a → look a < p
    alike {a} f = rw (← f.same) (lower a f.lower)

    by-gate : {gate : Gate} → GateFits file wires w gate → is_input gate ≡ ltb w (inputs_in wires) → plain_by file values w p gate look < p
    unfolding plain_by
    by-gate (GateFits.input f) e = fed.below w (ltb-true w (inputs_in wires) (sym e))
    by-gate (GateFits.add f) e = add-below positive _ _
    by-gate (GateFits.scale f) e = mul-below positive _ _
    by-gate (GateFits.multiply f) e = mul-below positive _ _
    by-gate (GateFits.project f) e = (f.entries _ (lower _ f.lower)).image
    by-gate (GateFits.select {gate = gate} f) e = choose_below (eqb (look gate.bit) 0) _ _ p (alike f.a) (alike f.b)

    pub wire-below : plain_by file values w p (wire_at wires w).gate look < p
    wire-below = by-gate (fed.accepted.fits w h).gate (fed.accepted.inputs_first w h)

-- document 01's plain values are residues
module _ {file : List ℕ} {wires : List Wire} {outputs values : List ℕ} (fed : Fed file wires outputs values) where
  pub plain-below : (n : ℕ) → n ≤ length wires → (a : ℕ) → a < n → get_or (plain_to file wires values n) a 0 < modulus_at wires a
  unfolding plain_to grown extended
  plain-below zero h a l = absurd (omega arith)
  plain-below (suc n) h a l =
      more (λ a v. v < modulus_at wires a) (plain_to file wires values n) _ n (plain-length file wires values n)
      (plain-below n (omega arith))
      (wire-below fed n h (λ a. get_or (plain_to file wires values n) a 0) (plain-below n (omega arith)))
      a l

-- ---- the loop that computes the values of all wires

module _ {file : List ℕ} {wires : List Wire} {outputs values : List ℕ} (fed : Fed file wires outputs values) {w : ℕ} (h : w < length wires) {done : List ℕ} (r : Done file wires values w done) where
  -- a lower wire's value stands in the array
  lower_is : (a : ℕ) → a < w → get_or done a 0 ≡ get_or (plain_to file wires values w) a 0
  lower_is a l = sym (get_or-take w done a 0 l) ∙ ap (λ (xs : List ℕ). get_or xs a 0) r.front

  lower_below : (a : ℕ) → a < w → Below done (modulus_at wires a) a
  lower_below a l =
      record {
        held = omega (arith, fed.accepted.wires_limit, r.kept);
        below = rw (lower_is a l) (plain-below fed w (omega arith) a l);
      }

  like : {a : ℕ} → Alike wires w a → Below done (modulus_at wires w) a
  like {a} f = rw (← f.same) (lower_below a f.lower)

  inside : (i n : ℕ) → i < n / 4 → 4 * i < n
  inside i n l = omega arith

  by-kind : {gate : Gate} → GateFits file wires w gate → is_input gate ≡ ltb w (inputs_in wires) → Ready file values done w (modulus_at wires w) gate
  by-kind (GateFits.input f) e = Ready.input (omega (arith, fed.size, ltb-true w (inputs_in wires) (sym e)))
  by-kind (GateFits.add f) e = Ready.add (record { a = like f.a; b = like f.b })
  by-kind (GateFits.scale f) e = Ready.scale (like f.a)
  by-kind (GateFits.multiply f) e = Ready.multiply (record { a = like f.a; b = like f.b })
  by-kind (GateFits.project f) e =
      Ready.project
      (record {
        held = (lower_below _ f.lower).held;
        inside = inside _ _ (f.entries _ (lower_below _ f.lower).below).inside;
      })
  by-kind (GateFits.select f) e =
      Ready.select
      (record {
        bit = (lower_below _ f.lower).held;
        a = (like f.a).held;
        b = (like f.b).held;
      })

  pub ready : Ready file values done w (modulus_at wires w) (wire_at wires w).gate
  ready = by-kind (fed.accepted.fits w h).gate (fed.accepted.inputs_first w h)

  -- looking the lower wires up in the array gives the wire's plain value
  same-value : {gate : Gate} → GateFits file wires w gate
      → plain_by file values w (modulus_at wires w) gate (λ a. get_or done a 0) ≡ plain_by file values w (modulus_at wires w) gate (λ a. get_or (plain_to file wires values w) a 0)
  unfolding plain_by
  same-value (GateFits.input f) = refl
  same-value (GateFits.add f) = ap₂ (add (modulus_at wires w)) (lower_is _ f.a.lower) (lower_is _ f.b.lower)
  same-value (GateFits.scale {gate = gate} f) = ap (mul (modulus_at wires w) gate.constant) (lower_is _ f.a.lower)
  same-value (GateFits.multiply f) = ap₂ (mul (modulus_at wires w)) (lower_is _ f.a.lower) (lower_is _ f.b.lower)
  same-value (GateFits.project {gate = gate} f) = ap (λ (v : ℕ). image (word_at file (gate.table + v))) (lower_is _ f.lower)
  same-value (GateFits.select {gate = gate} f) =
      cc (lower_is gate.bit f.lower, lower_is gate.a f.a.lower, lower_is gate.b f.b.lower)

  pub done-step : {v : ℕ} → v ≡ plain_by file values w (modulus_at wires w) (wire_at wires w).gate (λ a. get_or done a 0) → Done file wires values (w + 1) (set done w v)
  unfolding plain_to grown extended
  done-step {v} e =
      record {
        kept = length-set done w v ∙ r.kept;
        front =
            rw (add-one, take-suc-set done w v (omega (arith, fed.accepted.wires_limit, r.kept)))
            (ap₂ (λ (xs : List ℕ) (x : ℕ). xs ++ (x ∷ [])) r.front (e ∙ same-value (fed.accepted.fits w h).gate));
      }
