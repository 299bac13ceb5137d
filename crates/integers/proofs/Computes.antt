-- The theorem on parts: in an accepted circuit that has a part's words where the call says, and whose bundles carry x and y, the bundle that the part makes
-- carries the result.
-- Assumes nothing.
use mathlib.Core.Path.{◌≡◌, refl, sym, ap, ap₂, subst, ◌∙◌}
use mathlib.Core.Bool.{true, ◌&&◌}
use mathlib.Core.List.{List, ◌∷◌, map}
use Prim.Native.Nat.{ℕ, zero, suc, ◌+◌, ◌-◌, ◌*◌, ◌%◌, ◌≤◌, ◌<◌}
use native.Mathlib.Nat.{mod-lt, add-mod, add-zero, zero-mul, zero-mod}
use native.Mathlib.Omega.{arith}
use lib.Dec.{leb}
use lib.ListN.{length, get_or}
use borrow.Author.Tests.{leb-true, lt-ltb}
use Rattle.lists.proofs.Blocks.{length-tab, get_or-tab}
use Rattle.residue.specs.Residue.{add, mul}
use Rattle.residue.proofs.Table.{and_left, and_right}
use Rattle.residue.proofs.Ring.{ring}
use Rattle.residue.proofs.Ring.Expr.{var, ◌⊕◌, ◌⊗◌}
use Rattle.words.specs.Items.{gate_due, is_modulus}
use Rattle.words.specs.Encode.{word_of, file_of}
use Rattle.words.specs.declared.gate.Wire.{Wire}
use Rattle.words.specs.declared.gate.Due.{Due}
use Rattle.circuit.specs.Wires.{modulus_at, moduli_of}
use Rattle.circuit.specs.File.{read_file}
use Rattle.circuit.proofs.More.{made, modulus-of, modulus-kept}
use Rattle.bundles.specs.declared.operation.Operation.{Operation}
use Rattle.bundles.specs.Primes.{prime}
use Rattle.bundles.specs.Part.{PartGate, Sum, items_of, words_of, scaled, gate_at, part_of, part_words}
use Rattle.bundles.specs.Call.{are_below}
use Rattle.bundles.proofs.Verdicts.{PartPassed, part_passed}
use Rattle.bundles.proofs.JoinedLaws.{prime-small, prime-positive, prime_is}
use Rattle.integers.specs.Reach.{Reach, Has}
use Rattle.integers.specs.Bundle.{Bundle, Carries, Given, Carried, result}
use Rattle.integers.specs.Promise.{PartComputes}
use Rattle.integers.proofs.Places.{Stands, stands, stands_left}
use Rattle.integers.proofs.Reaching.{wires_stay, Longer}
use Rattle.integers.proofs.Suits as suit
use Rattle.integers.proofs.Suits.{modulus_of, Suits, AllSuit, Arrived, apart, starts}
use Rattle.integers.proofs.Meets.{Meets, value_at, value_of, Ranged, each_at, meets}
use Rattle.checks.specs.Answer.{accepts}

-- ---- the gates suit a circuit that has the bundles

-- a bundle of wires, of which the first are those before the part
pub record Held (moduli : List ℕ) (r a : ℕ) : Type 0 where
  pub wire : (i : ℕ) → i < r → suit.Has moduli (prime i) (a + i)

held : (before wires : List Wire) → Longer before wires → {r a first : ℕ} → length before ≡ first → a + r ≤ first → Bundle wires r a → Held (moduli_of before) r a
held before wires long {r} {a} count below b =
    record {
      wire = λ i l.
          (let h : a + i < length before = omega arith in
          record {
            made = omega (arith, made before);
            modulus = modulus-of before (a + i) ∙ sym (modulus-kept before long.more (a + i) h) ∙ ap (λ (ws : List Wire). modulus_at ws (a + i)) (sym long.is) ∙ b.moduli i l;
          });
    }

-- .. those that a part takes
pub data Holds (moduli : List ℕ) (r a : ℕ) : Operation → Type 0 where
  adds : {b : ℕ} → Held moduli r a → Held moduli r b → Holds moduli r a (Operation.Add b)
  multiplies : {b : ℕ} → Held moduli r a → Held moduli r b → Holds moduli r a (Operation.Multiply b)
  scales : {constant : ℕ} → Held moduli r a → Holds moduli r a (Operation.Scale constant)

module _ (before wires : List Wire) (long : Longer before wires) {r a first : ℕ} (count : length before ≡ first) where
  both_held : {b : ℕ} → (leb (a + r) first && leb (b + r) first) ≡ true → Bundle wires r a → Bundle wires r b → Held (moduli_of before) r a × Held (moduli_of before) r b
  both_held {b} e f g = (
    held before wires long count (leb-true (a + r) first (and_left (leb (a + r) first) (leb (b + r) first) e)) f,
    held before wires long count (leb-true (b + r) first (and_right (leb (a + r) first) (leb (b + r) first) e)) g,
  )

  pub holds : {operation : Operation} → are_below operation r first a ≡ true → Given wires r a operation → Holds (moduli_of before) r a operation
  holds e (Given.add f g) = let h = both_held e f g in Holds.adds h.0 h.1
  holds e (Given.multiply f g) = let h = both_held e f g in Holds.multiplies h.0 h.1
  holds e (Given.scale f) = Holds.scales (held before wires long count (leb-true (a + r) first e) f)

scaled_suits : {moduli : List ℕ} {p a : ℕ} (constant : ℕ) → constant < p → p < 256 → is_modulus p ≡ true → suit.Has moduli p a → Suits moduli (scaled constant p a)
unfolding scaled
scaled_suits zero below small is-prime h = Suits.image below is-prime small h (record { below = λ v l. below })
scaled_suits (suc constant) below small is-prime h = Suits.multiple {constant = suc constant} (omega arith) below small h

a-modulus : (i : ℕ) → i < 10 → is_modulus (prime i) ≡ true
a-modulus i l = ap₂ ◌&&◌ (lt-ltb (prime i) 256 (prime-small i l)) (prime_is i l)

module _ {moduli : List ℕ} {r a : ℕ} (ten : r ≤ 10) where
  suits_at : {operation : Operation} → Holds moduli r a operation → (i : ℕ) → i < r → Suits moduli (gate_at operation a i)
  suits_at (Holds.adds f g) i l = Suits.sum (f.wire i l) (g.wire i l)
  suits_at (Holds.multiplies f g) i l = Suits.product (f.wire i l) (g.wire i l)
  suits_at (Holds.scales {constant} f) i l =
      scaled_suits (constant % prime i) (mod-lt constant (prime-positive i (omega arith))) (prime-small i (omega arith)) (a-modulus i (omega arith)) (f.wire i l)

  pub part_suits : {operation : Operation} → Holds moduli r a operation → AllSuit moduli (part_of operation r a)
  part_suits {operation} h =
      apart (part_of operation r a)
      (record {
        suits = λ i l.
            (let k : i < r = omega (arith, length-tab r (gate_at operation a)) in
            subst (Suits moduli) (sym (get_or-tab r (gate_at operation a) i (Sum 0 0 0) k)) (suits_at h i k));
      })

-- ---- residues

module _ {p : ℕ} (positive : 0 < p) where
  as_sum : (x : ℕ) → x % p ≡ add p x 0
  unfolding add
  as_sum x = ap (λ (n : ℕ). n % p) (sym (add-zero x))

  sum_residue : (x y : ℕ) → add p (x % p) (y % p) ≡ (x + y) % p
  unfolding add
  sum_residue x y = sym (add-mod x y p)

  product_residue : (x y : ℕ) → mul p (x % p) (y % p) ≡ x * y % p
  unfolding mul
  product_residue x y =
      ap₂ (mul p) (as_sum x) (as_sum y) ∙ ring positive ((var x ⊕ var 0) ⊗ (var y ⊕ var 0)) (var x ⊗ var y) tt tt (omega arith)

-- ---- what the gates of a part compute

-- a gate whose value is this one
record Gives (gate : PartGate) (value : ℕ → ℕ) (p v : ℕ) : Type 0 where
  modulus : modulus_of gate ≡ p
  ranged : Ranged gate value
  gives : value_of gate value ≡ v

scaled_gives : (constant x : ℕ) {p a : ℕ} (value : ℕ → ℕ) → 0 < p → value a ≡ x % p → (k : ℕ) → constant % p ≡ k → Gives (scaled k p a) value p (constant * x % p)
unfolding scaled mul
scaled_gives constant x {p} {a} value positive e zero f =
    record {
      modulus = refl;
      ranged = rw e (mod-lt x positive);
      gives = sym (sym (product_residue positive constant x) ∙ ap (λ (n : ℕ). mul p n (x % p)) f ∙ ap (λ (n : ℕ). n % p) (zero-mul (x % p)) ∙ zero-mod p);
    }
scaled_gives constant x {p} {a} value positive e (suc k) f =
    record { modulus = refl; ranged = tt; gives = ap₂ (mul p) (sym f) e ∙ product_residue positive constant x }

module _ {file values : List ℕ} {r a x y : ℕ} (ten : r ≤ 10) where
  gives_at : {operation : Operation} → Carried file values r a x y operation → (i : ℕ) → i < r
      → Gives (gate_at operation a i) (value_at file values) (prime i) (result operation x y % prime i)
  gives_at (Carried.add f g) i l =
      record { modulus = refl; ranged = tt; gives = ap₂ (add (prime i)) (f.residues i l) (g.residues i l) ∙ sum_residue (prime-positive i (omega arith)) x y }
  gives_at (Carried.multiply f g) i l =
      record { modulus = refl; ranged = tt; gives = ap₂ (mul (prime i)) (f.residues i l) (g.residues i l) ∙ product_residue (prime-positive i (omega arith)) x y }
  gives_at (Carried.scale {constant} f) i l =
      scaled_gives constant x (value_at file values) (prime-positive i (omega arith)) (f.residues i l) (constant % prime i) refl

given : {file values : List ℕ} {r a x y : ℕ} {operation : Operation} → Carried file values r a x y operation → Given (read_file file).wires r a operation
given (Carried.add f g) = Given.add f.bundle g.bundle
given (Carried.multiply f g) = Given.multiply f.bundle g.bundle
given (Carried.scale f) = Given.scale f.bundle

-- ---- the theorem

-- where the part stands, a gate is due
module _ (file : List ℕ) (good : (read_file file).answer ≡ accepts) {at : ℕ} {due : Due} {before : List Wire} {outputs : List ℕ} (reach : Reach file at due before outputs) where
  due_there : {gates : List PartGate} → AllSuit (moduli_of before) gates → 0 < length gates → length before ≤ 1024 → Stands file at (words_of gates) → gate_due due ≡ true
  unfolding words_of
  due_there AllSuit.none h most s = absurd (omega arith)
  due_there {gates = gate ∷ gates} (AllSuit.more f fs) h most s = starts reach good most f (stands_left (map word_of (items_of gate)) (words_of gates) s)

module _ (file values : List ℕ) (operation : Operation) (r first a x y : ℕ) (good : (read_file file).answer ≡ accepts)
    {size : ℕ} (c : PartPassed operation r first a size) (has : Has file first (file_of (part_words operation r a))) (carried : Carried file values r a x y operation) where
  there : Stands file has.at (part_words operation r a)
  there = subst (λ (f : List ℕ). Stands f has.at (part_words operation r a)) (sym has.is) (stands has.front (part_words operation r a) has.rest has.at has.whole)

  long : Longer has.wires (read_file file).wires
  long = wires_stay has.reached good (omega (arith, there.inside))

  suited : AllSuit (moduli_of has.wires) (part_of operation r a)
  suited = part_suits c.range.ten (holds has.wires (read_file file).wires long has.made c.below (given carried))

  space : length has.wires + length (part_of operation r a) ≤ 1024
  space = omega (arith, has.made, length-tab r (gate_at operation a), c.wires)

  arrived : Arrived file has.at has.wires has.outputs
  arrived =
      record {
        due = has.due;
        here = due_there file good has.reached suited (omega (arith, length-tab r (gate_at operation a), c.range.two)) (omega (arith, space)) there;
        reach = has.reached;
      }

  met : (i : ℕ) → i < r → Meets file values (first + i) (gate_at operation a i)
  met i l =
      subst (λ (gate : PartGate). Meets file values (first + i) gate) (get_or-tab r (gate_at operation a) i (Sum 0 0 0) l)
      (subst (λ (n : ℕ). Meets file values (n + i) (get_or (part_of operation r a) i (Sum 0 0 0))) has.made
      (each_at file values (meets file values good arrived refl suited space there) i (omega (arith, length-tab r (gate_at operation a)))))

  out : Carries file values r first (result operation x y)
  out =
      let last = met (r - 1) (omega (arith, c.range.two)) in
      record {
        bundle = record { made = omega (arith, last.made, c.range.two); moduli = λ i l. (met i l).modulus ∙ (gives_at c.range.ten carried i l).modulus };
        residues = λ i l. (let g = gives_at c.range.ten carried i l in (met i l).value g.ranged ∙ g.gives);
      }

pub computes : PartComputes
computes file values operation r first a x y size good checks has carried =
    out file values operation r first a x y good (part_passed operation r first a size refl checks) has carried
