-- A loop that adds up f 0, f 1, … : the record that it holds to, with the laws that start it, take a turn and say what the total is.
-- Assumes nothing.
use mathlib.Core.Path.{◌≡◌, refl, ap, ap₂, ◌∙◌, sym}
use mathlib.Core.List.{List, ◌++◌}
use Prim.Native.Nat.{ℕ, ◌+◌, ◌*◌, ◌≤◌, ◌<◌}
use native.Mathlib.Nat.{le_trans, mul-le-mul_right}
use native.Mathlib.Omega.{arith}
use lib.ListN.{length, take, get_or, replicate}
use lib.Seq.{length-take-le}
use Rattle.lists.specs.Blocks.{sum_to}
use Rattle.lists.proofs.Sums.{sum_to-next, times-next}
use Rattle.words.specs.declared.gate.Wire.{Wire}
use Rattle.circuit.specs.declared.Circuit.{Circuit}
use Rattle.circuit.specs.Wires.{wire_at, modulus_at, moduli_of}
use Rattle.circuit.specs.Held.{wires_in, Room}
use Rattle.counts.specs.declared.recipe.Recipe.{Recipe}
use Rattle.counts.specs.declared.recipe.Recipe.TheVariants.{Entered, Sum, Multiple, Table, Product, Choice}
use Rattle.counts.specs.Recipe.{recipe}
use Rattle.counts.specs.Counts.{rows_by, rows_of, record_keys_by, Counts}
use Rattle.counts.proofs.Wires.{wire-at, padded-modulus}

-- i of n turns are taken, and each added at most a limit
pub record Summed (limit : ℕ) (f : ℕ → ℕ) (n i total : ℕ) : Type 0 where
  pub turns : i ≤ n
  pub is : total ≡ sum_to i f
  pub most : total ≤ i * limit

pub summed_start : {limit : ℕ} {f : ℕ → ℕ} {n : ℕ} → Summed limit f n 0 0
unfolding sum_to
summed_start {limit} {f} {n} = record { turns = omega arith; is = refl; most = omega arith }

pub summed-step : {limit : ℕ} {f : ℕ → ℕ} {n i total v count : ℕ} → Summed limit f n i total → i < n → Counts limit count v → count ≡ f i → Summed limit f n (i + 1) (total + v)
summed-step {limit} {f} {n} {i} {total} {v} {count} r h k e =
    record {
      turns = omega arith;
      is = ap₂ ◌+◌ r.is (k.is ∙ e) ∙ sym (sum_to-next i f);
      most = omega (arith, times-next i limit);
    }

-- all turns are taken
pub summed_all : {limit : ℕ} {f : ℕ → ℕ} {n i total : ℕ} (most : ℕ) → Summed limit f n i total → n ≤ i → n * limit ≤ most → Counts most (sum_to n f) total
summed_all {limit} {f} {n} {i} {total} most r h k =
    let e : i ≡ n = omega (arith, r.turns) in
    record { is = r.is ∙ ap (λ (m : ℕ). sum_to m f) e; most = le_trans r.most (rw e k) }

-- the wires of a circuit, all of them counted
pub summed-done : {limit : ℕ} {f : ℕ → ℕ} {circuit : Circuit} {i total : ℕ} (most : ℕ) → Room circuit → Summed limit f circuit.made i total → circuit.made ≤ i → 1024 * limit ≡ most
    → Counts most (sum_to (length (wires_in circuit)) f) total
summed-done {limit} {f} {circuit} {i} {total} most room r h e =
    let k : i ≡ circuit.made = omega arith in
    record {
      is = r.is ∙ ap (λ (n : ℕ). sum_to n f) (k ∙ sym (length-take-le circuit.made circuit.wires (omega arith)));
      most = le_trans r.most (rw (← e) (mul-le-mul_right limit (omega arith)));
    }

-- the count of a wire goes by its recipe, and a table's by one modulus more
pub rows_same : (how : Recipe) (f g : ℕ → ℕ) (p : ℕ) → ((a : ℕ) → f a ≡ g a) → rows_by how f p ≡ rows_by how g p
rows_same Entered f g p e = refl
rows_same (Sum pair) f g p e = refl
rows_same (Multiple scaling) f g p e = refl
rows_same (Table lookup) f g p e = e lookup.a
rows_same (Product pair) f g p e = refl
rows_same (Choice choice) f g p e = refl

pub rows_are : (wires : List Wire) (w n : ℕ) {table : List ℕ} → table ≡ moduli_of wires ++ replicate n 0
    → rows_by (recipe (wire_at wires w)) (λ a. get_or table a 0) (modulus_at wires w) ≡ rows_of wires w
rows_are wires w n {table} e =
    rows_same (recipe (wire_at wires w)) (λ a. get_or table a 0) (modulus_at wires) (modulus_at wires w)
    (λ a. ap (λ (l : List ℕ). get_or l a 0) e ∙ padded-modulus wires n a)

pub rows_at : (wires : List Wire) (made w n : ℕ) (table : List ℕ) → w < made → table ≡ moduli_of (take made wires) ++ replicate n 0
    → rows_by (recipe (wire_at wires w)) (λ a. get_or table a 0) (modulus_at wires w) ≡ rows_of (take made wires) w
rows_at wires made w n table h e =
    rows_same (recipe (wire_at wires w)) (λ a. get_or table a 0) (modulus_at (take made wires)) (modulus_at wires w)
    (λ a. ap (λ (l : List ℕ). get_or l a 0) e ∙ padded-modulus (take made wires) n a)
    ∙ ap (λ (wire : Wire). rows_by (recipe wire) (modulus_at (take made wires)) wire.modulus) (sym (wire-at wires made w h))

pub records-at : (wires : List Wire) (made w : ℕ) → w < made → record_keys_by (recipe (wire_at wires w)) ≡ record_keys_by (recipe (wire_at (take made wires) w))
records-at wires made w h = ap (λ (wire : Wire). record_keys_by (recipe wire)) (sym (wire-at wires made w h))
