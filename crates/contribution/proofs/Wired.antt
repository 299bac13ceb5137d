-- The runs of bytes that belong to a circuit's wires and moduli: how many there are, their sizes and moduli, as the code computes them.
-- Assumes nothing.
use mathlib.Core.Path.{◌≡◌, sym, ap, ◌∙◌}
use mathlib.Core.Bool.{Bool}
use mathlib.Core.List.{List, ◌++◌}
use Prim.Native.Nat.{ℕ, ◌+◌, ◌-◌, ◌*◌, ◌<◌}
use native.Mathlib.Nat.{mul_comm}
use native.Mathlib.Omega.{arith}
use lib.ListN.{length, get_or, replicate}
use lib.Seq.{length-take-le}
use Rattle.lists.specs.Blocks.{tab, runs, sum_to}
use Rattle.lists.proofs.Sums.{sum_to_ext, sum_to_times}
use Rattle.lists.proofs.Blocks.{blocks_ext, get_or-tab}
use Rattle.circuit.specs.declared.Circuit.{Circuit}
use Rattle.circuit.specs.Wires.{wire_at, modulus_at, moduli_of}
use Rattle.circuit.specs.Held.{wires_in, Room}
use Rattle.counts.specs.Recipe.{recipe}
use Rattle.counts.specs.Counts.{mark, rows_by, rows_of, record_keys_by, record_keys_of}
use Rattle.counts.proofs.Wires.{modulus-at}
use Rattle.counts.proofs.Counting.{rows_at, records-at}
use Rattle.contribution.specs.declared.run.Run.{Run}

-- ---- sums of multiples, the factor behind

pub sum_to_times_right : (n s : ℕ) (f : ℕ → ℕ) → sum_to n (λ i. f i * s) ≡ sum_to n f * s
sum_to_times_right n s f =
    sum_to_ext n (λ i. f i * s) (λ i. s * f i) (λ i _. mul_comm (f i) s) ∙ sum_to_times n s f ∙ mul_comm s (sum_to n f)

-- ---- marks

module _ (k : ℕ) (test : ℕ → Bool) {marks : List ℕ} (e : marks ≡ tab 256 (λ p. mark (test p))) where
  pub mark-at : (p : ℕ) → p < 256 → get_or marks p 0 ≡ mark (test p)
  mark-at p h = ap (λ (xs : List ℕ). get_or xs p 0) e ∙ get_or-tab 256 (λ p. mark (test p)) p 0 h

  pub marks_runs : runs 256 (λ p. k * get_or marks p 0) (λ p. p) ≡ runs 256 (λ p. k * mark (test p)) (λ p. p)
  marks_runs =
      blocks_ext 256 (λ p. replicate (k * get_or marks p 0) p) (λ p. replicate (k * mark (test p)) p)
      (λ p h. ap (λ (s : ℕ). replicate (k * s) p) (mark-at p h))

  pub marks_room : {size : ℕ} → size ≡ k * sum_to 256 (λ p. mark (test p)) → sum_to 256 (λ p. k * get_or marks p 0) ≡ size
  marks_room {size} z =
      sum_to_ext 256 (λ p. k * get_or marks p 0) (λ p. k * mark (test p)) (λ p h. ap (λ (s : ℕ). k * s) (mark-at p h))
      ∙ sum_to_times 256 k (λ p. mark (test p))
      ∙ sym z

-- ---- wires

module _ (circuit : Circuit) (room : Room circuit) where
  pub made_are : length (wires_in circuit) ≡ circuit.made
  made_are = length-take-le circuit.made circuit.wires (omega (arith, room.made, room.wires))

  module _ {w : ℕ} (h : w < circuit.made) where
    pub modulus_is : modulus_at circuit.wires w ≡ modulus_at (wires_in circuit) w
    modulus_is = sym (modulus-at circuit.wires circuit.made w h)

    -- run w, by what the code looks up
    module _ (run : Run) (modulus : run.modulus ≡ modulus_at circuit.wires w) where
      pub record_run : (k : ℕ) → run.bytes ≡ (k + 1) * record_keys_by (recipe (wire_at circuit.wires w))
          → (run.bytes ≡ (k + 1) * record_keys_of (wires_in circuit) w) × (run.modulus ≡ modulus_at (wires_in circuit) w)
      record_run k e = (e ∙ ap (λ (s : ℕ). (k + 1) * s) (records-at circuit.wires circuit.made w h), modulus ∙ modulus_is)

      pub rows_run : {table : List ℕ} → table ≡ moduli_of (wires_in circuit) ++ replicate (1024 - circuit.made) 0 → (width : ℕ)
          → run.bytes ≡ rows_by (recipe (wire_at circuit.wires w)) (λ a. get_or table a 0) (modulus_at circuit.wires w) * width
          → (run.bytes ≡ rows_of (wires_in circuit) w * width) × (run.modulus ≡ modulus_at (wires_in circuit) w)
      rows_run {table} t width e =
          (e ∙ ap (λ (s : ℕ). s * width) (rows_at circuit.wires circuit.made w (1024 - circuit.made) table h t), modulus ∙ modulus_is)
