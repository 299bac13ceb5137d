-- The tables of a circuit by recursion from the front: the images of the wires to come, and of the entries to come, as a reader meets them.
-- Assumes nothing.
use mathlib.Core.Path.{◌≡◌, refl, sym, ap, ◌∙◌}
use mathlib.Core.List.{List, [], ◌∷◌, ◌++◌, append_assoc, append-nil}
use Prim.Native.Nat.{ℕ, zero, suc, ◌+◌}
use native.Mathlib.Nat.{add-zero}
use native.Mathlib.Omega.{arith}
use lib.ListN.{length, get_or}
use Rattle.lists.specs.Blocks.{blocks, tab}
use Rattle.lists.proofs.Blocks.{tab_ext}
use Rattle.words.specs.Bits.{word_at, image}
use Rattle.words.specs.declared.gate.Wire.{Wire}
use Rattle.circuit.specs.Wires.{no_wire}
use Rattle.writer.specs.Listed.{table_of, tables_of}

-- the blocks, the first one apart
pub blocks-front : {A : Type 0} (n : ℕ) (f : ℕ → List A) → blocks (suc n) f ≡ f 0 ++ blocks n (λ i. f (suc i))
unfolding blocks
blocks-front zero f = sym (append-nil (f 0))
blocks-front {A} (suc n) f =
    ap (λ (l : List A). l ++ f (suc n)) (blocks-front n f) ∙ append_assoc (f 0) (blocks n (λ i. f (suc i))) (f (suc n))

-- g of an index, of the next, and so on
unfoldable pub onwards : (ℕ → ℕ) → ℕ → ℕ → List ℕ
onwards g at zero = []
onwards g at (suc n) = g at ∷ onwards g (suc at) n

pub onwards_length : (g : ℕ → ℕ) (at n : ℕ) → length (onwards g at n) ≡ n
unfolding onwards
onwards_length g at zero = refl
onwards_length g at (suc n) = ap suc (onwards_length g (suc at) n)

pub tab_onwards : (g : ℕ → ℕ) (at n : ℕ) → tab n (λ v. g (at + v)) ≡ onwards g at n
unfolding onwards blocks
tab_onwards g at zero = refl
tab_onwards g at (suc n) =
    blocks-front n (λ v. g (at + v) ∷ [])
    ∙ rw (add-zero at) (ap (λ (l : List ℕ). g at ∷ l) (tab_ext n (λ v. g (at + suc v)) (λ v. g (suc at + v)) (λ v _. ap g (place v)) ∙ tab_onwards g (suc at) n))
  where
    place : (v : ℕ) → at + suc v ≡ suc at + v
    place v = omega arith

-- the images of the entries from an index on, so many of them
abbrev pub images : List ℕ → ℕ → ℕ → List ℕ
images file at n = onwards (λ i. image (word_at file i)) at n

-- the tables of the wires to come, where all wires are known
unfoldable pub tables_ahead : List ℕ → List Wire → List Wire → List ℕ
tables_ahead file all [] = []
tables_ahead file all (wire ∷ more) = table_of file all wire.gate ++ tables_ahead file all more

ahead_of : (file : List ℕ) (all more : List Wire) → blocks (length more) (λ w. table_of file all (get_or more w no_wire).gate) ≡ tables_ahead file all more
unfolding tables_ahead blocks
ahead_of file all [] = refl
ahead_of file all (wire ∷ more) =
    blocks-front (length more) (λ w. table_of file all (get_or (wire ∷ more) w no_wire).gate)
    ∙ ap (λ (l : List ℕ). table_of file all wire.gate ++ l) (ahead_of file all more)

-- before the first wire
pub all_ahead : (file : List ℕ) (all : List Wire) → tables_of file all ≡ tables_ahead file all all
all_ahead file all = ahead_of file all all
