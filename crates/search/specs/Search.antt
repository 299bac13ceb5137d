-- Document 01, "Opening": "The external value of a project, multiply or h is the multiplier α with s's own key = k + α·D. The search stops at
-- the first multiplier that fits".
-- Assumes nothing.
use Rattle.std.specs.Prelude.{Bool, true, false, ◌&&◌, List, [], ◌∷◌, ℕ, eqb}
use Rattle.lists.specs.First.{first}
use Rattle.residue.specs.Vector.{key_v}

-- two lists have the same elements
unfoldable pub same : List ℕ → List ℕ → Bool
same [] [] = true
same [] (y ∷ ys) = false
same (x ∷ xs) [] = false
same (x ∷ xs) (y ∷ ys) = eqb x y && same xs ys

-- the first multiplier below p that fits, p where none does
unfoldable pub multiplier : ℕ → List ℕ → List ℕ → List ℕ → ℕ
multiplier p k D key = first p (λ α. same key (key_v p k α D))
