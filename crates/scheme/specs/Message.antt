-- Document 01, "The gates": the messages of a row before the pad, for all receivers at once: k, k' and k'' are all parties' keys and D all
-- parties' offsets of the gate's modulus. The second part of a split key or mask is the whole minus the first part.
-- Assumes nothing.
use Rattle.std.specs.Prelude.{List, ℕ}
use Rattle.residue.specs.Residue.{add, sub, mul}
use Rattle.residue.specs.Vector.{add_v, sub_v, mul_v}

module _ (p : ℕ) (D : List ℕ) where
  -- project, row α: k + (T(α − mₐ) + m)·D, modulo the receiving modulus; the image T(α − mₐ) is given
  unfoldable pub project_message : List ℕ → ℕ → ℕ → List ℕ
  project_message k m image = add_v p k (mul_v p (add p image m) D)

  -- multiply, component 0, under a's key for α: k' + (−mᵦ·α + mᵦ·mₐ + m')·D
  unfoldable pub product_message₀ : List ℕ → ℕ → ℕ → ℕ → ℕ → List ℕ
  product_message₀ k' m' mₐ mᵦ α = add_v p k' (mul_v p (add p (add p (sub p 0 (mul p mᵦ α)) (mul p mᵦ mₐ)) m') D)

  -- component 1, under b's key for β: k'' − β·kₐ + (m'' − β·mₐ)·D
  unfoldable pub product_message₁ : List ℕ → ℕ → List ℕ → ℕ → ℕ → List ℕ
  product_message₁ k'' m'' kₐ mₐ β = add_v p (sub_v p k'' (mul_v p β kₐ)) (mul_v p (sub p m'' (mul p β mₐ)) D)

  -- select, the chooser under the bit's key for 0: k'0 + m'0·D
  unfoldable pub chooser_message₀ : List ℕ → ℕ → List ℕ
  chooser_message₀ k' m' = add_v p k' (mul_v p m' D)

  -- for 1: k'1 − kᵈ + (m'1 − mᵈ)·D
  unfoldable pub chooser_message₁ : List ℕ → ℕ → List ℕ → ℕ → List ℕ
  chooser_message₁ k' m' kᵈ mᵈ = add_v p (sub_v p k' kᵈ) (mul_v p (sub p m' mᵈ) D)

  -- the correctors under d's key for α, with the bit's mask w as 0 or 1: k''0 + (α·w − w·mᵈ + m''0)·D
  unfoldable pub corrector_message₀ : List ℕ → ℕ → ℕ → ℕ → ℕ → List ℕ
  corrector_message₀ k'' m'' w mᵈ α = add_v p k'' (mul_v p (add p (sub p (mul p α w) (mul p w mᵈ)) m'') D)

  -- and k''1 + (−α·w + w·mᵈ + m''1)·D
  unfoldable pub corrector_message₁ : List ℕ → ℕ → ℕ → ℕ → ℕ → List ℕ
  corrector_message₁ k'' m'' w mᵈ α = add_v p k'' (mul_v p (add p (add p (sub p 0 (mul p α w)) (mul p w mᵈ)) m'') D)
