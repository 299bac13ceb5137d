-- The messages of the gates have n times K entries, all below the gate's modulus; and what the messages of a gate come to, the pads taken off.
-- Assumes nothing.
use mathlib.Core.Path.{◌≡◌, sym, ap, ◌∙◌}
use mathlib.Core.List.{List}
use Prim.Native.Nat.{ℕ, ◌≤◌, ◌<◌}
use native.Mathlib.Omega.{arith}
use lib.ListN.{length}
use Rattle.residue.specs.Residue.{add, sub, mul}
use Rattle.residue.specs.Vector.{add_v, sub_v, mul_v, key_v, AllBelow}
use Rattle.residue.proofs.Identities.{product-key, chosen_0_key, chosen_1_key}
use Rattle.residue.proofs.Reduced.{sub-fits}
use Rattle.residue.proofs.Vectors.{add_v-length, sub_v-length, mul_v-length, add_v-below}
use Rattle.scheme.specs.Message.{project_message, product_message₀, product_message₁, chooser_message₀, chooser_message₁, corrector_message₀, corrector_message₁}

-- a message of so many residues
pub record Message (q size : ℕ) (xs : List ℕ) : Type 0 where
  pub entries : length xs ≡ size
  pub below : AllBelow q xs

module _ {p size : ℕ} (positive : 0 < p) (D : List ℕ) (offset : length D ≡ size) where
  -- every message of a gate is a vector plus a multiple of the offsets
  message : (k : List ℕ) (c : ℕ) → length k ≡ size → Message p size (add_v p k (mul_v p c D))
  message k c e = record {
    entries = add_v-length p k (mul_v p c D) (e ∙ sym (mul_v-length p c D ∙ offset)) ∙ e;
    below = add_v-below positive k (mul_v p c D);
  }

  difference_size : (k k' : List ℕ) → length k ≡ size → length k' ≡ size → length (sub_v p k k') ≡ size
  difference_size k k' e f = sub_v-length p k k' (e ∙ sym f) ∙ e

  module _ (k : List ℕ) (entries : length k ≡ size) where
    pub project-message : (m image : ℕ) → Message p size (project_message p D k m image)
    unfolding project_message
    project-message m image = message k (add p image m) entries

    pub product-message₀ : (m mₐ mᵦ α : ℕ) → Message p size (product_message₀ p D k m mₐ mᵦ α)
    unfolding product_message₀
    product-message₀ m mₐ mᵦ α = message k _ entries

    pub chooser-message₀ : (m : ℕ) → Message p size (chooser_message₀ p D k m)
    unfolding chooser_message₀
    chooser-message₀ m = message k m entries

    pub chooser-message₁ : (m : ℕ) (d : List ℕ) → length d ≡ size → (y : ℕ) → Message p size (chooser_message₁ p D k m d y)
    unfolding chooser_message₁
    chooser-message₁ m d e y = message (sub_v p k d) _ (difference_size k d entries e)

    module _ (k' : List ℕ) (first : length k' ≡ size) where
      pub product-message₁ : (m : ℕ) (kₐ : List ℕ) → length kₐ ≡ size → (mₐ β : ℕ) → Message p size (product_message₁ p D (sub_v p k k') m kₐ mₐ β)
      unfolding product_message₁
      product-message₁ m kₐ e mₐ β =
          message (sub_v p (sub_v p k k') (mul_v p β kₐ)) _
          (difference_size (sub_v p k k') (mul_v p β kₐ) (difference_size k k' entries first) (mul_v-length p β kₐ ∙ e))

      pub corrector-message₀ : (m w y α : ℕ) → Message p size (corrector_message₀ p D (sub_v p k k') m w y α)
      unfolding corrector_message₀
      corrector-message₀ m w y α = message (sub_v p k k') _ (difference_size k k' entries first)

      pub corrector-message₁ : (m w y α : ℕ) → Message p size (corrector_message₁ p D (sub_v p k k') m w y α)
      unfolding corrector_message₁
      corrector-message₁ m w y α = message (sub_v p k k') _ (difference_size k k' entries first)

-- ---- what the messages of a gate come to

-- the bit is its mask where its external value is 0, and one minus its mask where it is 1
bit_0 : (b w : ℕ) → b < 2 → w < 2 → add 2 b w ≡ 0 → w ≡ b
unfolding add
bit_0 b w h l e = omega arith

bit_1 : (p b w : ℕ) → 2 ≤ p → b < 2 → w < 2 → add 2 b w ≡ 1 → sub p 1 w ≡ b
unfolding add
bit_1 p b w two h l e = sym (sub-fits (omega arith) (omega arith)) ∙ omega arith

module _ (p size : ℕ) (two : 2 ≤ p) (D : List ℕ) (offset : length D ≡ size) where
  pub product-opened : (k k₁ kₐ : List ℕ) → length k ≡ size → length k₁ ≡ size → length kₐ ≡ size → (m m₁ x mₐ y mᵦ : ℕ)
      → add_v p
      (add_v p (product_message₀ p D k₁ m₁ mₐ mᵦ (add p x mₐ))
      (product_message₁ p D (sub_v p k k₁) (sub p m m₁) kₐ mₐ (add p y mᵦ)))
      (mul_v p (add p y mᵦ) (key_v p kₐ (add p x mₐ) D))
      ≡ key_v p k (add p (mul p x y) m) D
  unfolding product_message₀ product_message₁
  product-opened k k₁ kₐ e f g m m₁ x mₐ y mᵦ = product-key p size (omega arith) k k₁ D e f offset kₐ g m m₁ x mₐ y mᵦ

  -- d has zero keys d, value x and mask y
  pub choice-opened₀ : (k k₁ : List ℕ) → length k ≡ size → length k₁ ≡ size → (m m₁ bit w x y : ℕ) → bit < 2 → w < 2 → add 2 bit w ≡ 0
      → add_v p (chooser_message₀ p D k₁ m₁)
      (corrector_message₀ p D (sub_v p k k₁) (sub p m m₁) w y (add p x y))
      ≡ key_v p k (add p (mul p bit x) m) D
  unfolding chooser_message₀ corrector_message₀
  choice-opened₀ k k₁ e f m m₁ bit w x y h l z =
      chosen_0_key p size (omega arith) k k₁ D e f offset m m₁ w x y ∙ ap (λ (b : ℕ). key_v p k (add p (mul p b x) m) D) (bit_0 bit w h l z)

  pub choice-opened₁ : (k k₂ d : List ℕ) → length k ≡ size → length k₂ ≡ size → length d ≡ size → (m m₂ bit w x y : ℕ) → bit < 2 → w < 2 → add 2 bit w ≡ 1
      → add_v p (add_v p (chooser_message₁ p D k₂ m₂ d y) (key_v p d (add p x y) D))
      (corrector_message₁ p D (sub_v p k k₂) (sub p m m₂) w y (add p x y))
      ≡ key_v p k (add p (mul p bit x) m) D
  unfolding chooser_message₁ corrector_message₁
  choice-opened₁ k k₂ d e f g m m₂ bit w x y h l z =
      chosen_1_key p size (omega arith) k k₂ D e f offset d g m m₂ w x y
      ∙ ap (λ (b : ℕ). key_v p k (add p (mul p b x) m) D) (bit_1 p bit w two h l z)
