-- The search for a multiplier finds the external value: a party's part of k + e·D fits e, and no other multiplier, since its offset is not zero.
-- Assumes nothing.
use mathlib.Core.Path.{◌≡◌, refl}
use mathlib.Core.Bool.{Bool, true, false}
use mathlib.Core.List.{List}
use Prim.Native.Nat.{ℕ, ◌*◌, ◌<◌}
use native.Mathlib.Omega.{arith}
use lib.ListN.{length}
use Rattle.lists.specs.Blocks.{part, nth_piece}
use Rattle.lists.proofs.First.{first-at}
use Rattle.residue.specs.Prime.{Prime}
use Rattle.residue.specs.Vector.{key_v, AllBelow, NotZero}
use Rattle.residue.proofs.Cancel.{at_most_one}
use Rattle.residue.proofs.Parts.{key_v-take, key_v-drop, below-take, below-drop}
use Rattle.search.specs.Search.{same, multiplier}
use Rattle.search.proofs.Same.{same_refl, same_true}

-- ---- the search

module _ (p : ℕ) (prime : Prime p) (k D : List ℕ) (size : length k ≡ length D) (below : AllBelow p D) (offset : NotZero D) (e : ℕ) (h : e < p) where
  other : (j : ℕ) → j < e → (b : Bool) → same (key_v p k e D) (key_v p k j D) ≡ b → b ≡ false
  other j l false t = refl
  other j l true t =
      absurd (let one : e ≡ j = at_most_one prime k D size below offset h (omega arith) (same_true (key_v p k e D) (key_v p k j D) t) in omega arith)

  pub multiplier_is : multiplier p k D (key_v p k e D) ≡ e
  unfolding multiplier
  multiplier_is =
      first-at p e (λ α. same (key_v p k e D) (key_v p k α D)) h (λ j l. (let b = same (key_v p k e D) (key_v p k j D) in other j l b refl))
      (same_refl (key_v p k e D))

-- ---- a party's part of a key vector

pub key-part : (p K s : ℕ) (k : List ℕ) (e : ℕ) (D : List ℕ) → nth_piece (key_v p k e D) K s ≡ key_v p (nth_piece k K s) e (nth_piece D K s)
unfolding part
key-part p K s k e D = rw (key_v-drop p (s * K) k e D) (key_v-take p K _ e _)

pub part-below : (p K s : ℕ) (xs : List ℕ) → AllBelow p xs → AllBelow p (nth_piece xs K s)
unfolding part
part-below p K s xs h = below-take p K (below-drop p (s * K) h)
