-- Keys that lie party by party, taken by input and then party: where each key stands.
-- Assumes nothing.
use mathlib.Core.Path.{◌≡◌, sym, ap, ◌∙◌}
use mathlib.Core.List.{List}
use Prim.Native.Nat.{ℕ, ◌+◌, ◌*◌, ◌≤◌, ◌<◌}
use native.Mathlib.Omega.{arith}
use lib.ListN.{length}
use Rattle.lists.specs.Blocks.{part, nth_piece}
use Rattle.lists.proofs.Parts.{part_of_part}
use Rattle.lists.proofs.Sums.{times-fits}

module _ (inputs k each n w party from : ℕ) (mine : List ℕ) (e : each ≡ inputs * k) (l : length mine ≡ n * each) (f : from ≡ w * k + party * each)
    (h : w < inputs) (g : party < n) where
  pub key_fits : from + k ≤ length mine
  key_fits = omega (arith, times-fits w inputs k h, times-fits party n each g)

  pub key-next : from + each ≤ length mine + length mine
  key-next = omega (arith, times-fits w inputs k h, times-fits party n each g)

  pub key-there : part mine from k ≡ nth_piece (nth_piece mine each party) k w
  key-there =
      let at : from ≡ party * each + w * k = omega arith in
      ap (λ (i : ℕ). part mine i k) at
      ∙ sym (part_of_part mine (party * each) each (w * k) k (omega (arith, times-fits w inputs k h)))
