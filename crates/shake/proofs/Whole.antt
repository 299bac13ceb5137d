-- From what the functions of a run ensure to SHAKE256: the sponge's start, its fields, its end, what is squeezed.
-- Assumes nothing.
use mathlib.Core.Path.{◌≡◌, ap, ◌∙◌}
use Prim.Native.Nat.{ℕ}
use mathlib.Core.List.{List}
use Rattle.shake.specs.Shake.{shake256, squeezed}
use Rattle.shake.specs.Stream.{Soaked, with_field, empty, closed}
use Rattle.shake.proofs.Bytes.{Bytes}
use Rattle.shake.proofs.Streamed.{streamed}

-- a field after the start
pub first_field : (e s : Soaked) (m : List ℕ) → e ≡ empty → s ≡ with_field e m → s ≡ with_field empty m
first_field e s m p q = q ∙ ap (λ (x : Soaked). with_field x m) p

-- a sponge that has taken in m, at its end, squeezed
pub is-shake256 : (s : Soaked) (m state : List ℕ) (d : ℕ) → Bytes m → s ≡ with_field empty m → state ≡ closed s → squeezed d state ≡ shake256 m d
unfolding shake256
is-shake256 s m state d h e f = ap (λ (x : List ℕ). squeezed d x) (f ∙ ap closed e ∙ streamed m h)
