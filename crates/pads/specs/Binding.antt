-- What a row's pads are bound to, as the code holds it, and the sponge that takes it in.
-- Assumes nothing.
use Rattle.std.specs.Prelude.{List, ℕ}
use Rattle.shake.specs.Stream.{Soaked, with_field, empty}
use Rattle.pads.specs.Pad.{Under, placed, bound}
use Rattle.pads.specs.declared.input.Bound.{Bound}

-- the place of a row
abbrev pub under_of : Bound → Under
under_of b = placed b.modulus b.wire b.component

-- .. with a receiver and a sender's key
abbrev pub bound_by : Bound → ℕ → List ℕ → List ℕ
bound_by b receiver key = bound (under_of b) receiver key

-- seven fields, one after another
abbrev pub seven_fields : List ℕ → List ℕ → List ℕ → List ℕ → List ℕ → List ℕ → List ℕ → Soaked
seven_fields tag round modulus wire component receiver key =
    with_field (with_field (with_field (with_field (with_field (with_field (with_field empty tag) round) modulus) wire) component) receiver) key
