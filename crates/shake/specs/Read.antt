-- What comes out of a state that is read place by place and permuted where a block has ended: for bytes and for lanes alike, over the
-- number of places in a block and how one is read. proofs/Squeezed.antt shows that it comes to what specs/Shake.antt squeezes.
-- Assumes nothing.
use Rattle.std.specs.Prelude.{ℕ, zero, suc, ◌+◌, ◌*◌, ◌/◌, ◌%◌, ◌^◌, List, [], ◌∷◌, eqb, get_or}
use Rattle.shake.specs.Stream.{Soaked, settled}

-- the byte at a place, and the lane at one
abbrev pub byte_at : List ℕ → ℕ → ℕ
byte_at lanes at = get_or lanes (at / 8) 0 / 2 ^ (8 * (at % 8)) % 256

abbrev pub lane_at : List ℕ → ℕ → ℕ
lane_at lanes j = get_or lanes j 0

-- the state and the place of the next one to read
abbrev pub next : ℕ → List ℕ → ℕ → Soaked
next block lanes at = settled (eqb at block) lanes at

-- n places, read one after another
unfoldable pub stream : {A : Type 0} → ℕ → (List ℕ → ℕ → A) → ℕ → List ℕ → ℕ → List A
stream block reads zero lanes at = []
stream block reads (suc n) lanes at =
    reads (next block lanes at).lanes (next block lanes at).at ∷ stream block reads n (next block lanes at).lanes ((next block lanes at).at + 1)
