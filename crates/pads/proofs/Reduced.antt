-- Numbers reduced modulo q, one after another, onto a vector or off it.
-- Assumes nothing.
use mathlib.Core.Path.{◌≡◌, sym, ap, ◌∙◌}
use mathlib.Core.Bool.{Bool}
use mathlib.Core.List.{List, ◌++◌, map, zip_with}
use Prim.Native.Nat.{ℕ, ◌+◌, ◌*◌, ◌%◌, ◌≤◌, ◌<◌}
use lib.ListN.{length, get_or, set, take, drop, length-map}
use lib.Seq.{take_at, length-take-le}
use Rattle.std.proofs.lemmas.List.{get_or-map}
use Rattle.residue.proofs.InPlace.{Turned, zip_turn}
use Rattle.shake.specs.Numbers.{numbers}
use Rattle.shake.specs.Shake.{shake256}
use Rattle.pads.specs.Moved.{reduced, moved}
use Rattle.pads.specs.Pad.{pad_input, shake_pad}

pub reduced-length : (q : ℕ) (xs : List ℕ) → length (reduced q xs) ≡ length xs
unfolding reduced
reduced-length q xs = length-map xs (λ x. x % q)

pub reduced-at : (q : ℕ) (xs : List ℕ) (i : ℕ) → i < length xs → get_or (reduced q xs) i 0 ≡ get_or xs i 0 % q
unfolding reduced
reduced-at q xs i h = get_or-map (λ x. x % q) xs i 0 0 h

-- one turn of the loop that applies f to each entry and to the number beside it, reduced
pub number-turn : (f : ℕ → ℕ → ℕ) (q : ℕ) (ns : List ℕ) {xs out : List ℕ} {i v : ℕ} → Turned (zip_with f xs (reduced q ns)) xs i out → length xs ≡ length ns → i < length ns
    → v ≡ f (get_or out i 0) (get_or ns i 0 % q) → Turned (zip_with f xs (reduced q ns)) xs (i + 1) (set out i v)
number-turn f q ns {xs} {out} {i} {v} t s h d =
    zip_turn f (reduced q ns) t (s ∙ sym (reduced-length q ns)) (rw (reduced-length q ns) h)
    (d ∙ ap (f (get_or out i 0)) (sym (reduced-at q ns i h)))

-- what a callee left in the front of a list that was lent it, read back
pub front_back : (k : ℕ) (xs ys : List ℕ) → k ≤ length xs → length ys ≡ length (take k xs) → take k (ys ++ drop k xs) ≡ ys
front_back k xs ys h l = take_at ys (drop k xs) k (l ∙ length-take-le k xs h)

-- the numbers of a pad, reduced, are the pad
pub pad_moved : (minus : Bool) (q round : ℕ) (input xs ns last : List ℕ) {out : List ℕ} → length xs ≤ length ns
    → last ≡ numbers (shake256 (pad_input round input) (8 * length (take (length xs) ns))) → out ≡ moved minus q xs (reduced q last)
    → out ≡ moved minus q xs (shake_pad round q (length xs) input)
unfolding reduced shake_pad
pad_moved minus q round input xs ns last h d e =
    e
    ∙ ap (λ (z : List ℕ). moved minus q xs (map (λ x. x % q) z))
    (d ∙ ap (λ (m : ℕ). numbers (shake256 (pad_input round input) (8 * m))) (length-take-le (length xs) ns h))
