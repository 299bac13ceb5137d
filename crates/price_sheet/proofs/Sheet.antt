-- What is read part by part into a buffer, and the price list of the whole input, of which no more than the buffer holds matters.
-- Assumes nothing.
use Rattle.std.proofs.Common.{◌≡◌, ℕ, ◌+◌, ◌≤◌, List, ◌++◌, Option, None, Some, Result, Ok, Err, IfSome, OnOk, length, take, sym, ap, ◌∙◌}
use Rattle.std.specs.Io.KnownBytes.{Appends}
use borrow.Rule.Slice.PartMut.{put_mid, post_of}
use lib.Seq.{length-take-le, take-append-add, take-append-le}
use Rattle.prices.specs.Placed.{Placed}
use Rattle.prices.specs.Prices.{price_list}
use Rattle.prices.proofs.Texts.{placed_front}
use Rattle.prices.proofs.Enough.{front_is_enough}

-- the first n bytes that a read put into the part from a place on, behind those before it
pub read_behind : (at room n : ℕ) (text part : List ℕ) → at ≤ length text → n ≤ length part → take (at + n) (put_mid at room text part) ≡ take at text ++ take n part
read_behind at room n text part h k =
    let whole : length (take at text) ≡ at = length-take-le at text h in
    rw (ap (λ (m : ℕ). take (m + n) (put_mid at room text part)) (sym whole))
    (take-append-add (take at text) (part ++ post_of at room text) n
    ∙ ap (λ (xs : List ℕ). take at text ++ xs) (take-append-le n part (post_of at room text) k))

-- what is written, where the buffer holds the front of what the input has
pub sheet_of : {E : Type 0} (r : Result Unit E) (known before after : Option (List ℕ)) (front : List ℕ) {out out' : List ℕ} {end : ℕ} → IfSome known (λ all. front ≡ take 147457 all)
    → Placed out 0 (price_list front) end out' → OnOk r (Appends before after (take end out')) → OnOk r (IfSome known (λ all. Appends before after (price_list all)))
sheet_of (Err e) known before after front f p w = tt
sheet_of (Ok x) None before after front f p w = tt
sheet_of (Ok x) (Some all) before after front f p w = rw (sym (front_is_enough all), ← f, sym (placed_front p)) w
