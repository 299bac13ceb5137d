-- What the sponge takes for a pad: seven fields one after another are the pad input, which is a list of bytes.
-- Assumes nothing.
use mathlib.Core.Path.{◌≡◌, refl, ◌∙◌}
use mathlib.Core.List.{List, [], ◌∷◌, ◌++◌}
use Prim.Native.Nat.{ℕ, zero, suc, ◌/◌, ◌%◌, ◌<◌}
use native.Mathlib.Nat.{mod-lt}
use lib.Dec.{lit<}
use native.Mathlib.Omega.{arith}
use Rattle.std.specs.Int.{w32, to_le_bytes}
use Rattle.shake.specs.Numbers.{bytes_of}
use Rattle.shake.specs.Stream.{Soaked, with_field, empty}
use Rattle.shake.proofs.Bytes.{Bytes, bytes_none, bytes_cons, bytes_append}
use Rattle.shake.proofs.Fields.{fields}
use Rattle.pads.specs.Pad.{rowpad, Under, bound, pad_input}
use Rattle.pads.specs.Binding.{seven_fields}

-- a number in 4 bytes, the least significant first
pub little_endian : (n : ℕ) → to_le_bytes w32 n ≡ bytes_of 4 n
unfolding bytes_of
little_endian n =
    let two : n / 256 / 256 ≡ n / 65536 = omega arith in
    let three : n / 256 / 256 / 256 ≡ n / 16777216 = omega arith in
    rw (three, two) refl

-- one field each for modulus, component and receiver
pub one_message : (s : Soaked) (tag round : List ℕ) (modulus : ℕ) (wire : List ℕ) (component receiver : ℕ) (key : List ℕ)
    → with_field (with_field (with_field (with_field (with_field (with_field (with_field s tag) round) (modulus ∷ [])) wire) (component ∷ [])) (receiver ∷ [])) key
    ≡ with_field s (tag ++ (round ++ (modulus ∷ (wire ++ (component ∷ receiver ∷ key)))))
one_message s tag round modulus wire component receiver key =
    fields _ (receiver ∷ []) key ∙ fields _ (component ∷ []) (receiver ∷ key) ∙ fields _ wire (component ∷ receiver ∷ key)
    ∙ fields _ (modulus ∷ []) (wire ++ (component ∷ receiver ∷ key)) ∙ fields _ round (modulus ∷ (wire ++ (component ∷ receiver ∷ key)))
    ∙ fields s tag (round ++ (modulus ∷ (wire ++ (component ∷ receiver ∷ key))))

-- the sponge after the seven fields of a pad input
pub takes_input : (number : ℕ) (under : Under) (receiver : ℕ) (key round wire : List ℕ) {r : Soaked} → round ≡ bytes_of 4 number → wire ≡ bytes_of 4 under.wire
    → r ≡ seven_fields rowpad round (under.modulus ∷ []) wire (under.component ∷ []) (receiver ∷ []) key
    → r ≡ with_field empty (pad_input number (bound under receiver key))
unfolding pad_input bound
takes_input number under receiver key round wire d e h =
    h ∙ one_message empty rowpad round under.modulus wire under.component receiver key ∙ rw (d, e)

bytes_of-bytes : (n x : ℕ) → Bytes (bytes_of n x)
unfolding bytes_of
bytes_of-bytes zero x = bytes_none
bytes_of-bytes (suc n) x = bytes_cons (x % 256) (bytes_of n (x / 256)) (mod-lt x (lit< tt)) (bytes_of-bytes n (x / 256))

rowpad-bytes : Bytes rowpad
unfolding rowpad
rowpad-bytes =
    bytes_cons 82 (79 ∷ 87 ∷ 80 ∷ 65 ∷ 68 ∷ []) (lit< tt) (bytes_cons 79 (87 ∷ 80 ∷ 65 ∷ 68 ∷ []) (lit< tt) (bytes_cons 87 (80 ∷ 65 ∷ 68 ∷ []) (lit< tt) (bytes_cons 80 (65 ∷ 68 ∷ []) (lit< tt) (bytes_cons 65 (68 ∷ []) (lit< tt) (bytes_cons 68 [] (lit< tt) bytes_none)))))

pub input-bytes : (round : ℕ) (under : Under) (receiver : ℕ) (key : List ℕ) → under.modulus < 256 → under.component < 256 → receiver < 256 → Bytes key
    → Bytes (pad_input round (bound under receiver key))
unfolding pad_input bound
input-bytes round under receiver key m c r k =
    let end : List ℕ = under.component ∷ receiver ∷ key in
    let middle : List ℕ = bytes_of 4 under.wire ++ end in
    bytes_append rowpad (bytes_of 4 round ++ (under.modulus ∷ middle)) rowpad-bytes
    (bytes_append (bytes_of 4 round) (under.modulus ∷ middle) (bytes_of-bytes 4 round)
    (bytes_cons under.modulus middle m
    (bytes_append (bytes_of 4 under.wire) end (bytes_of-bytes 4 under.wire) (bytes_cons under.component (receiver ∷ key) c (bytes_cons receiver key r k)))))
