-- A word made of fields that are cut is the item's word where they fit their bits.
-- Assumes nothing.
use mathlib.Core.Path.{◌≡◌, refl, ap, ap₂}
use Prim.Native.Nat.{ℕ, ◌+◌, ◌*◌, ◌%◌, ◌<◌}
use native.Mathlib.Nat.{mod-eq_of_lt}
use native.Mathlib.Omega.{arith}
use Rattle.words.specs.declared.item.Item.{Item}
use Rattle.words.specs.Encode.{word_of}
use Rattle.words.specs.Fits.{Fits}
use Rattle.words.specs.Cut.{cut_word}

uncut : (kind : ℕ) {a b : ℕ} → a < 1024 → b < 1024 → kind + 1024 * (a % 1024) + b % 1024 ≡ kind + 1024 * a + b
uncut kind f g = ap₂ (λ (x y : ℕ). kind + 1024 * x + y) (mod-eq_of_lt f) (mod-eq_of_lt g)

uncut_one : (kind : ℕ) {a : ℕ} → a < 1024 → kind + a % 1024 ≡ kind + a
uncut_one kind f = ap (λ (x : ℕ). kind + x) (mod-eq_of_lt f)

pub cut_fits : {x : Item} → Fits x → cut_word x ≡ word_of x
cut_fits Fits.head = refl
cut_fits (Fits.input f g) = ap₂ (λ (x y : ℕ). 0x2000_0000 + 65536 * x + y) (mod-eq_of_lt f) (mod-eq_of_lt g)
cut_fits (Fits.add f g) = uncut 0x3000_0000 f g
cut_fits (Fits.scale f g) = uncut 0x4000_0000 (omega (arith, f)) g
cut_fits (Fits.multiply f g) = uncut 0x5000_0000 f g
cut_fits (Fits.project f g) = uncut 0x6000_0000 (omega (arith, f)) g
cut_fits (Fits.entry f) = uncut_one 0x7000_0000 (omega (arith, f))
cut_fits (Fits.select f) = uncut_one 0x8000_0000 f
cut_fits (Fits.branches f g) = uncut 0x9000_0000 f g
cut_fits (Fits.output f g) = uncut 0xa000_0000 (omega (arith, f)) g
cut_fits Fits.end = refl
