-- A word that says an item is the word of that item, and the item's fields fit their bits: one case for each kind, by the bits that must be zero.
-- Assumes nothing.
use mathlib.Core.Path.{◌≡◌, refl, sym, ap, ◌∙◌, subst}
use mathlib.Core.Bool.{Bool, true, false}
use Prim.Native.Nat.{ℕ, zero, suc, ◌+◌, ◌*◌, ◌/◌, ◌%◌, ◌<◌}
use native.Mathlib.Nat.{mod-lt, div-add-mod, div-div-eq-div-mul}
use native.Mathlib.Omega.{arith}
use borrow.Author.Tests.{eqb-true}
use Rattle.residue.proofs.Table.{and_left, and_right}
use Rattle.words.specs.Bits.{bits, kind, clear, image}
use Rattle.words.specs.Reading.{said, said_by, Said, Nothing, Says}
use Rattle.words.specs.Encode.{word_of}
use Rattle.words.specs.Fits.{Fits}
use Rattle.words.specs.declared.item.Item.{Item}
use Rattle.words.specs.declared.item.Item.TheVariants.{Entry}

-- an item that fits, and its word
pub record Spells (w : ℕ) (x : Item) : Type 0 where
  pub word : w ≡ word_of x
  pub fits : Fits x

-- of all that a word may say
abbrev Means : ℕ → Said → Type 0
Means w Nothing = Unit {0}
Means w (Says x) = Spells w x

whether : (w : ℕ) (b : Bool) (x : Item) → (b ≡ true → Spells w x) → Means w (said b x)
unfolding said
whether w true x f = f refl
whether w false x f = tt

-- what stands above n, cut at m more
cut : (w n m : ℕ) → w / n ≡ m * (w / (n * m)) + w / n % m
cut w n m = sym (div-add-mod (w / n) m) ∙ ap (λ k. m * k + w / n % m) (div-div-eq-div-mul w n m)

module _ (w : ℕ) (small : w < 4294967296) where
  -- the kind is what stands above bit 28
  above : (k : ℕ) → kind w ≡ k → w / 268435456 ≡ k
  above k e = omega arith

  zeros : (high low : ℕ) → clear w high low ≡ true → bits w high low ≡ 0
  zeros high low e = eqb-true (bits w high low) 0 e

  -- the kind alone; a field of 8 bits, or of 10; two of 10 bits; one of 8 above one of 10; and the two of an input
  bare : (k : ℕ) → kind w ≡ k → clear w 27 0 ≡ true → w ≡ 268435456 * k
  bare k e z = omega (arith, above k e, zeros 27 0 z)

  byte : (k : ℕ) → kind w ≡ k → clear w 27 8 ≡ true → w ≡ 268435456 * k + bits w 7 0
  byte k e z = omega (arith, above k e, zeros 27 8 z, cut w 256 1048576)

  wire : (k : ℕ) → kind w ≡ k → clear w 27 10 ≡ true → w ≡ 268435456 * k + bits w 9 0
  wire k e z = omega (arith, above k e, zeros 27 10 z, cut w 1024 262144)

  wires : (k : ℕ) → kind w ≡ k → clear w 27 20 ≡ true → w ≡ 268435456 * k + 1024 * bits w 19 10 + bits w 9 0
  wires k e z = omega (arith, above k e, zeros 27 20 z, cut w 1024 1024, cut w 1048576 256)

  above_wire : (k : ℕ) → kind w ≡ k → clear w 27 18 ≡ true → w ≡ 268435456 * k + 1024 * bits w 17 10 + bits w 9 0
  above_wire k e z = omega (arith, above k e, zeros 27 18 z, cut w 1024 256, cut w 262144 1024)

  owned : (k : ℕ) → kind w ≡ k → clear w 27 24 ≡ true → clear w 15 8 ≡ true → w ≡ 268435456 * k + 65536 * bits w 23 16 + bits w 7 0
  owned k e y z = omega (arith, above k e, zeros 27 24 y, zeros 15 8 z, cut w 256 256, cut w 65536 256, cut w 16777216 16)

  by-kind : (k : ℕ) → kind w ≡ k → Means w (said_by w)
  by-kind zero e = rw e tt
  by-kind (suc zero) e = rw e (whether w _ _ λ z. record { word = bare 1 e z; fits = Fits.head })
  by-kind (suc (suc zero)) e =
      rw e
      (whether w _ _ λ z.
      record {
        word = owned 2 e (and_left _ (clear w 15 8) z) (and_right (clear w 27 24) _ z);
        fits = Fits.input (mod-lt _ (omega arith)) (mod-lt _ (omega arith));
      })
  by-kind (suc (suc (suc zero))) e =
      rw e (whether w _ _ λ z. record { word = wires 3 e z; fits = Fits.add (mod-lt _ (omega arith)) (mod-lt _ (omega arith)) })
  by-kind (suc (suc (suc (suc zero)))) e =
      rw e (whether w _ _ λ z. record { word = above_wire 4 e z; fits = Fits.scale (mod-lt _ (omega arith)) (mod-lt _ (omega arith)) })
  by-kind (suc (suc (suc (suc (suc zero))))) e =
      rw e (whether w _ _ λ z. record { word = wires 5 e z; fits = Fits.multiply (mod-lt _ (omega arith)) (mod-lt _ (omega arith)) })
  by-kind (suc (suc (suc (suc (suc (suc zero)))))) e =
      rw e (whether w _ _ λ z. record { word = above_wire 6 e z; fits = Fits.project (mod-lt _ (omega arith)) (mod-lt _ (omega arith)) })
  by-kind (suc (suc (suc (suc (suc (suc (suc zero))))))) e =
      rw e (whether w _ _ λ z. record { word = byte 7 e z; fits = Fits.entry (mod-lt _ (omega arith)) })
  by-kind (suc (suc (suc (suc (suc (suc (suc (suc zero)))))))) e =
      rw e (whether w _ _ λ z. record { word = wire 8 e z; fits = Fits.select (mod-lt _ (omega arith)) })
  by-kind (suc (suc (suc (suc (suc (suc (suc (suc (suc zero))))))))) e =
      rw e (whether w _ _ λ z. record { word = wires 9 e z; fits = Fits.branches (mod-lt _ (omega arith)) (mod-lt _ (omega arith)) })
  by-kind (suc (suc (suc (suc (suc (suc (suc (suc (suc (suc zero)))))))))) e =
      rw e (whether w _ _ λ z. record { word = above_wire 10 e z; fits = Fits.output (mod-lt _ (omega arith)) (mod-lt _ (omega arith)) })
  by-kind (suc (suc (suc (suc (suc (suc (suc (suc (suc (suc (suc zero))))))))))) e =
      rw e (whether w _ _ λ z. record { word = bare 11 e z; fits = Fits.end })
  by-kind (suc (suc (suc (suc (suc (suc (suc (suc (suc (suc (suc (suc k)))))))))))) e = rw e tt

  pub decoded : (x : Item) → said_by w ≡ Says x → Spells w x
  decoded x e = subst (Means w) e (by-kind (kind w) refl)

-- the image of an entry's word
pub image-of : (w i : ℕ) → Spells w (Entry i) → image w ≡ i
image-of w i s = byte_of s.fits
  where
    byte_of : Fits (Entry i) → image w ≡ i
    byte_of (Fits.entry h) = omega (arith, s.word)
