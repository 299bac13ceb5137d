-- Laws of a word's step: what a word of a kind says, a good entry, and what a nest of checks comes to.
-- Assumes nothing.
use mathlib.Core.Path.{◌≡◌, refl, sym, ap, ◌∙◌}
use mathlib.Core.Bool.{Bool, true, false, true≢false, not}
use mathlib.Core.List.{List}
use Prim.Native.Nat.{ℕ, ◌<◌}
use lib.Dec.{eqb, ltb}
use lib.ListN.{get_or}
use borrow.Author.Tests.{eqb-true, ltb-true}
use Rattle.residue.specs.Prime.{is_prime}
use Rattle.residue.proofs.Table.{and_left, and_right}
use Rattle.checks.specs.declared.Refusal.{Refusal}
use Rattle.words.specs.declared.gate.Due.{Due}
use Rattle.words.specs.declared.gate.Due.TheVariants.{Entries}
use Rattle.words.specs.declared.gate.Step.{Step}
use Rattle.words.specs.declared.gate.Step.TheVariants.{Goes}
use Rattle.words.specs.Bits.{kind, clear}
use Rattle.words.specs.Items.{check, after_entry, is_modulus}
use Rattle.words.specs.Reading.{said, by_kind, said_by, does, read_word, Nothing}
use Rattle.words.specs.Entries.{good_entry}

-- a word of a kind
pub of_kind : (w k : ℕ) → kind w ≡ k → get_or (by_kind w) k Nothing ≡ said_by w
of_kind w k e = ap (λ j. get_or (by_kind w) j Nothing) (sym e)

-- a good entry, where so many are due, only changes what is due
pub good-entry : (moduli : List ℕ) (given at : ℕ) (due : Due) (w left modulus : ℕ) → good_entry modulus w ≡ true → due ≡ Entries left modulus
    → read_word moduli given at due w ≡ Goes (after_entry left modulus)
unfolding check said read_word
good-entry moduli given at due w left modulus g e =
    ap (does moduli given at due) (sym (of_kind w 7 (eqb-true (kind w) 7 (and_left _ _ g))))
    ∙ rw (e, and_left (clear w 27 8) _ (and_right (eqb (kind w) 7) _ g), and_right (clear w 27 8) _ (and_right (eqb (kind w) 7) _ g))

-- a nest of checks, told check by check: one that holds, and the first that does not
pub passed : {ok : Bool} (reason : Refusal) {next r : Step} → ok ≡ true → r ≡ next → r ≡ check ok reason next
unfolding check
passed {ok = true} reason e f = f
passed {ok = false} reason e f = absurd (true≢false (sym e))

-- a test that was turned round
pub not_failed : (b : Bool) → not b ≡ true → b ≡ false
not_failed true e = absurd (true≢false (sym e))
not_failed false e = refl

pub not_passed : (b : Bool) → not b ≡ false → b ≡ true
not_passed true e = refl
not_passed false e = absurd (true≢false e)

-- a modulus is a byte
pub modulus-byte : (p : ℕ) → is_modulus p ≡ true → p < 256
modulus-byte p e = ltb-true p 256 (and_left (ltb p 256) (is_prime p) e)
