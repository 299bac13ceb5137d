-- Runs of good entries: a good entry does what an entry does, and so the loop's invariant goes over a whole run.
-- Assumes nothing.
use mathlib.Core.Path.{◌≡◌, refl, sym, ap, subst}
use mathlib.Core.Bool.{true}
use mathlib.Core.List.{List}
use Prim.Native.Nat.{ℕ, zero, suc, ◌+◌, ◌-◌, ◌≤◌, ◌<◌, min}
use native.Mathlib.Omega.{arith}
use lib.Dec.{leb-suc-suc}
use lib.ListN.{take}
use borrow.Author.Tests.{lt-leb}
use Rattle.words.specs.Bits.{word_at}
use Rattle.words.specs.Items.{after_entry}
use Rattle.words.specs.Entries.{good_entry, GoodEntries}
use Rattle.words.proofs.Steps.{good-entry}
use Rattle.words.specs.declared.gate.Wire.{Wire}
use Rattle.words.specs.declared.gate.Due.{Due}
use Rattle.words.specs.declared.gate.Due.TheVariants.{Entries}
use Rattle.words.specs.declared.gate.Step.TheVariants.{Goes}
use Rattle.circuit.specs.File.{words_in}
use Rattle.circuit.specs.Entry.{after_run}
use Rattle.circuit.proofs.Turn.{Loop, turn, gone}

-- what is due after a run, one entry at a time
after_one : (left modulus : ℕ) → after_entry left modulus ≡ after_run left modulus 1
unfolding after_entry
after_one zero modulus = refl
after_one (suc zero) modulus = refl
after_one (suc (suc others)) modulus =
    sym (rw (lt-leb (suc (suc others)) 1 (omega arith)) (ap (λ n. Entries n modulus) (less others)))
  where
    less : (n : ℕ) → suc (suc n) - 1 ≡ suc n
    less n = omega arith

after_more : (others modulus run : ℕ) → after_run (suc others) modulus (suc run) ≡ after_run (suc (suc others)) modulus (suc (suc run))
after_more others modulus run =
    rw (leb-suc-suc (suc others) (suc run), less others run) refl
  where
    less : (m n : ℕ) → suc (suc m) - suc (suc n) ≡ suc m - suc n
    less m n = omega arith

-- sums of the code's form
plus-zero : (n : ℕ) → n + 0 ≡ n
plus-zero n = omega arith

plus_suc : (m n : ℕ) → m + 1 + n ≡ m + suc n
plus_suc m n = omega arith

module _ (file : List ℕ) (wires : List Wire) (moduli outputs : List ℕ) (made inputs given modulus : ℕ) where
  one :
      (left at : ℕ)
      → Loop file wires moduli outputs made inputs given (Entries left modulus) at
      → at < words_in file
      → good_entry modulus (word_at file (at + 0)) ≡ true
      → Loop file wires moduli outputs made inputs given (after_entry left modulus) (at + 1)
  one left at l h e =
      let g : good_entry modulus (word_at file at) ≡ true = subst (λ (n : ℕ). good_entry modulus (word_at file n) ≡ true) (plus-zero at) e in
      gone l
      (turn l h (word_at file at) refl (Goes (after_entry left modulus))
      (sym (good-entry (take made moduli) given at (Entries left modulus) (word_at file at) left modulus g refl)))

  several :
      (run left at : ℕ)
      → Loop file wires moduli outputs made inputs given (Entries left modulus) at
      → suc run ≤ left
      → at + suc run ≤ words_in file
      → ((i : ℕ) → i < suc run → good_entry modulus (word_at file (at + i)) ≡ true)
      → Loop file wires moduli outputs made inputs given (after_run left modulus (suc run)) (at + suc run)
  unfolding after_entry
  several zero left at l a b g =
      subst (λ (due : Due). Loop file wires moduli outputs made inputs given due (at + 1)) (after_one left modulus)
      (one left at l (omega arith) (g 0 (omega arith)))
  several (suc run) zero at l a b g = absurd (omega arith)
  several (suc run) (suc zero) at l a b g = absurd (omega arith)
  several (suc run) (suc (suc others)) at l a b g =
      subst (λ (n : ℕ). Loop file wires moduli outputs made inputs given (after_run (suc (suc others)) modulus (suc (suc run))) n)
      (plus_suc at (suc run))
      (subst (λ (due : Due). Loop file wires moduli outputs made inputs given due (at + 1 + suc run)) (after_more others modulus run)
      (several run (suc others) (at + 1) (one (suc (suc others)) at l (omega arith) (g 0 (omega arith))) (omega arith) (omega arith)
      (λ i h. subst (λ (n : ℕ). good_entry modulus (word_at file n) ≡ true) (sym (plus_suc at i)) (g (suc i) (omega arith)))))

-- a whole run
pub ran :
    {file : List ℕ} {wires : List Wire} {moduli outputs : List ℕ} {made inputs given at : ℕ} {due : Due}
    → Loop file wires moduli outputs made inputs given due at
    → (left modulus run : ℕ)
    → due ≡ Entries left modulus
    → 0 < run
    → GoodEntries file at (min left (words_in file - at)) modulus run
    → Loop file wires moduli outputs made inputs given (after_run left modulus run) (at + run)
ran l left modulus zero d h e = absurd (omega arith)
ran {file} {wires} {moduli} {outputs} {made} {inputs} {given} {at} l left modulus (suc run) d h e =
    several file wires moduli outputs made inputs given modulus run left at (rw d at l) (omega (arith, e.most)) (omega (arith, e.most, l.inside))
    e.good
