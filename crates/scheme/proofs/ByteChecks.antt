-- The checks of values and bytes against their moduli, 15, 16 and 18, pass exactly if each entry is below its modulus.
-- Assumes nothing.
use mathlib.Core.Path.{◌≡◌}
use mathlib.Core.Bool.{Bool, false, ◌||◌}
use mathlib.Core.List.{List}
use Prim.Native.Nat.{ℕ, ◌+◌, ◌*◌, ◌≤◌, ◌<◌}
use native.Mathlib.Omega.{arith}
use lib.ListN.{length, get_or}
use borrow.Author.Tests.{leb-false, lt-leb}
use Rattle.lists.specs.Blocks.{blocks, runs, sum_to, part, nth_piece}
use Rattle.lists.proofs.Sums.{sum_to_const, times-fits}
use Rattle.lists.proofs.Blocks.{get_or-runs}
use Rattle.residue.specs.Vector.{AllBelow}
use Rattle.checks.specs.declared.Refusal.{Refusal}
use Rattle.checks.specs.declared.Refusal.TheVariants.{ValueTooLarge, KeyOrRowTooLarge}
use Rattle.checks.proofs.Passed.{none_bad_passed, none_bad_none}
use Rattle.words.specs.declared.gate.Wire.{Wire}
use Rattle.circuit.specs.Wires.{modulus_at, inputs_in}
use Rattle.scheme.proofs.EachBelow.{runs-each, below-part}
use Rattle.session.specs.Session.{too_large, values_checked}
use Rattle.scheme.specs.Bytes.{bytes_checked, keys_checked, counted_rows_checked}
use Rattle.checks.specs.Answer.{accepts}

-- ---- one entry

pub too_large-below : (xs : List ℕ) (modulus : ℕ → ℕ) (i : ℕ) → too_large xs modulus i ≡ false → get_or xs i 0 < modulus i
too_large-below xs modulus i e = leb-false (modulus i) (get_or xs i 0) e

pub below-too_large : (xs : List ℕ) (modulus : ℕ → ℕ) (i : ℕ) → get_or xs i 0 < modulus i → too_large xs modulus i ≡ false
below-too_large xs modulus i h = lt-leb (modulus i) (get_or xs i 0) h

-- two buffers at once
pub either_fine : {a b : Bool} → a ≡ false → b ≡ false → (a || b) ≡ false
either_fine e f = rw (e, f)

-- ---- 15

module _ (xs : List ℕ) (modulus : ℕ → ℕ) where
  pub values_passed : ((i : ℕ) → i < length xs → get_or xs i 0 < modulus i) → values_checked xs modulus ≡ accepts
  unfolding values_checked
  values_passed below = none_bad_passed (length xs) (too_large xs modulus) ValueTooLarge (λ i h. below-too_large xs modulus i (below i h))

-- ---- 16 and 18

module _ (xs moduli : List ℕ) (reason : Refusal) where
  pub bytes-passed : ((i : ℕ) → i < length xs → get_or xs i 0 < get_or moduli i 0) → bytes_checked xs moduli reason ≡ accepts
  unfolding bytes_checked
  bytes-passed below =
      none_bad_passed (length xs) (too_large xs (λ i. get_or moduli i 0)) reason (λ i h. below-too_large xs (λ i. get_or moduli i 0) i (below i h))

  pub bytes_below : bytes_checked xs moduli reason ≡ accepts → (i : ℕ) → i < length xs → get_or xs i 0 < get_or moduli i 0
  unfolding bytes_checked
  bytes_below e i h =
      too_large-below xs (λ i. get_or moduli i 0) i (none_bad_none (length xs) (too_large xs (λ i. get_or moduli i 0)) reason e i h)

-- keys of all inputs, one after another, each of n times K residues
pub keys_passed : (n K : ℕ) (wires : List Wire) (f : ℕ → List ℕ)
    → ((w : ℕ) → w < inputs_in wires → length (f w) ≡ n * K)
    → ((w : ℕ) → w < inputs_in wires → AllBelow (modulus_at wires w) (f w))
    → keys_checked n K wires (blocks (inputs_in wires) f) ≡ accepts
unfolding keys_checked
keys_passed n K wires f e b =
    bytes-passed (blocks (inputs_in wires) f) (runs (inputs_in wires) (λ w. n * K) (modulus_at wires)) KeyOrRowTooLarge
    (runs-each (inputs_in wires) f (λ w. n * K) (modulus_at wires) e b).entry

-- run w of checked bytes is below its modulus
pub run_below : (n : ℕ) (size m : ℕ → ℕ) (xs : List ℕ) (reason : Refusal) → bytes_checked xs (runs n size m) reason ≡ accepts → (w : ℕ) → w < n
    → sum_to w size + size w ≤ length xs → AllBelow (m w) (part xs (sum_to w size) (size w))
run_below n size m xs reason e w h k =
    below-part (m w) xs (sum_to w size) (size w) k
    (λ i l. rw (get_or-runs n size m w i 0 h l) at (bytes_below xs (runs n size m) reason e (sum_to w size + i) (omega arith)))

-- so the keys of an input are residues of its modulus
pub keys_below : (n K : ℕ) (wires : List Wire) (keys : List ℕ) → length keys ≡ inputs_in wires * (n * K) → keys_checked n K wires keys ≡ accepts
    → (w : ℕ) → w < inputs_in wires → AllBelow (modulus_at wires w) (nth_piece keys (n * K) w)
unfolding keys_checked
keys_below n K wires keys size e w h =
    let place : sum_to w (λ _. n * K) ≡ w * (n * K) = sum_to_const w (n * K) in
    rw place at
    (run_below (inputs_in wires) (λ _. n * K) (modulus_at wires) keys KeyOrRowTooLarge e w h
    (omega (arith, place, times-fits w (inputs_in wires) (n * K) h, size)))

-- rows of all wires, one wire after another, so many of each
pub rows_passed : (n K : ℕ) (wires : List Wire) (count : ℕ → ℕ) (f : ℕ → List ℕ)
    → ((w : ℕ) → w < length wires → length (f w) ≡ count w * (n * K))
    → ((w : ℕ) → w < length wires → AllBelow (modulus_at wires w) (f w))
    → counted_rows_checked n K wires count (blocks (length wires) f) ≡ accepts
unfolding counted_rows_checked
rows_passed n K wires count f e b =
    bytes-passed (blocks (length wires) f) (runs (length wires) (λ w. count w * (n * K)) (modulus_at wires)) KeyOrRowTooLarge
    (runs-each (length wires) f (λ w. count w * (n * K)) (modulus_at wires) e b).entry
