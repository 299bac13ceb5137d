-- The pads of an entry, one sender after another: what the sums hold after each, and the step that takes one.
-- Assumes nothing.
use mathlib.Core.Path.{◌≡◌, refl, sym, ap, ◌∙◌}
use mathlib.Core.Bool.{Bool, not}
use mathlib.Core.List.{List}
use Prim.Native.Nat.{ℕ, ◌+◌, ◌*◌, ◌≤◌, ◌<◌}
use native.Mathlib.Numerals.{add-one}
use native.Mathlib.Omega.{arith}
use lib.ListN.{length}
use Rattle.lists.specs.Blocks.{nth_piece}
use Rattle.lists.proofs.Sums.{times-fits}
use Rattle.residue.specs.Vector.{add_v, AllBelow}
use Rattle.pads.specs.declared.input.Bound.{Bound}
use Rattle.pads.specs.Moved.{moved, Asked}
use Rattle.pads.specs.Pad.{shake_pad, pad_sum}
use Rattle.pads.specs.Binding.{under_of, bound_by}
use Rattle.pads.specs.Senders.{sums, TakesSender, TakesCompletely}
use Rattle.pads.proofs.Moving.{moved_length, moved-below, moved_zeros, moved_twice, moved_back}
use Rattle.pads.proofs.Sizes.{shake_pad-length, pad_sum-length}

module _ (minus : Bool) (q : ℕ) (b : Bound) (receiver : ℕ) (keys : List ℕ) where
  -- the pads of the first j senders, K bytes each, summed; and the pad of sender j
  abbrev pads : ℕ → ℕ → List ℕ
  pads K j = pad_sum (shake_pad b.round) K q (under_of b) keys receiver j

  abbrev pad_of : ℕ → ℕ → List ℕ
  pad_of K j = shake_pad b.round q K (bound_by b receiver (nth_piece keys K j))

  pads_length : (K j : ℕ) → length (pads K j) ≡ K
  pads_length K j = pad_sum-length (shake_pad b.round) K q (shake_pad-length b.round q K) (under_of b) keys receiver j

  pads_next : (K j : ℕ) → pads K (j + 1) ≡ add_v q (pads K j) (pad_of K j)
  unfolding pad_sum
  pads_next K j = rw add-one refl

  module _ (before : List ℕ) where
    -- no sender yet
    pub sums_none : Asked q (length before) before → before ≡ sums minus q b receiver keys before 0
    unfolding pad_sum
    sums_none a = sym (moved_zeros minus (omega arith) before a.below)

    -- one sender more
    sums_next : (j : ℕ) → 1 < q → sums minus q b receiver keys before (j + 1) ≡ moved minus q (sums minus q b receiver keys before j) (pad_of (length before) j)
    sums_next j h =
        ap (λ (l : List ℕ). moved minus q before l) (pads_next (length before) j)
        ∙ sym (moved_twice minus (omega arith) before (pads (length before) j) (pad_of (length before) j) (sym (pads_length (length before) j)) (sym (shake_pad-length b.round q (length before) _)))

    module _ (j : ℕ) {out : List ℕ} (e : out ≡ sums minus q b receiver keys before j) where
      pub sums-length : length out ≡ length before
      sums-length = ap length e ∙ moved_length minus q before (pads (length before) j) (sym (pads_length (length before) j))

      -- sender j has a key
      pub sums-fits : {n : ℕ} → j < n → length keys ≡ n * length before → j * length out + length out ≤ length keys
      sums-fits {n} h l = rw (sums-length, l) (times-fits j n (length before) h)

      pub sums_asked : Asked q (length before) before → Asked q (length out) out
      sums_asked a = record { modulus = a.modulus; short = omega (arith, sums-length); below = rw e (moved-below minus (omega arith) before (pads (length before) j)) }

  -- a step that moves the pad of sender j's key takes sender j
  pub takes_sender : (j : ℕ) {ins key outs : List ℕ} → 1 < q → key ≡ nth_piece keys (length ins) j
      → outs ≡ moved minus q ins (shake_pad b.round q (length ins) (bound_by b receiver key)) → TakesSender minus q b receiver keys j ins outs
  takes_sender j {ins} {key} {outs} h k t =
      record {
        next =
            λ before e.
            t
            ∙ ap (λ (l : List ℕ). moved minus q ins (shake_pad b.round q (length ins) (bound_by b receiver l))) k
            ∙ ap (λ (m : ℕ). moved minus q ins (pad_of m j)) (sums-length before j e)
            ∙ ap (λ (l : List ℕ). moved minus q l (pad_of (length before) j)) e
            ∙ sym (sums_next before j h);
      }

  -- what stood there before the first j senders is found by undoing them
  completely : (j : ℕ) (ins outs : List ℕ) → 1 < q → AllBelow q ins → TakesSender minus q b receiver keys j ins outs → outs ≡ moved minus q ins (pad_of (length ins) j)
  completely j ins outs h below t =
      let sized : length ins ≡ length (pads (length ins) j) = sym (pads_length (length ins) j) in
      let before : List ℕ = moved (not minus) q ins (pads (length ins) j) in
      let long : length before ≡ length ins = moved_length (not minus) q ins (pads (length ins) j) sized in
      let back : ins ≡ sums minus q b receiver keys before j =
      sym (moved_back minus (omega arith) ins (pads (length ins) j) sized below) ∙ ap (λ (m : ℕ). moved minus q before (pads m j)) (sym long) in
      t.next before back
      ∙ sums_next before j h
      ∙ ap (λ (l : List ℕ). moved minus q l (pad_of (length before) j)) (sym back)
      ∙ ap (λ (m : ℕ). moved minus q ins (pad_of m j)) long

pub takes_completely : TakesCompletely
takes_completely = completely
