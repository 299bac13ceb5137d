-- The loop that reads a state place by place and permutes it where a block has ended, whatever a place is read as: its invariant, with its laws.
-- Assumes nothing.
use mathlib.Core.Path.{◌≡◌, refl, sym, ap, ◌∙◌}
use Prim.Native.Nat.{ℕ, zero, suc, ◌+◌, ◌-◌, ◌<◌, ◌≤◌}
use mathlib.Core.List.{List, [], ◌∷◌, ◌++◌}
use native.Mathlib.Numerals.{add-one}
use native.Mathlib.Omega.{arith}
use borrow.Author.Tests.{eq-eqb, ne_eqb}
use lib.ListN.{length, take, set, length-set}
use lib.Seq.{take-suc-set, take_all, append_snoc}
use Rattle.keccak.specs.Keccak.{keccak_f}
use Rattle.keccak.proofs.Fits.{keccak_f-length}
use Rattle.shake.specs.Stream.{Soaked, settled}
use Rattle.shake.specs.Read.{next, stream}

module _ {A : Type 0} (block : ℕ) (reads : List ℕ → ℕ → A) where
  pub stream_length : (n : ℕ) (lanes : List ℕ) (at : ℕ) → length (stream block reads n lanes at) ≡ n
  unfolding stream
  stream_length zero lanes at = refl
  stream_length (suc n) lanes at = ap suc (stream_length n (next block lanes at).lanes ((next block lanes at).at + 1))

  pub next_full : (lanes : List ℕ) (at : ℕ) → at ≡ block → next block lanes at ≡ record { lanes = keccak_f lanes; at = 0 }
  unfolding settled
  next_full lanes at e = rw (eq-eqb at block e)

  pub next-within : (lanes : List ℕ) (at : ℕ) → (at ≡ block → ⊥) → next block lanes at ≡ record { lanes = lanes; at = at }
  unfolding settled
  next-within lanes at n = rw (ne_eqb at block n)

  pub stream_step : (n : ℕ) (lanes : List ℕ) (at : ℕ) (lanes' : List ℕ) (at' : ℕ) → next block lanes at ≡ record { lanes = lanes'; at = at' }
      → stream block reads (suc n) lanes at ≡ reads lanes' at' ∷ stream block reads n lanes' (at' + 1)
  unfolding stream
  stream_step n lanes at lanes' at' e = ap (λ (s : Soaked). reads s.lanes s.at ∷ stream block reads n s.lanes (s.at + 1)) e

  -- past the block's end the state is permuted
  pub past : (n : ℕ) (lanes : List ℕ) → 0 < n → 0 < block → stream block reads n lanes block ≡ stream block reads n (keccak_f lanes) 0
  past zero lanes h b = absurd (omega arith)
  past (suc n) lanes h b =
      stream_step n lanes block (keccak_f lanes) 0 (next_full lanes block refl)
      ∙ sym (stream_step n (keccak_f lanes) 0 (keccak_f lanes) 0 (next-within (keccak_f lanes) 0 (λ (e : 0 ≡ block). omega arith)))

  -- the loop's invariant: what is written and what is still to come are the whole
  pub record Written (state : List ℕ) (n : ℕ) (out : List A) (lanes : List ℕ) (at i : ℕ) : Type 0 where
    pub inside : i ≤ n
    pub long : length out ≡ n
    pub place : at ≤ block
    pub lanes25 : length lanes ≡ 25
    pub whole : take i out ++ stream block reads (n - i) lanes at ≡ stream block reads n state 0

  pub all-written : (state : List ℕ) (n : ℕ) (out : List A) (lanes : List ℕ) (at i : ℕ) → Written state n out lanes at i → n ≤ i → out ≡ stream block reads n state 0
  unfolding stream
  all-written state n out lanes at i w h =
      let z : n - i ≡ 0 = omega arith in
      sym (take_all i out (omega arith)) ∙ sym (append_nothing (take i out)) ∙ ap (λ (k : ℕ). take i out ++ stream block reads k lanes at) (sym z) ∙ w.whole
    where
      append_nothing : (xs : List A) → xs ++ [] ≡ xs
      append_nothing xs = mathlib.Core.List.append-nil xs

  -- a turn, whichever way it went
  module _ (state : List ℕ) (n : ℕ) (out : List A) (lanes : List ℕ) (at i : ℕ) (w : Written state n out lanes at i) (h : i < n) (lanes' : List ℕ) (at' : ℕ) (v : A) where
    more : next block lanes at ≡ record { lanes = lanes'; at = at' } → at' < block → length lanes' ≡ 25 → v ≡ reads lanes' at' → Written state n (set out i v) lanes' (at' + 1) (i + 1)
    more e p l r = record {
      inside = omega arith;
      long = length-set out i v ∙ w.long;
      place = omega arith;
      lanes25 = l;
      whole = rw (add-one i, take-suc-set out i v (omega arith), append_snoc (take i out) v (stream block reads (n - suc i) lanes' (at' + 1)), r)
          (ap (λ (xs : List A). take i out ++ xs) (sym (stream_step (n - suc i) lanes at lanes' at' e)) ∙ ap (λ (k : ℕ). take i out ++ stream block reads k lanes at) left ∙ w.whole);
    }
      where
        left : suc (n - suc i) ≡ n - i
        left = omega arith

    pub more_full : (r : List ℕ) → 0 < block → at ≡ block → r ≡ keccak_f lanes → lanes' ≡ r → at' ≡ 0 → v ≡ reads lanes' at' → Written state n (set out i v) lanes' (at' + 1) (i + 1)
    more_full r b t k l a = more (next_full lanes at t ∙ rw (l, a, k)) (omega arith) (rw (l, k) (keccak_f-length lanes))

    pub more_within : (at ≡ block → ⊥) → lanes' ≡ lanes → at' ≡ at → v ≡ reads lanes' at' → Written state n (set out i v) lanes' (at' + 1) (i + 1)
    more_within t l a = more (next-within lanes at t ∙ rw (l, a)) (rw a (below t)) (rw l w.lanes25)
      where
        below : (at ≡ block → ⊥) → at < block
        below f = omega (arith, w.place)
