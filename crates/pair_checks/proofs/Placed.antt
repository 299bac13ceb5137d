-- The library's search of a range finds the first number of which a test holds, and a check of each is refused there.
-- Assumes nothing.
use mathlib.Core.Path.{◌≡◌, sym, ap, ap₂, ◌∙◌}
use mathlib.Core.Bool.{Bool, true, false, cond, not}
use Prim.Native.Nat.{ℕ, zero, suc, ◌+◌, ◌<◌}
use native.Mathlib.Nat.{add-zero}
use native.Mathlib.Numerals.{add-one}
use native.Mathlib.Decide.{dec_lt}
use native.Mathlib.Omega.{arith}
use borrow.Author.Tests.{lt-ltb, le-ltb}
use lib.Dec.{ltb}
use Rattle.std.specs.Prelude.{Some, None}
use Rattle.std.specs.List.{position, position_or_len, range_with_len}
use Rattle.std.proofs.lemmas.List.FromFn.{length-range_with_len}
use Rattle.lists.specs.First.{first, first_from}
use Rattle.checks.specs.declared.Refusal.{Refusal}
use Rattle.checks.specs.Answer.{accepts, refuses}
use Rattle.checks.specs.Checked.{named, none_bad}
use Rattle.checks.proofs.Answers.{named-found, named_past}

along : (n from : ℕ) (test : ℕ → Bool) → from + position_or_len test (range_with_len from n) ≡ first_from from n test
unfolding first_from
along zero from test = add-zero from
along (suc n) from test = go (test from) (along n (from + 1) test)
  where
    go : (b : Bool) → from + 1 + position_or_len test (range_with_len (from + 1) n) ≡ first_from (from + 1) n test
        → from + cond (not b) (1 + position_or_len test (range_with_len (from + 1) n)) 0 ≡ cond b from (first_from (suc from) n test)
    go true e = add-zero from
    go false e =
        let next : from + (1 + position_or_len test (range_with_len (from + 1) n)) ≡ from + 1 + position_or_len test (range_with_len (from + 1) n) = omega arith in
        next ∙ e ∙ ap (λ (f : ℕ). first_from f n test) (add-one from)

module _ (n : ℕ) (test : ℕ → Bool) where
  searched : position test (range_with_len 0 n) ≡ cond (ltb (first n test) n) (Some (first n test)) None
  unfolding first
  searched =
      let f : position_or_len test (range_with_len 0 n) ≡ first n test = omega (arith, along n 0 test) in
      ap₂ (λ (i l : ℕ). cond (ltb i l) (Some i) None) f (length-range_with_len 0 n)

  pub placed : {i : ℕ} (reason : Refusal) → position test (range_with_len 0 n) ≡ Some i → refuses reason i ≡ none_bad n test reason
  unfolding none_bad
  placed {i} reason e = go (dec_lt (first n test) n)
    where
      go : Dec (first n test < n) → refuses reason i ≡ named n (first n test) reason
      go (yes h) =
          let same : Some i ≡ Some (first n test) = sym e ∙ searched ∙ rw (lt-ltb (first n test) n h) in
          let is : i ≡ first n test = cc in
          ap (refuses reason) is ∙ sym (named-found n (first n test) reason h)
      go (no h) =
          let none : Some i ≡ None = sym e ∙ searched ∙ rw (le-ltb (first n test) n (omega arith)) in
          absurd cc

  pub placed_none : (reason : Refusal) → position test (range_with_len 0 n) ≡ None → accepts ≡ none_bad n test reason
  unfolding none_bad
  placed_none reason e = go (dec_lt (first n test) n)
    where
      go : Dec (first n test < n) → accepts ≡ named n (first n test) reason
      go (yes h) =
          let some : None ≡ Some (first n test) = sym e ∙ searched ∙ rw (lt-ltb (first n test) n h) in
          absurd cc
      go (no h) = sym (named_past n (first n test) reason (omega arith))
