-- Laws of `written`: its length, what stands in it, one writing after another, and what a store and a lent part leave, as `written`.
-- Assumes nothing.
use mathlib.Core.Path.{◌≡◌, refl, sym, ap, ◌∙◌}
use mathlib.Core.List.{List, [], ◌∷◌, ◌++◌, append_assoc, append-nil}
use Prim.Native.Nat.{ℕ, suc, ◌+◌, ◌-◌, ◌≤◌, ◌<◌}
use native.Mathlib.Nat.{add-zero, zero-add, add_assoc}
use native.Mathlib.Numerals.{add-one}
use native.Mathlib.Omega.{arith}
use lib.ListN.{length, take, drop, set, length-append, length-take, length-drop, take-append-drop}
use lib.Seq.{length-take-le, take_at, drop_at, drop-drop, drop-length, set_split, append_snoc}
use Rattle.lists.specs.Blocks.{part, written}
use Rattle.lists.proofs.Parts.{part_middle, part_same, part_of_drop}

-- what the checker knows of xs once a part `&mut xs[at..to]` is back that holds ys
abbrev pub lent : {A : Type 0} → ℕ → ℕ → List A → List A → List A
lent at to xs ys = take at xs ++ (ys ++ drop (to - at) (drop at xs))

module _ {A : Type 0} where
  pub written_none : (xs : List A) (at : ℕ) → written xs at [] ≡ xs
  unfolding written
  written_none xs at = rw (append-nil, add-zero at) (take-append-drop at xs)

  pub written-whole : (xs ys : List A) → length ys ≡ length xs → written xs 0 ys ≡ ys
  unfolding written
  written-whole xs ys e = rw (e, zero-add, drop-length) (append-nil ys)

  -- a store
  pub written-set : (xs : List A) (at : ℕ) (a : A) → at < length xs → set xs at a ≡ written xs at (a ∷ [])
  unfolding written
  written-set xs at a h = set_split xs at a h ∙ sym (append_snoc (take at xs) a (drop (suc at) xs)) ∙ rw (add-one at)

  -- a front that was lent
  pub written-front : (xs ys : List A) (k : ℕ) → length ys ≡ k → ys ++ drop k xs ≡ written xs 0 ys
  unfolding written
  written-front xs ys k e = ap (λ (m : ℕ). ys ++ drop m xs) (sym e ∙ sym (zero-add (length ys)))

  -- a part that was lent, and came back holding ys
  pub written-lent : (xs : List A) (at to : ℕ) {ys zs : List A} → at ≤ to → to ≤ length xs → length ys ≡ length (take (to - at) (drop at xs)) → ys ≡ zs
      → lent at to xs ys ≡ written xs at zs
  unfolding written
  written-lent xs at to {ys} {zs} h k e z =
      let l : length ys ≡ to - at = e ∙ simp (length-take, length-drop) (omega arith) in
      ap (λ (m : ℕ). take at xs ++ (ys ++ drop m (drop at xs))) (sym l)
      ∙ rw (drop-drop (length ys) at xs) (sym (append_assoc (take at xs) ys (drop (at + length ys) xs)))
      ∙ ap (λ (r : List A). take at xs ++ r ++ drop (at + length r) xs) z

  behind : (w xs : List A) (at : ℕ) (ys zs : List A) → take (at + length ys) w ≡ take at xs ++ ys → drop (at + length ys) w ≡ drop (at + length ys) xs
      → written w (at + length ys) zs ≡ written xs at (ys ++ zs)
  unfolding written
  behind w xs at ys zs e k =
      rw (e, ← drop-drop (length zs) (at + length ys) w, k, drop-drop (length zs) (at + length ys) xs, length-append ys zs, ← append_assoc (take at xs) ys zs, ← add_assoc at (length ys) (length zs))

  module _ (xs : List A) (at : ℕ) (ys : List A) (fits : at + length ys ≤ length xs) where
    long : length (take at xs ++ ys) ≡ at + length ys
    long = simp (length-append, length-take) (omega arith)

    pub length-written : length (written xs at ys) ≡ length xs
    unfolding written
    length-written = simp (length-append, length-take, length-drop) (omega arith)

    -- what stands before what was written, behind it, and there
    pub take-written : take at (written xs at ys) ≡ take at xs
    unfolding written
    take-written = rw append_assoc (take_at (take at xs) (ys ++ drop (at + length ys) xs) at (length-take-le at xs (omega arith)))

    pub front-written : take (at + length ys) (written xs at ys) ≡ take at xs ++ ys
    unfolding written
    front-written = take_at (take at xs ++ ys) (drop (at + length ys) xs) (at + length ys) long

    pub drop-written : drop (at + length ys) (written xs at ys) ≡ drop (at + length ys) xs
    unfolding written
    drop-written = drop_at (take at xs ++ ys) (drop (at + length ys) xs) (at + length ys) long

    pub part-written : part (written xs at ys) at (length ys) ≡ ys
    unfolding written
    part-written = part_middle (take at xs) ys (drop (at + length ys) xs) at (length ys) (length-take-le at xs (omega arith)) refl

    pub part-before : (b n : ℕ) → b + n ≤ at → part (written xs at ys) b n ≡ part xs b n
    part-before b n h = part_same (written xs at ys) xs at b n take-written h

    pub part_behind : (b n : ℕ) → at + length ys ≤ b → part (written xs at ys) b n ≡ part xs b n
    part_behind b n h =
        let m : ℕ = at + length ys in
        let e : m + (b - m) ≡ b = omega arith in
        ap (λ (k : ℕ). part (written xs at ys) k n) (sym e)
        ∙ sym (part_of_drop (written xs at ys) m (b - m) n)
        ∙ ap (λ (l : List A). part l (b - m) n) drop-written
        ∙ part_of_drop xs m (b - m) n
        ∙ ap (λ (k : ℕ). part xs k n) e

    -- another writing, right behind
    pub written-more : (zs : List A) → written (written xs at ys) (at + length ys) zs ≡ written xs at (ys ++ zs)
    written-more zs = behind (written xs at ys) xs at ys zs front-written drop-written
