-- Laws of `part`: its length, its elements, a part of a part, of a joined list, of a list that was written into.
-- Assumes nothing.
use mathlib.Core.Path.{◌≡◌, refl, sym, ap, ◌∙◌}
use mathlib.Core.List.{List, [], ◌∷◌, ◌++◌, append_assoc}
use Prim.Native.Nat.{ℕ, zero, suc, ◌+◌, ◌-◌, ◌≤◌, ◌<◌}
use native.Mathlib.Nat.{add-sub_cancel_left, sub-zero, zero-sub, suc-sub-suc}
use native.Mathlib.Omega.{arith}
use lib.ListN.{length, get_or, take, drop, length-take, length-drop}
use lib.Seq.{take_all, take-nil, take_at, drop_at, take-take, drop-drop, take-add, get_or-take, get_or-drop, take-append-le, drop-append-le, drop-append-add}
use Rattle.lists.specs.Blocks.{part}

module _ {A : Type 0} where
  -- the front of a list, from a place in it on
  pub drop-take : (b m : ℕ) (l : List A) → drop b (take m l) ≡ take (m - b) (drop b l)
  drop-take zero m l = rw sub-zero
  drop-take (suc b) zero l = rw zero-sub
  drop-take (suc b) (suc m) [] = sym (take-nil (suc m - suc b))
  drop-take (suc b) (suc m) (x ∷ l) = rw suc-sub-suc (drop-take b m l)

  -- what a range `s[at..to]` is, by its start and its size
  pub part_range : (xs : List A) (at to n : ℕ) → to ≡ at + n → take (to - at) (drop at xs) ≡ part xs at n
  unfolding part
  part_range xs at to n e = rw (e, add-sub_cancel_left)

  pub length_range : (xs : List A) (at to : ℕ) → at ≤ to → to ≤ length xs → length (take (to - at) (drop at xs)) ≡ to - at
  length_range xs at to h k = simp (length-take, length-drop) (omega arith)

  pub length_part : (xs : List A) (at n : ℕ) → at + n ≤ length xs → length (part xs at n) ≡ n
  unfolding part
  length_part xs at n h = simp (length-take, length-drop) (omega arith)

  pub get_d_part : (xs : List A) (at n i : ℕ) (d : A) → i < n → get_or (part xs at n) i d ≡ get_or xs (at + i) d
  unfolding part
  get_d_part xs at n i d h = rw (get_or-take, get_or-drop)

  -- the whole, the front, the empty part
  pub part-whole : (xs : List A) (n : ℕ) → length xs ≤ n → part xs 0 n ≡ xs
  unfolding part
  part-whole xs n h = take_all n xs h

  pub part-front : (xs : List A) (n : ℕ) → part xs 0 n ≡ take n xs
  unfolding part
  part-front xs n = refl

  -- the front, with the part behind it
  pub take_part : (xs : List A) (at n : ℕ) → take (at + n) xs ≡ take at xs ++ part xs at n
  unfolding part
  take_part xs at n = take-add at n xs

  -- a part of a part, of a front, of a rest
  pub part_of_take : (xs : List A) (m at n : ℕ) → at + n ≤ m → part (take m xs) at n ≡ part xs at n
  unfolding part
  part_of_take xs m at n h = ap (take n) (drop-take at m xs) ∙ take-take n (m - at) (drop at xs) (omega arith)

  pub part_of_drop : (xs : List A) (m at n : ℕ) → part (drop m xs) at n ≡ part xs (m + at) n
  unfolding part
  part_of_drop xs m at n = rw (drop-drop at m xs)

  pub part_of_part : (xs : List A) (at m b n : ℕ) → b + n ≤ m → part (part xs at m) b n ≡ part xs (at + b) n
  unfolding part
  part_of_part xs at m b n h = part_of_take (drop at xs) m b n h ∙ part_of_drop xs at b n

  -- a part of a joined list: in its first half, in its second half
  pub part_left : (xs ys : List A) (at n : ℕ) → at + n ≤ length xs → part (xs ++ ys) at n ≡ part xs at n
  unfolding part
  part_left xs ys at n h =
      ap (take n) (drop-append-le at xs ys (omega arith)) ∙ take-append-le n (drop at xs) ys (simp length-drop (omega arith))

  pub part_right : (xs ys : List A) (at n : ℕ) → part (xs ++ ys) (length xs + at) n ≡ part ys at n
  unfolding part
  part_right xs ys at n = ap (take n) (drop-append-add xs ys at)

  -- the second half, the middle of three
  pub part_last : (xs ys : List A) (at n : ℕ) → length xs ≡ at → length ys ≡ n → part (xs ++ ys) at n ≡ ys
  unfolding part
  part_last xs ys at n e k = ap (take n) (drop_at xs ys at e) ∙ take_all n ys (omega arith)

  pub part_middle : (xs ys zs : List A) (at n : ℕ) → length xs ≡ at → length ys ≡ n → part (xs ++ ys ++ zs) at n ≡ ys
  unfolding part
  part_middle xs ys zs at n e k = ap (λ (l : List A). take n (drop at l)) (append_assoc xs ys zs) ∙ ap (take n) (drop_at xs (ys ++ zs) at e) ∙ take_at ys zs n k

  -- lists with the same front have the same parts there
  pub part_same : (xs ys : List A) (m at n : ℕ) → take m xs ≡ take m ys → at + n ≤ m → part xs at n ≡ part ys at n
  part_same xs ys m at n e h = sym (part_of_take xs m at n h) ∙ ap (λ (l : List A). part l at n) e ∙ part_of_take ys m at n h
