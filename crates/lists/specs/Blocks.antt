-- How a buffer is laid out: blocks one after another, a table of values, a part of a list, a list written into another. Every later definition of a
-- buffer is written in these. The recursion goes from the end, as a loop does that fills a buffer: one turn more is one block more, behind those that stand.
use Rattle.std.specs.Prelude.{List, [], ◌∷◌, ◌++◌, ℕ, zero, suc, ◌+◌, ◌*◌, length, take, drop, replicate}

module _ {A : Type 0} where
  -- f 0, f 1, …, f (n - 1), one after another
  unfoldable pub blocks : ℕ → (ℕ → List A) → List A
  blocks zero f = []
  blocks (suc n) f = blocks n f ++ f n

  -- the n values f 0, f 1, …, f (n - 1)
  abbrev pub tab : ℕ → (ℕ → A) → List A
  tab n f = blocks n (λ i. f i ∷ [])

  -- the size elements of xs from place at on
  unfoldable pub part : List A → ℕ → ℕ → List A
  part xs at size = take size (drop at xs)

  -- xs cut into parts of size elements: the i-th of them
  abbrev pub nth_piece : List A → ℕ → ℕ → List A
  nth_piece xs size i = part xs (i * size) size

  -- xs, with ys in the place of as many of its elements, from place at on
  unfoldable pub written : List A → ℕ → List A → List A
  written xs at ys = take at xs ++ ys ++ drop (at + length ys) xs

  -- n runs of one value each: run i is size i times m i
  abbrev pub runs : ℕ → (ℕ → ℕ) → (ℕ → A) → List A
  runs n size m = blocks n (λ i. replicate (size i) (m i))

-- f 0 + f 1 + … + f (n - 1): the place at which block n starts, where block i is f i long
unfoldable pub sum_to : ℕ → (ℕ → ℕ) → ℕ
sum_to zero f = 0
sum_to (suc n) f = sum_to n f + f n
