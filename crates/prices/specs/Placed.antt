-- What a function that prints into a lent buffer comes to.
-- Assumes nothing.
use Rattle.std.specs.Prelude.{◌≡◌, List, ℕ, ◌+◌, ◌≤◌, ◌<◌, length}
use Rattle.lists.specs.Blocks.{written}

-- the text stands in the buffer from a place on, up to where it ends, and all else is as it was
pub record Placed (before : List ℕ) (at : ℕ) (text : List ℕ) (end : ℕ) (after : List ℕ) : Type 0 where
  pub ends : end ≡ at + length text
  pub room : end ≤ length before
  pub is : after ≡ written before at text

-- .. and the text is no longer than a limit
pub record PlacedWithin (limit : ℕ) (before : List ℕ) (at : ℕ) (text : List ℕ) (end : ℕ) (after : List ℕ) : Type 0 where
  pub placed : Placed before at text end after
  pub most : end ≤ at + limit

-- a wire's four numbers have at most 4, 1, 3 and 3 digits
pub record Narrow (w k p n : ℕ) : Type 0 where
  pub wire : w < 10000
  pub kind : k < 10
  pub modulus : p < 1000
  pub rows : n < 1000
