-- What takes the place of a division by q.
-- Assumes nothing.
use Rattle.std.specs.Prelude.{◌≡◌, ℕ, ◌%◌, ◌<◌}

-- r is below 2^25 and leaves what x leaves modulo q
pub record Folded (q x r : ℕ) : Type 0 where
  pub same : r % q ≡ x % q
  pub small : r < 33554432
