-- 15 over two buffers: the lowest index over both, each counted from its own start. A table of moduli goes with each buffer, and with the second one
-- whom each of its bytes is for: those that a party may not read are passed over.
-- Assumes nothing.
use Rattle.std.specs.Prelude.{Bool, ◌&&◌, ◌||◌, List, ℕ, max, ◌≤◌, ltb, length, get_or}
use Rattle.checks.specs.declared.Refusal.TheVariants.{ValueTooLarge}
use Rattle.checks.specs.Checked.{none_bad}
use Rattle.circuit.specs.Named.{readable}
use Rattle.session.specs.Session.{too_large}
use Rattle.checks.specs.Answer.{Answer}

-- a buffer has an entry at an index, and it is not below its modulus
abbrev pub bad_at : List ℕ → List ℕ → ℕ → Bool
bad_at xs ps i = ltb i (length xs) && too_large xs (λ j. get_or ps j 0) i

-- .. and the party may read it
abbrev pub bad_read : List ℕ → List ℕ → List ℕ → ℕ → ℕ → Bool
bad_read ys qs named party i = ltb i (length ys) && (readable named party i && too_large ys (λ j. get_or qs j 0) i)

abbrev pub either_bad : List ℕ → List ℕ → List ℕ → List ℕ → List ℕ → ℕ → ℕ → Bool
either_bad xs ps ys qs named party i = bad_at xs ps i || bad_read ys qs named party i

unfoldable pub either_checked : List ℕ → List ℕ → List ℕ → List ℕ → List ℕ → ℕ → Answer
either_checked xs ps ys qs named party = none_bad (max (length xs) (length ys)) (either_bad xs ps ys qs named party) ValueTooLarge

-- the tables are no shorter than their buffers
pub record Covered (xs ps ys qs named : List ℕ) : Type 0 where
  pub left : length xs ≤ length ps
  pub right : length ys ≤ length qs
  pub readers : length ys ≤ length named
