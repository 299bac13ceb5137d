-- Where a reader passes over a run of a table's entries at once: what is due after them. And the array of the parties that outputs name.
-- Assumes nothing.
use Rattle.std.specs.Prelude.{◌≡◌, cond, List, ℕ, ◌-◌, leb, length, take, drop, replicate}
use Rattle.words.specs.declared.gate.Due.{Due}
use Rattle.words.specs.declared.gate.Due.TheVariants.{Gates, Entries}
use Rattle.circuit.specs.File.{named_before}

-- after `run` of `left` entries: the others, or gates where none is left
abbrev pub after_run : ℕ → ℕ → ℕ → Due
after_run left modulus run = cond (leb left run) Gates (Entries (left - run) modulus)

-- an array of 256 with the parties that each of so many outputs names, whose words stand before an index; behind them it is blank
pub record NamesHeld (file : List ℕ) (at count : ℕ) (array : List ℕ) : Type 0 where
  pub room : length array ≡ 256
  pub front : take count array ≡ named_before file at count
  pub blank : drop count array ≡ replicate (256 - count) 0
