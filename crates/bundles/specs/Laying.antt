-- How a part is laid down, in the code's terms: a gate is one word, and behind it the entries of a projection to 0.
-- Assumes nothing.
use Rattle.std.specs.Prelude.{◌≡◌, cond, List, map, ℕ, zero, suc, max, ◌+◌, ◌%◌, eqb, length, Result, Ok, Err, IfOk}
use Rattle.checks.specs.declared.Refused.{Refused}
use Rattle.checks.specs.Answer.{number_in, place_in, answer_of}
use Rattle.checks.specs.Checked.{afterwards}
use Rattle.words.specs.declared.item.Item.{Item}
use Rattle.words.specs.declared.item.Item.TheVariants.{Add, Scale, Multiply, Project}
use Rattle.words.specs.Encode.{word_of}
use Rattle.writer.specs.Call.{file_with}
use Rattle.bundles.specs.declared.operation.Operation.{Operation}
use Rattle.bundles.specs.Primes.{prime}
use Rattle.bundles.specs.Part.{items_of, gate_at, part_words}
use Rattle.bundles.specs.Call.{part_checked}

-- what the first word of a gate says
unfoldable pub scaled_item : ℕ → ℕ → ℕ → Item
scaled_item zero p a = Project p a
scaled_item (suc constant) p a = Scale (suc constant) a

abbrev pub first_item : Operation → ℕ → ℕ → Item
first_item (Operation.Add b) a i = Add (a + i) (b + i)
first_item (Operation.Multiply b) a i = Multiply (a + i) (b + i)
first_item (Operation.Scale constant) a i = scaled_item (constant % prime i) (prime i) (a + i)

-- how many entries follow it, each with image 0
abbrev pub zeros_after : Operation → ℕ → ℕ
zeros_after (Operation.Add b) i = 0
zeros_after (Operation.Multiply b) i = 0
zeros_after (Operation.Scale constant) i = cond (eqb (constant % prime i) 0) (prime i) 0

-- the words of the gate of prime i
abbrev pub gate_words : Operation → ℕ → ℕ → List ℕ
gate_words operation a i = map word_of (items_of (gate_at operation a i))

-- a part of r gates has so many words, whichever wires it takes
pub record Counts (operation : Operation) (r words : ℕ) : Type 0 where
  pub count : (a : ℕ) → words ≡ length (part_words operation r a)

-- the wire behind the bundles that a part takes
abbrev pub taken_to : Operation → ℕ → ℕ → ℕ
taken_to (Operation.Add b) a r = max (a + r) (b + r)
taken_to (Operation.Multiply b) a r = max (a + r) (b + r)
taken_to (Operation.Scale constant) a r = a + r

-- what writing a part promises below the C face
pub record Makes (operation : Operation) (r first a : ℕ) (file₀ : List ℕ) (made : Result ℕ Refused) (file : List ℕ) : Type 0 where
  pub answer : answer_of made ≡ part_checked operation r first a (length file₀)
  pub words : IfOk made (λ n. n ≡ length (part_words operation r a))
  pub file_is : file ≡ afterwards (part_checked operation r first a (length file₀)) (file_with (part_words operation r a) file₀) file₀

-- what `engine` tells C of it: number and place, and the number of words where the part is accepted
unfoldable pub words_told : Result ℕ Refused → ℕ → ℕ
words_told (Ok words) words₀ = words
words_told (Err why) words₀ = words₀

pub record Told (made : Result ℕ Refused) (words₀ number place words : ℕ) : Type 0 where
  pub number_is : number ≡ number_in (answer_of made)
  pub place_is : place ≡ place_in (answer_of made)
  pub words_is : words ≡ words_told made words₀
