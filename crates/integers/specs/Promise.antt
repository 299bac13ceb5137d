-- Document 02, order 5, of circuits with parts: what a part computes, what a party that is promised figures reads from it, and that it is accepted behind
-- the gates of an accepted circuit.
-- Assumes nothing.
use Rattle.std.specs.Prelude.{◌≡◌, true, ℕ, ◌+◌, ◌-◌, ◌*◌, ◌%◌, ◌≤◌, ◌<◌, length, get_or, take}
use mathlib.Core.List.{List, [], ◌∷◌, ◌++◌, map, zip_with}
use Rattle.lists.specs.Blocks.{part}
use Rattle.meter.specs.Meter.{Charge}
use Rattle.words.specs.declared.gate.Wire.{Wire}
use Rattle.words.specs.declared.item.Item.TheVariants.{Output, End}
use Rattle.words.specs.Encode.{word_of, file_of}
use Rattle.circuit.specs.Wires.{inputs_in}
use Rattle.circuit.specs.File.{words_in, accepted, read_file}
use Rattle.circuit.specs.Named.{readable}
use Rattle.bundles.specs.declared.operation.Operation.{Operation}
use Rattle.bundles.specs.Primes.{product}
use Rattle.bundles.specs.Integers.{split, join}
use Rattle.bundles.specs.Part.{part_words}
use Rattle.bundles.specs.Call.{part_checked}
use Rattle.round.specs.Round.{Lent}
use Rattle.round.specs.Claim.{Conditions}
use Rattle.round.specs.Played.{Results, Played}
use Rattle.integers.specs.Reach.{Has}
use Rattle.integers.specs.Bundle.{Bundle, Carries, Given, Carried, result}
use Rattle.checks.specs.Answer.{accepts}

-- inputs in a row whose values are an integer's residues: a bundle that carries it
abbrev pub EnteredIsCarried : Type 0
EnteredIsCarried =
    (file values : List ℕ) (r first x : ℕ)
    → (read_file file).answer ≡ accepts
    → Bundle (read_file file).wires r first
    → first + r ≤ inputs_in (read_file file).wires
    → part values first r ≡ split r x
    → Carries file values r first x

-- in any accepted circuit that has the words of a part, as the call writes them, where it says, and whose bundles carry x and y, the part makes a bundle
-- that carries the result
abbrev pub PartComputes : Type 0
PartComputes =
    (file values : List ℕ) (operation : Operation) (r first a x y size : ℕ)
    → (read_file file).answer ≡ accepts
    → part_checked operation r first a size ≡ accepts
    → Has file first (file_of (part_words operation r a))
    → Carried file values r a x y operation
    → Carries file values r first (result operation x y)

-- outputs from one on are the wires of a bundle, one after another
pub record Shown (outputs : List ℕ) (at r first : ℕ) : Type 0 where
  pub some : at + r ≤ length outputs
  pub wires : (i : ℕ) → i < r → get_or outputs (at + i) 0 ≡ first + i

-- a party may read each of the outputs from one on that show a bundle
pub record MayReadAll (named : List ℕ) (party at r : ℕ) : Type 0 where
  pub may : (i : ℕ) → i < r → readable named party (at + i) ≡ true

-- "A user who pools integers gets the integer result modulo the product, wherever figures are promised": at every party of a round that may read them, the
-- decoded bytes of a bundle, joined, are the integer that it carries, modulo the product; and so are those of plain evaluation
pub record Read (named : List ℕ) (n : ℕ) (results : Results) (r at z : ℕ) : Type 0 where
  pub decoded : (party : ℕ) → party < n → MayReadAll named party at r → join r (part (results.decoded party) at r) ≡ z % product r
  pub plain : join r (part results.plain at r) ≡ z % product r

abbrev pub FiguresAreIntegers : Type 0
FiguresAreIntegers =
    (file : List ℕ) (n K round : ℕ) (contributions values : List ℕ) (meter : Charge) (lent : Lent) (results : Results) (r first at z : ℕ)
    → Conditions file n K contributions values meter lent
    → Played file n K round contributions values meter lent results
    → r ≤ 10
    → Carries file values r first z
    → Shown (read_file file).outputs at r first
    → Read (read_file file).named n results r at z

-- so it is with a part: the integers that its bundles carry go in, and every party that is promised figures reads the result
abbrev pub PooledIsRead : Type 0
PooledIsRead =
    (file : List ℕ) (n K round : ℕ) (contributions values : List ℕ) (meter : Charge) (lent : Lent) (results : Results)
    (operation : Operation) (r first a x y size at : ℕ)
    → Conditions file n K contributions values meter lent
    → Played file n K round contributions values meter lent results
    → part_checked operation r first a size ≡ accepts
    → Has file first (file_of (part_words operation r a))
    → Carried file values r a x y operation
    → Shown (read_file file).outputs at r first
    → Read (read_file file).named n results r at (result operation x y)

-- an accepted file up to its last gate: all words but its outputs and its end word
abbrev pub words_to_gates : List ℕ → ℕ
words_to_gates file = words_in file - (1 + length (read_file file).outputs)

abbrev pub gates : List ℕ → List ℕ
gates file = take (4 * words_to_gates file) file

-- the words of outputs that name these parties, and an end word
abbrev pub closing : List ℕ → List ℕ → List ℕ
closing outputs named = map word_of (zip_with (λ wire parties. Output parties wire) outputs named ++ (End ∷ []))

-- a file's gates, then words, then outputs and an end word
abbrev pub appended : List ℕ → List ℕ → List ℕ → List ℕ → List ℕ
appended file words outputs named = gates file ++ (file_of words ++ file_of (closing outputs named))

-- one to 256 outputs, of so many wires, each with the parties that it names, which are a byte
pub record OutputsFit (outputs named : List ℕ) (wires : ℕ) : Type 0 where
  pub some : 0 < length outputs
  pub most : length outputs ≤ 256
  pub made : (i : ℕ) → i < length outputs → get_or outputs i 0 < wires
  pub each : length named ≡ length outputs
  pub bytes : (i : ℕ) → i < length outputs → get_or named i 0 < 256

-- bytes that stand among a file's gates, before its outputs
pub record Among (file : List ℕ) (next : ℕ) (bytes : List ℕ) : Type 0 where
  pub has : Has file next bytes
  pub inside : length has.front + length bytes ≤ 4 * words_to_gates file

-- the file is accepted with these outputs, which name these parties; its wires are those of the file before, and r more, which are a bundle; it has the words where it should,
-- and what stood among the gates before, as the parts that were appended earlier, is there still
pub record AcceptedBehind (file words outputs named : List ℕ) (r : ℕ) : Type 0 where
  pub more : List Wire
  pub made : length more ≡ r
  pub reads : read_file (appended file words outputs named) ≡ accepted ((read_file file).wires ++ more) outputs named
  pub bundle : Bundle ((read_file file).wires ++ more) r (length (read_file file).wires)
  pub has : Among (appended file words outputs named) (length (read_file file).wires) (file_of words)
  pub stays : (next : ℕ) (bytes : List ℕ) → Among file next bytes → Among (appended file words outputs named) next bytes

-- a part that the call writes for the next wire of an accepted circuit with the bundles that it takes is accepted behind the circuit's gates
abbrev pub AppendedIsAccepted : Type 0
AppendedIsAccepted =
    (file : List ℕ) (operation : Operation) (r a size : ℕ) (outputs named : List ℕ)
    → (read_file file).answer ≡ accepts
    → part_checked operation r (length (read_file file).wires) a size ≡ accepts
    → Given (read_file file).wires r a operation
    → OutputsFit outputs named (length (read_file file).wires + r)
    → AcceptedBehind file (part_words operation r a) outputs named r
