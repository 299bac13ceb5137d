-- Document 02, order 1: what a record of the editor's says: the items of the words that it stands for, with its projection's entries, which are
-- taken from the tables.
-- Assumes nothing.
use Rattle.std.specs.Prelude.{Bool, true, false, ◌&&◌, List, [], ◌∷◌, map, ℕ, eqb, ltb, get_or, take, drop}
use Rattle.words.specs.declared.item.Item.{Item}
use Rattle.words.specs.declared.item.Item.TheVariants.{Input, Add, Scale, Multiply, Project, Entry, Select, Branches, Output}
use Rattle.writer.specs.declared.entry.Record.{Record}

-- nothing; or items, and the table entries that are left for later records
pub data Speech : Type 0 where
  nothing : Speech
  items : List Item → List ℕ → Speech

-- items, if the fields that a kind does not use are 0
unfoldable pub spoken : Bool → List Item → List ℕ → Speech
spoken true says left = items says left
spoken false says left = nothing

abbrev none : ℕ → Bool
none field = eqb field 0

-- Where the wires made so far have these moduli, and these table entries are left: what a record says if it is of kind 0, 1, .. 10. A projection
-- takes an entry for each value of its wire, as far as there are any. The parties that an output names are a byte.
abbrev pub speech_of_kind : List ℕ → List ℕ → Record → List Speech
speech_of_kind moduli tables r =
    nothing
    ∷ nothing
    ∷ spoken (none r.constant && (none r.bit && (none r.a && (none r.b && none r.named)))) (Input r.owner r.modulus ∷ []) tables
    ∷ spoken (none r.modulus && (none r.owner && (none r.constant && (none r.bit && none r.named)))) (Add r.a r.b ∷ []) tables
    ∷ spoken (none r.modulus && (none r.owner && (none r.bit && (none r.b && none r.named)))) (Scale r.constant r.a ∷ []) tables
    ∷ spoken (none r.modulus && (none r.owner && (none r.constant && (none r.bit && none r.named)))) (Multiply r.a r.b ∷ []) tables
    ∷ spoken (none r.owner && (none r.constant && (none r.bit && (none r.b && none r.named))))
    (Project r.modulus r.a ∷ map Entry (take (get_or moduli r.a 0) tables)) (drop (get_or moduli r.a 0) tables)
    ∷ nothing
    ∷ spoken (none r.modulus && (none r.owner && (none r.constant && none r.named))) (Select r.bit ∷ Branches r.a r.b ∷ []) tables
    ∷ nothing
    ∷ spoken (none r.modulus && (none r.owner && (none r.constant && (none r.bit && (none r.b && ltb r.named 256)))))
    (Output r.named r.a ∷ []) tables
    ∷ []

-- what it says; no record has another kind
abbrev pub speech_of : List ℕ → List ℕ → Record → Speech
speech_of moduli tables r = get_or (speech_of_kind moduli tables r) r.kind nothing
