-- What the functions of the writer promise each other, in the code's terms: what each does to the pen, the moduli and the file.
-- Assumes nothing.
use Rattle.std.specs.Prelude.{Bool, true, false, cond, ◌&&◌, List, [], ◌∷◌, map, ℕ, suc, ◌+◌, ◌*◌, ◌<◌, eqb, leb, ltb, length, get_or, take, drop, set}
use Rattle.lists.specs.Blocks.{written}
use Rattle.checks.specs.declared.Refusal.{Refusal}
use Rattle.checks.specs.declared.Refusal.TheVariants.{UnknownWord, OutOfRange, WrongLength}
use Rattle.words.specs.declared.gate.Due.{Due}
use Rattle.words.specs.declared.gate.Due.TheVariants.{Inputs, Gates, Outputs, Entries}
use Rattle.words.specs.declared.gate.Step.{Step}
use Rattle.words.specs.declared.gate.Step.TheVariants.{Makes, Goes, Gives, Ends}
use Rattle.words.specs.declared.item.Item.{Item}
use Rattle.words.specs.declared.item.Item.TheVariants.{Project, Entry, Select}
use Rattle.words.specs.Items.{judged}
use Rattle.words.specs.Encode.{word_of, bytes_of}
use Rattle.words.specs.Cut.{cut_word}
use Rattle.writer.specs.declared.pen.Pen.{Pen}
use Rattle.writer.specs.declared.speech.Rest.{Rest}
use Rattle.writer.specs.declared.speech.Rest.TheVariants.{Alone, Table}
use Rattle.writer.specs.declared.speech.Said.{Said}
use Rattle.writer.specs.Says.{Speech, nothing, items}
use Rattle.std.specs.Prelude.{Ok, Err, Option, Some, None}
use Rattle.std.specs.List.{list_all}
use Rattle.checks.specs.Answer.{Answer, accepts, refuses}

-- the pen where nothing is refused, and the pen put down
abbrev pub pen_of : Due → ℕ → ℕ → ℕ → ℕ → Pen
pen_of due made given taken at = record { answer = accepts; due = due; made = made; given = given; taken = taken; at = at }

abbrev pub stop : Pen → Refusal → ℕ → Pen
stop pen reason place =
    record { answer = refuses reason place; due = pen.due; made = pen.made; given = pen.given; taken = pen.taken; at = pen.at }

-- a word put down at an index of the file, where there is room for it; and several
unfoldable pub put_word : List ℕ → ℕ → ℕ → List ℕ
put_word file at w = cond (leb (4 * at + 4) (length file)) (written file (4 * at) (bytes_of w)) file

unfoldable pub put_words : List ℕ → ℕ → List ℕ → List ℕ
put_words file at [] = file
put_words file at (w ∷ ws) = put_words (put_word file at w) (suc at) ws

-- what lies on the desk
pub record Desk : Type 0 where
  pub pen : Pen
  pub moduli : List ℕ
  pub file : List ℕ

abbrev pub desk : Pen → List ℕ → List ℕ → Desk
desk pen moduli file = record { pen = pen; moduli = moduli; file = file }

-- what an item that was judged does; its word w is put down in the pass that lays
abbrev pub pen_after : ℕ → Pen → Step → Pen
pen_after place pen (Step.Refused reason) = stop pen reason place
pen_after place pen (Makes wire due) = pen_of due (pen.made + 1) pen.given pen.taken (pen.at + 1)
pen_after place pen (Goes due) = pen_of due pen.made pen.given pen.taken (pen.at + 1)
pen_after place pen (Gives wire) = pen_of Outputs pen.made (pen.given + 1) pen.taken (pen.at + 1)
pen_after place pen Ends = pen_of pen.due pen.made pen.given pen.taken (pen.at + 1)

abbrev pub moduli_after : List ℕ → ℕ → Step → List ℕ
moduli_after moduli made (Step.Refused reason) = moduli
moduli_after moduli made (Makes wire due) = set moduli made wire.modulus
moduli_after moduli made (Goes due) = moduli
moduli_after moduli made (Gives wire) = moduli
moduli_after moduli made Ends = moduli

abbrev pub file_after : Bool → List ℕ → ℕ → ℕ → Step → List ℕ
file_after lay file at w (Step.Refused reason) = file
file_after lay file at w (Makes wire due) = cond lay (put_word file at w) file
file_after lay file at w (Goes due) = cond lay (put_word file at w) file
file_after lay file at w (Gives wire) = cond lay (put_word file at w) file
file_after lay file at w Ends = cond lay (put_word file at w) file

abbrev pub desk_after : Bool → ℕ → ℕ → Desk → Step → Desk
desk_after lay place w d step =
    desk (pen_after place d.pen step) (moduli_after d.moduli d.pen.made step) (file_after lay d.file d.pen.at w step)

-- an item, where nothing was refused before
unfoldable pub item_on : Bool → ℕ → Item → Desk → Answer → Desk
item_on lay place item d (Ok done) =
    desk_after lay place (cut_word item) d (judged (take d.pen.made d.moduli) d.pen.given d.pen.at d.pen.due item)
item_on lay place item d (Err why) = d

abbrev pub lay_item : Bool → ℕ → Item → Desk → Desk
lay_item lay place item d = item_on lay place item d d.pen.answer

-- all of some images are below a modulus
unfoldable pub all_below : ℕ → List ℕ → Bool
all_below modulus [] = true
all_below modulus (image ∷ images) = ltb image modulus && all_below modulus images

-- the words of entries
abbrev pub entry_words : List ℕ → List ℕ
entry_words images = map (λ image. word_of (Entry image)) images

-- a table of `left` entries below a modulus, of which these are there
unfoldable pub table_on : Bool → ℕ → ℕ → List ℕ → Desk → Bool → Bool → Desk
table_on lay place left images d false enough = desk (stop d.pen OutOfRange place) d.moduli d.file
table_on lay place left images d true false = desk (stop d.pen WrongLength place) d.moduli d.file
table_on lay place left images d true true =
    desk (pen_of Gates d.pen.made d.pen.given (d.pen.taken + left) (d.pen.at + left)) d.moduli
    (cond lay (put_words d.file d.pen.at (entry_words images)) d.file)

-- what a projection takes of the tables
abbrev pub images_from : List ℕ → ℕ → ℕ → List ℕ
images_from tables taken left = take left (drop taken tables)

unfoldable pub table_due : Bool → ℕ → List ℕ → Desk → Due → Desk
table_due lay place tables d Inputs = d
table_due lay place tables d Gates = d
table_due lay place tables d Outputs = d
table_due lay place tables d (Entries left modulus) =
    table_on lay place left (images_from tables d.pen.taken left) d
    (all_below modulus (images_from tables d.pen.taken left))
    (leb (d.pen.taken + left) (length tables))
table_due lay place tables d (Due.Branches bit) = d

-- the table of a projection, where nothing was refused before
unfoldable pub table_after : Bool → ℕ → List ℕ → Desk → Answer → Desk
table_after lay place tables d (Ok done) = table_due lay place tables d d.pen.due
table_after lay place tables d (Err why) = d

abbrev pub lay_table : Bool → ℕ → List ℕ → Desk → Desk
lay_table lay place tables d = table_after lay place tables d d.pen.answer

-- a record that says nothing
unfoldable pub refuse : ℕ → Desk → Answer → Desk
refuse place d (Ok done) = desk (stop d.pen UnknownWord place) d.moduli d.file
refuse place d (Err why) = d

-- fields that are not set
abbrev pub unset : List ℕ → Bool
unset fields = list_all (λ field. eqb field 0) fields

-- what is said by a first item and the rest
abbrev pub saying : Item → Rest → Option Said
saying first rest = Some (record { first = first; rest = rest })

-- what a record says, as the code has it: its first item, and the rest. The items that a record has alone are those of inputs, free gates and products,
-- and outputs, which name their parties by a byte.
pub data Means (moduli tables : List ℕ) : Option Said → Speech → Type 0 where
  silent : Means moduli tables None nothing
  input : {owner modulus : ℕ} → Means moduli tables (saying (Item.Input owner modulus) Alone) (items (Item.Input owner modulus ∷ []) tables)
  add : {a b : ℕ} → Means moduli tables (saying (Item.Add a b) Alone) (items (Item.Add a b ∷ []) tables)
  scale : {constant a : ℕ} → Means moduli tables (saying (Item.Scale constant a) Alone) (items (Item.Scale constant a ∷ []) tables)
  multiply : {a b : ℕ} → Means moduli tables (saying (Item.Multiply a b) Alone) (items (Item.Multiply a b ∷ []) tables)
  output :
      {named a : ℕ} → named < 256 → Means moduli tables (saying (Item.Output named a) Alone) (items (Item.Output named a ∷ []) tables)
  table :
      {modulus a : ℕ}
      → Means moduli tables (saying (Project modulus a) Table)
      (items (Project modulus a ∷ map Entry (take (get_or moduli a 0) tables)) (drop (get_or moduli a 0) tables))
  choice :
      {bit a b : ℕ} → Means moduli tables (saying (Select bit) (Rest.Branches a b)) (items (Select bit ∷ Item.Branches a b ∷ []) tables)

-- .. and what it does
unfoldable pub rest_on : Bool → List ℕ → ℕ → Rest → Desk → Desk
rest_on lay tables place Alone d = d
rest_on lay tables place Table d = lay_table lay place tables d
rest_on lay tables place (Rest.Branches a b) d = lay_item lay place (Item.Branches a b) d

unfoldable pub spoken_on : Bool → List ℕ → ℕ → Option Said → Desk → Desk
spoken_on lay tables place None d = refuse place d d.pen.answer
spoken_on lay tables place (Some said) d = rest_on lay tables place said.rest (lay_item lay place said.first d)
