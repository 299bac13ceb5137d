-- Document 01, "The gates" and "Opening": what party s opens, wire after wire: all parties' keys and the external value. First one gate, from its own rows
-- and from the wires that it uses, as the code cites it too; then the wires of a circuit.
-- Assumes nothing.
use Rattle.std.specs.Prelude.{Bool, true, false, List, [], map, ℕ, zero, suc, ◌+◌, ◌*◌, ltb, length, get_or}
use Rattle.lists.specs.Blocks.{sum_to, blocks, part, nth_piece}
use Rattle.lists.specs.Grown.{grown}
use Rattle.residue.specs.Residue.{add, sub, mul}
use Rattle.residue.specs.Vector.{add_v, sub_v, mul_v}
use Rattle.words.specs.declared.gate.Wire.{Wire}
use Rattle.circuit.specs.Wires.{wire_at, modulus_at}
use Rattle.counts.specs.declared.recipe.Recipe.{Recipe}
use Rattle.counts.specs.declared.recipe.Recipe.TheVariants.{Entered, Sum, Multiple, Table, Product, Choice}
use Rattle.counts.specs.Recipe.{recipe}
use Rattle.counts.specs.Counts.{rows_of}
use Rattle.scheme.specs.Draw.{Draw}
use Rattle.pads.specs.Pad.{Pad, pad_row, placed}
use Rattle.search.specs.Search.{multiplier}

-- a wire that is opened: all parties' keys, the external value, and whether a multiplier fits; true where none is searched
pub record Opened : Type 0 where
  pub keys : List ℕ
  pub external : ℕ
  pub fits : Bool

-- what a look-up past the opened wires gives: nothing is said of it
abbrev pub nothing : Opened
nothing = record { keys = []; external = 0; fits = false }

-- ---- one gate

-- "Add and scale act alike on keys, masks and external values": a sum, a difference and a multiple of opened wires of modulus p
abbrev pub summed : ℕ → Opened → Opened → Opened
summed p a b = record { keys = add_v p a.keys b.keys; external = add p a.external b.external; fits = true }

abbrev pub differing : ℕ → Opened → Opened → Opened
differing p a b = record { keys = sub_v p a.keys b.keys; external = sub p a.external b.external; fits = true }

abbrev pub multiplied : ℕ → ℕ → Opened → Opened
multiplied p c a = record { keys = mul_v p c a.keys; external = mul p c a.external; fits = true }

-- the chooser's row, opened under the bit's key: where the bit's external value is 1 the opener adds d's key
unfoldable pub chosen : ℕ → ℕ → List ℕ → List ℕ → List ℕ
chosen zero p part d = part
chosen (suc bit) p part d = add_v p part d

-- "only the corrector named by the bit's external value is opened": its row for α. The correctors' rows stand behind the chooser's two, p of
-- corrector 0, then p of corrector 1
unfoldable pub corrector : ℕ → ℕ → ℕ → ℕ
corrector p zero α = 2 + α
corrector p (suc bit) α = 2 + p + α

-- the gate of wire w, of modulus p, from its own rows, each of n entries of length K
module _ (pad : Pad) (n K w p : ℕ) (rows : List ℕ) where
  -- row r without the pads of the senders' keys, of modulus q, that it is opened under
  unfoldable pub bared : ℕ → ℕ → List ℕ → ℕ → List ℕ
  bared q component senders r = sub_v p (nth_piece rows (n * K) r) (pad_row pad K p (placed q w component) senders n)

  -- project: the row of a's external value, under a's keys of modulus q
  unfoldable pub table_keys : ℕ → Opened → List ℕ
  table_keys q a = bared q 0 a.keys a.external

  -- multiply: component 0 under a's keys; component 1, whose rows stand behind the p of component 0, under b's keys, to which the opener
  -- adds β times a's key; the sum
  unfoldable pub product_keys : Opened → Opened → List ℕ
  product_keys a b =
      add_v p (add_v p (bared p 0 a.keys a.external) (bared p 1 b.keys (p + b.external))) (mul_v p b.external a.keys)

  -- select: the chooser under the bit's keys and the named corrector under those of d = b − a give h
  unfoldable pub choice_keys : Opened → Opened → List ℕ
  choice_keys bit d =
      add_v p (chosen bit.external p (bared 2 0 bit.keys bit.external) d.keys)
      (bared p (1 + bit.external) d.keys (corrector p bit.external d.external))

-- a wire of modulus p whose external value is searched for; `found` is the search
unfoldable pub searched : ℕ → (List ℕ → ℕ) → List ℕ → Opened
searched p found all = record { keys = all; external = found all; fits = ltb (found all) p }

-- select: h + a
unfoldable pub added : ℕ → Opened → Opened → Opened
added p h a = record { keys = add_v p h.keys a.keys; external = add p h.external a.external; fits = h.fits }

-- wire w, of modulus p, by its recipe: the moduli of lower wires, the search, the wire's own rows, what is given where it is an input, and the wires opened
-- below
module _ (pad : Pad) (n K w p : ℕ) (modulus_of : ℕ → ℕ) (found : List ℕ → ℕ) (rows : List ℕ) (given : Opened) (look : ℕ → Opened) where
  unfoldable pub open_from : Recipe → Opened
  open_from Entered = given
  open_from (Sum g) = summed p (look g.a) (look g.b)
  open_from (Multiple g) = multiplied p g.constant (look g.a)
  open_from (Table g) = searched p found (table_keys pad n K w p rows (modulus_of g.a) (look g.a))
  open_from (Product g) = searched p found (product_keys pad n K w p rows (look g.a) (look g.b))
  open_from (Choice g) =
      added p (searched p found (choice_keys pad n K w p rows (look g.bit) (differing p (look g.b) (look g.a)))) (look g.a)

-- ---- the wires of a circuit

-- the first row of wire w
unfoldable pub row_at : List Wire → ℕ → ℕ
row_at wires w = sum_to w (rows_of wires)

-- the rows of wire w among all rows
unfoldable pub own_rows : ℕ → ℕ → List Wire → List ℕ → ℕ → List ℕ
own_rows n K wires rows w = part rows (row_at wires w * (n * K)) (rows_of wires w * (n * K))

-- an input's keys and external value are given: wire w's, of n parties' keys of length K, input after input
unfoldable pub open_input : ℕ → ℕ → List ℕ → List ℕ → ℕ → Opened
open_input n K inputs keys w = record { keys = nth_piece keys (n * K) w; external = get_or inputs w 0; fits = true }

-- the multiplier α with s's own key = k + α·D, from what s itself drew; s's own key is its part of all parties' keys
unfoldable pub multiplier_of : ℕ → ℕ → List Wire → Draw → ℕ → List ℕ → ℕ
multiplier_of K s wires own w all =
    multiplier (modulus_at wires w) (own.key w 0) (own.offset (modulus_at wires w)) (nth_piece all K s)

-- n parties, key length K, party s, what s itself drew, the external values of the inputs, all input keys (input, then party), and rows
module _ (pad : Pad) (n K s : ℕ) (wires : List Wire) (own : Draw) (inputs keys rows : List ℕ) where
  -- wire w, from the wires opened below it
  unfoldable pub open_wire : ℕ → (ℕ → Opened) → Opened
  open_wire w look =
      open_from pad n K w (modulus_at wires w) (modulus_at wires) (multiplier_of K s wires own w) (own_rows n K wires rows w)
      (open_input n K inputs keys w) look (recipe (wire_at wires w))

  -- the first wires, so many; and all
  unfoldable pub opened_to : ℕ → List Opened
  opened_to = grown (λ w below. open_wire w (λ a. get_or below a nothing))

  unfoldable pub opened : List Opened
  opened = opened_to (length wires)

  -- what is written: n·K key bytes and one external byte per wire
  unfoldable pub wire_keys : List ℕ
  wire_keys = blocks (length wires) (λ w. (get_or opened w nothing).keys)

  unfoldable pub wire_externals : List ℕ
  wire_externals = map (λ wire. wire.external) opened
