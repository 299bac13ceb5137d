-- One turn of the pass: the scheme's `open_from` at what the code has of the wire at hand (its zero key, its modulus' offset, its own rows) and of the wires
-- opened below it. Only inner contracts cite this; that of the call cites the scheme's `opened`.
-- Assumes nothing.
use Rattle.std.specs.Prelude.{◌≡◌, true, List, ℕ, ◌*◌, ◌<◌, ltb, get_or}
use Rattle.lists.specs.Blocks.{part, nth_piece}
use Rattle.search.specs.Search.{multiplier}
use Rattle.words.specs.declared.gate.Choice.{Choice as Chosen}
use Rattle.counts.specs.declared.recipe.Recipe.{Recipe}
use Rattle.counts.specs.declared.recipe.Recipe.TheVariants.{Entered, Sum, Multiple, Table, Product, Choice}
use Rattle.pads.specs.Pad.{shake_pad}
use Rattle.scheme.specs.Opening.{Opened, bared, table_keys, product_keys, choice_keys, differing, searched, open_from, open_input}
use Rattle.opening.specs.declared.turn.Turn.{Turn}

-- what a turn gives: an external value below the modulus exactly if a multiplier fits, and then the wire's keys and that value
pub record Made (turn : Turn) (wire : Opened) (out : List ℕ) (r : ℕ) : Type 0 where
  pub fits : wire.fits ≡ ltb r turn.modulus
  pub keys : r < turn.modulus → out ≡ wire.keys
  pub external : r < turn.modulus → r ≡ wire.external

-- the modulus of the wire that a table is over, 0 where there is no table
abbrev pub over_by : Recipe → (ℕ → ℕ) → ℕ
over_by Entered modulus_of = 0
over_by (Sum g) modulus_of = 0
over_by (Multiple g) modulus_of = 0
over_by (Table g) modulus_of = modulus_of g.a
over_by (Product g) modulus_of = 0
over_by (Choice g) modulus_of = 0

-- a wire whose keys and external value are at hand
abbrev pub held : List ℕ → ℕ → Opened
held keys external = record { keys = keys; external = external; fits = true }

-- a wire below, as the two buffers hold it
unfoldable pub lower : ℕ → List ℕ → List ℕ → ℕ → Opened
lower m wkeys wexternals a = held (nth_piece wkeys m a) (get_or wexternals a 0)

-- the multiplier of the party's own key, the modulus where none fits
unfoldable pub multiplier_at : Turn → List ℕ → List ℕ → ℕ
multiplier_at turn contribution all =
    multiplier turn.modulus (part contribution turn.zero turn.k) (part contribution turn.offset turn.k)
    (nth_piece all turn.k turn.party)

-- row r of the wire's own rows without its pads
abbrev pub bared_at : Turn → List ℕ → ℕ → ℕ → List ℕ → ℕ → List ℕ
bared_at turn rows q component senders r =
    bared (shake_pad turn.round) turn.n turn.k turn.wire turn.modulus rows q component senders r

-- the keys that the wire's own rows give, by the kind of its recipe
abbrev pub table_at : Turn → List ℕ → ℕ → Opened → List ℕ
table_at turn rows q a = table_keys (shake_pad turn.round) turn.n turn.k turn.wire turn.modulus rows q a

abbrev pub product_at : Turn → List ℕ → Opened → Opened → List ℕ
product_at turn rows a b = product_keys (shake_pad turn.round) turn.n turn.k turn.wire turn.modulus rows a b

abbrev pub choice_at : Turn → List ℕ → Opened → Opened → List ℕ
choice_at turn rows bit d = choice_keys (shake_pad turn.round) turn.n turn.k turn.wire turn.modulus rows bit d

-- the wire by its recipe; `given` where it is an input
unfoldable pub open_by : Turn → Opened → List ℕ → List ℕ → List ℕ → List ℕ → Recipe → Opened
open_by turn given contribution rows wkeys wexternals how =
    open_from (shake_pad turn.round) turn.n turn.k turn.wire turn.modulus (λ _. turn.over) (multiplier_at turn contribution) rows given
    (lower (turn.n * turn.k) wkeys wexternals) how

-- .. with what is given on the inputs
unfoldable pub open_at : Turn → List ℕ → List ℕ → List ℕ → List ℕ → List ℕ → List ℕ → Recipe → Opened
open_at turn contribution externals keys rows wkeys wexternals how =
    open_by turn (open_input turn.n turn.k externals keys turn.wire) contribution rows wkeys wexternals how

-- a choice before the first branch is added: h
unfoldable pub held_back : Turn → List ℕ → List ℕ → List ℕ → List ℕ → Chosen → Opened
held_back turn contribution rows wkeys wexternals g =
    searched turn.modulus (multiplier_at turn contribution)
    (choice_at turn rows (lower (turn.n * turn.k) wkeys wexternals g.bit)
    (differing turn.modulus (lower (turn.n * turn.k) wkeys wexternals g.b) (lower (turn.n * turn.k) wkeys wexternals g.a)))
