-- What one turn of the pass rests on: that what it reads is there, and that external values are residues of the right modulus. Acceptance, the checks of
-- the call and the order of the wires give all of it.
-- Assumes nothing.
use Rattle.std.specs.Prelude.{List, ℕ, ◌+◌, ◌*◌, ◌≤◌, ◌<◌, length, get_or}
use Rattle.words.specs.declared.gate.Pair.{Pair}
use Rattle.words.specs.declared.gate.Choice.{Choice as Chosen}
use Rattle.counts.specs.declared.recipe.Lookup.{Lookup}
use Rattle.counts.specs.declared.recipe.Recipe.{Recipe}
use Rattle.counts.specs.declared.recipe.Recipe.TheVariants.{Entered, Sum, Multiple, Table, Product, Choice}
use Rattle.session.specs.Sizes.{Sizes}
use Rattle.opening.specs.declared.turn.Turn.{Turn}
use Rattle.opening.specs.Given.{Rows}

-- numbers of a session, and a modulus
pub record Seated (turn : Turn) : Type 0 where
  pub sizes : Sizes turn.n turn.k
  pub party : turn.party < turn.n
  pub modulus : 1 < turn.modulus

-- the wire's zero key and its modulus' offset lie inside the party's contribution
pub record Inside (turn : Turn) (contribution : List ℕ) : Type 0 where
  pub zero : turn.zero + turn.k ≤ length contribution
  pub offset : turn.offset + turn.k ≤ length contribution

-- wire a is opened: its keys stand there, and its external value, below p
pub record Lower (turn : Turn) (p : ℕ) (wkeys wexternals : List ℕ) (a : ℕ) : Type 0 where
  pub keys : a * (turn.n * turn.k) + turn.n * turn.k ≤ length wkeys
  pub held : a < length wexternals
  pub below : get_or wexternals a 0 < p

pub record InputReady (turn : Turn) (externals keys : List ℕ) : Type 0 where
  pub inside : turn.wire * (turn.n * turn.k) + turn.n * turn.k ≤ length keys
  pub held : turn.wire < length externals
  pub below : get_or externals turn.wire 0 < turn.modulus

pub record PairReady (turn : Turn) (wkeys wexternals : List ℕ) (g : Pair) : Type 0 where
  pub a : Lower turn turn.modulus wkeys wexternals g.a
  pub b : Lower turn turn.modulus wkeys wexternals g.b

pub record TableReady (turn : Turn) (contribution rows wkeys wexternals : List ℕ) (g : Lookup) : Type 0 where
  pub own : Inside turn contribution
  pub lines : Rows turn.n turn.k turn.modulus rows turn.over
  pub over : Lower turn turn.over wkeys wexternals g.a

pub record ProductReady (turn : Turn) (contribution rows wkeys wexternals : List ℕ) (g : Pair) : Type 0 where
  pub own : Inside turn contribution
  pub lines : Rows turn.n turn.k turn.modulus rows (2 * turn.modulus)
  pub pair : PairReady turn wkeys wexternals g

pub record ChoiceReady (turn : Turn) (contribution rows wkeys wexternals : List ℕ) (g : Chosen) : Type 0 where
  pub own : Inside turn contribution
  pub lines : Rows turn.n turn.k turn.modulus rows (2 * turn.modulus + 2)
  pub bit : Lower turn 2 wkeys wexternals g.bit
  pub a : Lower turn turn.modulus wkeys wexternals g.a
  pub b : Lower turn turn.modulus wkeys wexternals g.b

-- any wire, by its recipe
abbrev pub Ready : Turn → List ℕ → List ℕ → List ℕ → List ℕ → List ℕ → List ℕ → Recipe → Type 0
Ready turn contribution externals keys rows wkeys wexternals Entered = InputReady turn externals keys
Ready turn contribution externals keys rows wkeys wexternals (Sum g) = PairReady turn wkeys wexternals g
Ready turn contribution externals keys rows wkeys wexternals (Multiple g) = Lower turn turn.modulus wkeys wexternals g.a
Ready turn contribution externals keys rows wkeys wexternals (Table g) = TableReady turn contribution rows wkeys wexternals g
Ready turn contribution externals keys rows wkeys wexternals (Product g) = ProductReady turn contribution rows wkeys wexternals g
Ready turn contribution externals keys rows wkeys wexternals (Choice g) = ChoiceReady turn contribution rows wkeys wexternals g
