-- What one turn of the pass rests on: that what it reads is there, and that external values are residues of the right modulus. Acceptance, the checks of
-- the call and the order of the wires give all of it.
-- Assumes nothing.
use Rattle.std.specs.Prelude.{◌≡◌, List, ℕ, ◌-◌, ◌+◌, ◌*◌, ◌≤◌, ◌<◌, length}
use Rattle.lists.specs.Blocks.{nth_piece}
use Rattle.residue.specs.Vector.{AllBelow}
use Rattle.words.specs.declared.gate.Owned.{Owned}
use Rattle.words.specs.declared.gate.Pair.{Pair}
use Rattle.words.specs.declared.gate.Scaling.{Scaling}
use Rattle.words.specs.declared.gate.Projection.{Projection}
use Rattle.words.specs.declared.gate.Choice.{Choice}
use Rattle.words.specs.declared.gate.Gate.{Gate}
use Rattle.words.specs.declared.gate.Gate.TheVariants.{Input, Add, Scale, Multiply, Project, Select}
use Rattle.pair.specs.Key.{external_of}
use Rattle.pair_checks.specs.declared.half.HalfAt.{HalfAt}
use Rattle.pair_opening.specs.declared.turn.Turn.{Turn}

-- the row of external value e, of K bytes, stands among a half's rows, unless e is 0
pub record RowHeld (K e : ℕ) (rows : List ℕ) : Type 0 where
  pub inside : 0 < e → (e - 1) * K + K ≤ length rows

-- a half of receiving modulus above 1, with a row for each external value but 0, and a key to open it
pub record HalfReady (at : HalfAt) (key rows : List ℕ) : Type 0 where
  pub long : 1 ≤ at.k
  pub short : at.k ≤ 128
  pub modulus : 1 < at.modulus
  pub key_size : length key ≡ at.k
  pub external : external_of key < at.under
  pub size : length rows ≡ (at.under - 1) * at.k
  pub below : AllBelow at.modulus rows

-- the numbers of a turn
pub record Seated (turn : Turn) : Type 0 where
  pub long : 1 ≤ turn.k
  pub short : turn.k ≤ 128
  pub modulus : 1 < turn.modulus

-- so many rows of the wire's modulus
pub record Lines (turn : Turn) (count : ℕ) (rows : List ℕ) : Type 0 where
  pub size : length rows ≡ count * turn.k
  pub below : AllBelow turn.modulus rows

-- a key of a wire of modulus q
pub record KeyReady (turn : Turn) (q : ℕ) (key : List ℕ) : Type 0 where
  pub size : length key ≡ turn.k
  pub external : external_of key < q

-- the key with number a stands in a buffer
pub record KeyHeld (turn : Turn) (keys : List ℕ) (a : ℕ) : Type 0 where
  pub inside : a * turn.k + turn.k ≤ length keys

-- .. and its external value is below q
pub record KeyOpened (turn : Turn) (q : ℕ) (keys : List ℕ) (a : ℕ) : Type 0 where
  pub held : KeyHeld turn keys a
  pub external : external_of (nth_piece keys turn.k a) < q

pub record PairHeld (turn : Turn) (keys : List ℕ) (g : Pair) : Type 0 where
  pub a : KeyHeld turn keys g.a
  pub b : KeyHeld turn keys g.b

pub record ProductReady (turn : Turn) (rows keys : List ℕ) (g : Pair) : Type 0 where
  pub lines : Lines turn (2 * (turn.modulus - 1)) rows
  pub a : KeyOpened turn turn.modulus keys g.a
  pub b : KeyOpened turn turn.modulus keys g.b

pub record TableReady (turn : Turn) (rows keys : List ℕ) (g : Projection) : Type 0 where
  pub lines : Lines turn (turn.over - 1) rows
  pub a : KeyOpened turn turn.over keys g.a

-- any wire, by its gate: the inputs' keys, the wire's own rows, the keys of the wires
pub data Ready (turn : Turn) (keys rows wkeys : List ℕ) : Gate → Type 0 where
  input : {g : Owned} → KeyHeld turn keys turn.wire → Ready turn keys rows wkeys (Input g)
  add : {g : Pair} → PairHeld turn wkeys g → Ready turn keys rows wkeys (Add g)
  scale : {g : Scaling} → KeyHeld turn wkeys g.a → Ready turn keys rows wkeys (Scale g)
  multiply : {g : Pair} → ProductReady turn rows wkeys g → Ready turn keys rows wkeys (Multiply g)
  project : {g : Projection} → TableReady turn rows wkeys g → Ready turn keys rows wkeys (Project g)
  select : {g : Choice} → Ready turn keys rows wkeys (Select g)
