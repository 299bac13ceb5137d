-- One turn of the pass, as the code holds what a wire is made of: the draw with the places of the offsets in it, and the moduli and zero keys of the wires, each
-- looked up by the wire's number. What a gate makes of it is `pair`'s, at these look-ups. Only inner contracts cite this.
-- Assumes nothing.
use Rattle.std.specs.Prelude.{◌≡◌, List, ◌++◌, ℕ, ◌+◌, ◌*◌, ◌≤◌, ◌<◌, length, get_or}
use Rattle.lists.specs.Blocks.{part, nth_piece, written}
use Rattle.residue.specs.Vector.{add_v}
use Rattle.words.specs.declared.gate.Gate.{Gate}
use Rattle.words.specs.declared.gate.Gate.TheVariants.{Input, Add, Scale, Multiply, Project, Select}
use Rattle.words.specs.declared.gate.Owned.{Owned}
use Rattle.words.specs.declared.gate.Pair.{Pair}
use Rattle.words.specs.declared.gate.Scaling.{Scaling}
use Rattle.words.specs.declared.gate.Projection.{Projection}
use Rattle.words.specs.declared.gate.Choice.{Choice}
use Rattle.counts.specs.declared.recipe.Images.TheVariants.{File}
use Rattle.counts.specs.Images.{ImagesFit}
use Rattle.pads.specs.Pad.{shake_pad}
use Rattle.pair.specs.Key.{external_of}
use Rattle.pair.specs.Half.{Half}
use Rattle.pair.specs.Gate.{zero_by, rows_by}
use Rattle.pair.specs.Count.{pair_rows_by}
use Rattle.pair_checks.specs.declared.half.HalfAt.{HalfAt}
use Rattle.pair_garbling.specs.declared.turn.Turn.{Turn}
use Rattle.pair_garbling.specs.Halves.{table_of, first_of, second_of, key_by}
use Rattle.pair_garbling.specs.Halves.{rows_by as half_rows_by}

-- ---- what the code looks up

-- the offset of a modulus, and the zero key of a wire
abbrev pub offset_here : ℕ → List ℕ → List ℕ → ℕ → List ℕ
offset_here K draw ranks q = part draw (K * get_or ranks q 0) K

abbrev pub zero_here : ℕ → List ℕ → ℕ → List ℕ
zero_here K keys a = nth_piece keys K a

-- a half of the gate that makes the wire at hand, under keys of modulus q
abbrev pub half_in : Turn → ℕ → ℕ → HalfAt
half_in turn q component =
    record { k = turn.k; round = turn.round; wire = turn.wire; component = component; under = q; modulus = turn.modulus }

-- ---- what a gate makes

abbrev pub key_here : Turn → List ℕ → List ℕ → List ℕ → List ℕ → List ℕ → Gate → List ℕ
key_here turn file draw ranks moduli keys gate =
    zero_by file (λ a. get_or moduli a 0) (offset_here turn.k draw ranks) (zero_here turn.k keys) (shake_pad turn.round) turn.k turn.wire turn.modulus
    (part draw turn.at turn.k) gate

abbrev pub rows_here : Turn → List ℕ → List ℕ → List ℕ → List ℕ → List ℕ → Gate → List ℕ
rows_here turn file draw ranks moduli keys gate =
    rows_by file (λ a. get_or moduli a 0) (offset_here turn.k draw ranks) (zero_here turn.k keys) (shake_pad turn.round) turn.k turn.wire turn.modulus gate

-- a product, of the zero keys of its wires and their offset
unfoldable pub product_key : Turn → List ℕ → List ℕ → List ℕ → List ℕ
product_key turn a b offset =
    add_v turn.modulus (key_by (half_in turn turn.modulus 0) (first_of (half_in turn turn.modulus 0) (external_of b) a offset offset))
    (key_by (half_in turn turn.modulus 1) (second_of (half_in turn turn.modulus 1) b offset a))

unfoldable pub product_rows : Turn → List ℕ → List ℕ → List ℕ → List ℕ
product_rows turn a b offset =
    half_rows_by (half_in turn turn.modulus 0) (first_of (half_in turn turn.modulus 0) (external_of b) a offset offset)
    ++ half_rows_by (half_in turn turn.modulus 1) (second_of (half_in turn turn.modulus 1) b offset a)

-- a projection's half, under keys of modulus q
abbrev pub table_here : Turn → List ℕ → List ℕ → List ℕ → List ℕ → Projection → ℕ → Half
table_here turn file draw ranks keys g q =
    table_of (half_in turn q 0) file g.table (zero_here turn.k keys g.a) (offset_here turn.k draw ranks q) (offset_here turn.k draw ranks turn.modulus)

-- ---- what it rests on

-- key length in range, and a modulus above 1
pub record Ranged (turn : Turn) : Type 0 where
  pub long : 1 ≤ turn.k
  pub short : turn.k ≤ 128
  pub modulus : 1 < turn.modulus

-- three vectors of K bytes each
pub record Three (K : ℕ) (a b D : List ℕ) : Type 0 where
  pub first : length a ≡ K
  pub second : length b ≡ K
  pub offset : length D ≡ K

-- wire a has its K bytes
pub record Stands (K : ℕ) (keys : List ℕ) (a : ℕ) : Type 0 where
  pub inside : a * K + K ≤ length keys

-- the offset of modulus q is there
pub record Offset (K : ℕ) (draw ranks : List ℕ) (q : ℕ) : Type 0 where
  pub held : q < length ranks
  pub fits : K * get_or ranks q 0 + K ≤ length draw

pub record OfPair (K : ℕ) (keys : List ℕ) (g : Pair) : Type 0 where
  pub a : Stands K keys g.a
  pub b : Stands K keys g.b

-- a product: of two wires of its own modulus
pub record OfProduct (turn : Turn) (draw ranks moduli keys : List ℕ) (g : Pair) : Type 0 where
  pub wires : OfPair turn.k keys g
  pub a : get_or moduli g.a 0 ≡ turn.modulus
  pub b : get_or moduli g.b 0 ≡ turn.modulus
  pub offset : Offset turn.k draw ranks turn.modulus

-- a projection of a wire of modulus q
pub record OfTable (turn : Turn) (file draw ranks keys : List ℕ) (g : Projection) (q : ℕ) : Type 0 where
  pub under : 1 < q
  pub wire : Stands turn.k keys g.a
  pub offset : Offset turn.k draw ranks q
  pub given : Offset turn.k draw ranks turn.modulus
  pub images : ImagesFit file (File g.table) q turn.modulus

pub record OfProjection (turn : Turn) (file draw ranks moduli keys : List ℕ) (g : Projection) : Type 0 where
  pub held : g.a < length moduli
  pub table : OfTable turn file draw ranks keys g (get_or moduli g.a 0)

-- by the kind of gate
pub data OfGate (turn : Turn) (file draw ranks moduli keys : List ℕ) : Gate → Type 0 where
  input : {g : Owned} → turn.at + turn.k ≤ length draw → OfGate turn file draw ranks moduli keys (Input g)
  add : {g : Pair} → OfPair turn.k keys g → OfGate turn file draw ranks moduli keys (Add g)
  scale : {g : Scaling} → Stands turn.k keys g.a → OfGate turn file draw ranks moduli keys (Scale g)
  multiply : {g : Pair} → OfProduct turn draw ranks moduli keys g → OfGate turn file draw ranks moduli keys (Multiply g)
  project : {g : Projection} → OfProjection turn file draw ranks moduli keys g → OfGate turn file draw ranks moduli keys (Project g)
  select : {g : Choice} → OfGate turn file draw ranks moduli keys (Select g)

-- all that a turn rests on, with room for its rows
pub record Sourced (turn : Turn) (file draw ranks moduli keys : List ℕ) (gate : Gate) (rows : List ℕ) : Type 0 where
  pub ranged : Ranged turn
  pub rests : OfGate turn file draw ranks moduli keys gate
  pub room : length rows ≡ pair_rows_by gate (λ a. get_or moduli a 0) turn.modulus * turn.k

-- K bytes were written at a place
pub record Put (K place : ℕ) (key keys keys' : List ℕ) : Type 0 where
  pub long : length key ≡ K
  pub eq : keys' ≡ written keys place key
