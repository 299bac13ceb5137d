-- What the rows of one wire are made of, as the code holds it: all contributions, with the place of the wire's record and the places of the offsets in
-- them; the moduli, zero keys and masks of the wires, each looked up by the wire's number. The rows made of it are the scheme's, at this source.
-- Only inner contracts cite this; that of the call cites the scheme's `Rows`.
-- Assumes nothing.
use Rattle.std.specs.Prelude.{◌≡◌, List, ℕ, ◌+◌, ◌*◌, ◌≤◌, ◌<◌, length, get_or, take}
use Rattle.lists.specs.Blocks.{nth_piece}
use Rattle.words.specs.declared.gate.Pair.{Pair}
use Rattle.words.specs.declared.gate.Scaling.{Scaling}
use Rattle.words.specs.declared.gate.Choice.{Choice as Chosen}
use Rattle.circuit.specs.declared.Circuit.{Circuit}
use Rattle.circuit.specs.Held.{wires_in}
use Rattle.counts.specs.declared.recipe.Lookup.{Lookup}
use Rattle.counts.specs.declared.recipe.Recipe.{Recipe}
use Rattle.counts.specs.declared.recipe.Recipe.TheVariants.{Entered, Sum, Multiple, Table, Product, Choice}
use Rattle.counts.specs.Counts.{record_keys_by, rows_by}
use Rattle.counts.specs.Images.{ImagesFit}
use Rattle.session.specs.declared.seats.Session.{Session}
use Rattle.session.specs.Sizes.{Sizes}
use Rattle.pads.specs.Pad.{shake_pad}
use Rattle.scheme.specs.Keyed.{Keyed, less}
use Rattle.scheme.specs.Gate.{Source, rows_from}
use Rattle.scheme.specs.Rows.{garbled_rows}
use Rattle.rows.specs.declared.gates.Made.{Made}
use Rattle.rows.specs.declared.keyed.Keyed.{Keyed as Held}
use Rattle.rows.specs.Made.{keyed_of, table_made, product_made, choice_made}
use Rattle.rows.specs.Made.{Operand as Paired}
use Rattle.zero.specs.Turn.{keys_at, mask_at}
use Rattle.zero.specs.Ready.{drawn_in}
use Rattle.garbling.specs.declared.turn.Turn.{Turn}

abbrev pub made_of : Turn → Made
made_of turn = record { n = turn.n; k = turn.k; round = turn.round; wire = turn.wire; modulus = turn.modulus }

-- ---- what the code looks up

-- the offsets of a modulus
abbrev pub offset_here : Turn → List ℕ → List ℕ → ℕ → List ℕ
offset_here turn contributions ranks q = keys_at turn.n turn.k turn.size contributions (turn.k * get_or ranks q 0)

-- zero keys and mask of a wire
abbrev pub wire_here : Turn → List ℕ → List ℕ → ℕ → Keyed
wire_here turn keys masks a = record { key = nth_piece keys (turn.n * turn.k) a; mask = get_or masks a 0 }

-- pair j of the record
abbrev pub drawn_here : Turn → List ℕ → ℕ → Keyed
drawn_here turn contributions j =
    record {
      key = keys_at turn.n turn.k turn.size contributions (turn.at + turn.k * j);
      mask = mask_at turn.n turn.size contributions turn.modulus (turn.at + turn.k * turn.count + j);
    }

abbrev pub source_here : Turn → List ℕ → List ℕ → List ℕ → List ℕ → List ℕ → Source
source_here turn contributions ranks moduli keys masks =
    record {
      offset = offset_here turn contributions ranks;
      modulus = λ a. get_or moduli a 0;
      wire = wire_here turn keys masks;
      drawn = drawn_here turn contributions;
    }

-- ---- the rows

abbrev pub rows_here : Turn → List ℕ → List ℕ → List ℕ → List ℕ → List ℕ → List ℕ → Recipe → List ℕ
rows_here turn contributions ranks moduli keys masks file how =
    rows_from (shake_pad turn.round) turn.n turn.k turn.wire turn.modulus file (source_here turn contributions ranks moduli keys masks) how

module _ (turn : Turn) (contributions ranks keys masks : List ℕ) where
  abbrev pub table_here : List ℕ → Lookup → ℕ → List ℕ
  table_here file g q =
      table_made (made_of turn) file g.images q (wire_here turn keys masks g.a) (offset_here turn contributions ranks q) (drawn_here turn contributions 0)
      (offset_here turn contributions ranks turn.modulus)

  abbrev pub product_here : Pair → List ℕ
  product_here g =
      product_made (made_of turn) (offset_here turn contributions ranks turn.modulus) (wire_here turn keys masks g.a) (wire_here turn keys masks g.b)
      (drawn_here turn contributions 0) (drawn_here turn contributions 1)

  abbrev pub choice_here : Chosen → List ℕ
  choice_here g =
      choice_made (made_of turn) (offset_here turn contributions ranks turn.modulus) (offset_here turn contributions ranks 2) (wire_here turn keys masks g.bit)
      (less turn.modulus (wire_here turn keys masks g.b) (wire_here turn keys masks g.a))
      (drawn_here turn contributions 0) (drawn_here turn contributions 1) (drawn_here turn contributions 2)

-- the rows of all gates, of a circuit of the code: the scheme's, in the session's round
abbrev pub rows_made : Session → Circuit → List ℕ → List ℕ → List ℕ
rows_made session circuit file contributions =
    garbled_rows (shake_pad session.round) session.n session.k file (wires_in circuit) (drawn_in circuit session.n session.k contributions)

-- ---- how the code hands it on

-- n·K bytes stand at the front of an array of 1,024
pub record Front (turn : Turn) (xs r : List ℕ) : Type 0 where
  pub kept : length r ≡ 1024
  pub front : take (turn.n * turn.k) r ≡ xs

-- a pair stands for keys and mask
pub record HeldOf (turn : Turn) (x : Keyed) (r : Held) : Type 0 where
  pub long : length r.key ≡ 1024
  pub is : keyed_of (turn.n * turn.k) r ≡ x

-- .. and its mask is below p
pub record PairOf (turn : Turn) (p : ℕ) (x : Keyed) (r : Held) : Type 0 where
  pub whole : Paired p r
  pub is : keyed_of (turn.n * turn.k) r ≡ x

-- ---- what looking it up rests on

pub record Gathers (turn : Turn) (contributions : List ℕ) : Type 0 where
  pub sizes : Sizes turn.n turn.k
  pub all : length contributions ≡ turn.n * turn.size

-- the offsets of modulus q are there
pub record Offsets (turn : Turn) (ranks : List ℕ) (q : ℕ) : Type 0 where
  pub held : q < length ranks
  pub fits : turn.k * get_or ranks q 0 + turn.k ≤ turn.size

-- zero keys and mask of wire a are there
pub record Operand (turn : Turn) (keys masks : List ℕ) (a : ℕ) : Type 0 where
  pub key : a * (turn.n * turn.k) + turn.n * turn.k ≤ length keys
  pub held : a < length masks

-- .. and the mask is below p
pub record Reduced (turn : Turn) (keys masks : List ℕ) (p a : ℕ) : Type 0 where
  pub there : Operand turn keys masks a
  pub below : get_or masks a 0 < p

-- the record is there
pub record Own (turn : Turn) (contributions : List ℕ) : Type 0 where
  pub gathers : Gathers turn contributions
  pub modulus : 1 < turn.modulus
  pub few : turn.count ≤ 3
  pub fits : turn.at + (turn.k + 1) * turn.count ≤ turn.size

-- a record of m pairs, and the offsets of the wire's modulus
pub record Drawn (turn : Turn) (m : ℕ) (contributions ranks : List ℕ) : Type 0 where
  pub own : Own turn contributions
  pub count : turn.count ≡ m
  pub offsets : Offsets turn ranks turn.modulus

-- a table over a wire of modulus q
pub record OverTable (turn : Turn) (ranks keys masks file : List ℕ) (g : Lookup) (q : ℕ) : Type 0 where
  pub modulus : 1 < q
  pub operand : Reduced turn keys masks q g.a
  pub offsets : Offsets turn ranks q
  pub images : ImagesFit file g.images q turn.modulus

pub record OfPair (turn : Turn) (keys masks : List ℕ) (g : Pair) : Type 0 where
  pub a : Reduced turn keys masks turn.modulus g.a
  pub b : Reduced turn keys masks turn.modulus g.b

pub record OfChoice (turn : Turn) (ranks keys masks : List ℕ) (g : Chosen) : Type 0 where
  pub bit : Reduced turn keys masks 2 g.bit
  pub pair : Offsets turn ranks 2
  pub a : Reduced turn keys masks turn.modulus g.a
  pub b : Reduced turn keys masks turn.modulus g.b

pub record Listed (turn : Turn) (ranks moduli keys masks file : List ℕ) (g : Lookup) : Type 0 where
  pub held : g.a < length moduli
  pub over : OverTable turn ranks keys masks file g (get_or moduli g.a 0)

-- what a wire's operands are, by its recipe
pub data OfRecipe (turn : Turn) (ranks moduli keys masks file : List ℕ) : Recipe → Type 0 where
  entered : OfRecipe turn ranks moduli keys masks file Entered
  sum : {g : Pair} → OfRecipe turn ranks moduli keys masks file (Sum g)
  multiple : {g : Scaling} → OfRecipe turn ranks moduli keys masks file (Multiple g)
  table : {g : Lookup} → Listed turn ranks moduli keys masks file g → OfRecipe turn ranks moduli keys masks file (Table g)
  product : {g : Pair} → OfPair turn keys masks g → OfRecipe turn ranks moduli keys masks file (Product g)
  choice : {g : Chosen} → OfChoice turn ranks keys masks g → OfRecipe turn ranks moduli keys masks file (Choice g)

-- all that a wire's rows rest on, with room for them
pub record Sourced (turn : Turn) (contributions ranks moduli keys masks file : List ℕ) (how : Recipe) (out : List ℕ) : Type 0 where
  pub drawn : Drawn turn (record_keys_by how) contributions ranks
  pub operands : OfRecipe turn ranks moduli keys masks file how
  pub room : length out ≡ rows_by how (λ a. get_or moduli a 0) turn.modulus * (turn.n * turn.k)
