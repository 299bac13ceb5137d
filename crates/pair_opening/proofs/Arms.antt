-- What each arm of the match on a gate goes by, and what it gives.
-- Assumes nothing.
use mathlib.Core.Path.{◌≡◌, sym, ap, ap₂, subst, ◌∙◌}
use mathlib.Core.List.{List}
use Prim.Native.Nat.{ℕ, ◌+◌, ◌*◌, ◌≤◌, ◌<◌}
use lib.ListN.{length, replicate}
use Rattle.lists.specs.Blocks.{nth_piece}
use Rattle.residue.specs.Vector.{add_v, mul_v, key_v}
use Rattle.words.specs.declared.gate.Owned.{Owned}
use Rattle.words.specs.declared.gate.Pair.{Pair}
use Rattle.words.specs.declared.gate.Scaling.{Scaling}
use Rattle.words.specs.declared.gate.Projection.{Projection}
use Rattle.words.specs.declared.gate.Choice.{Choice}
use Rattle.words.specs.declared.gate.Gate.{Gate}
use Rattle.words.specs.declared.gate.Gate.TheVariants.{Input, Add, Scale, Multiply, Project, Select}
use Rattle.pair.specs.Key.{external_of}
use Rattle.pair.specs.Gate.{open_product, open_by}
use Rattle.contribution.proofs.Once.{key_once}
use Rattle.pair_opening.specs.declared.turn.Turn.{Turn}
use Rattle.pair_opening.specs.Ready.{KeyHeld, KeyOpened, KeyReady, PairHeld, ProductReady, TableReady, Ready}
use Rattle.pair_opening.specs.Step.{key_in, table_at, product_at, open_at}

-- ---- a key cut out of a buffer

pub key-inside : {turn : Turn} {keys : List ℕ} {a i : ℕ} → KeyHeld turn keys a → i ≡ a → i * turn.k + turn.k ≤ length keys
key-inside h e = rw e h.inside

pub key-at : (turn : Turn) (keys : List ℕ) {a i : ℕ} {key : List ℕ} → i ≡ a → key ≡ nth_piece keys turn.k i → key ≡ key_in turn keys a
key-at turn keys e f = f ∙ ap (nth_piece keys turn.k) e

pub key-ready : {turn : Turn} {q : ℕ} {keys : List ℕ} {a i : ℕ} {key : List ℕ} → KeyOpened turn q keys a → i ≡ a → key ≡ nth_piece keys turn.k i
    → length key ≡ turn.k → KeyReady turn q key
key-ready {turn} {q} {keys} o e f l =
    record { size = l; external = subst (λ (xs : List ℕ). external_of xs < q) (sym (key-at turn keys e f)) o.external }

-- ---- wires that need no rows

pub sum_is : (p : ℕ) {a b a' b' out : List ℕ} → a ≡ a' → b ≡ b' → out ≡ key_v p a 1 b → out ≡ add_v p a' b'
sum_is p {a} {b} e f o = o ∙ key_once p a b ∙ ap₂ (add_v p) e f

-- ---- wires that are opened from rows

pub product_of : (turn : Turn) (rows : List ℕ) {a b a' b' out : List ℕ} → a ≡ a' → b ≡ b' → out ≡ product_at turn rows a b → out ≡ product_at turn rows a' b'
product_of turn rows e f o = o ∙ ap₂ (product_at turn rows) e f

pub table_of : (turn : Turn) (rows : List ℕ) {a a' out : List ℕ} → a ≡ a' → out ≡ table_at turn rows a → out ≡ table_at turn rows a'
table_of turn rows e o = o ∙ ap (table_at turn rows) e

-- ---- where the gate is known, so is what its kind rests on

module _ {turn : Turn} {keys rows wkeys : List ℕ} where
  input_ready : {g : Owned} → Ready turn keys rows wkeys (Input g) → KeyHeld turn keys turn.wire
  input_ready (Ready.input r) = r

  add_ready : {g : Pair} → Ready turn keys rows wkeys (Add g) → PairHeld turn wkeys g
  add_ready (Ready.add r) = r

  scale_ready : {g : Scaling} → Ready turn keys rows wkeys (Scale g) → KeyHeld turn wkeys g.a
  scale_ready (Ready.scale r) = r

  multiply_ready : {g : Pair} → Ready turn keys rows wkeys (Multiply g) → ProductReady turn rows wkeys g
  multiply_ready (Ready.multiply r) = r

  project_ready : {g : Projection} → Ready turn keys rows wkeys (Project g) → TableReady turn rows wkeys g
  project_ready (Ready.project r) = r

  known : {gate gate' : Gate} → gate ≡ gate' → Ready turn keys rows wkeys gate → Ready turn keys rows wkeys gate'
  known e r = subst (λ (g : Gate). Ready turn keys rows wkeys g) e r

  pub at-input : {gate : Gate} {g : Owned} → gate ≡ Input g → Ready turn keys rows wkeys gate → KeyHeld turn keys turn.wire
  at-input e r = input_ready (known e r)

  pub at-add : {gate : Gate} {g : Pair} → gate ≡ Add g → Ready turn keys rows wkeys gate → PairHeld turn wkeys g
  at-add e r = add_ready (known e r)

  pub at_scale : {gate : Gate} {g : Scaling} → gate ≡ Scale g → Ready turn keys rows wkeys gate → KeyHeld turn wkeys g.a
  at_scale e r = scale_ready (known e r)

  pub at_multiply : {gate : Gate} {g : Pair} → gate ≡ Multiply g → Ready turn keys rows wkeys gate → ProductReady turn rows wkeys g
  at_multiply e r = multiply_ready (known e r)

  pub at_project : {gate : Gate} {g : Projection} → gate ≡ Project g → Ready turn keys rows wkeys gate → TableReady turn rows wkeys g
  at_project e r = project_ready (known e r)

-- .. and what is opened

module _ (turn : Turn) (keys rows wkeys : List ℕ) where
  abbrev made : Gate → List ℕ
  made = open_at turn keys rows wkeys

  module _ {gate : Gate} {out : List ℕ} where
    pub opens-input : {g : Owned} → gate ≡ Input g → out ≡ nth_piece keys turn.k turn.wire → out ≡ made gate
    unfolding open_at open_by
    opens-input e h = h ∙ sym (ap made e)

    pub opens-add : {g : Pair} → gate ≡ Add g → out ≡ add_v turn.modulus (key_in turn wkeys g.a) (key_in turn wkeys g.b) → out ≡ made gate
    unfolding open_at open_by
    opens-add e h = h ∙ sym (ap made e)

    pub opens_scale : {g : Scaling} → gate ≡ Scale g → out ≡ mul_v turn.modulus g.constant (key_in turn wkeys g.a) → out ≡ made gate
    unfolding open_at open_by
    opens_scale e h = h ∙ sym (ap made e)

    pub opens_multiply : {g : Pair} → gate ≡ Multiply g → out ≡ product_at turn rows (key_in turn wkeys g.a) (key_in turn wkeys g.b) → out ≡ made gate
    unfolding open_at open_by open_product
    opens_multiply e h = h ∙ sym (ap made e)

    pub opens_project : {g : Projection} → gate ≡ Project g → out ≡ table_at turn rows (key_in turn wkeys g.a) → out ≡ made gate
    unfolding open_at open_by
    opens_project e h = h ∙ sym (ap made e)

    pub opens-select : {g : Choice} {long : ℕ} → gate ≡ Select g → long ≡ turn.k → out ≡ replicate long 0 → out ≡ made gate
    unfolding open_at open_by
    opens-select e l h = h ∙ ap (λ (n : ℕ). replicate n 0) l ∙ sym (ap made e)

-- ---- the modulus of the wire that a projection is of
