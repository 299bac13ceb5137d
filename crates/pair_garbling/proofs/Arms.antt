-- What each arm of the match on a gate goes by: where the gate is known, so is what it rests on, and what it makes.
-- Assumes nothing.
use mathlib.Core.Path.{◌≡◌, refl, sym, ap, subst, ◌∙◌}
use mathlib.Core.List.{List, [], ◌∷◌}
use Prim.Native.Nat.{ℕ, ◌+◌, ◌-◌, ◌*◌, ◌≤◌, ◌<◌}
use native.Mathlib.Nat.{zero-mul}
use native.Mathlib.Omega.{arith}
use lib.ListN.{length, get_or, replicate}
use Rattle.lists.specs.Blocks.{part}
use Rattle.residue.specs.Vector.{add_v, mul_v}
use Rattle.words.specs.declared.gate.Gate.{Gate}
use Rattle.words.specs.declared.gate.Gate.TheVariants.{Input, Add, Scale, Multiply, Project, Select}
use Rattle.words.specs.declared.gate.Owned.{Owned}
use Rattle.words.specs.declared.gate.Pair.{Pair}
use Rattle.words.specs.declared.gate.Scaling.{Scaling}
use Rattle.words.specs.declared.gate.Projection.{Projection}
use Rattle.words.specs.declared.gate.Choice.{Choice}
use Rattle.pair.specs.Gate.{zero_by, rows_by}
use Rattle.pair_garbling.specs.declared.turn.Turn.{Turn}
use Rattle.pair_garbling.specs.Halves.{key_by}
use Rattle.pair_garbling.specs.Halves.{rows_by as half_rows_by}
use Rattle.pair_garbling.specs.Source.{Ranged, Stands, Offset, OfPair, OfProduct, OfTable, OfProjection, OfGate, Sourced, half_in, zero_here, offset_here}
use Rattle.pair_garbling.specs.Source.{table_here, product_key, product_rows, key_here, rows_here}

none : (xs : List ℕ) → length xs ≡ 0 → xs ≡ []
none [] e = refl
none (x ∷ xs) e = absurd (omega arith)

module _ {turn : Turn} {file draw ranks moduli keys : List ℕ} {gate : Gate} {rows : List ℕ} (s : Sourced turn file draw ranks moduli keys gate rows) where
  known : {g : Gate} → gate ≡ g → Sourced turn file draw ranks moduli keys g rows
  known h = subst (λ (g : Gate). Sourced turn file draw ranks moduli keys g rows) h s

  inputs : {g : Owned} → OfGate turn file draw ranks moduli keys (Input g) → turn.at + turn.k ≤ length draw
  inputs (OfGate.input o) = o

  adds : {g : Pair} → OfGate turn file draw ranks moduli keys (Add g) → OfPair turn.k keys g
  adds (OfGate.add o) = o

  scales : {g : Scaling} → OfGate turn file draw ranks moduli keys (Scale g) → Stands turn.k keys g.a
  scales (OfGate.scale o) = o

  multiplies : {g : Pair} → OfGate turn file draw ranks moduli keys (Multiply g) → OfProduct turn draw ranks moduli keys g
  multiplies (OfGate.multiply o) = o

  projects : {g : Projection} → OfGate turn file draw ranks moduli keys (Project g) → OfProjection turn file draw ranks moduli keys g
  projects (OfGate.project o) = o

  pub above_0 : 0 < turn.modulus
  above_0 = omega (arith, s.ranged.modulus)

  pub at-input : {g : Owned} → gate ≡ Input g → turn.at + turn.k ≤ length draw
  at-input h = inputs (known h).rests

  pub at-add : {g : Pair} → gate ≡ Add g → OfPair turn.k keys g
  at-add h = adds (known h).rests

  pub at_scale : {g : Scaling} → gate ≡ Scale g → Stands turn.k keys g.a
  at_scale h = scales (known h).rests

  pub at-product : {g : Pair} → gate ≡ Multiply g
      → (Ranged turn × (OfPair turn.k keys g × Offset turn.k draw ranks turn.modulus)) × (length rows ≡ 2 * (turn.modulus - 1) * turn.k)
  at-product h =
      let o = multiplies (known h).rests in
      ((s.ranged, (o.wires, o.offset)), (known h).room)

  pub at-modulus : {g : Projection} {i : ℕ} → gate ≡ Project g → i ≡ g.a → i < length moduli
  at-modulus h f = subst (λ (j : ℕ). j < length moduli) (sym f) (projects (known h).rests).held

  pub at_table : {g : Projection} {i : ℕ} → gate ≡ Project g → i ≡ g.a
      → (Ranged turn × OfTable turn file draw ranks keys g (get_or moduli i 0)) × (length rows ≡ (get_or moduli i 0 - 1) * turn.k)
  at_table {g} {i} h f = (
    (s.ranged, subst (λ (j : ℕ). OfTable turn file draw ranks keys g (get_or moduli j 0)) (sym f) (projects (known h).rests).table),
    (known h).room ∙ ap (λ (j : ℕ). (get_or moduli j 0 - 1) * turn.k) (sym f),
  )

  -- ---- what is made

  abbrev key_of : Gate → List ℕ
  key_of g = key_here turn file draw ranks moduli keys g

  abbrev rows_of : Gate → List ℕ
  rows_of g = rows_here turn file draw ranks moduli keys g

  both : {g : Gate} {key out : List ℕ} → gate ≡ g → key ≡ key_of g → out ≡ rows_of g → (key ≡ key_of gate) × (out ≡ rows_of gate)
  both h k o = (k ∙ ap key_of (sym h), o ∙ ap rows_of (sym h))

  pub input-made : {g : Owned} {key : List ℕ} → gate ≡ Input g → key ≡ part draw turn.at turn.k → (key ≡ key_of gate) × (rows ≡ rows_of gate)
  unfolding zero_by rows_by
  input-made h e = both h e (none rows ((known h).room ∙ zero-mul turn.k))

  pub add-made : {g : Pair} {key : List ℕ} → gate ≡ Add g → key ≡ add_v turn.modulus (zero_here turn.k keys g.a) (zero_here turn.k keys g.b)
      → (key ≡ key_of gate) × (rows ≡ rows_of gate)
  unfolding zero_by rows_by
  add-made h e = both h e (none rows ((known h).room ∙ zero-mul turn.k))

  pub scale_made : {g : Scaling} {key : List ℕ} → gate ≡ Scale g → key ≡ mul_v turn.modulus g.constant (zero_here turn.k keys g.a)
      → (key ≡ key_of gate) × (rows ≡ rows_of gate)
  unfolding zero_by rows_by
  scale_made h e = both h e (none rows ((known h).room ∙ zero-mul turn.k))

  pub select-made : {g : Choice} {key : List ℕ} → gate ≡ Select g → key ≡ replicate turn.k 0 → (key ≡ key_of gate) × (rows ≡ rows_of gate)
  unfolding zero_by rows_by
  select-made h e = both h e (none rows ((known h).room ∙ zero-mul turn.k))

  pub table-made : {g : Projection} {i : ℕ} {key out : List ℕ} → gate ≡ Project g → i ≡ g.a
      → (key ≡ key_by (half_in turn (get_or moduli i 0) 0) (table_here turn file draw ranks keys g (get_or moduli i 0)))
      × (out ≡ half_rows_by (half_in turn (get_or moduli i 0) 0) (table_here turn file draw ranks keys g (get_or moduli i 0)))
      → (key ≡ key_of gate) × (out ≡ rows_of gate)
  unfolding zero_by rows_by
  table-made {g} h f e =
      both h
      (e.0 ∙ ap (λ (j : ℕ). key_by (half_in turn (get_or moduli j 0) 0) (table_here turn file draw ranks keys g (get_or moduli j 0))) f)
      (e.1 ∙ ap (λ (j : ℕ). half_rows_by (half_in turn (get_or moduli j 0) 0) (table_here turn file draw ranks keys g (get_or moduli j 0))) f)

  pub product-made : {g : Pair} {key out : List ℕ} → gate ≡ Multiply g
      → (key ≡ product_key turn (zero_here turn.k keys g.a) (zero_here turn.k keys g.b) (offset_here turn.k draw ranks turn.modulus))
      × (out ≡ product_rows turn (zero_here turn.k keys g.a) (zero_here turn.k keys g.b) (offset_here turn.k draw ranks turn.modulus))
      → (key ≡ key_of gate) × (out ≡ rows_of gate)
  unfolding zero_by rows_by product_key product_rows
  product-made {g} h e =
      let o = multiplies (known h).rests in
      both h (rw (o.a, o.b) e.0) (rw (o.a, o.b) e.1)
