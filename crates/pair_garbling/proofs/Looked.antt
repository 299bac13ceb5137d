-- What a wire's gate looks up, as the code finds it: lower wires' zero keys, offsets by rank, and what is put in its place.
-- Assumes nothing.
use mathlib.Core.Path.{◌≡◌, sym, ap, subst, ◌∙◌}
use mathlib.Core.List.{List}
use Prim.Native.Nat.{ℕ, ◌+◌, ◌*◌, ◌≤◌}
use lib.ListN.{length, get_or}
use Rattle.lists.specs.Blocks.{part, nth_piece}
use Rattle.words.specs.declared.gate.Projection.{Projection}
use Rattle.pair_garbling.specs.declared.turn.Turn.{Turn}
use Rattle.pair_garbling.specs.Halves.{table_of, key_by, rows_by}
use Rattle.pair_garbling.specs.Source.{Stands, half_in, zero_here, offset_here, table_here, product_key, product_rows}

pub stands_at : {K i a : ℕ} {keys : List ℕ} → Stands K keys a → i ≡ a → i * K + K ≤ length keys
stands_at {K} {i} {a} {keys} s e = subst (λ (j : ℕ). j * K + K ≤ length keys) (sym e) s.inside

pub zero-found : (K : ℕ) (keys : List ℕ) {i a : ℕ} {r : List ℕ} → r ≡ nth_piece keys K i → i ≡ a → r ≡ zero_here K keys a
zero-found K keys t e = t ∙ ap (λ (j : ℕ). nth_piece keys K j) e

pub offset-found : (K : ℕ) (draw ranks : List ℕ) (q : ℕ) {at : ℕ} {r : List ℕ} → r ≡ part draw at K → at ≡ K * get_or ranks q 0 → r ≡ offset_here K draw ranks q
offset-found K draw ranks q t e = t ∙ ap (λ (j : ℕ). part draw j K) e

pub table_looked : (turn : Turn) (file draw ranks keys : List ℕ) (g : Projection) (q : ℕ) {z o v key out : List ℕ}
    → z ≡ zero_here turn.k keys g.a → o ≡ offset_here turn.k draw ranks q → v ≡ offset_here turn.k draw ranks turn.modulus
    → (key ≡ key_by (half_in turn q 0) (table_of (half_in turn q 0) file g.table z o v)) × (out ≡ rows_by (half_in turn q 0) (table_of (half_in turn q 0) file g.table z o v))
    → (key ≡ key_by (half_in turn q 0) (table_here turn file draw ranks keys g q)) × (out ≡ rows_by (half_in turn q 0) (table_here turn file draw ranks keys g q))
table_looked turn file draw ranks keys g q {z} {o} {v} {key} {out} ez eo ev m =
    subst
    (λ (x : List ℕ).
    (key ≡ key_by (half_in turn q 0) (table_of (half_in turn q 0) file g.table (zero_here turn.k keys g.a) (offset_here turn.k draw ranks q) x))
    × (out ≡ rows_by (half_in turn q 0) (table_of (half_in turn q 0) file g.table (zero_here turn.k keys g.a) (offset_here turn.k draw ranks q) x)))
    ev
    (subst
    (λ (x : List ℕ).
    (key ≡ key_by (half_in turn q 0) (table_of (half_in turn q 0) file g.table (zero_here turn.k keys g.a) x v))
    × (out ≡ rows_by (half_in turn q 0) (table_of (half_in turn q 0) file g.table (zero_here turn.k keys g.a) x v)))
    eo
    (subst
    (λ (x : List ℕ).
    (key ≡ key_by (half_in turn q 0) (table_of (half_in turn q 0) file g.table x o v))
    × (out ≡ rows_by (half_in turn q 0) (table_of (half_in turn q 0) file g.table x o v)))
    ez m))

pub product_looked : (turn : Turn) {a a' b b' D D' key out : List ℕ} → a ≡ a' → b ≡ b' → D ≡ D'
    → (key ≡ product_key turn a b D) × (out ≡ product_rows turn a b D) → (key ≡ product_key turn a' b' D') × (out ≡ product_rows turn a' b' D')
product_looked turn {a} {a'} {b} {b'} {D} {D'} {key} {out} ea eb ed m =
    subst (λ (x : List ℕ). (key ≡ product_key turn a' b' x) × (out ≡ product_rows turn a' b' x)) ed
    (subst (λ (x : List ℕ). (key ≡ product_key turn a' x D) × (out ≡ product_rows turn a' x D)) eb
    (subst (λ (x : List ℕ). (key ≡ product_key turn x b D) × (out ≡ product_rows turn x b D)) ea m))
