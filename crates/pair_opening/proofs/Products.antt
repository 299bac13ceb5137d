-- A product of two halves, which lie one behind the other among the wire's rows.
-- Assumes nothing.
use mathlib.Core.Path.{◌≡◌, sym, ap, ap₂, subst, ◌∙◌}
use mathlib.Core.List.{List}
use Prim.Native.Nat.{ℕ, ◌-◌, ◌+◌, ◌*◌, ◌≤◌}
use native.Mathlib.Nat.{mul-le-mul}
use native.Mathlib.Omega.{arith}
use lib.ListN.{length, get_or}
use Rattle.lists.specs.Blocks.{part}
use Rattle.residue.specs.Vector.{add_v, mul_v, AllBelow}
use Rattle.contribution.proofs.Once.{add_once}
use Rattle.pads.specs.Pad.{Pad}
use Rattle.pair.specs.Key.{external_of}
use Rattle.pair.specs.Half.{open_half}
use Rattle.pair.specs.Gate.{open_product}
use Rattle.pair_checks.specs.declared.half.HalfAt.{HalfAt}
use Rattle.pair_opening.specs.declared.turn.Turn.{Turn}
use Rattle.pair_opening.specs.Ready.{HalfReady, Seated, Lines, KeyReady}
use Rattle.pair_opening.proofs.Bared.{part-below}

pub added_half : (p : ℕ) (out₀ : List ℕ) {half work out : List ℕ} → work ≡ half → out ≡ add_v p out₀ (mul_v p 1 work) → out ≡ add_v p out₀ half
added_half p out₀ {work = work} e f = f ∙ add_once p out₀ work ∙ ap (add_v p out₀) e

-- the half of a component, of a product's p − 1 rows, or of a projection's
abbrev pub half_of : Turn → ℕ → ℕ → HalfAt
half_of turn component q =
    record { k = turn.k; round = turn.round; wire = turn.wire; component = component; under = q; modulus = turn.modulus }

pub half_ready : {turn : Turn} (component : ℕ) {q : ℕ} {key rows : List ℕ} → Seated turn → KeyReady turn q key → Lines turn (q - 1) rows
    → HalfReady (half_of turn component q) key rows
half_ready component s k l =
    record {
      long = s.long;
      short = s.short;
      modulus = s.modulus;
      key_size = k.size;
      external = k.external;
      size = l.size;
      below = l.below;
    }

module _ {turn : Turn} {rows : List ℕ} (s : Seated turn) (lines : Lines turn (2 * (turn.modulus - 1)) rows) where
  abbrev p : ℕ
  p = turn.modulus

  abbrev k : ℕ
  k = turn.k

  pub size_fits : {i : ℕ} → i ≤ 255 → i * k ≤ 32640
  size_fits h = mul-le-mul h s.short

  pub first-inside : {i : ℕ} → i ≡ p - 1 → 0 + i * k ≤ length rows
  first-inside e = rw (e, lines.size) (omega arith)

  pub second-inside : {i : ℕ} → i ≡ p - 1 → i * k + i * k ≤ length rows
  second-inside e = rw (e, lines.size) (omega arith)

  -- one half's rows
  pub half_lines : (at : ℕ) {i : ℕ} {own : List ℕ} → i ≡ p - 1 → own ≡ part rows at (i * k) → length own ≡ i * k → Lines turn (p - 1) own
  half_lines at {i} e f l =
      record { size = l ∙ ap (λ (x : ℕ). x * k) e; below = subst (λ (xs : List ℕ). AllBelow p xs) (sym f) (part-below lines.below at (i * k)) }

-- both halves, and β times a's key
pub product_is : (pad : Pad) (K w p : ℕ) (rows a b : List ℕ) {i : ℕ} {first second out₀ out₁ out : List ℕ}
    → i ≡ p - 1
    → first ≡ part rows 0 (i * K)
    → second ≡ part rows (i * K) (i * K)
    → out₀ ≡ open_half pad K w 0 p p first a
    → out₁ ≡ add_v p out₀ (open_half pad K w 1 p p second b)
    → out ≡ add_v p out₁ (mul_v p (get_or b 0 0) a)
    → out ≡ open_product pad K w p rows a b
unfolding open_product external_of
product_is pad K w p rows a b i f g x y z =
    z
    ∙ ap (λ (xs : List ℕ). add_v p xs (mul_v p (get_or b 0 0) a))
    (y
    ∙ ap₂ (add_v p) (x ∙ ap (λ (xs : List ℕ). open_half pad K w 0 p p xs a) (f ∙ ap (λ (j : ℕ). part rows 0 (j * K)) i))
    (ap (λ (xs : List ℕ). open_half pad K w 1 p p xs b) (g ∙ ap (λ (j : ℕ). part rows (j * K) (j * K)) i)))
