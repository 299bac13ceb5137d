-- Laws of a contribution's size and of the places of moduli, as the code computes them.
-- Assumes nothing.
use mathlib.Core.Path.{◌≡◌, refl, sym, ap, ap₂, ◌∙◌}
use mathlib.Core.Bool.{Bool, true, false}
use mathlib.Core.List.{List}
use Prim.Native.Nat.{ℕ, ◌+◌, ◌*◌, ◌≤◌, ◌<◌}
use native.Mathlib.Nat.{le_trans, mul-le-mul_left, mul-le-mul_right, mul-one}
use native.Mathlib.Omega.{arith}
use lib.ListN.{length, get_or, take, drop, set, replicate, length-replicate, get_or-append}
use lib.Seq.{get_or-take, length-take-le}
use Rattle.lists.specs.Blocks.{tab, blocks, sum_to}
use Rattle.lists.proofs.Sums.{sum_to-next, sum_to_le, sum_to_ext, sum_to_const}
use Rattle.lists.proofs.Blocks.{length-tab, get_or-tab, take-tab, tab_ext}
use Rattle.lists.proofs.Filled.{Filled, filled_step, filled_whole}
use Rattle.words.specs.declared.gate.Wire.{Wire}
use Rattle.counts.specs.Counts.{Counts, mark, record_keys_in}
use Rattle.counts.specs.Moduli.{moduli_used}
use Rattle.session.specs.Sizes.{Sizes}
use Rattle.scheme.specs.Contribution.{contribution_size}

-- ---- products that are bounded

pub times-most : (a b m n : ℕ) → a ≤ m → b ≤ n → a * b ≤ m * n
times-most a b m n h k = le_trans (mul-le-mul_right b h) (mul-le-mul_left m k)

-- the keys of all parties on one wire, and the room for them
pub vector-fits : {n K : ℕ} → Sizes n K → n * K ≤ 1024
vector-fits {n} {K} s = times-most n K 8 128 s.parties s.short

pub scratch_cut : (room : List ℕ) {n K : ℕ} → Sizes n K → length room ≡ 1024 → length (take (n * K) room) ≡ n * K
scratch_cut room {n} {K} s e = length-take-le (n * K) room (omega (arith, vector-fits s))

-- ---- the size

module _ (K : ℕ) (wires : List Wire) {m r : ℕ} (h : K ≤ 128) (a : Counts 256 (moduli_used wires) m) (b : Counts 3072 (record_keys_in wires) r) where
  pub size_counts : Counts 429056 (contribution_size K wires) (K * m + (K + 1) * r)
  unfolding contribution_size
  size_counts = record {
    is = ap₂ (λ (x y : ℕ). K * x + (K + 1) * y) a.is b.is;
    most = omega (arith, times-most K m 128 256 h a.most, times-most (K + 1) r 129 3072 (omega arith) b.most);
  }

-- ---- places of moduli

mark_le : (b : Bool) → mark b ≤ 1
mark_le true = omega arith
mark_le false = omega arith

-- no more marks are below p than numbers are
counted_le : (test : ℕ → Bool) (p : ℕ) → sum_to p (λ q. mark (test q)) ≤ p
counted_le test p =
    omega (arith, sum_to_le p (λ q. mark (test q)) (λ _. 1) (λ q _. mark_le (test q)), sum_to_const p 1, mul-one p)

-- an element that is filled is the target's
filled_read : {out₀ : List ℕ} {i n : ℕ} {target out : List ℕ} → Filled out₀ i n target out → (j : ℕ) → j < i → get_or out j 0 ≡ get_or target j 0
filled_read {out₀} {i} {n} {target} {out} r j h =
    ap (λ (l : List ℕ). get_or l j 0) r.eq
    ∙ get_or-append (take i target) (drop i out₀) 0 j (omega (arith, length-take-le i target (omega arith)))
    ∙ get_or-take i target j 0 h

-- how many marks stand before each place
abbrev pub ranked : List ℕ → List ℕ
ranked marks = tab 256 (λ p. sum_to p (λ q. get_or marks q 0))

-- the loop that counts them
module _ (test : ℕ → Bool) {marks : List ℕ} (e : marks ≡ tab 256 (λ p. mark (test p))) where
  counted : (p : ℕ) → p ≤ 256 → sum_to p (λ q. get_or marks q 0) ≡ sum_to p (λ q. mark (test q))
  counted p h =
      sum_to_ext p (λ q. get_or marks q 0) (λ q. mark (test q))
      (λ q l. ap (λ (xs : List ℕ). get_or xs q 0) e ∙ get_or-tab 256 (λ q. mark (test q)) q 0 (omega arith))

  pub ranks_start : {out₀ : List ℕ} → out₀ ≡ replicate 256 0 → Filled out₀ 1 256 (ranked marks) out₀
  unfolding sum_to blocks
  ranks_start {out₀} k = record {
    turns = omega arith;
    long = length-tab 256 (λ p. sum_to p (λ q. get_or marks q 0));
    room = omega (arith, ap length k ∙ length-replicate {A = ℕ} 256 0);
    kept = refl;
    eq = k ∙ rw (take-tab 256 (λ p. sum_to p (λ q. get_or marks q 0)) 1 (omega arith), k) refl;
  }

  module _ {out₀ out : List ℕ} {p : ℕ} (r : Filled out₀ (p + 1) 256 (ranked marks) out) where
    ranked_here : p < 255 → get_or out p 0 + get_or marks p 0 ≡ sum_to (p + 1) (λ q. get_or marks q 0)
    ranked_here h =
        ap (λ (x : ℕ). x + get_or marks p 0)
        (filled_read r p (omega arith) ∙ get_or-tab 256 (λ p. sum_to p (λ q. get_or marks q 0)) p 0 (omega arith))
        ∙ sym (sum_to-next p (λ q. get_or marks q 0))

    pub ranks_fit : p < 255 → get_or out p 0 + get_or marks p 0 ≤ 255
    ranks_fit h = omega (arith, ranked_here h, counted (p + 1) (omega arith), counted_le test (p + 1))

    pub ranks_step : p < 255 → Filled out₀ (p + 1 + 1) 256 (ranked marks) (set out (p + 1) (get_or out p 0 + get_or marks p 0))
    ranks_step h =
        filled_step r (omega arith) (get_or-tab 256 (λ p. sum_to p (λ q. get_or marks q 0)) (p + 1) 0 (omega arith) ∙ sym (ranked_here h))

    pub ranks_done : 255 ≤ p → out₀ ≡ replicate 256 0 → out ≡ tab 256 (λ p. sum_to p (λ q. mark (test q)))
    ranks_done h l =
        filled_whole r (omega (arith, ap length l ∙ length-replicate {A = ℕ} 256 0))
        ∙ tab_ext 256 (λ p. sum_to p (λ q. get_or marks q 0)) (λ p. sum_to p (λ q. mark (test q))) (λ p m. counted p (omega arith))
