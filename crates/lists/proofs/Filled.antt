-- A loop that fills a buffer element by element, with elements of a list that is known beforehand (the target), as an invariant with its laws.
--
-- How to prove `while i < n { out[i] = v; i += 1; }`, where v is the target's element at i:
--     invariant      Inv-loop out₀ .. out .. i = Filled out₀ i n target out
--     measure        n - i
--     loop-holds     filled_start (the target's length) (omega arith)
--     loop-again     filled_step (.. .loop .inv) (.. .loop-test .taken) e         with e : get_or target i 0 ≡ v, often `get_or-tab`, or `refl`
--                    in place, where v is made of out[i]: `filled_old (.. .loop .inv) i (le_refl i)` says that out[i] is still out₀[i]
--     returns        filled_whole (.. .loop .inv) (omega arith)                   out is the target
--                    filled_front (.. .loop .inv) (.. .loop-test .left)           the first n elements are, as of a local array
--     all others     omega arith
-- Assumes nothing.
use mathlib.Core.Path.{◌≡◌, refl, sym, ap, ◌∙◌}
use mathlib.Core.List.{List, ◌++◌, append-nil}
use Prim.Native.Nat.{ℕ, suc, ◌+◌, ◌-◌, ◌≤◌, ◌<◌}
use native.Mathlib.Numerals.{add-one}
use native.Mathlib.Omega.{arith}
use lib.ListN.{length, get_or, take, drop, set, length-set}
use lib.Seq.{take_all, take-suc, take_at, drop_at, drop-cons, drop-length, set_at, get_or-drop, append_snoc, length-take-le}

-- the first i of the target's n elements stand in out, and the others are out₀'s
pub record Filled (out₀ : List ℕ) (i n : ℕ) (target out : List ℕ) : Type 0 where
  pub turns : i ≤ n
  pub long : length target ≡ n
  pub room : n ≤ length out₀
  pub kept : length out ≡ length out₀
  pub eq : out ≡ take i target ++ drop i out₀

pub filled_start : {out₀ : List ℕ} {n : ℕ} {target : List ℕ} → length target ≡ n → n ≤ length out₀ → Filled out₀ 0 n target out₀
filled_start l h = record { turns = omega arith; long = l; room = h; kept = refl; eq = refl }

-- a turn, on the lists themselves
turn : (out₀ target : List ℕ) (i v : ℕ) → i < length target → i < length out₀ → get_or target i 0 ≡ v
    → set (take i target ++ drop i out₀) i v ≡ take (i + 1) target ++ drop (i + 1) out₀
turn out₀ target i v h k e =
    ap (λ (l : List ℕ). set (take i target ++ l) i v) (drop-cons out₀ i 0 k)
    ∙ set_at (take i target) (get_or out₀ i 0) (drop (suc i) out₀) v i (length-take-le i target (omega arith))
    ∙ sym (append_snoc (take i target) v (drop (suc i) out₀))
    ∙ rw (add-one i, take-suc target i 0 h, e)

module _ {out₀ : List ℕ} {i n : ℕ} {target out : List ℕ} (r : Filled out₀ i n target out) where
  pub filled_step : {v : ℕ} → i < n → get_or target i 0 ≡ v → Filled out₀ (i + 1) n target (set out i v)
  filled_step {v} h e =
      record {
        turns = omega arith;
        long = r.long;
        room = r.room;
        kept = length-set out i v ∙ r.kept;
        eq = ap (λ (l : List ℕ). set l i v) r.eq ∙ turn out₀ target i v (omega arith) (omega arith) e;
      }

  -- an element that is not yet filled is as it was: for a loop that works in place
  pub filled_old : (j : ℕ) → i ≤ j → get_or out j 0 ≡ get_or out₀ j 0
  filled_old j h =
      let rest : drop i out ≡ drop i out₀ =
      ap (λ (l : List ℕ). drop i l) r.eq ∙ drop_at (take i target) (drop i out₀) i (length-take-le i target (omega arith)) in
      let k : i + (j - i) ≡ j = omega arith in
      ap (λ (m : ℕ). get_or out m 0) (sym k)
      ∙ sym (get_or-drop i out (j - i) 0)
      ∙ ap (λ (l : List ℕ). get_or l (j - i) 0) rest
      ∙ get_or-drop i out₀ (j - i) 0
      ∙ ap (λ (m : ℕ). get_or out₀ m 0) k

  -- all of the target stands there, with what was behind it; where only that front matters; where the target fills out
  pub filled_done : n ≤ i → out ≡ target ++ drop n out₀
  filled_done h =
      let k : i ≡ n = omega arith in
      r.eq ∙ ap (λ (l : List ℕ). l ++ drop i out₀) (take_all i target (omega arith)) ∙ ap (λ (j : ℕ). target ++ drop j out₀) k

  pub filled_front : n ≤ i → take n out ≡ target
  filled_front h = ap (λ (l : List ℕ). take n l) (filled_done h) ∙ take_at target (drop n out₀) n r.long

  pub filled_whole : length out₀ ≤ i → out ≡ target
  filled_whole h =
      let e : n ≡ length out₀ = omega arith in
      filled_done (omega arith) ∙ ap (λ (m : ℕ). target ++ drop m out₀) e ∙ ap (λ (l : List ℕ). target ++ l) (drop-length out₀) ∙ append-nil target
