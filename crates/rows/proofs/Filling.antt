-- A table of factors, filled one after another.
-- Assumes nothing.
use mathlib.Core.Path.{◌≡◌, sym, ap, ◌∙◌}
use mathlib.Core.List.{List}
use Prim.Native.Nat.{ℕ, ◌+◌, ◌≤◌, ◌<◌}
use native.Mathlib.Omega.{arith}
use lib.ListN.{length, get_or, set}
use lib.Seq.{get_or-take}
use Rattle.lists.specs.Blocks.{tab}
use Rattle.lists.proofs.Blocks.{length-tab, get_or-tab}
use Rattle.lists.proofs.Filled.{Filled, filled_start, filled_step, filled_front}
use Rattle.rows.specs.Made.{Factors}

-- the loop's invariant: the factors of so many α stand
abbrev pub Standing : ℕ → (ℕ → ℕ) → List ℕ → ℕ → List ℕ → Type 0
Standing p f out₀ α out = Filled out₀ α p (tab p f) out

module _ (p : ℕ) (f : ℕ → ℕ) {out₀ : List ℕ} where
  pub none-stand : length out₀ ≡ 256 → p < 256 → Standing p f out₀ 0 out₀
  none-stand e h = filled_start (length-tab p f) (omega arith)

  pub one_more : {α v : ℕ} {out : List ℕ} → Standing p f out₀ α out → α < p → v ≡ f α → Standing p f out₀ (α + 1) (set out α v)
  one_more {α} r h e = filled_step r h (get_or-tab p f α 0 h ∙ sym e)

  pub all-stand : {α : ℕ} {out : List ℕ} → Standing p f out₀ α out → p ≤ α → length out₀ ≡ 256 → Factors p f out
  all-stand {α} {out} r h e =
      record {
        size = r.kept ∙ e;
        at = λ β l. sym (get_or-take p out β 0 l) ∙ ap (λ (xs : List ℕ). get_or xs β 0) (filled_front r h) ∙ get_or-tab p f β 0 l;
      }
