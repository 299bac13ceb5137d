-- Laws of what is printed: the lines of the wires one after another, the listing around them, a refusal.
-- Assumes nothing.
use mathlib.Core.Path.{◌≡◌, sym, ap, ◌∙◌}
use mathlib.Core.List.{List, [], ◌∷◌, ◌++◌}
use Prim.Native.Nat.{ℕ, ◌+◌, ◌*◌, ◌≤◌, ◌<◌}
use native.Mathlib.Omega.{arith}
use lib.ListN.{length}
use Rattle.lists.specs.Blocks.{blocks}
use Rattle.lists.proofs.Blocks.{blocks-next}
use Rattle.lists.proofs.Wrote.{Wrote, wrote_start, wrote_as, wrote_join}
use Rattle.checks.specs.Answer.{number_of}
use Rattle.checks.specs.declared.Refusal.{Refusal}
use Rattle.checks.specs.declared.Refused.{Refused}
use Rattle.std.specs.Prelude.{Result, Err}
use Rattle.words.specs.declared.gate.Wire.{Wire}
use Rattle.circuit.specs.declared.Circuit.{Circuit}
use Rattle.circuit.specs.File.{Read}
use Rattle.circuit.specs.Wires.{wire_at, modulus_at}
use Rattle.circuit.specs.Held.{wires_in, Holds}
use Rattle.counts.specs.Counts.{rows_of, rows_in}
use Rattle.counts.specs.Kinds.{kind_of}
use Rattle.prices.specs.Characters.{refused_text, at_text, head_text, total_text}
use Rattle.prices.specs.Prices.{number_and, line_of, wire_line, wire_lines, listing, refusal, listed, printed, price_list}
use Rattle.prices.specs.Lines.{lines_of}
use Rattle.prices.specs.Found.{comes_to, bytes_found, Finds}
use Rattle.prices.specs.declared.lines.Unread.{Unread}
use Rattle.prices.specs.Placed.{Placed, PlacedWithin}
use Rattle.prices.proofs.Texts.{placed_wrote, wrote_placed, placed_four}

-- a text, under another name
pub placed_as : {xs ys : List ℕ} {out₀ : List ℕ} {at to : ℕ} {out : List ℕ} → Placed out₀ at xs to out → xs ≡ ys → Placed out₀ at ys to out
placed_as {xs} {ys} {out₀} {at} {to} {out} r e = rw e at r

pub within_as : {limit : ℕ} {xs ys : List ℕ} {out₀ : List ℕ} {at to : ℕ} {out : List ℕ} → PlacedWithin limit out₀ at xs to out → xs ≡ ys → PlacedWithin limit out₀ at ys to out
within_as {limit} {xs} {ys} {out₀} {at} {to} {out} r e = rw e at r

-- ---- the wires

-- the lines of w wires stand from a place on
pub record LinesSoFar (wires : List Wire) (out₀ : List ℕ) (at w end : ℕ) (out : List ℕ) : Type 0 where
  pub wrote : Wrote out₀ at (blocks w (wire_line wires)) end out
  pub most : end ≤ at + 15 * w

pub lines_start : {wires : List Wire} {out₀ : List ℕ} {at : ℕ} → at ≤ length out₀ → LinesSoFar wires out₀ at 0 at out₀
unfolding blocks
lines_start {wires} {out₀} {at} h = record { wrote = wrote_start out₀ at h; most = omega arith }

module _ {wires : List Wire} {out₀ : List ℕ} {at w end : ℕ} {out : List ℕ} (r : LinesSoFar wires out₀ at w end out) where
  pub lines_step : {n to : ℕ} {out' : List ℕ} → PlacedWithin 15 out end (line_of w (kind_of (wire_at wires w).gate) (modulus_at wires w) n) to out' → n ≡ rows_of wires w
      → LinesSoFar wires out₀ at (w + 1) to out'
  lines_step {n} {to} {out'} p e =
      record {
        wrote =
            wrote_as
            (wrote_join r.wrote (wrote_as (placed_wrote p.placed) (ap (λ (m : ℕ). line_of w (kind_of (wire_at wires w).gate) (modulus_at wires w) m) e)))
            (sym (blocks-next w (wire_line wires)));
        most = omega (arith, r.most, p.most);
      }

  pub lines-done : w ≡ length wires → w ≤ 1024 → PlacedWithin 15360 out₀ at (wire_lines wires) end out
  unfolding wire_lines
  lines-done e h =
      record {
        placed = wrote_placed (wrote_as r.wrote (ap (λ (m : ℕ). blocks m (wire_line wires)) e));
        most = omega (arith, r.most);
      }

-- ---- the whole

module _ {out₀ : List ℕ} {a b c d : ℕ} {out₁ out₂ out₃ out₄ : List ℕ} where
  pub put_listing : (wires : List Wire) (total : ℕ) → total ≡ rows_in wires
      → Placed out₀ 0 (head_text ++ (10 ∷ [])) a out₁ → Placed out₁ a (wire_lines wires) b out₂ → Placed out₂ b total_text c out₃ → Placed out₃ c (number_and 10 total) d out₄
      → Placed out₀ 0 (listing wires) d out₄
  unfolding listing
  put_listing wires total e p q r s = rw (← e) (placed_four p q r s)

  pub put_refusal : {number number' : ℕ} (place : ℕ) → number ≡ number'
      → Placed out₀ 0 refused_text a out₁ → Placed out₁ a (number_and 32 number) b out₂ → Placed out₂ b at_text c out₃ → Placed out₃ c (number_and 10 place) d out₄
      → Placed out₀ 0 (refusal number' place) d out₄
  unfolding refusal
  put_refusal place e p q r s = rw (← e) (placed_four p q r s)

-- ---- what was read, and what the lines come to

module _ {circuit : Circuit} {read : Read} (h : Holds circuit read) where
  pub listed-accepted : listing (wires_in circuit) ≡ listed read.answer read.wires
  unfolding listed
  listed-accepted = rw (h.accepted, h.wires)

pub listed-refused : (read : Read) {why : Refused} → read.answer ≡ Err why → refusal (number_of why.reason) why.place ≡ listed read.answer read.wires
unfolding listed
listed-refused read e = rw e

module _ {buffer : List ℕ} {found f : Result ℕ Unread} (text : List ℕ) (h : Finds buffer found (lines_of text)) (e : found ≡ f) where
  pub found-most : bytes_found f ≤ 65536
  found-most = rw (← e) h.most

  pub price_is : printed (comes_to buffer f) ≡ price_list text
  unfolding price_list
  price_is = rw (← e, h.is)
