-- The pass over all wires: where it starts, what a turn adds, and what stands in the buffers at its end.
-- Assumes nothing.
use mathlib.Core.Path.{◌≡◌, sym, ap, ap₂, ◌∙◌}
use mathlib.Core.Bool.{Bool, true, false, not}
use mathlib.Core.List.{List, map}
use Prim.Native.Nat.{ℕ, ◌+◌, ◌*◌, ◌≤◌, ◌<◌}
use native.Mathlib.Nat.{add-mul, not-suc-le-zero, zero-mul}
use native.Mathlib.Decide.{dec_lt}
use native.Mathlib.Omega.{arith}
use borrow.Author.Tests.{lt-ltb, le-ltb}
use lib.ListN.{length, get_or, length-set, length-map, get_or-map}
use lib.Seq.{get_or-set_same, get_or-set_other, ext_get_or}
use Rattle.lists.specs.Blocks.{part, nth_piece, written}
use Rattle.lists.proofs.Sums.{sum_to-next, times-fits}
use Rattle.lists.proofs.Blocks.{blocks_nth, blocks_ext}
use Rattle.lists.proofs.Written.{length-written, part-written, part-before}
use Rattle.lists.proofs.First.{first-at, first_none}
use Rattle.lists.proofs.Grown.{length-grown}
use Rattle.words.specs.declared.gate.Wire.{Wire}
use Rattle.circuit.specs.Wires.{modulus_at}
use Rattle.counts.specs.Counts.{rows_of, record_keys_of}
use Rattle.pads.specs.Pad.{shake_pad}
use Rattle.scheme.specs.Contribution.{record_at}
use Rattle.scheme.specs.Draw.{drawn}
use Rattle.contribution.proofs.Cursor.{sum_to_none, record_next}
use Rattle.scheme.specs.Opening.{Opened, nothing, opened, opened_to, wire_keys, wire_externals, row_at}
use Rattle.opening.specs.Step.{lower}
use Rattle.opening.specs.Swept.{Stored, Swept}
use Rattle.opening.proofs.Reached.{opened_at, Reached}
use Rattle.opening.proofs.Opens.{turn_at}

-- a wire is its keys, its external value and that it fits
whole : (o : Opened) {keys : List ℕ} {external : ℕ} → keys ≡ o.keys → external ≡ o.external → o.fits ≡ true
    → record { keys = keys; external = external; fits = true } ≡ o
whole o e f g = rw (e, f, ← g)

module _ (n K party round : ℕ) (wires : List Wire) (contribution externals keys rows : List ℕ) where
  abbrev m : ℕ
  m = n * K

  abbrev final : ℕ → Opened
  final = opened_at n K party round wires contribution externals keys rows

  abbrev Stands : ℕ → ℕ → ℕ → List ℕ → List ℕ → Type 0
  Stands w z from wkeys wexternals = Reached n K party round wires contribution externals keys rows w z from wkeys wexternals

  pub reached_start : {zero : ℕ} {wkeys wexternals : List ℕ} → zero ≡ record_at K wires 0 → length wkeys ≡ length wires * m → length wexternals ≡ length wires
      → Stands 0 zero 0 wkeys wexternals
  unfolding row_at
  reached_start e f g =
      record {
        turns = omega arith;
        zero_is = e;
        from_is = sym (zero-mul m) ∙ ap (λ (x : ℕ). x * m) (sym (sum_to_none (rows_of wires)));
        keys_size = f;
        externals_size = g;
        wire = λ v h. absurd (not-suc-le-zero h);
        below = λ v h. absurd (not-suc-le-zero h);
      }

  -- ---- a turn that found its multiplier

  module _ {w zero from : ℕ} {wkeys wexternals : List ℕ} (r : Stands w zero from wkeys wexternals) (made : w < length wires) {e : ℕ} {wkeys' wexternals' : List ℕ}
      (put : Stored (turn_at n K party round wires w) (final w) wkeys wexternals e wkeys' wexternals') where
    inside : w * m + length put.out ≤ length wkeys
    inside = omega (arith, times-fits w (length wires) m made, r.keys_size, put.size)

    pub kept-keys : length wkeys' ≡ length wires * m
    kept-keys = ap length put.keys ∙ length-written wkeys (w * m) put.out inside ∙ r.keys_size

    pub kept-externals : length wexternals' ≡ length wires
    kept-externals = ap length put.externals ∙ length-set wexternals w e ∙ r.externals_size

    keys_before : (v : ℕ) → v < w → nth_piece wkeys' m v ≡ nth_piece wkeys m v
    keys_before v h =
        ap (λ (l : List ℕ). nth_piece l m v) put.keys ∙ part-before wkeys (w * m) put.out inside (v * m) m (times-fits v w m h)

    keys_here : nth_piece wkeys' m w ≡ put.out
    keys_here =
        ap (λ (l : List ℕ). nth_piece l m w) put.keys ∙ ap (part (written wkeys (w * m) put.out) (w * m)) (sym put.size)
        ∙ part-written wkeys (w * m) put.out inside

    external_before : (v : ℕ) → v < w → get_or wexternals' v 0 ≡ get_or wexternals v 0
    external_before v h = ap (λ (l : List ℕ). get_or l v 0) put.externals ∙ get_or-set_other wexternals w v e 0 (λ q. omega arith)

    external_here : get_or wexternals' w 0 ≡ e
    external_here = ap (λ (l : List ℕ). get_or l w 0) put.externals ∙ get_or-set_same wexternals w e 0 (omega (arith, r.externals_size))

    pub reached-step : {zero' from' : ℕ} → e < modulus_at wires w → zero' ≡ zero + (K + 1) * record_keys_of wires w → from' ≡ from + rows_of wires w * m
        → Stands (w + 1) zero' from' wkeys' wexternals'
    unfolding lower row_at
    reached-step {zero'} {from'} h ez ef =
        record {
          turns = omega arith;
          zero_is = omega (arith, record_next K wires w, r.zero_is);
          from_is = ef ∙ ap (λ (x : ℕ). x + rows_of wires w * m) r.from_is ∙ sym (add-mul (row_at wires w) (rows_of wires w) m) ∙ ap (λ (x : ℕ). x * m) (sym (sum_to-next w (rows_of wires)));
          keys_size = kept-keys;
          externals_size = kept-externals;
          wire = λ v l. wire-at v (dec_lt v w) l;
          below = λ v l. below_at v (dec_lt v w) l;
        }
      where
        wire-at : (v : ℕ) → Dec (v < w) → v < w + 1 → record { keys = nth_piece wkeys' m v; external = get_or wexternals' v 0; fits = true } ≡ final v
        wire-at v (yes l) k =
            ap₂ (λ (ks : List ℕ) (x : ℕ). record { keys = ks; external = x; fits = true }) (keys_before v l) (external_before v l) ∙ r.wire v l
        wire-at v (no l) k =
            let q : v ≡ w = omega arith in
            rw q
            (whole (final w) (keys_here ∙ put.made.keys h) (external_here ∙ put.made.external h)
            (put.made.fits ∙ lt-ltb e (modulus_at wires w) h))

        below_at : (v : ℕ) → Dec (v < w) → v < w + 1 → get_or wexternals' v 0 < modulus_at wires v
        below_at v (yes l) k = rw (external_before v l) (r.below v l)
        below_at v (no l) k = let q : v ≡ w = omega arith in rw (q, external_here) h

    -- ---- .. and one that did not

    abbrev unfit : ℕ → Bool
    unfit v = not (final v).fits

    fits_before : (v : ℕ) → v < w → unfit v ≡ false
    unfolding lower
    fits_before v l = ap (λ (o : Opened). not o.fits) (sym (r.wire v l))

    pub swept_short : modulus_at wires w ≤ e → Swept n K party round wires contribution externals keys rows w wkeys' wexternals'
    swept_short h =
        record {
          found = sym (first-at (length wires) w unfit made fits_before (ap not (put.made.fits ∙ le-ltb e (modulus_at wires w) h)));
          keys_size = kept-keys;
          externals_size = kept-externals;
          all_keys = λ l. absurd (omega arith);
          all_externals = λ l. absurd (omega arith);
        }

  -- ---- all wires

  opened_size : length (opened (shake_pad round) n K party wires (drawn 1 K wires contribution) externals keys rows) ≡ length wires
  unfolding opened opened_to
  opened_size = length-grown _ (length wires)

  pub swept_all : {w zero from : ℕ} {wkeys wexternals : List ℕ} → Stands w zero from wkeys wexternals → length wires ≤ w
      → Swept n K party round wires contribution externals keys rows w wkeys wexternals
  unfolding wire_keys wire_externals lower
  swept_all {w} {wkeys = wkeys} {wexternals = wexternals} r h =
      record {
        found = end ∙ sym (first_none (length wires) (λ v. not (final v).fits) (λ v l. ap (λ (o : Opened). not o.fits) (sym (r.wire v (omega arith)))));
        keys_size = r.keys_size;
        externals_size = r.externals_size;
        all_keys = λ _. (
            sym (blocks_nth (length wires) m wkeys r.keys_size)
            ∙ blocks_ext (length wires) (λ v. nth_piece wkeys m v) (λ v. (final v).keys) (λ v l. ap (λ (o : Opened). o.keys) (r.wire v (omega arith))));
        all_externals = λ _. (
            ext_get_or 0 wexternals (map (λ (o : Opened). o.external) all)
            (r.externals_size ∙ sym (length-map all (λ (o : Opened). o.external) ∙ opened_size))
            (λ v l. ap (λ (o : Opened). o.external) (r.wire v (omega (arith, r.externals_size))) ∙ sym (get_or-map (λ (o : Opened). o.external) all v nothing)));
      }
    where
      all : List Opened
      all = opened (shake_pad round) n K party wires (drawn 1 K wires contribution) externals keys rows

      end : w ≡ length wires
      end = omega (arith, r.turns)
