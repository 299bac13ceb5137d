-- The pass over all wires: where it starts, what a turn adds, and what stands in the buffers at its end.
-- Assumes nothing.
use mathlib.Core.Path.{◌≡◌, sym, ap, ◌∙◌}
use mathlib.Core.List.{List}
use Prim.Native.Nat.{ℕ, ◌+◌, ◌*◌, ◌≤◌, ◌<◌}
use native.Mathlib.Nat.{add-mul, not-suc-le-zero, zero-mul}
use native.Mathlib.Decide.{dec_lt}
use native.Mathlib.Omega.{arith}
use lib.ListN.{length, get_or, length-set}
use lib.Seq.{get_or-set_same, get_or-set_other, ext_get_or}
use Rattle.lists.specs.Blocks.{sum_to, part, nth_piece, written}
use Rattle.lists.proofs.Sums.{sum_to-next, times-fits}
use Rattle.lists.proofs.Blocks.{blocks_nth, blocks_ext, length-tab, get_or-tab}
use Rattle.lists.proofs.Written.{length-written, part-written, part-before}
use Rattle.words.specs.declared.gate.Wire.{Wire}
use Rattle.pads.specs.Pad.{shake_pad}
use Rattle.contribution.proofs.Cursor.{sum_to_none}
use Rattle.pair.specs.Key.{external_of}
use Rattle.pair.specs.Count.{pair_rows_of}
use Rattle.pair.specs.Opening.{opened_key, pair_wire_keys, pair_wire_externals}
use Rattle.pair_opening.specs.Step.{Stored}
use Rattle.pair_opening.proofs.Opens.{turn_at}
use Rattle.pair_opening.proofs.Reached.{Reached}

module _ (K round : ℕ) (wires : List Wire) (keys rows : List ℕ) where
  abbrev final : ℕ → List ℕ
  final = opened_key (shake_pad round) K wires keys rows

  pub reached_start : {wkeys wexternals : List ℕ} → length wkeys ≡ length wires * K → length wexternals ≡ length wires
      → Reached K round wires keys rows 0 0 wkeys wexternals
  reached_start f g =
      record {
        turns = omega arith;
        from_is = sym (zero-mul K) ∙ ap (λ (x : ℕ). x * K) (sym (sum_to_none (pair_rows_of wires)));
        keys_size = f;
        externals_size = g;
        key = λ v h. absurd (not-suc-le-zero h);
        external = λ v h. absurd (not-suc-le-zero h);
      }

  -- ---- a turn

  module _ {w from : ℕ} {wkeys wexternals : List ℕ} (r : Reached K round wires keys rows w from wkeys wexternals) (made : w < length wires) {wkeys' wexternals' : List ℕ}
      (put : Stored (turn_at K round wires w) (final w) wkeys wexternals wkeys' wexternals') where
    inside : w * K + length (final w) ≤ length wkeys
    inside = omega (arith, times-fits w (length wires) K made, r.keys_size, put.size)

    keys_before : (v : ℕ) → v < w → nth_piece wkeys' K v ≡ nth_piece wkeys K v
    keys_before v h =
        ap (λ (l : List ℕ). nth_piece l K v) put.keys ∙ part-before wkeys (w * K) (final w) inside (v * K) K (times-fits v w K h)

    keys_here : nth_piece wkeys' K w ≡ final w
    keys_here =
        ap (λ (l : List ℕ). nth_piece l K w) put.keys ∙ ap (part (written wkeys (w * K) (final w)) (w * K)) (sym put.size)
        ∙ part-written wkeys (w * K) (final w) inside

    external_before : (v : ℕ) → v < w → get_or wexternals' v 0 ≡ get_or wexternals v 0
    external_before v h = ap (λ (l : List ℕ). get_or l v 0) put.externals ∙ get_or-set_other wexternals w v (external_of (final w)) 0 (λ q. omega arith)

    external_here : get_or wexternals' w 0 ≡ external_of (final w)
    external_here =
        ap (λ (l : List ℕ). get_or l w 0) put.externals ∙ get_or-set_same wexternals w (external_of (final w)) 0 (omega (arith, r.externals_size))

    pub reached-step : {from' : ℕ} → from' ≡ from + pair_rows_of wires w * K → Reached K round wires keys rows (w + 1) from' wkeys' wexternals'
    reached-step {from'} ef =
        record {
          turns = omega arith;
          from_is =
              ef ∙ ap (λ (x : ℕ). x + pair_rows_of wires w * K) r.from_is ∙ sym (add-mul (sum_to w (pair_rows_of wires)) (pair_rows_of wires w) K)
              ∙ ap (λ (x : ℕ). x * K) (sym (sum_to-next w (pair_rows_of wires)));
          keys_size = ap length put.keys ∙ length-written wkeys (w * K) (final w) inside ∙ r.keys_size;
          externals_size = ap length put.externals ∙ length-set wexternals w (external_of (final w)) ∙ r.externals_size;
          key = λ v l. key-at v (dec_lt v w) l;
          external = λ v l. external-at v (dec_lt v w) l;
        }
      where
        key-at : (v : ℕ) → Dec (v < w) → v < w + 1 → nth_piece wkeys' K v ≡ final v
        key-at v (yes l) k = keys_before v l ∙ r.key v l
        key-at v (no l) k = let q : v ≡ w = omega arith in rw q keys_here

        external-at : (v : ℕ) → Dec (v < w) → v < w + 1 → get_or wexternals' v 0 ≡ external_of (final v)
        external-at v (yes l) k = external_before v l ∙ r.external v l
        external-at v (no l) k = let q : v ≡ w = omega arith in rw q external_here

  -- ---- all wires

  module _ {w from : ℕ} {wkeys wexternals : List ℕ} (r : Reached K round wires keys rows w from wkeys wexternals) (h : length wires ≤ w) where
    pub all-keys : wkeys ≡ pair_wire_keys (shake_pad round) K wires keys rows
    unfolding pair_wire_keys
    all-keys =
        sym (blocks_nth (length wires) K wkeys r.keys_size)
        ∙ blocks_ext (length wires) (λ v. nth_piece wkeys K v) final (λ v l. r.key v (omega arith))

    pub all-externals : wexternals ≡ pair_wire_externals (shake_pad round) K wires keys rows
    unfolding pair_wire_externals
    all-externals =
        ext_get_or 0 wexternals (pair_wire_externals (shake_pad round) K wires keys rows)
        (r.externals_size ∙ sym (length-tab (length wires) (λ v. external_of (final v))))
        (λ v l. r.external v (omega (arith, r.externals_size)) ∙ sym (get_or-tab (length wires) (λ v. external_of (final v)) v 0 (omega (arith, r.externals_size))))
