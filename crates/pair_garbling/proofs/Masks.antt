-- The masks of the outputs: component 0 of their wires' zero keys, output by output.
-- Assumes nothing.
use mathlib.Core.Path.{◌≡◌, sym, ap, ◌∙◌}
use mathlib.Core.List.{List}
use Prim.Native.Nat.{ℕ, ◌+◌, ◌*◌, ◌≤◌, ◌<◌}
use native.Mathlib.Nat.{add-zero}
use native.Mathlib.Omega.{arith}
use lib.ListN.{length, get_or, take, set}
use lib.Seq.{get_or-take, length-take-le}
use Rattle.lists.specs.Blocks.{tab, nth_piece}
use Rattle.lists.proofs.Parts.{get_d_part}
use Rattle.lists.proofs.Sums.{times-fits}
use Rattle.lists.proofs.Blocks.{length-tab, get_or-tab, tab_ext, length_blocks_same, part_blocks_same}
use Rattle.lists.proofs.Filled.{Filled, filled_start, filled_step, filled_whole}
use Rattle.circuit.specs.declared.Circuit.{Circuit}
use Rattle.circuit.specs.Held.{wires_in, outputs_in}
use Rattle.session.proofs.Circuits.{made-is, given_is}
use Rattle.pads.specs.Pad.{shake_pad}
use Rattle.pair.specs.Key.{external_of}
use Rattle.pair.specs.Rows.{pair_mask, pair_masks}
use Rattle.pair_garbling.specs.Ready.{Drawn, ZeroKeys, Gives, masks_garbled}
use Rattle.pair_garbling.proofs.Turning.{zero_at, key-size, keys_fit}

-- ---- the loop

module _ {circuit : Circuit} {K : ℕ} {keys : List ℕ} {bytes : ℕ} (gives : Gives circuit K keys bytes) where
  abbrev outputs : List ℕ
  outputs = take circuit.given circuit.outputs

  abbrev look : ℕ → ℕ
  look i = get_or keys (get_or outputs i 0 * K) 0

  abbrev all : List ℕ
  all = tab (length outputs) look

  count : length outputs ≡ circuit.given
  count = length-take-le circuit.given circuit.outputs (omega (arith, gives.given, gives.outputs))

  pub masks_start : {out₀ : List ℕ} → length out₀ ≡ bytes → Filled out₀ 0 circuit.given all out₀
  masks_start e = filled_start (length-tab (length outputs) look ∙ count) (omega (arith, gives.size))

  pub masks-held : {i a : ℕ} → i < circuit.given → a ≡ get_or circuit.outputs i 0 → a * K < length keys
  masks-held {i} h e = rw e (gives.made i h)

  pub masks-step : {out₀ out : List ℕ} {i a : ℕ} → Filled out₀ i circuit.given all out → i < circuit.given → a ≡ get_or circuit.outputs i 0
      → Filled out₀ (i + 1) circuit.given all (set out i (get_or keys (a * K) 0))
  masks-step {out₀} {out} {i} {a} r h e =
      filled_step r h
      (get_or-tab (length outputs) look i 0 (omega (arith, count))
      ∙ ap (λ (o : ℕ). get_or keys (o * K) 0) (get_or-take circuit.given circuit.outputs i 0 h ∙ sym e))

  pub masks-done : {out₀ out : List ℕ} {i : ℕ} → Filled out₀ i circuit.given all out → length out₀ ≡ bytes → circuit.given ≤ i → out ≡ all
  masks-done r e h = filled_whole r (omega (arith, gives.size))

-- ---- what stands there

module _ {file : List ℕ} {circuit : Circuit} {K : ℕ} {draw : List ℕ} (r : Drawn file circuit K draw) (round : ℕ) {keys : List ℕ}
    (z : ZeroKeys file circuit K round draw keys) where
  keys-long : length keys ≡ circuit.made * K
  keys-long = ap length z.stand ∙ length_blocks_same circuit.made K (zero_at r round) (key-size r round)

  pub gives_keys : {bytes : ℕ} → bytes ≡ length (outputs_in circuit) → Gives circuit K keys bytes
  gives_keys e =
      record {
        given = r.held.given;
        outputs = r.held.outputs;
        size = e ∙ given_is r.held;
        short = r.short;
        made = λ i l.
            let a : ℕ = get_or circuit.outputs i 0 in
            let below : a < circuit.made =
            omega (arith, made-is r.held, get_or-take circuit.given circuit.outputs i 0 l, r.accepted.outputs_made i (omega (arith, given_is r.held))) in
            omega (arith, times-fits a circuit.made K below, keys-long, r.long);
      }

  mask_at : (a : ℕ) → a < circuit.made → get_or keys (a * K) 0 ≡ pair_mask (shake_pad round) K file (wires_in circuit) draw a
  unfolding pair_mask external_of
  mask_at a h =
      ap (λ (i : ℕ). get_or keys i 0) (sym (add-zero (a * K)))
      ∙ sym (get_d_part keys (a * K) K 0 0 r.long)
      ∙ ap (λ (l : List ℕ). get_or l 0 0) (ap (λ (l : List ℕ). nth_piece l K a) z.stand ∙ part_blocks_same circuit.made K (zero_at r round) (key-size r round) a h)

  pub masks_are : tab (length (outputs_in circuit)) (λ i. get_or keys (get_or (outputs_in circuit) i 0 * K) 0) ≡ masks_garbled K round circuit file draw
  unfolding pair_masks
  masks_are =
      tab_ext (length (outputs_in circuit)) (λ i. get_or keys (get_or (outputs_in circuit) i 0 * K) 0) _
      (λ i l. mask_at (get_or (outputs_in circuit) i 0) (omega (arith, made-is r.held, r.accepted.outputs_made i l)))

-- ---- the memory that the zero keys stand in

module _ {file : List ℕ} {circuit : Circuit} {K : ℕ} {draw : List ℕ} (r : Drawn file circuit K draw) (round : ℕ) (work : List ℕ) (room : 131072 ≤ length work) where
  work-fits : circuit.made * K ≤ length work
  work-fits = omega (arith, keys_fit r round)

  pub work-long : length (take (circuit.made * K) work) ≡ circuit.made * K
  work-long = length-take-le (circuit.made * K) work work-fits
