-- Garbling as a call: the checks after reading, what acceptance hands on, and how the call ends.
-- Assumes nothing.
use mathlib.Core.Path.{◌≡◌, refl, sym, ap, ap₂, subst, ◌∙◌}
use mathlib.Core.List.{List, [], ◌∷◌}
use Prim.Native.Nat.{ℕ, ◌*◌, ◌<◌}
use lib.ListN.{length}
use Rattle.checks.specs.declared.Refusal.{Refusal}
use Rattle.checks.specs.Answer.{Answer, number_in, place_in, accepts}
use Rattle.checks.specs.Checked.{and_then}
use Rattle.checks.proofs.Passed.{and_then-left, and_then-right, afterwards_passed}
use Rattle.checks.proofs.Answers.{and_then_stop, stage_passed, stage_refused, afterwards-refused, reports}
use Rattle.meter.specs.Meter.{accounts, Charge, account_checked, HasSpace, meter_checked, charged}
use Rattle.meter.proofs.Totals.{passed_account, passed_space}
use Rattle.words.specs.declared.gate.Wire.{Wire}
use Rattle.circuit.specs.declared.Circuit.{Circuit}
use Rattle.circuit.specs.File.{read_file}
use Rattle.circuit.specs.Held.{wires_in, outputs_in, Holds}
use Rattle.counts.specs.Counts.{Counts}
use Rattle.pads.specs.Pad.{shake_pad}
use Rattle.session.specs.Session.{session_checked, owners_checked, lengths_checked}
use Rattle.session.proofs.Circuits.{held_of, given_is}
use Rattle.party_calls.proofs.Ending.{lent_is, circuit-accepted}
use Rattle.pair.specs.Count.{pair_rows_in}
use Rattle.pair.specs.Draw.{draw_size}
use Rattle.pair.specs.Rows.{pair_rows, pair_masks}
use Rattle.pair.specs.Bytes.{pair_file_checked, drawn_checked}
use Rattle.pair.specs.Garble.{pair_garble_lengths, pair_garble_lent, pair_garble_asked, pair_garble_checked, pair_garble_rows, pair_garble_masks, pair_garble_meter, PairGarbleCall}
use Rattle.pair_garbling.specs.Ready as ready
use Rattle.pair_calls.specs.Lent.{Ranged, Drawn, garble_named, garble_owned}
use Rattle.pair_calls.proofs.Shared.{two_behind, ranged}
use Rattle.pair_calls.specs.Counted.{ReadsForTwo}
use Rattle.std.specs.Prelude.{Err}
use Rattle.checks.specs.declared.Refused.{Refused}

-- ---- 14, and then 25, 16 and 27

three_same : {a b c x y z : ℕ} → a ≡ x → b ≡ y → c ≡ z → ◌≡◌ {A = List ℕ} (a ∷ b ∷ c ∷ []) (x ∷ y ∷ z ∷ [])
three_same e f g = rw (e, f, g)

module _ {circuit : Circuit} {K : ℕ} (range : Ranged circuit K) (draw : List ℕ) (rows outs : ℕ) where
  abbrev lengths : Answer
  lengths = pair_garble_lengths K (wires_in circuit) (outputs_in circuit) draw rows outs

  pub lengths_met : {size raw : ℕ} → Counts 163840 (draw_size K (wires_in circuit)) size → Counts 520192 (pair_rows_in (wires_in circuit)) raw
      → {answer : Answer} → answer ≡ lengths_checked (length draw ∷ rows ∷ outs ∷ []) (size ∷ raw * K ∷ circuit.given ∷ []) → answer ≡ lengths
  lengths_met s c m =
      m
      ∙ ap (lengths_checked (length draw ∷ rows ∷ outs ∷ []))
      (three_same s.is (ap (λ (a : ℕ). a * K) c.is) (sym (given_is range.held)))

  pub draw-lent : {answer : Answer} → answer ≡ lengths → answer ≡ accepts → Drawn circuit K draw
  draw-lent m e = record { ranged = range; size = lent_is _ _ (sym m ∙ e) 0 }

-- ---- the whole call

module _ (file : List ℕ) (K : ℕ) (draw rows outs : List ℕ) (meter : Charge) where
  abbrev fate : Answer
  fate = pair_garble_checked file K draw rows outs meter

  abbrev Ends : ℕ → Answer → List ℕ → List ℕ → List ℕ → Type 0
  Ends round a = PairGarbleCall file K round draw rows outs meter (number_in a) (place_in a)

  refused_call : {round : ℕ} {answer : Answer} {why : Refused} → answer ≡ Err why → Err why ≡ fate → Ends round answer rows outs meter.totals
  unfolding pair_garble_rows pair_garble_masks pair_garble_meter
  refused_call e m =
      record {
        answer = reports (e ∙ m);
        rows_is = afterwards-refused (sym m) _ rows;
        masks_is = afterwards-refused (sym m) _ outs;
        meter_is = afterwards-refused (sym m) _ meter.totals;
      }

  -- the checks between the reader's and the meter's, on the circuit that was read
  abbrev asked_read : Answer
  asked_read = pair_garble_asked K (read_file file).wires (read_file file).outputs draw (length rows) (length outs) meter.account

  pub garble_unread : {round : ℕ} {answer : Answer} {why : Refused} → answer ≡ Err why → pair_file_checked file ≡ Err why → Ends round answer rows outs meter.totals
  unfolding pair_garble_checked
  garble_unread e r = refused_call e (and_then_stop _ (sym (and_then_stop asked_read r)))

  module _ {circuit : Circuit} (read : ReadsForTwo file circuit) {check : Answer}
      (checked : check ≡ pair_garble_asked K (wires_in circuit) (outputs_in circuit) draw (length rows) (length outs) meter.account) where
    abbrev wires : List Wire
    wires = wires_in circuit

    abbrev outputs : List ℕ
    outputs = outputs_in circuit

    earlier : check ≡ and_then (pair_file_checked file) asked_read
    earlier =
        two_behind file asked_read read
        (checked ∙ ap₂ (λ (w : List Wire) (o : List ℕ). pair_garble_asked K w o draw (length rows) (length outs) meter.account) read.holds.wires read.holds.outputs)

    pub garble-refused : {round : ℕ} {answer : Answer} {why : Refused} → answer ≡ Err why → check ≡ Err why → Ends round answer rows outs meter.totals
    unfolding pair_garble_checked
    garble-refused e k = refused_call e (stage_refused earlier _ k)

    module _ (k : check ≡ accepts) where
      abbrev owned : Answer
      owned = garble_owned K wires outputs draw (length rows) (length outs) meter.account

      abbrev lent_all : Answer
      lent_all = pair_garble_lent K wires outputs draw (length rows) (length outs) meter.account

      abbrev sizes : Answer
      sizes = pair_garble_lengths K wires outputs draw (length rows) (length outs)

      all : and_then (session_checked 2 K) owned ≡ accepts
      all = sym checked ∙ k

      lent_passed : lent_all ≡ accepts
      lent_passed = and_then-right (owners_checked 2 wires) lent_all (and_then-right (session_checked 2 K) owned all)

      sizes_passed : sizes ≡ accepts
      sizes_passed = and_then-left sizes (garble_named K wires draw meter.account) lent_passed

      range : Ranged circuit K
      range = ranged K (held_of read.holds) (and_then-left (session_checked 2 K) owned all)

      pub garble-account : meter.account < accounts
      garble-account =
          passed_account meter.account
          (and_then-left (account_checked meter.account) (drawn_checked K wires draw)
          (and_then-right sizes (garble_named K wires draw meter.account) lent_passed))

      pub garble-drawn : ready.Drawn file circuit K draw
      garble-drawn =
          record {
            held = held_of read.holds;
            accepted = circuit-accepted file read.holds;
            long = range.long;
            short = range.short;
            size = lent_is _ _ sizes_passed 0;
          }

      pub garble-room : (length rows ≡ pair_rows_in (wires_in circuit) * K) × (length outs ≡ length (outputs_in circuit))
      garble-room = (lent_is _ _ sizes_passed 1, lent_is _ _ sizes_passed 2)

      module _ {space : Answer} {count : ℕ} (counted : Counts 520192 (pair_rows_in (wires_in circuit)) count) (spaced : space ≡ meter_checked meter count) where
        rows_are : count ≡ pair_rows_in (read_file file).wires
        rows_are = counted.is ∙ ap pair_rows_in read.holds.wires

        met : space ≡ fate
        unfolding pair_garble_checked
        met = stage_passed earlier k (spaced ∙ ap (meter_checked meter) rows_are)

        pub garble_full : {round : ℕ} {answer : Answer} {why : Refused} → answer ≡ Err why → space ≡ Err why → Ends round answer rows outs meter.totals
        garble_full e f = refused_call e (sym f ∙ met)

        module _ (e : space ≡ accepts) where
          pub garble-space : HasSpace meter count
          garble-space = passed_space meter count (sym spaced ∙ e)

          pub garble-written : {round : ℕ} {rows' outs' totals' : List ℕ}
              → (rows' ≡ ready.rows_garbled K round circuit file draw) × (outs' ≡ ready.masks_garbled K round circuit file draw)
              → totals' ≡ charged meter count → Ends round accepts rows' outs' totals'
          unfolding pair_garble_rows pair_garble_masks pair_garble_meter
          garble-written {round} w r =
              let a : fate ≡ accepts = sym met ∙ e in
              record {
                answer = reports (sym a);
                rows_is = w.0 ∙ ap (λ (v : List Wire). pair_rows (shake_pad round) K file v draw) read.holds.wires ∙ sym (afterwards_passed a _ rows);
                masks_is =
                    w.1
                    ∙ ap₂ (λ (v : List Wire) (o : List ℕ). pair_masks (shake_pad round) K file v draw o) read.holds.wires read.holds.outputs
                    ∙ sym (afterwards_passed a _ outs);
                meter_is = r ∙ ap (charged meter) rows_are ∙ sym (afterwards_passed a _ meter.totals);
              }
