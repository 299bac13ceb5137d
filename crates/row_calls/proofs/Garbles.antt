-- Garbling as a call: the checks after reading, what acceptance hands on, and how the call ends.
-- Assumes nothing.
use mathlib.Core.Path.{◌≡◌, sym, ap, ap₂, ◌∙◌}
use mathlib.Core.List.{List, [], ◌∷◌}
use Prim.Native.Nat.{ℕ, ◌*◌, ◌≤◌, ◌<◌}
use native.Mathlib.Omega.{arith}
use lib.ListN.{length}
use Rattle.checks.specs.declared.Refusal.{Refusal}
use Rattle.checks.specs.Answer.{Answer, number_in, place_in, accepts}
use Rattle.checks.specs.Checked.{and_then}
use Rattle.checks.proofs.Passed.{and_then-left, and_then-right, afterwards_passed}
use Rattle.checks.proofs.Answers.{and_then_stop, stage_passed, stage_refused, afterwards-refused, reports}
use Rattle.words.specs.declared.gate.Wire.{Wire}
use Rattle.circuit.specs.declared.Circuit.{Circuit}
use Rattle.circuit.specs.Wires.{inputs_in}
use Rattle.circuit.specs.File.{read_file}
use Rattle.circuit.specs.Held.{wires_in, outputs_in, named_in, Held, Holds}
use Rattle.counts.specs.Counts.{rows_in, Counts}
use Rattle.pads.specs.Pad.{shake_pad}
use Rattle.scheme.specs.Contribution.{contribution_size}
use Rattle.scheme.specs.Draw.{Draw, drawn}
use Rattle.scheme.specs.Rows.{garbled_rows, input_masks, output_sheets}
use Rattle.session.specs.Session.{file_checked, session_checked, partakers_checked, lengths_checked}
use Rattle.session.proofs.Sessions.{SessionFits, session-fits}
use Rattle.session.proofs.Circuits.{held_of, given_is}
use Rattle.meter.specs.Meter.{accounts, Charge, account_checked, HasSpace, meter_checked, charged}
use Rattle.meter.proofs.Totals.{passed_account, passed_space}
use Rattle.calls.specs.Garble.{garble_bytes, garble_named, garble_lengths, garble_lent, garble_owned, garble_asked, garble_checked, garble_rows, garble_input_masks, garble_output_masks, garble_meter, GarbleCall}
use Rattle.row_calls.specs.Garbled.{Draws}
use Rattle.zero.specs.Ready.{Contributed, drawn_in}
use Rattle.party_calls.proofs.Ending.{lent_is, circuit-accepted, behind_file}
use Rattle.std.specs.Prelude.{Err}
use Rattle.checks.specs.declared.Refused.{Refused}

-- ---- 14, and then 25, 16 and 17

four_same : {a b c d x y z t : ℕ} → a ≡ x → b ≡ y → c ≡ z → d ≡ t → ◌≡◌ {A = List ℕ} (a ∷ b ∷ c ∷ d ∷ []) (x ∷ y ∷ z ∷ t ∷ [])
four_same e f g h = rw (e, f, g, h)

module _ {circuit : Circuit} (held : Held circuit) (n K : ℕ) (contributions : List ℕ) (rows masks outs : ℕ) where
  abbrev ws : List Wire
  ws = wires_in circuit

  abbrev lent : List ℕ
  lent = length contributions ∷ rows ∷ masks ∷ outs ∷ []

  abbrev lengths : Answer
  lengths = garble_lengths n K (wires_in circuit) (outputs_in circuit) contributions rows masks outs

  abbrev rest : ℕ → ℕ → ℕ → Answer
  rest a b account = garble_named a b (wires_in circuit) contributions account

  pub lengths_met : {size raw : ℕ} → Counts 429056 (contribution_size K (wires_in circuit)) size → Counts 524288 (rows_in (wires_in circuit)) raw
      → {answer : Answer} → answer ≡ lengths_checked lent (n * size ∷ raw * (n * K) ∷ circuit.inputs ∷ n * circuit.given ∷ []) → answer ≡ lengths
  lengths_met s c m =
      m
      ∙ ap (lengths_checked lent)
      (four_same (ap (λ (a : ℕ). n * a) s.is) (ap (λ (a : ℕ). a * (n * K)) c.is) held.inputs (ap (λ (a : ℕ). n * a) (sym (given_is held))))

  pub draws_lent : {answer : Answer} → answer ≡ lengths → n ≤ 8 → K ≤ 128 → answer ≡ accepts → Draws circuit n K contributions
  draws_lent m few most e = record { held = held; parties = few; most = most; size = lent_is _ _ (sym m ∙ e) 0 }

-- ---- 11

module _ (n K : ℕ) {session : Answer} (m : session ≡ session_checked n K) where
  pub session_in_range : session ≡ accepts → (n ≤ 8) × (K ≤ 128)
  session_in_range e = let f = session-fits n K (sym m ∙ e) in (f.parties.most, f.most)

-- ---- the whole call

module _ (file : List ℕ) (n K : ℕ) (contributions rows masks outs : List ℕ) (meter : Charge) where
  abbrev fate : Answer
  fate = garble_checked file n K contributions rows masks outs meter

  abbrev Ends : ℕ → Answer → List ℕ → List ℕ → List ℕ → List ℕ → Type 0
  Ends round a = GarbleCall file n K round contributions rows masks outs meter (number_in a) (place_in a)

  refused_call : {round : ℕ} {answer : Answer} {why : Refused} → answer ≡ Err why → Err why ≡ fate → Ends round answer rows masks outs meter.totals
  unfolding garble_rows garble_input_masks garble_output_masks garble_meter
  refused_call e m =
      record {
        answer = reports (e ∙ m);
        rows_is = afterwards-refused (sym m) _ rows;
        input_masks_is = afterwards-refused (sym m) _ masks;
        output_masks_is = afterwards-refused (sym m) _ outs;
        meter_is = afterwards-refused (sym m) _ meter.totals;
      }

  -- the checks between the reader's and the meter's, on the circuit that was read
  abbrev asked_read : Answer
  asked_read =
      garble_asked n K (read_file file).wires (read_file file).outputs contributions (read_file file).named (length rows) (length masks) (length outs) meter.account

  pub garble_unread : {round : ℕ} {answer : Answer} {why : Refused} → answer ≡ Err why → (read_file file).answer ≡ Err why
      → Ends round answer rows masks outs meter.totals
  unfolding garble_checked
  garble_unread e r = refused_call e (and_then_stop _ (sym (and_then_stop asked_read r)))

  module _ {circuit : Circuit} (h : Holds circuit (read_file file)) {check : Answer}
      (checked : check ≡ garble_asked n K (wires_in circuit) (outputs_in circuit) contributions (named_in circuit) (length rows) (length masks) (length outs) meter.account) where
    abbrev wires : List Wire
    wires = wires_in circuit

    abbrev outputs : List ℕ
    outputs = outputs_in circuit

    abbrev named : List ℕ
    named = named_in circuit

    earlier : check ≡ and_then (file_checked file) asked_read
    earlier =
        behind_file file asked_read h
        (checked
        ∙ ap₂ (λ (w : List Wire) (o : List ℕ). garble_asked n K w o contributions named (length rows) (length masks) (length outs) meter.account) h.wires h.outputs
        ∙ ap (λ (x : List ℕ). garble_asked n K (read_file file).wires (read_file file).outputs contributions x (length rows) (length masks) (length outs) meter.account) h.named)

    pub garble-refused : {round : ℕ} {answer : Answer} {why : Refused} → answer ≡ Err why → check ≡ Err why → Ends round answer rows masks outs meter.totals
    unfolding garble_checked
    garble-refused e k = refused_call e (stage_refused earlier _ k)

    module _ (k : check ≡ accepts) where
      abbrev buffers : Answer
      buffers = garble_lent n K wires outputs contributions (length rows) (length masks) (length outs) meter.account

      all : and_then (session_checked n K) (and_then (partakers_checked n wires named) buffers) ≡ accepts
      all = sym checked ∙ k

      fits : SessionFits n K
      fits = session-fits n K (and_then-left (session_checked n K) (and_then (partakers_checked n wires named) buffers) all)

      buffers_passed : buffers ≡ accepts
      buffers_passed = and_then-right (partakers_checked n wires named) buffers (and_then-right (session_checked n K) (and_then (partakers_checked n wires named) buffers) all)

      abbrev sizes : Answer
      sizes = garble_lengths n K wires outputs contributions (length rows) (length masks) (length outs)

      abbrev paid : Answer
      paid = garble_named n K wires contributions meter.account

      lengths_passed : sizes ≡ accepts
      lengths_passed = and_then-left sizes paid buffers_passed

      pub garble-account : meter.account < accounts
      garble-account =
          passed_account meter.account
          (and_then-left (account_checked meter.account) (garble_bytes n K wires contributions) (and_then-right sizes paid buffers_passed))

      pub garble-most : K ≤ 128
      garble-most = fits.most

      pub garble_contributed : {size : ℕ} → Counts 429056 (contribution_size K (wires_in circuit)) size → Contributed file circuit n K size contributions
      garble_contributed {size} s =
          record {
            held = held_of h;
            accepted = circuit-accepted file h;
            sizes = record { some = omega (arith, fits.parties.least); parties = fits.parties.most; long = fits.least; short = fits.most };
            each = s.is;
            all = lent_is _ _ lengths_passed 0 ∙ ap (λ (b : ℕ). n * b) (sym s.is);
          }

      pub garble-room : (length rows ≡ rows_in (wires_in circuit) * (n * K)) × ((length masks ≡ inputs_in (wires_in circuit)) × (length outs ≡ n * length (outputs_in circuit)))
      garble-room = (lent_is _ _ lengths_passed 1, (lent_is _ _ lengths_passed 2, lent_is _ _ lengths_passed 3))

      module _ {space : Answer} {count : ℕ} (counted : Counts 524288 (rows_in (wires_in circuit)) count) (spaced : space ≡ meter_checked meter count) where
        rows_are : count ≡ rows_in (read_file file).wires
        rows_are = counted.is ∙ ap rows_in h.wires

        met : space ≡ fate
        unfolding garble_checked
        met = stage_passed earlier k (spaced ∙ ap (meter_checked meter) rows_are)

        pub garble_full : {round : ℕ} {answer : Answer} {why : Refused} → answer ≡ Err why → space ≡ Err why → Ends round answer rows masks outs meter.totals
        garble_full e f = refused_call e (sym f ∙ met)

        module _ (e : space ≡ accepts) where
          pub garble-space : HasSpace meter count
          garble-space = passed_space meter count (sym spaced ∙ e)

          drawn_is : drawn_in circuit n K contributions ≡ drawn n K (read_file file).wires contributions
          drawn_is = ap (λ (w : List Wire). drawn n K w contributions) h.wires

          pub garble-written : {round : ℕ} {rows' masks' outs' : List ℕ} {totals' : List ℕ}
              → (rows' ≡ garbled_rows (shake_pad round) n K file (wires_in circuit) (drawn_in circuit n K contributions))
              × ((masks' ≡ input_masks (wires_in circuit) (drawn_in circuit n K contributions))
              × (outs' ≡ output_sheets (wires_in circuit) (outputs_in circuit) (named_in circuit) (drawn_in circuit n K contributions) n))
              → totals' ≡ charged meter count → Ends round accepts rows' masks' outs' totals'
          unfolding garble_rows garble_input_masks garble_output_masks garble_meter
          garble-written {round} {rows'} {masks'} {outs'} {totals'} w r =
              let a : fate ≡ accepts = sym met ∙ e in
              record {
                answer = reports (sym a);
                rows_is =
                    w.0
                    ∙ ap₂ (λ (v : List Wire) (d : Draw). garbled_rows (shake_pad round) n K file v d) h.wires drawn_is
                    ∙ sym (afterwards_passed a _ rows);
                input_masks_is = w.1.0 ∙ ap₂ (λ (v : List Wire) (d : Draw). input_masks v d) h.wires drawn_is ∙ sym (afterwards_passed a _ masks);
                output_masks_is =
                    w.1.1
                    ∙ ap₂ (λ (o x : List ℕ). output_sheets wires o x (drawn_in circuit n K contributions) n) h.outputs h.named
                    ∙ ap₂ (λ (v : List Wire) (d : Draw). output_sheets v (read_file file).outputs (read_file file).named d n) h.wires drawn_is
                    ∙ sym (afterwards_passed a _ outs);
                meter_is = r ∙ ap (charged meter) rows_are ∙ sym (afterwards_passed a _ meter.totals);
              }
