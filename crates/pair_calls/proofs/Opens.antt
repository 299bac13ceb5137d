-- Opening as a call: the checks after reading, what acceptance hands on, and how the call ends.
-- Assumes nothing.
use mathlib.Core.Path.{◌≡◌, refl, sym, ap, ap₂, subst, ◌∙◌}
use mathlib.Core.List.{List, [], ◌∷◌}
use Prim.Native.Nat.{ℕ, ◌*◌}
use lib.ListN.{length}
use Rattle.checks.specs.declared.Refusal.{Refusal}
use Rattle.checks.specs.Answer.{Answer, number_in, place_in, accepts}
use Rattle.checks.specs.Checked.{and_then}
use Rattle.checks.proofs.Passed.{and_then-left, and_then-right, afterwards_passed}
use Rattle.checks.proofs.Answers.{and_then_stop, afterwards-refused, reports}
use Rattle.words.specs.declared.gate.Wire.{Wire}
use Rattle.circuit.specs.declared.Circuit.{Circuit}
use Rattle.circuit.specs.File.{read_file}
use Rattle.circuit.specs.Held.{wires_in, Holds}
use Rattle.counts.specs.Counts.{Counts}
use Rattle.pads.specs.Pad.{shake_pad}
use Rattle.scheme.specs.Bytes.{keys_checked, counted_rows_checked}
use Rattle.session.specs.Session.{session_checked, owners_checked, lengths_checked}
use Rattle.session.proofs.Circuits.{held_of, made-is}
use Rattle.party_calls.proofs.Ending.{lent_is, circuit-accepted}
use Rattle.pair.specs.Count.{pair_rows_of, pair_rows_in}
use Rattle.pair.specs.Bytes.{pair_file_checked, pair_bytes_checked}
use Rattle.pair.specs.Opening.{pair_wire_keys, pair_wire_externals}
use Rattle.pair.specs.Open.{pair_open_lengths, pair_open_lent, pair_open_asked, pair_open_checked, pair_open_keys, pair_open_externals, PairOpenCall}
use Rattle.pair_opening.specs.Given.{Given}
use Rattle.pair_calls.specs.Lent.{Ranged, OpenLent, open_owned}
use Rattle.pair_calls.proofs.Shared.{two_behind, ranged}
use Rattle.pair_calls.specs.Counted.{ReadsForTwo}
use Rattle.std.specs.Prelude.{Err}
use Rattle.checks.specs.declared.Refused.{Refused}

-- ---- 14, and then 18

four_same : {a b c d x y z t : ℕ} → a ≡ x → b ≡ y → c ≡ z → d ≡ t → ◌≡◌ {A = List ℕ} (a ∷ b ∷ c ∷ d ∷ []) (x ∷ y ∷ z ∷ t ∷ [])
four_same e f g h = rw (e, f, g, h)

module _ {circuit : Circuit} {K : ℕ} (range : Ranged circuit K) (keys rows : List ℕ) (wkeys wexternals : ℕ) where
  abbrev lent : List ℕ
  lent = length keys ∷ length rows ∷ wkeys ∷ wexternals ∷ []

  abbrev lengths : Answer
  lengths = pair_open_lengths K (wires_in circuit) keys rows wkeys wexternals

  pub lengths_met : {raw : ℕ} → Counts 520192 (pair_rows_in (wires_in circuit)) raw → {answer : Answer}
      → answer ≡ lengths_checked (length keys ∷ length rows ∷ wkeys ∷ wexternals ∷ []) (circuit.inputs * K ∷ raw * K ∷ circuit.made * K ∷ circuit.made ∷ [])
      → answer ≡ lengths
  lengths_met c m =
      m
      ∙ ap (lengths_checked lent)
      (four_same (ap (λ (a : ℕ). a * K) range.held.inputs) (ap (λ (a : ℕ). a * K) c.is)
      (ap (λ (a : ℕ). a * K) (sym (made-is range.held))) (sym (made-is range.held)))

  pub open_lent : {answer : Answer} → answer ≡ lengths → answer ≡ accepts → OpenLent circuit K keys rows
  open_lent m e = let same = lent_is _ _ (sym m ∙ e) in record { ranged = range; keys_length = same 0; rows_length = same 1 }

-- ---- the whole call

module _ (file : List ℕ) (K : ℕ) (keys rows wkeys wexternals : List ℕ) where
  abbrev fate : Answer
  fate = pair_open_checked file K keys rows wkeys wexternals

  abbrev Ends : ℕ → Answer → List ℕ → List ℕ → Type 0
  Ends round a = PairOpenCall file K round keys rows wkeys wexternals (number_in a) (place_in a)

  refused_call : {round : ℕ} {answer : Answer} {why : Refused} → answer ≡ Err why → Err why ≡ fate → Ends round answer wkeys wexternals
  unfolding pair_open_keys pair_open_externals
  refused_call e m =
      record { answer = reports (e ∙ m); wire_keys_is = afterwards-refused (sym m) _ wkeys; wire_externals_is = afterwards-refused (sym m) _ wexternals }

  abbrev asked_read : Answer
  asked_read = pair_open_asked K (read_file file).wires keys rows (length wkeys) (length wexternals)

  pub open_unread : {round : ℕ} {answer : Answer} {why : Refused} → answer ≡ Err why → pair_file_checked file ≡ Err why → Ends round answer wkeys wexternals
  unfolding pair_open_checked
  open_unread e r = refused_call e (and_then_stop asked_read r)

  module _ {circuit : Circuit} (read : ReadsForTwo file circuit) {check : Answer}
      (checked : check ≡ pair_open_asked K (wires_in circuit) keys rows (length wkeys) (length wexternals)) where
    abbrev wires : List Wire
    wires = wires_in circuit

    met : check ≡ fate
    unfolding pair_open_checked
    met =
        two_behind file asked_read read
        (checked ∙ ap (λ (w : List Wire). pair_open_asked K w keys rows (length wkeys) (length wexternals)) read.holds.wires)

    pub open_refused : {round : ℕ} {answer : Answer} {why : Refused} → answer ≡ Err why → check ≡ Err why → Ends round answer wkeys wexternals
    open_refused e k = refused_call e (sym k ∙ met)

    module _ (e : check ≡ accepts) where
      abbrev owned : Answer
      owned = open_owned K wires keys rows (length wkeys) (length wexternals)

      abbrev sizes : Answer
      sizes = pair_open_lengths K wires keys rows (length wkeys) (length wexternals)

      all : and_then (session_checked 2 K) owned ≡ accepts
      all = sym checked ∙ e

      lent_passed : pair_open_lent K wires keys rows (length wkeys) (length wexternals) ≡ accepts
      lent_passed =
          and_then-right (owners_checked 2 wires) (pair_open_lent K wires keys rows (length wkeys) (length wexternals)) (and_then-right (session_checked 2 K) owned all)

      sizes_passed : sizes ≡ accepts
      sizes_passed = and_then-left sizes (pair_bytes_checked K wires keys rows) lent_passed

      bytes_passed : pair_bytes_checked K wires keys rows ≡ accepts
      bytes_passed = and_then-right sizes (pair_bytes_checked K wires keys rows) lent_passed

      range : Ranged circuit K
      range = ranged K (held_of read.holds) (and_then-left (session_checked 2 K) owned all)

      pub open_given : Given circuit K keys rows
      open_given =
          record {
            file = file;
            held = held_of read.holds;
            accepted = circuit-accepted file read.holds;
            long = range.long;
            short = range.short;
            keys_size = lent_is _ _ sizes_passed 0;
            rows_size = lent_is _ _ sizes_passed 1;
            keys_below = and_then-left (keys_checked 1 K wires keys) (counted_rows_checked 1 K wires (pair_rows_of wires) rows) bytes_passed;
            rows_below = and_then-right (keys_checked 1 K wires keys) (counted_rows_checked 1 K wires (pair_rows_of wires) rows) bytes_passed;
          }

      pub open_room : (length wkeys ≡ circuit.made * K) × (length wexternals ≡ circuit.made)
      open_room = (lent_is _ _ sizes_passed 2 ∙ ap (λ (a : ℕ). a * K) (made-is (held_of read.holds)), lent_is _ _ sizes_passed 3 ∙ made-is (held_of read.holds))

      pub open_written : {round : ℕ} {wkeys' wexternals' : List ℕ}
          → (wkeys' ≡ pair_wire_keys (shake_pad round) K (wires_in circuit) keys rows)
          × (wexternals' ≡ pair_wire_externals (shake_pad round) K (wires_in circuit) keys rows) → Ends round accepts wkeys' wexternals'
      unfolding pair_open_keys pair_open_externals
      open_written {round} w =
          let a : fate ≡ accepts = sym met ∙ e in
          record {
            answer = reports (sym a);
            wire_keys_is = w.0 ∙ ap (λ (v : List Wire). pair_wire_keys (shake_pad round) K v keys rows) read.holds.wires ∙ sym (afterwards_passed a _ wkeys);
            wire_externals_is =
                w.1 ∙ ap (λ (v : List Wire). pair_wire_externals (shake_pad round) K v keys rows) read.holds.wires ∙ sym (afterwards_passed a _ wexternals);
          }
