-- Decoding: the check of the bytes, the loop that writes the results, how what comes behind earlier checks ends, and the whole call.
-- Assumes nothing.
use mathlib.Core.Path.{◌≡◌, refl, sym, ap, ap₂, ◌∙◌}
use mathlib.Core.Bool.{Bool, true, false, ◌&&◌, ◌||◌, cond}
use mathlib.Core.List.{List, [], ◌∷◌, ◌++◌}
use Prim.Native.Nat.{ℕ, max, ◌+◌, ◌-◌, ◌≤◌, ◌<◌}
use native.Mathlib.Nat.{le-max_left, le-max_right, le_trans}
use native.Mathlib.Omega.{arith}
use borrow.Author.Tests.{lt-ltb, leb-false}
use lib.Dec.{ltb}
use lib.ListN.{length, get_or, set, replicate}
use lib.Seq.{get_or-take}
use Rattle.lists.proofs.Blocks.{length-tab, get_or-tab}
use Rattle.lists.proofs.Filled.{Filled, filled_start, filled_step, filled_whole}
use Rattle.residue.specs.Residue.{sub}
use Rattle.checks.specs.declared.Refusal.TheVariants.{ValueTooLarge}
use Rattle.checks.specs.Answer.{Answer, number_in, place_in, accepts}
use Rattle.checks.specs.Checked.{Reports, afterwards}
use Rattle.checks.proofs.Answers.{afterwards-refused, reports}
use Rattle.checks.proofs.Passed.{and_then-left, and_then-right, none_bad_none, afterwards_passed}
use Rattle.words.specs.declared.gate.Wire.{Wire}
use Rattle.circuit.specs.declared.Circuit.{Circuit}
use Rattle.circuit.specs.Wires.{modulus_at, moduli_of}
use Rattle.circuit.specs.Named.{may_read, readable}
use Rattle.circuit.specs.File.{read_file}
use Rattle.circuit.specs.Held.{wires_in, outputs_in, named_in, Held, Holds}
use Rattle.session.specs.Session.{lengths_checked, too_large}
use Rattle.session.proofs.Circuits.{held_of, made-is, given_is}
use Rattle.calls.specs.Decode.{decode_asked, decode_made, decode_checked, decode_after, DecodeCall}
use Rattle.party_calls.specs.Tables.{Front}
use Rattle.party_calls.specs.Either.{either_checked}
use Rattle.party_calls.specs.Decoding.{bytes_by, lent_by, made_by, Masked, Decodes, Ready, Decoded}
use Rattle.party_calls.proofs.TableLoops.{front-moduli}
use Rattle.party_calls.proofs.TwoBuffers.{either_is}
use Rattle.party_calls.proofs.Ending.{lent_is, fails_left, fails_right, fails_guarded, circuit-accepted, unread, behind_file, ends-refused}
use Rattle.std.specs.Prelude.{Err}
use Rattle.checks.specs.declared.Refused.{Refused}

-- whom an output names, in the array and at its front
readable-front : (circuit : Circuit) (party i : ℕ) → i < circuit.given → readable circuit.named party i ≡ readable (named_in circuit) party i
readable-front circuit party i h = ap (λ (parties : ℕ). may_read parties party) (sym (get_or-take circuit.given circuit.named i 0 h))

-- ---- 15

pub masks_met : {circuit : Circuit} (party : ℕ) {externals masks table outputs : List ℕ} {answer : Answer} → Masked circuit externals masks
    → table ≡ moduli_of (wires_in circuit) ++ replicate (1024 - circuit.made) 0
    → Front 1024 circuit.given (λ i. modulus_at (wires_in circuit) (get_or (outputs_in circuit) i 0)) outputs
    → answer ≡ either_checked externals table masks outputs circuit.named party → answer ≡ bytes_by circuit party externals masks
masks_met {circuit} party {externals} {masks} {table} {outputs} r e f m =
    m
    ∙ either_is externals table masks outputs circuit.named party (length (wires_in circuit)) (length (outputs_in circuit)) (modulus_at (wires_in circuit))
    (λ i. modulus_at (wires_in circuit) (get_or (outputs_in circuit) i 0))
    (readable (named_in circuit) party)
    (r.externals_size ∙ sym (made-is r.held))
    (r.masks_size ∙ sym (given_is r.held))
    (λ i _. front-moduli r.held.room e i)
    (λ i l. f.entry i (omega (arith, given_is r.held)))
    (λ i l. readable-front circuit party i (omega (arith, given_is r.held)))

-- ---- 14, and then 15

module _ {circuit : Circuit} (held : Held circuit) (party : ℕ) (externals masks : List ℕ) (bytes : ℕ) {answer : Answer}
    (m : answer ≡ lengths_checked (length externals ∷ length masks ∷ bytes ∷ []) (circuit.made ∷ circuit.given ∷ circuit.given ∷ [])) where
  abbrev wanted : List ℕ
  wanted = length (wires_in circuit) ∷ length (outputs_in circuit) ∷ length (outputs_in circuit) ∷ []

  pub decode-lengths : answer ≡ lengths_checked (length externals ∷ length masks ∷ bytes ∷ []) wanted
  decode-lengths =
      m ∙ ap (lengths_checked (length externals ∷ length masks ∷ bytes ∷ [])) (ap₂ (λ (a b : ℕ). a ∷ b ∷ b ∷ []) (sym (made-is held)) (sym (given_is held)))

  pub lent-masked : answer ≡ accepts → Masked circuit externals masks
  lent-masked e =
      let same = lent_is _ _ (sym m ∙ e) in record { held = held; externals_size = same 0; masks_size = same 1 }

-- ---- the results

module _ {circuit : Circuit} {party : ℕ} {externals masks : List ℕ} {bytes : ℕ} (d : Decodes circuit party externals masks bytes) where
  abbrev ws : List Wire
  ws = wires_in circuit

  abbrev os : List ℕ
  os = outputs_in circuit

  abbrev made : List ℕ
  made = made_by circuit party externals masks

  abbrev result : ℕ → ℕ
  result i = cond (readable (named_in circuit) party i) (sub (modulus_at ws (get_or os i 0)) (get_or externals (get_or os i 0) 0) (get_or masks i 0)) 255

  abbrev table_of : List ℕ → Type 0
  table_of table = Front 1024 circuit.given (λ i. modulus_at ws (get_or os i 0)) table

  long : length os ≡ circuit.given
  long = given_is d.masked.held

  pub decode_start : {out₀ : List ℕ} → length out₀ ≡ bytes → Filled out₀ 0 circuit.given made out₀
  decode_start e = filled_start (length-tab (length os) result ∙ long) (omega (arith, d.size))

  module _ {i at : ℕ} (h : i < circuit.given) (e : at ≡ get_or circuit.outputs i 0) where
    output_is : at ≡ get_or os i 0
    output_is = e ∙ sym (get_or-take circuit.given circuit.outputs i 0 h)

    pub decode-held : at < length externals
    decode-held = omega (arith, d.made i h, d.masked.externals_size, output_is)

    module _ {may : Bool} (k : may ≡ readable circuit.named party i) where
      may_is : may ≡ readable (named_in circuit) party i
      may_is = k ∙ readable-front circuit party i h

      pub decode-operands : {table : List ℕ} → table_of table → (get_or externals at 0 < get_or table i 0) × (may ≡ true → get_or masks i 0 < get_or table i 0)
      decode-operands t =
          (rw (t.entry i h, output_is) (d.external (get_or os i 0) (d.made i h)), λ m. rw (t.entry i h) (d.mask i h (sym may_is ∙ m)))

      pub decode-step : {out₀ out table : List ℕ} {v : ℕ} → Filled out₀ i circuit.given made out → table_of table
          → v ≡ cond may (sub (get_or table i 0) (get_or externals at 0) (get_or masks i 0)) 255 → Filled out₀ (i + 1) circuit.given made (set out i v)
      decode-step {out₀} {out} {table} {v} r t j =
          filled_step r h
          (get_or-tab (length os) result i 0 (omega (arith, long))
          ∙ sym (j ∙ ap (λ (b : Bool). cond b (sub (get_or table i 0) (get_or externals at 0) (get_or masks i 0)) 255) may_is
          ∙ ap₂ (λ (p o : ℕ). cond (readable (named_in circuit) party i) (sub p (get_or externals o 0) (get_or masks i 0)) 255) (t.entry i h) output_is))

  pub decode-done : {out₀ out : List ℕ} {i : ℕ} → Filled out₀ i circuit.given made out → length out₀ ≡ bytes → circuit.given ≤ i → out ≡ made
  decode-done r e h = filled_whole r (omega (arith, d.size))

-- ---- behind earlier checks

module _ (circuit : Circuit) (party : ℕ) (externals masks before : List ℕ) {check : Answer}
    (checked : check ≡ lent_by circuit party externals masks (length before)) where
  abbrev wires : List Wire
  wires = wires_in circuit

  abbrev outputs : List ℕ
  outputs = outputs_in circuit

  abbrev may : ℕ → Bool
  may = readable (named_in circuit) party

  pub behind_refused : {answer : Answer} {why : Refused} → answer ≡ Err why → check ≡ Err why → Decoded circuit party externals masks before answer before
  behind_refused e r =
      record { answer_is = e ∙ sym r ∙ checked; results_is = afterwards-refused e (made_by circuit party externals masks) before }

  module _ (e : check ≡ accepts) where
    all : lent_by circuit party externals masks (length before) ≡ accepts
    all = sym checked ∙ e

    abbrev lengths : Answer
    lengths = lengths_checked (length externals ∷ length masks ∷ length before ∷ []) (length wires ∷ length outputs ∷ length outputs ∷ [])

    lengths_passed : lengths ≡ accepts
    lengths_passed = and_then-left lengths (bytes_by circuit party externals masks) all

    abbrev left : ℕ → Bool
    left i = ltb i (length wires) && too_large externals (modulus_at wires) i

    abbrev large : ℕ → Bool
    large = too_large masks (λ j. modulus_at wires (get_or outputs j 0))

    abbrev right : ℕ → Bool
    right i = ltb i (length outputs) && (may i && large i)

    fine : (i : ℕ) → i < max (length wires) (length outputs) → (left i || right i) ≡ false
    fine = none_bad_none (max (length wires) (length outputs)) (λ i. left i || right i) ValueTooLarge (and_then-right lengths (bytes_by circuit party externals masks) all)

    external_small : (w : ℕ) → w < length wires → get_or externals w 0 < modulus_at wires w
    external_small w l =
        leb-false (modulus_at wires w) (get_or externals w 0)
        (fails_guarded (ltb w (length wires)) (too_large externals (modulus_at wires) w) (lt-ltb w (length wires) l)
        (fails_left (left w) (right w) (fine w (le_trans l (le-max_left (length wires) (length outputs))))))

    mask-small : (i : ℕ) → i < length outputs → may i ≡ true → get_or masks i 0 < modulus_at wires (get_or outputs i 0)
    mask-small i l m =
        leb-false (modulus_at wires (get_or outputs i 0)) (get_or masks i 0)
        (fails_guarded (may i) (large i) m
        (fails_guarded (ltb i (length outputs)) (may i && large i) (lt-ltb i (length outputs) l)
        (fails_right (left i) (right i) (fine i (le_trans l (le-max_right (length wires) (length outputs)))))))

    pub decodes_of : Ready circuit → Decodes circuit party externals masks (length before)
    decodes_of ready =
        let held : Held circuit = ready.held in
        record {
          masked = record { held = held; externals_size = lent_is _ _ lengths_passed 0 ∙ made-is held; masks_size = lent_is _ _ lengths_passed 1 ∙ given_is held };
          size = lent_is _ _ lengths_passed 2 ∙ given_is held;
          made = ready.made;
          external = λ w l. external_small w (omega (arith, made-is held));
          mask = λ i l m. mask-small i (omega (arith, given_is held)) m;
        }

    pub behind_written : {out : List ℕ} → out ≡ made_by circuit party externals masks → Decoded circuit party externals masks before accepts out
    behind_written o = record { answer_is = sym all; results_is = o ∙ sym (afterwards_passed refl (made_by circuit party externals masks) before) }

-- .. and what it comes to, under the call's own definitions
pub behind_as : {circuit : Circuit} {party : ℕ} {externals masks before : List ℕ} {answer : Answer} {out : List ℕ}
    → Decoded circuit party externals masks before answer out → {checks : Answer} {made : List ℕ}
    → lent_by circuit party externals masks (length before) ≡ checks → made_by circuit party externals masks ≡ made
    → Reports checks (number_in answer) (place_in answer) × (out ≡ afterwards checks made before)
behind_as {before = before} d c m = (reports (d.answer_is ∙ c), d.results_is ∙ ap₂ (λ (a : Answer) (l : List ℕ). afterwards a l before) (d.answer_is ∙ c) m)

-- an accepted file has outputs that are wires
pub ready_of : {circuit : Circuit} (file : List ℕ) → Holds circuit (read_file file) → Ready circuit
ready_of file h =
    record {
      held = held_of h;
      made = λ i l. omega (arith, (circuit-accepted file h).outputs_made i (omega (arith, given_is (held_of h))), made-is (held_of h));
    }

-- ---- the whole call: 1 to 10, 11, 12, 13 and 28, and then those

module _ (file : List ℕ) (n party : ℕ) (externals masks before : List ℕ) where
  -- on some wires, outputs and names
  abbrev asked : List Wire → List ℕ → List ℕ → Answer
  asked w o s = decode_asked w o (readable s party) externals masks s n party (length before)

  -- refused
  decode_stopped : {answer : Answer} {why : Refused} → answer ≡ Err why → Err why ≡ decode_checked file n party externals masks before
      → DecodeCall file n party externals masks before (number_in answer) (place_in answer) before
  unfolding decode_after
  decode_stopped e m =
      let d = ends-refused (decode_made (read_file file).wires (read_file file).outputs (readable (read_file file).named party) externals masks) before e m in
      record { answer = d.0; results_is = d.1 }

  -- .. by the reader
  pub decode_unread : {answer : Answer} {why : Refused} → answer ≡ Err why → (read_file file).answer ≡ Err why
      → DecodeCall file n party externals masks before (number_in answer) (place_in answer) before
  unfolding decode_checked
  decode_unread e r = decode_stopped e (unread file (asked (read_file file).wires (read_file file).outputs (read_file file).named) r)

  module _ {circuit : Circuit} (h : Holds circuit (read_file file)) where
    -- on the file's wires, outputs and names
    same : {X : Type 0} (by : List Wire → List ℕ → List ℕ → X) → by (wires_in circuit) (outputs_in circuit) (named_in circuit) ≡ by (read_file file).wires (read_file file).outputs (read_file file).named
    same by =
        ap₂ (λ (w : List Wire) (o : List ℕ). by w o (named_in circuit)) h.wires h.outputs
        ∙ ap (by (read_file file).wires (read_file file).outputs) h.named

    met : {check : Answer} → check ≡ asked (wires_in circuit) (outputs_in circuit) (named_in circuit) → check ≡ decode_checked file n party externals masks before
    unfolding decode_checked
    met m = behind_file file (asked (read_file file).wires (read_file file).outputs (read_file file).named) h (m ∙ same asked)

    -- .. by what comes behind it
    pub decode-refused : {answer : Answer} {why : Refused} → answer ≡ Err why → Err why ≡ asked (wires_in circuit) (outputs_in circuit) (named_in circuit)
        → DecodeCall file n party externals masks before (number_in answer) (place_in answer) before
    decode-refused e m = decode_stopped e (met m)

    pub decode_call : {answer : Answer} {out : List ℕ} → Decoded circuit party externals masks before answer out
        → lent_by circuit party externals masks (length before) ≡ asked (wires_in circuit) (outputs_in circuit) (named_in circuit)
        → DecodeCall file n party externals masks before (number_in answer) (place_in answer) out
    unfolding decode_after
    decode_call d m =
        let e = behind_as d (met m) (same (λ w o s. decode_made w o (readable s party) externals masks)) in
        record { answer = e.0; results_is = e.1 }
