-- The external values of a party's own inputs: the checks after reading, the loop that writes them, and how the call ends.
-- Assumes nothing.
use mathlib.Core.Path.{◌≡◌, sym, ap, ap₂, ◌∙◌}
use mathlib.Core.Bool.{Bool, true, false, ◌||◌}
use mathlib.Core.List.{List, [], ◌∷◌}
use Prim.Native.Nat.{ℕ, ◌+◌, ◌≤◌, ◌<◌}
use native.Mathlib.Nat.{mul-one, le_refl}
use native.Mathlib.Omega.{arith}
use borrow.Author.Tests.{leb-false}
use lib.ListN.{length, get_or, set, replicate}
use lib.Seq.{length-take-le}
use Rattle.lists.specs.Blocks.{tab}
use Rattle.lists.proofs.Blocks.{length-tab, get_or-tab, tab_ext}
use Rattle.lists.proofs.Sums.{sum_to-below}
use Rattle.lists.proofs.Filled.{Filled, filled_start, filled_step, filled_whole}
use Rattle.residue.specs.Residue.{add}
use Rattle.checks.specs.declared.Refusal.TheVariants.{ValueTooLarge}
use Rattle.checks.specs.Answer.{Answer, number_in, place_in, accepts}
use Rattle.checks.specs.Checked.{and_then}
use Rattle.checks.proofs.Passed.{and_then-left, and_then-right, none_bad_none}
use Rattle.words.specs.declared.gate.Wire.{Wire}
use Rattle.circuit.specs.declared.Circuit.{Circuit}
use Rattle.circuit.specs.Wires.{wire_at, modulus_at}
use Rattle.circuit.specs.File.{read_file}
use Rattle.circuit.specs.Held.{wires_in, named_in, Room, Holds}
use Rattle.counts.specs.Counts.{mark, owned_by, inputs_of, Counts}
use Rattle.counts.proofs.Wires.{room}
use Rattle.session.specs.Session.{parties_checked, party_checked, partakers_checked, lengths_checked, too_large}
use Rattle.calls.specs.Externals.{own_inputs, externals_bytes, externals_lent, externals_asked, externals_made, externals_checked, externals_after, ExternalsCall}
use Rattle.calls.proofs.OwnInputs.{own-length}
use Rattle.party_calls.specs.Tables.{Front}
use Rattle.party_calls.specs.Either.{either_checked}
use Rattle.party_calls.specs.Masking.{OwnLent, OwnFit}
use Rattle.party_calls.proofs.TwoBuffers.{all_read, both_is}
use Rattle.party_calls.proofs.Ending.{lent_is, fails_left, fails_right, unread, behind_file, ends-written, ends-refused}
use Rattle.std.specs.Prelude.{Err}
use Rattle.checks.specs.declared.Refused.{Refused}

-- a party owns no more inputs than there are wires
mark-small : (b : Bool) → mark b ≤ 1
mark-small true = le_refl 1
mark-small false = omega arith

pub own-most : {circuit : Circuit} → Room circuit → (party : ℕ) → length (own_inputs party (wires_in circuit)) ≤ 1024
own-most {circuit} r party =
    let wires : List Wire = wires_in circuit in
    omega (arith, own-length party wires, sum_to-below (length wires) 1 (λ w. mark (owned_by party (wire_at wires w).gate)) (λ w _. mark-small (owned_by party (wire_at wires w).gate)), mul-one (length wires), length-take-le circuit.made circuit.wires (omega (arith, r.made, r.wires)), r.made)

-- ---- 15

module _ {circuit : Circuit} {party : ℕ} {values masks : List ℕ} (lent : OwnLent circuit party values masks) where
  abbrev ws : List Wire
  ws = wires_in circuit

  abbrev own : List ℕ
  own = own_inputs party (wires_in circuit)

  abbrev modulus : ℕ → ℕ
  modulus i = modulus_at (wires_in circuit) (get_or (own_inputs party (wires_in circuit)) i 0)

  pub own_met : {table readers : List ℕ} {answer : Answer} → Front 1024 (length own) modulus table
      → readers ≡ replicate 1024 0 → answer ≡ either_checked values table masks table readers party → answer ≡ externals_bytes party ws values masks
  own_met {table} {readers} t r m =
      m
      ∙ both_is values table masks table readers party (length own) modulus lent.values_size lent.masks_size t.entry t.entry
      (λ i _. all_read 1024 party i r)

-- ---- 14, and then 15

module _ {circuit : Circuit} (space : Room circuit) (party : ℕ) (values masks : List ℕ) (bytes : ℕ) {size : ℕ}
    (c : Counts 1024 (inputs_of party (wires_in circuit)) size) where
  size_is : size ≡ length (own_inputs party (wires_in circuit))
  size_is = c.is ∙ sym (own-length party (wires_in circuit))

  abbrev lent : List ℕ
  lent = length values ∷ length masks ∷ bytes ∷ []

  pub own-lengths : {answer : Answer} → answer ≡ lengths_checked lent (size ∷ size ∷ size ∷ [])
      → answer ≡ lengths_checked lent (length (own_inputs party (wires_in circuit)) ∷ length (own_inputs party (wires_in circuit)) ∷ length (own_inputs party (wires_in circuit)) ∷ [])
  own-lengths m = m ∙ ap (λ (n : ℕ). lengths_checked lent (n ∷ n ∷ n ∷ [])) size_is

  pub own-lent : {answer : Answer} → answer ≡ lengths_checked lent (size ∷ size ∷ size ∷ []) → answer ≡ accepts → OwnLent circuit party values masks
  own-lent m e =
      let same = lent_is _ _ (sym m ∙ e) in record { room = space; values_size = same 0 ∙ size_is; masks_size = same 1 ∙ size_is }

-- ---- the external values: what the loop writes by its table is v + m

abbrev pub by_table : List ℕ → List ℕ → List ℕ → List ℕ
by_table table values masks = tab (length values) (λ i. add (get_or table i 0) (get_or values i 0) (get_or masks i 0))

module _ (values masks table : List ℕ) where
  pub own_start : {out₀ : List ℕ} → length values ≤ length out₀ → Filled out₀ 0 (length values) (by_table table values masks) out₀
  own_start h = filled_start (length-tab (length values) (λ i. add (get_or table i 0) (get_or values i 0) (get_or masks i 0))) h

  pub own-step : {out₀ out : List ℕ} {i v : ℕ} → Filled out₀ i (length values) (by_table table values masks) out → i < length values
      → v ≡ add (get_or table i 0) (get_or values i 0) (get_or masks i 0) → Filled out₀ (i + 1) (length values) (by_table table values masks) (set out i v)
  own-step {out₀} {out} {i} {v} r h k =
      filled_step r h (get_or-tab (length values) (λ i. add (get_or table i 0) (get_or values i 0) (get_or masks i 0)) i 0 h ∙ sym k)

module _ {circuit : Circuit} {party : ℕ} {values masks : List ℕ} {bytes : ℕ} (fit : OwnFit circuit party values masks bytes) where
  abbrev owned : List ℕ
  owned = own_inputs party (wires_in circuit)

  abbrev prime : ℕ → ℕ
  prime i = modulus_at (wires_in circuit) (get_or (own_inputs party (wires_in circuit)) i 0)

  module _ {table : List ℕ} (t : Front 1024 (length owned) prime table) where
    pub own-operands : {i : ℕ} → i < length values → (get_or values i 0 < get_or table i 0) × (get_or masks i 0 < get_or table i 0)
    own-operands {i} h =
        let l : i < length owned = omega (arith, fit.lent.values_size) in
        (rw (t.entry i l) (fit.value i l), rw (t.entry i l) (fit.mask i l))

    pub own-done : {out₀ out : List ℕ} {i : ℕ} → Filled out₀ i (length values) (by_table table values masks) out → length out₀ ≡ bytes → length values ≤ i
        → out ≡ externals_made party (wires_in circuit) values masks
    own-done {out₀} {out} {i} r e h =
        filled_whole r (omega (arith, fit.size, fit.lent.values_size))
        ∙ tab_ext (length values) (λ i. add (get_or table i 0) (get_or values i 0) (get_or masks i 0)) (λ i. add (prime i) (get_or values i 0) (get_or masks i 0))
        (λ i l. ap (λ (p : ℕ). add p (get_or values i 0) (get_or masks i 0)) (t.entry i (omega (arith, fit.lent.values_size))))
        ∙ ap (λ (n : ℕ). tab n (λ i. add (prime i) (get_or values i 0) (get_or masks i 0))) fit.lent.values_size

-- ---- the whole call

module _ (file : List ℕ) (n party : ℕ) (values masks before : List ℕ) where
  -- refused
  externals_stopped : {answer : Answer} {why : Refused} → answer ≡ Err why → Err why ≡ externals_checked file n party values masks before
      → ExternalsCall file n party values masks before (number_in answer) (place_in answer) before
  unfolding externals_after
  externals_stopped e m =
      let d = ends-refused (externals_made party (read_file file).wires values masks) before e m in record { answer = d.0; externals_is = d.1 }

  -- .. by the reader
  pub externals_unread : {answer : Answer} {why : Refused} → answer ≡ Err why → (read_file file).answer ≡ Err why
      → ExternalsCall file n party values masks before (number_in answer) (place_in answer) before
  unfolding externals_checked
  externals_unread e r =
      externals_stopped e (unread file (externals_asked party (read_file file).wires values masks (read_file file).named n (length before)) r)

  module _ {circuit : Circuit} (h : Holds circuit (read_file file)) {check : Answer}
      (checked : check ≡ externals_asked party (wires_in circuit) values masks (named_in circuit) n (length before)) where
    abbrev wires : List Wire
    wires = wires_in circuit

    abbrev inputs : List ℕ
    inputs = own_inputs party (wires_in circuit)

    abbrev input_modulus : ℕ → ℕ
    input_modulus i = modulus_at (wires_in circuit) (get_or (own_inputs party (wires_in circuit)) i 0)

    met : check ≡ externals_checked file n party values masks before
    unfolding externals_checked
    met =
        behind_file file (externals_asked party (read_file file).wires values masks (read_file file).named n (length before)) h
        (checked ∙ ap₂ (λ (w : List Wire) (s : List ℕ). externals_asked party w values masks s n (length before)) h.wires h.named)

    -- .. by what comes behind it
    pub externals-refused : {answer : Answer} {why : Refused} → answer ≡ Err why → check ≡ Err why
        → ExternalsCall file n party values masks before (number_in answer) (place_in answer) before
    externals-refused e r = externals_stopped e (sym r ∙ met)

    module _ (e : check ≡ accepts) where
      abbrev lengths : Answer
      lengths = lengths_checked (length values ∷ length masks ∷ length before ∷ []) (length inputs ∷ length inputs ∷ length inputs ∷ [])

      abbrev bytes : Answer
      bytes = externals_bytes party wires values masks

      abbrev present : Answer
      present = partakers_checked n wires (named_in circuit)

      given : externals_lent party wires values masks (length before) ≡ accepts
      given =
          and_then-right present (externals_lent party wires values masks (length before))
          (and_then-right (party_checked n party) (and_then present (externals_lent party wires values masks (length before)))
          (and_then-right (parties_checked n) (and_then (party_checked n party) (and_then present (externals_lent party wires values masks (length before))))
          (sym checked ∙ e)))

      lengths_passed : lengths ≡ accepts
      lengths_passed = and_then-left lengths bytes given

      fine : (i : ℕ) → i < length inputs → (too_large values input_modulus i || too_large masks input_modulus i) ≡ false
      fine = none_bad_none (length inputs) (λ i. too_large values input_modulus i || too_large masks input_modulus i) ValueTooLarge (and_then-right lengths bytes given)

      pub own_fit : OwnFit circuit party values masks (length before)
      own_fit =
          record {
            lent = record { room = room h; values_size = lent_is _ _ lengths_passed 0; masks_size = lent_is _ _ lengths_passed 1 };
            size = lent_is _ _ lengths_passed 2;
            value = λ i l. leb-false (input_modulus i) (get_or values i 0) (fails_left (too_large values input_modulus i) (too_large masks input_modulus i) (fine i l));
            mask = λ i l. leb-false (input_modulus i) (get_or masks i 0) (fails_right (too_large values input_modulus i) (too_large masks input_modulus i) (fine i l));
          }

      pub externals-written : {out : List ℕ} → out ≡ externals_made party wires values masks → ExternalsCall file n party values masks before 0 0 out
      unfolding externals_after
      externals-written o =
          let d = ends-written before (sym met ∙ e) (o ∙ ap (λ (w : List Wire). externals_made party w values masks) h.wires) in
          record { answer = d.0; externals_is = d.1 }
