-- The input keys: where an input's zero key and offset stand, the checks after reading, the loop that writes the keys, and how the call ends.
-- Assumes nothing.
use mathlib.Core.Path.{◌≡◌, refl, sym, ap, ap₂, subst, ◌∙◌}
use mathlib.Core.List.{List, [], ◌∷◌}
use Prim.Native.Nat.{ℕ, ◌+◌, ◌*◌, ◌≤◌, ◌<◌}
use native.Mathlib.Nat.{mul-add, mul-le-mul_left}
use native.Mathlib.Omega.{arith}
use lib.ListN.{length, get_or}
use Rattle.lists.specs.Blocks.{blocks, part, tab}
use Rattle.lists.proofs.Blocks.{length-tab, get_or-tab}
use Rattle.lists.proofs.Steps.{Level, level_start, level_whole}
use Rattle.residue.specs.Vector.{key_v}
use Rattle.residue.proofs.Moduli.{is_prime→Prime}
use Rattle.checks.specs.declared.Refusal.{Refusal}
use Rattle.checks.specs.Answer.{Answer, number_in, place_in, accepts}
use Rattle.checks.specs.Checked.{and_then}
use Rattle.checks.proofs.Passed.{and_then-left, and_then-right}
use Rattle.words.specs.declared.gate.Wire.{Wire}
use Rattle.circuit.specs.declared.Circuit.{Circuit}
use Rattle.circuit.specs.Wires.{modulus_at, inputs_in}
use Rattle.circuit.specs.File.{read_file}
use Rattle.circuit.specs.Accepted.{AcceptedCircuit}
use Rattle.circuit.specs.Held.{wires_in, outputs_in, Held, Holds}
use Rattle.counts.specs.Counts.{Counts}
use Rattle.counts.specs.Moduli.{used_below, moduli_used}
use Rattle.counts.proofs.Wires.{modulus-at}
use Rattle.scheme.specs.Contribution.{offset_at}
use Rattle.scheme.proofs.Used.{used-modulus}
use Rattle.scheme.proofs.Places.{offset_past}
use Rattle.session.specs.Session.{session_checked, owners_checked, lengths_checked}
use Rattle.session.proofs.Circuits.{held_of, made-is, inputs-made}
use Rattle.party_calls.proofs.Ending.{lent_is, circuit-accepted, ends-written, ends-refused}
use Rattle.checks.proofs.Answers.{and_then_stop}
use Rattle.pair.specs.Draw.{draw_size, input_at, offset_in, zero_in}
use Rattle.pair.specs.Bytes.{pair_file_checked}
use Rattle.pair.specs.InputKeys.{pair_input_key, pair_keys_bytes, pair_keys_lent, pair_keys_asked, pair_keys_made, pair_keys_checked, pair_keys_after, PairInputKeysCall}
use Rattle.pair_calls.specs.Lent.{Ranged, KeysLent, KeysFit, keys_owned}
use Rattle.pair_calls.proofs.Shared.{two_behind, ranged}
use Rattle.pair_calls.specs.Counted.{ReadsForTwo}
use Rattle.std.specs.Prelude.{Err}
use Rattle.checks.specs.declared.Refused.{Refused}

-- ---- the keys

module _ {circuit : Circuit} {K : ℕ} {draw values : List ℕ} {bytes : ℕ} (fit : KeysFit circuit K draw values bytes) where
  abbrev ws : List Wire
  ws = wires_in circuit

  abbrev key_of : ℕ → List ℕ
  key_of = pair_input_key K (wires_in circuit) draw values

  held : Held circuit
  held = fit.lent.drawn.ranged.held

  pub keys_start : {out₀ : List ℕ} → length out₀ ≡ bytes → Level out₀ 0 0 circuit.inputs K key_of 0 out₀
  keys_start e = level_start (omega (arith, fit.size))

  pub keys-done : {out₀ out : List ℕ} {w at : ℕ} → Level out₀ 0 w circuit.inputs K key_of at out → length out₀ ≡ bytes → circuit.inputs ≤ w
      → out ≡ pair_keys_made K (wires_in circuit) draw values
  keys-done r e h = level_whole r h (e ∙ fit.size) ∙ ap (λ (n : ℕ). blocks n key_of) held.inputs

  size_is : length draw ≡ K * moduli_used ws + K * inputs_in ws
  unfolding draw_size
  size_is = fit.lent.drawn.size ∙ mul-add K (moduli_used ws) (inputs_in ws)

  module _ {w : ℕ} (h : w < circuit.inputs) where
    made : w < length ws
    made = omega (arith, inputs-made held, made-is held)

    same : modulus_at ws w ≡ modulus_at circuit.wires w
    same = modulus-at circuit.wires circuit.made w (omega (arith, inputs-made held))

    pub key-positive : 0 < modulus_at circuit.wires w
    key-positive = omega (arith, fit.positive w h, same)

    key_byte : modulus_at circuit.wires w < 256
    key_byte = omega (arith, fit.byte w h, same)

    pub key_ranked : {places : List ℕ} → places ≡ tab 256 (used_below ws) → modulus_at circuit.wires w < length places
    key_ranked e = omega (arith, key_byte, ap length e ∙ length-tab 256 (used_below ws))

    zero_fits : K * (moduli_used ws + w) + K ≤ length draw
    zero_fits =
        let most : K * (w + 1) ≤ K * inputs_in ws = mul-le-mul_left K (omega (arith, held.inputs)) in
        omega (arith, size_is, mul-add K (moduli_used ws) w, mul-add K w 1)

    offset-fits : K * used_below ws (modulus_at ws w) + K ≤ length draw
    unfolding offset_at
    offset-fits = omega (arith, size_is, offset_past K ws (modulus_at ws w) 256 (used-modulus ws w made) (fit.byte w h))

    key-is : key_v (modulus_at ws w) (part draw (K * (moduli_used ws + w)) K) (get_or values w 0) (part draw (K * used_below ws (modulus_at ws w)) K) ≡ key_of w
    unfolding pair_input_key zero_in input_at offset_in offset_at
    key-is = refl

    -- the place of the offset, as the code looks it up
    pub offset_is : {places : List ℕ} {offset : ℕ} → places ≡ tab 256 (used_below ws) → offset ≡ K * get_or places (modulus_at circuit.wires w) 0
        → offset ≡ K * used_below ws (modulus_at ws w)
    offset_is {places} {offset} e r =
        r
        ∙ ap (λ (m : ℕ). K * m)
        (ap (λ (xs : List ℕ). get_or xs (modulus_at circuit.wires w) 0) e
        ∙ get_or-tab 256 (used_below ws) (modulus_at circuit.wires w) 0 key_byte
        ∙ ap (used_below ws) (sym same))

    pub zero-inside : {used : ℕ} → used ≡ moduli_used ws → K * (used + w) + K ≤ length draw
    zero-inside u = rw u zero_fits

    pub offset-inside : {offset : ℕ} → offset ≡ K * used_below ws (modulus_at ws w) → offset + K ≤ length draw
    offset-inside o = rw o offset-fits

    pub key_as : {used offset : ℕ} → used ≡ moduli_used ws → offset ≡ K * used_below ws (modulus_at ws w)
        → key_v (modulus_at circuit.wires w) (part draw (K * (used + w)) K) (get_or values w 0) (part draw offset K) ≡ key_of w
    key_as {used} {offset} u o =
        ap (λ (p : ℕ). key_v p (part draw (K * (used + w)) K) (get_or values w 0) (part draw offset K)) (sym same)
        ∙ ap₂ (λ (a b : ℕ). key_v (modulus_at ws w) (part draw (K * (a + w)) K) (get_or values w 0) (part draw b K)) u o
        ∙ key-is

-- ---- 14, and then 15, 16 and 27

module _ {circuit : Circuit} {K : ℕ} (range : Ranged circuit K) (draw values : List ℕ) (bytes : ℕ) {size : ℕ} (c : Counts 163840 (draw_size K (wires_in circuit)) size)
    {answer : Answer} (m : answer ≡ lengths_checked (length draw ∷ length values ∷ bytes ∷ []) (size ∷ circuit.inputs ∷ circuit.inputs * K ∷ [])) where
  abbrev lent : List ℕ
  lent = length draw ∷ length values ∷ bytes ∷ []

  pub keys-lengths : answer ≡ lengths_checked lent (draw_size K (wires_in circuit) ∷ inputs_in (wires_in circuit) ∷ inputs_in (wires_in circuit) * K ∷ [])
  keys-lengths = m ∙ ap (lengths_checked lent) (ap₂ (λ (a b : ℕ). a ∷ b ∷ b * K ∷ []) c.is range.held.inputs)

  pub keys-lent : answer ≡ accepts → KeysLent circuit K draw values
  keys-lent e =
      let same = lent_is _ _ (sym m ∙ e) in record { drawn = record { ranged = range; size = same 0 ∙ c.is }; values_length = same 1 }

-- ---- the whole call

module _ (file : List ℕ) (K : ℕ) (draw values before : List ℕ) where
  refused_call : {answer : Answer} {why : Refused} → answer ≡ Err why → Err why ≡ pair_keys_checked file K draw values before
      → PairInputKeysCall file K draw values before (number_in answer) (place_in answer) before
  unfolding pair_keys_after
  refused_call e m = let d = ends-refused (pair_keys_made K (read_file file).wires draw values) before e m in record { answer = d.0; keys_is = d.1 }

  abbrev asked_read : Answer
  asked_read = pair_keys_asked K (read_file file).wires draw values (length before)

  pub keys_unread : {answer : Answer} {why : Refused} → answer ≡ Err why → pair_file_checked file ≡ Err why
      → PairInputKeysCall file K draw values before (number_in answer) (place_in answer) before
  unfolding pair_keys_checked
  keys_unread e r = refused_call e (and_then_stop asked_read r)

  module _ {circuit : Circuit} (read : ReadsForTwo file circuit) {check : Answer}
      (checked : check ≡ pair_keys_asked K (wires_in circuit) draw values (length before)) where
    abbrev wires : List Wire
    wires = wires_in circuit

    met : check ≡ pair_keys_checked file K draw values before
    unfolding pair_keys_checked
    met = two_behind file asked_read read (checked ∙ ap (λ (w : List Wire). pair_keys_asked K w draw values (length before)) read.holds.wires)

    pub keys_refused : {answer : Answer} {why : Refused} → answer ≡ Err why → check ≡ Err why
        → PairInputKeysCall file K draw values before (number_in answer) (place_in answer) before
    keys_refused e k = refused_call e (sym k ∙ met)

    module _ (e : check ≡ accepts) where
      abbrev lengths : Answer
      lengths = lengths_checked (length draw ∷ length values ∷ length before ∷ []) (draw_size K wires ∷ inputs_in wires ∷ inputs_in wires * K ∷ [])

      abbrev owned : Answer
      owned = keys_owned K wires draw values (length before)

      all : and_then (session_checked 2 K) owned ≡ accepts
      all = sym checked ∙ e

      lengths_passed : lengths ≡ accepts
      lengths_passed =
          and_then-left lengths (pair_keys_bytes K wires draw values)
          (and_then-right (owners_checked 2 wires) (pair_keys_lent K wires draw values (length before)) (and_then-right (session_checked 2 K) owned all))

      fine : AcceptedCircuit file (wires_in circuit) (outputs_in circuit)
      fine = circuit-accepted file read.holds

      count : circuit.inputs ≡ inputs_in wires
      count = (held_of read.holds).inputs

      inside : (w : ℕ) → w < circuit.inputs → w < length wires
      inside w l = omega (arith, inputs-made (held_of read.holds), made-is (held_of read.holds))

      pub keys_fit : KeysFit circuit K draw values (length before)
      keys_fit =
          record {
            lent = record {
              drawn = record { ranged = ranged K (held_of read.holds) (and_then-left (session_checked 2 K) owned all); size = lent_is _ _ lengths_passed 0 };
              values_length = lent_is _ _ lengths_passed 1 ∙ sym count;
            };
            size = lent_is _ _ lengths_passed 2 ∙ ap (λ (m : ℕ). m * K) (sym count);
            positive = λ w l. omega (arith, (is_prime→Prime (modulus_at wires w) (fine.fits w (inside w l)).prime).two);
            byte = λ w l. (fine.fits w (inside w l)).byte;
          }

      pub keys-written : {out : List ℕ} → out ≡ pair_keys_made K wires draw values → PairInputKeysCall file K draw values before 0 0 out
      unfolding pair_keys_after
      keys-written o =
          let d = ends-written before (sym met ∙ e) (o ∙ ap (λ (w : List Wire). pair_keys_made K w draw values) read.holds.wires) in
          record { answer = d.0; keys_is = d.1 }
