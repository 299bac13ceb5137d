-- A party's input keys: where an input's zero key and offset stand, the checks after reading, the loop that writes the keys, and how the call ends.
-- Assumes nothing.
use mathlib.Core.Path.{◌≡◌, refl, sym, ap, ap₂, ◌∙◌}
use mathlib.Core.Bool.{true}
use mathlib.Core.List.{List, [], ◌∷◌}
use Prim.Native.Nat.{ℕ, ◌+◌, ◌*◌, ◌≤◌, ◌<◌}
use native.Mathlib.Nat.{mul-one, mul-le-mul}
use native.Mathlib.Omega.{arith}
use borrow.Author.Tests.{lt-ltb}
use lib.ListN.{length, get_or}
use Rattle.lists.specs.Blocks.{blocks, part, tab}
use Rattle.lists.proofs.Blocks.{get_or-tab}
use Rattle.lists.proofs.Sums.{sum_to_same}
use Rattle.lists.proofs.Steps.{Level, level_start, level_whole}
use Rattle.residue.specs.Vector.{key_v}
use Rattle.residue.proofs.Moduli.{is_prime→Prime}
use Rattle.checks.specs.Answer.{Answer, number_in, place_in, accepts}
use Rattle.checks.specs.Checked.{and_then}
use Rattle.checks.proofs.Passed.{and_then-left, and_then-right}
use Rattle.words.specs.declared.gate.Gate.{Gate}
use Rattle.words.specs.declared.gate.Gate.TheVariants.{Input, Add, Scale, Multiply, Project, Select}
use Rattle.words.specs.declared.gate.Wire.{Wire}
use Rattle.circuit.specs.declared.Circuit.{Circuit}
use Rattle.circuit.specs.Wires.{wire_at, modulus_at, is_input, inputs_in}
use Rattle.circuit.specs.File.{read_file}
use Rattle.circuit.specs.Accepted.{AcceptedCircuit}
use Rattle.circuit.specs.Held.{wires_in, outputs_in, named_in, Held, Holds}
use Rattle.counts.specs.Recipe.{recipe_of, recipe}
use Rattle.counts.specs.Counts.{record_keys_by, record_keys_of, Counts}
use Rattle.counts.specs.Moduli.{used_below, moduli_used}
use Rattle.counts.proofs.Wires.{modulus-at}
use Rattle.scheme.specs.Contribution.{offset_at, record_at, key_at, contribution_size}
use Rattle.scheme.specs.Draw.{drawn}
use Rattle.scheme.proofs.Used.{used-modulus}
use Rattle.scheme.proofs.Places.{offset-fits, key_fits}
use Rattle.scheme.proofs.Contributed.{nth_whole}
use Rattle.session.specs.Session.{session_checked, party_checked, partakers_checked, lengths_checked}
use Rattle.session.proofs.Sessions.{session-fits}
use Rattle.session.proofs.Circuits.{held_of, made-is, inputs-made}
use Rattle.calls.specs.InputKeys.{input_key, input_keys_bytes, input_keys_lent, input_keys_party, input_keys_asked, input_keys_made, input_keys_checked, input_keys_after, InputKeysCall}
use Rattle.party_calls.specs.Keying.{KeysLent, KeysFit}
use Rattle.party_calls.proofs.Ending.{lent_is, circuit-accepted, unread, behind_file, ends-written, ends-refused}
use Rattle.std.specs.Prelude.{Err}
use Rattle.checks.specs.declared.Refused.{Refused}

-- ---- where an input's key stands

-- the record of an input has one key
key_of_input : (gate : Gate) (p : ℕ) → is_input gate ≡ true → record_keys_by (recipe_of gate p) ≡ 1
key_of_input (Input g) p e = refl
key_of_input (Add g) p e = let z : ◌≡◌ {A = ℕ} 0 1 = cc in absurd (omega arith)
key_of_input (Scale g) p e = let z : ◌≡◌ {A = ℕ} 0 1 = cc in absurd (omega arith)
key_of_input (Multiply g) p e = let z : ◌≡◌ {A = ℕ} 0 1 = cc in absurd (omega arith)
key_of_input (Project g) p e = let z : ◌≡◌ {A = ℕ} 0 1 = cc in absurd (omega arith)
key_of_input (Select g) p e = let z : ◌≡◌ {A = ℕ} 0 1 = cc in absurd (omega arith)

pub one_key : (wire : Wire) → is_input wire.gate ≡ true → record_keys_by (recipe wire) ≡ 1
unfolding recipe
one_key wire e = key_of_input wire.gate wire.modulus e

-- so the records of the first wires, where they are inputs, follow each other at one distance
input-place : (K : ℕ) (wires : List Wire) (n : ℕ) → ((v : ℕ) → v < n → record_keys_of wires v ≡ 1) → (w : ℕ) → w ≤ n → key_at K wires w 0 ≡ K * moduli_used wires + (K + 1) * w
unfolding key_at record_at
input-place K wires n one w h = rw (sum_to_same w 1 (record_keys_of wires) (λ v l. one v (omega arith)), mul-one w) (omega arith)

-- what one party drew stands in its contribution
module _ (K : ℕ) (wires : List Wire) (c : List ℕ) (e : length c ≡ contribution_size K wires) where
  offset_is : (p : ℕ) → (drawn 1 K wires c).offset p ≡ part c (K * used_below wires p) K
  unfolding drawn blocks offset_at
  offset_is p = ap (λ (l : List ℕ). part l (K * used_below wires p) K) (nth_whole c (contribution_size K wires) e)

  zero_is : (w : ℕ) {at : ℕ} → key_at K wires w 0 ≡ at → (drawn 1 K wires c).key w 0 ≡ part c at K
  unfolding drawn blocks
  zero_is w k =
      ap (λ (l : List ℕ). part l (key_at K wires w 0) K) (nth_whole c (contribution_size K wires) e) ∙ ap (λ (b : ℕ). part c b K) k

-- ---- the keys

pub small_product : {a b m n : ℕ} → a ≤ m → b ≤ n → a * b ≤ m * n
small_product h k = mul-le-mul h k

module _ {circuit : Circuit} {K : ℕ} {contribution externals : List ℕ} {bytes : ℕ} (fit : KeysFit circuit K contribution externals bytes) where
  abbrev ws : List Wire
  ws = wires_in circuit

  abbrev pub key_of : ℕ → List ℕ
  key_of = input_key (wires_in circuit) (drawn 1 K (wires_in circuit) contribution) externals

  held : Held circuit
  held = fit.lent.held

  pub keys_start : {out₀ : List ℕ} → length out₀ ≡ bytes → Level out₀ 0 0 circuit.inputs K key_of 0 out₀
  keys_start e = level_start (omega (arith, fit.size))

  pub keys-done : {out₀ out : List ℕ} {w at : ℕ} → Level out₀ 0 w circuit.inputs K key_of at out → length out₀ ≡ bytes → circuit.inputs ≤ w
      → out ≡ input_keys_made K (wires_in circuit) contribution externals
  keys-done r e h = level_whole r h (e ∙ fit.size) ∙ ap (λ (n : ℕ). blocks n key_of) held.inputs

  module _ {w : ℕ} (h : w < circuit.inputs) where
    made : w < length ws
    made = omega (arith, inputs-made held, made-is held)

    same : modulus_at ws w ≡ modulus_at circuit.wires w
    same = modulus-at circuit.wires circuit.made w (omega (arith, inputs-made held))

    pub key-positive : 0 < modulus_at circuit.wires w
    key-positive = omega (arith, fit.positive w h, same)

    place : key_at K ws w 0 ≡ K * moduli_used ws + (K + 1) * w
    place = input-place K ws circuit.inputs fit.recorded w (omega arith)

    zero_fits : K * moduli_used ws + (K + 1) * w + K ≤ length contribution
    zero_fits = omega (arith, key_fits K ws w 0 (omega (arith, fit.recorded w h)) made, place, fit.lent.contribution_length)

    offset-inside : K * used_below ws (modulus_at ws w) + K ≤ length contribution
    unfolding offset_at
    offset-inside = omega (arith, offset-fits K ws (modulus_at ws w) (used-modulus ws w made) (fit.byte w h), fit.lent.contribution_length)

    key-is : key_v (modulus_at ws w) (part contribution (K * moduli_used ws + (K + 1) * w) K) (get_or externals w 0) (part contribution (K * used_below ws (modulus_at ws w)) K) ≡ key_of w
    unfolding input_key
    key-is =
        ap₂ (λ (k D : List ℕ). key_v (modulus_at ws w) k (get_or externals w 0) D)
        (sym (zero_is K ws contribution fit.lent.contribution_length w place))
        (sym (offset_is K ws contribution fit.lent.contribution_length (modulus_at ws w)))

    -- the place of the offset, as the code looks it up
    pub rank_is : {places : List ℕ} {q rank : ℕ} → places ≡ tab 256 (used_below ws) → q ≡ modulus_at circuit.wires w → rank ≡ get_or places q 0
        → rank ≡ used_below ws (modulus_at ws w)
    rank_is {places} {q} {rank} e k r =
        let l : q < 256 = omega (arith, k, same, fit.byte w h) in
        r
        ∙ ap (λ (xs : List ℕ). get_or xs q 0) e
        ∙ get_or-tab 256 (used_below ws) q 0 l
        ∙ ap (used_below ws) (k ∙ sym same)

    pub zero-inside : {used : ℕ} → used ≡ moduli_used ws → K * used + (K + 1) * w + K ≤ length contribution
    zero-inside u = rw u zero_fits

    pub rank_inside : {rank : ℕ} → rank ≡ used_below ws (modulus_at ws w) → K * rank + K ≤ length contribution
    rank_inside r = rw r offset-inside

    pub key_as : {used rank : ℕ} → used ≡ moduli_used ws → rank ≡ used_below ws (modulus_at ws w)
        → key_v (modulus_at circuit.wires w) (part contribution (K * used + (K + 1) * w) K) (get_or externals w 0) (part contribution (K * rank) K) ≡ key_of w
    key_as {used} {rank} u r =
        ap (λ (p : ℕ). key_v p (part contribution (K * used + (K + 1) * w) K) (get_or externals w 0) (part contribution (K * rank) K)) (sym same)
        ∙ ap₂ (λ (a b : ℕ). key_v (modulus_at ws w) (part contribution (K * a + (K + 1) * w) K) (get_or externals w 0) (part contribution (K * b) K)) u r
        ∙ key-is

-- ---- 14, and then 15 to 17

module _ {circuit : Circuit} (held : Held circuit) {K : ℕ} (most : K ≤ 128) (contribution externals : List ℕ) (bytes : ℕ) {size : ℕ}
    (c : Counts 429056 (contribution_size K (wires_in circuit)) size) where
  abbrev rest : Answer
  rest = input_keys_bytes K (wires_in circuit) contribution externals

  abbrev lent : List ℕ
  lent = length contribution ∷ length externals ∷ bytes ∷ []

  pub keys-lengths : {answer : Answer} → answer ≡ lengths_checked lent (size ∷ circuit.inputs ∷ circuit.inputs * K ∷ [])
      → answer ≡ lengths_checked lent (contribution_size K (wires_in circuit) ∷ inputs_in (wires_in circuit) ∷ inputs_in (wires_in circuit) * K ∷ [])
  keys-lengths m =
      m ∙ ap (lengths_checked lent) (ap₂ (λ (a b : ℕ). a ∷ b ∷ b * K ∷ []) c.is held.inputs)

  pub keys-lent : {answer : Answer} → answer ≡ lengths_checked lent (size ∷ circuit.inputs ∷ circuit.inputs * K ∷ []) → answer ≡ accepts
      → KeysLent circuit K contribution externals
  keys-lent m e =
      let same = lent_is _ _ (sym m ∙ e) in record { held = held; most = most; contribution_length = same 0 ∙ c.is; externals_length = same 1 }

-- ---- 11

pub session-most : (n K : ℕ) {session : Answer} → session ≡ session_checked n K → session ≡ accepts → K ≤ 128
session-most n K m e = (session-fits n K (sym m ∙ e)).most

-- ---- the whole call

module _ (file : List ℕ) (n K party : ℕ) (contribution externals before : List ℕ) where
  -- refused
  pub keys_stopped : {answer : Answer} {why : Refused} → answer ≡ Err why → Err why ≡ input_keys_checked file n K party contribution externals before
      → InputKeysCall file n K party contribution externals before (number_in answer) (place_in answer) before
  unfolding input_keys_after
  keys_stopped e m =
      let d = ends-refused (input_keys_made K (read_file file).wires contribution externals) before e m in
      record { answer = d.0; keys_is = d.1 }

  -- .. by the reader
  pub keys_unread : {answer : Answer} {why : Refused} → answer ≡ Err why → (read_file file).answer ≡ Err why
      → InputKeysCall file n K party contribution externals before (number_in answer) (place_in answer) before
  unfolding input_keys_checked
  keys_unread e r =
      keys_stopped e (unread file (input_keys_asked K (read_file file).wires contribution externals (read_file file).named n party (length before)) r)

  module _ {circuit : Circuit} (h : Holds circuit (read_file file)) {check : Answer}
      (checked : check ≡ input_keys_asked K (wires_in circuit) contribution externals (named_in circuit) n party (length before)) where
    abbrev wires : List Wire
    wires = wires_in circuit

    met : check ≡ input_keys_checked file n K party contribution externals before
    unfolding input_keys_checked
    met =
        behind_file file (input_keys_asked K (read_file file).wires contribution externals (read_file file).named n party (length before)) h
        (checked ∙ ap₂ (λ (w : List Wire) (s : List ℕ). input_keys_asked K w contribution externals s n party (length before)) h.wires h.named)

    -- .. by what comes behind it
    pub keys_refused : {answer : Answer} {why : Refused} → answer ≡ Err why → check ≡ Err why
        → InputKeysCall file n K party contribution externals before (number_in answer) (place_in answer) before
    keys_refused e r = keys_stopped e (sym r ∙ met)

    module _ (e : check ≡ accepts) where
      abbrev lengths : Answer
      lengths = lengths_checked (length contribution ∷ length externals ∷ length before ∷ []) (contribution_size K wires ∷ inputs_in wires ∷ inputs_in wires * K ∷ [])

      abbrev asked : Answer
      asked = input_keys_party K wires contribution externals (named_in circuit) n party (length before)

      abbrev present : Answer
      present = partakers_checked n wires (named_in circuit)

      all : input_keys_asked K wires contribution externals (named_in circuit) n party (length before) ≡ accepts
      all = sym checked ∙ e

      given : input_keys_lent K wires contribution externals (length before) ≡ accepts
      given =
          and_then-right present (input_keys_lent K wires contribution externals (length before))
          (and_then-right (party_checked n party) (and_then present (input_keys_lent K wires contribution externals (length before)))
          (and_then-right (session_checked n K) asked all))

      lengths_passed : lengths ≡ accepts
      lengths_passed = and_then-left lengths (input_keys_bytes K wires contribution externals) given

      fits : AcceptedCircuit file (wires_in circuit) (outputs_in circuit)
      fits = circuit-accepted file h

      count : circuit.inputs ≡ inputs_in wires
      count = (held_of h).inputs

      inside : (w : ℕ) → w < circuit.inputs → w < length wires
      inside w l = omega (arith, inputs-made (held_of h), made-is (held_of h))

      pub keys_fit : KeysFit circuit K contribution externals (length before)
      keys_fit =
          record {
            lent = record {
              held = held_of h;
              most = (session-fits n K (and_then-left (session_checked n K) asked all)).most;
              contribution_length = lent_is _ _ lengths_passed 0;
              externals_length = lent_is _ _ lengths_passed 1 ∙ sym count;
            };
            size = lent_is _ _ lengths_passed 2 ∙ ap (λ (m : ℕ). m * K) (sym count);
            positive = λ w l. omega (arith, (is_prime→Prime (modulus_at wires w) (fits.fits w (inside w l)).prime).two);
            byte = λ w l. (fits.fits w (inside w l)).byte;
            recorded = λ w l. one_key (wire_at wires w) (fits.inputs_first w (inside w l) ∙ lt-ltb w (inputs_in wires) (omega (arith, count)));
          }

      pub keys-written : {out : List ℕ} → out ≡ input_keys_made K wires contribution externals
          → InputKeysCall file n K party contribution externals before 0 0 out
      unfolding input_keys_after
      keys-written o =
          let d = ends-written before (sym met ∙ e) (o ∙ ap (λ (w : List Wire). input_keys_made K w contribution externals) h.wires) in
          record { answer = d.0; keys_is = d.1 }
