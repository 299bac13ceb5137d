-- Opening as a call: the checks after reading, what acceptance hands on, the party's own keys, and how the call ends.
-- Assumes nothing.
use mathlib.Core.Path.{◌≡◌, sym, ap, ap₂, subst, ◌∙◌}
use mathlib.Core.Bool.{Bool, not}
use mathlib.Core.List.{List, [], ◌∷◌}
use Prim.Native.Nat.{ℕ, ◌+◌, ◌*◌, ◌≤◌, ◌<◌}
use native.Mathlib.Decide.{dec_le}
use native.Mathlib.Nat.{mul-le-mul}
use native.Mathlib.Omega.{arith}
use borrow.Author.Tests.{lt-ltb}
use lib.ListN.{length, get_or, replicate, take}
use lib.Seq.{length-take-le}
use Rattle.lists.specs.Blocks.{nth_piece}
use Rattle.lists.specs.First.{first}
use Rattle.lists.proofs.Blocks.{length_blocks_same, part_blocks_same}
use Rattle.residue.proofs.Moduli.{is_prime→Prime}
use Rattle.residue.proofs.Vectors.{key_v-length}
use Rattle.checks.specs.declared.Refusal.{Refusal}
use Rattle.checks.specs.declared.Refusal.TheVariants.{WrongInputKey, NoMultiplier}
use Rattle.checks.specs.Answer.{Answer, number_in, place_in, accepts, refuses}
use Rattle.checks.specs.Checked.{and_then, afterwards, named}
use Rattle.checks.proofs.Passed.{and_then-left, and_then-right, afterwards_passed}
use Rattle.checks.proofs.Answers.{named_past, named-found, afterwards-refused, reports, none_bad-found, and_then_stop, and_then-next, stage_passed, stage_refused}
use Rattle.words.specs.declared.gate.Wire.{Wire}
use Rattle.circuit.specs.declared.Circuit.{Circuit}
use Rattle.circuit.specs.Wires.{wire_at, modulus_at, inputs_in}
use Rattle.circuit.specs.File.{read_file}
use Rattle.circuit.specs.Held.{wires_in, named_in, Held, Holds}
use Rattle.counts.specs.Counts.{rows_in, record_keys_of, Counts}
use Rattle.pads.specs.Pad.{shake_pad}
use Rattle.search.specs.Search.{same}
use Rattle.scheme.specs.Contribution.{contribution_size}
use Rattle.scheme.specs.Draw.{drawn}
use Rattle.scheme.specs.Opening.{wire_keys, wire_externals}
use Rattle.scheme.proofs.Used.{used-modulus}
use Rattle.scheme.proofs.Drawn.{offset-length, key-length}
use Rattle.session.specs.Session.{file_checked, session_checked, party_checked, partakers_checked, lengths_checked, values_checked}
use Rattle.session.proofs.Sessions.{SessionFits, session-fits, party-below}
use Rattle.session.proofs.Circuits.{held_of, made-is, inputs-made}
use Rattle.scheme.specs.Bytes.{contributions_checked, offsets_checked, keys_checked, rows_checked}
use Rattle.calls.specs.InputKeys.{input_key, input_keys_made}
use Rattle.calls.specs.Open.{open_lengths, open_bytes, open_lent, open_party, open_asked, input_key_wrong, own_keys_checked, gates_checked, before_opening, open_checked, open_keys, open_externals, OpenCall}
use Rattle.party_calls.specs.Keying.{KeysFit}
use Rattle.opening.specs.Given.{Given, OpensAll}
use Rattle.row_calls.specs.Opened.{OpenSizes, Compared, first_wrong, GatesOpened, InputsOpened}
use Rattle.party_calls.proofs.TwoBuffers.{first_ext}
use Rattle.party_calls.proofs.KeyPlaces.{one_key}
use Rattle.party_calls.proofs.Ending.{lent_is, circuit-accepted, behind_file}
use Rattle.std.specs.Prelude.{Err}
use Rattle.checks.specs.declared.Refused.{Refused}

-- ---- 14, and then those

six_same : {a b c d m n x y z t u v : ℕ} → a ≡ x → b ≡ y → c ≡ z → d ≡ t → m ≡ u → n ≡ v
    → ◌≡◌ {A = List ℕ} (a ∷ b ∷ c ∷ d ∷ m ∷ n ∷ []) (x ∷ y ∷ z ∷ t ∷ u ∷ v ∷ [])
six_same e f g h i j = rw (e, f, g, h, i, j)

module _ {circuit : Circuit} (held : Held circuit) (n K : ℕ) (contribution externals keys rows : List ℕ) (wkeys wexternals : ℕ) {size raw : ℕ}
    (s : Counts 429056 (contribution_size K (wires_in circuit)) size) (c : Counts 524288 (rows_in (wires_in circuit)) raw) {answer : Answer}
    (m : answer ≡ lengths_checked (length contribution ∷ length externals ∷ length keys ∷ length rows ∷ wkeys ∷ wexternals ∷ []) (size ∷ circuit.inputs ∷ circuit.inputs * (n * K) ∷ raw * (n * K) ∷ circuit.made * (n * K) ∷ circuit.made ∷ [])) where
  abbrev lent : List ℕ
  lent = length contribution ∷ length externals ∷ length keys ∷ length rows ∷ wkeys ∷ wexternals ∷ []

  pub lengths_met : answer ≡ open_lengths n K (wires_in circuit) contribution externals keys rows wkeys wexternals
  lengths_met =
      m
      ∙ ap (lengths_checked lent)
      (six_same s.is held.inputs (ap (λ (a : ℕ). a * (n * K)) held.inputs) (ap (λ (a : ℕ). a * (n * K)) c.is) (ap (λ (a : ℕ). a * (n * K)) (sym (made-is held))) (sym (made-is held)))

  pub open_sizes : n ≤ 8 → K ≤ 128 → answer ≡ accepts → OpenSizes circuit n K contribution externals keys rows
  open_sizes few most e =
      let same = lent_is _ _ (sym m ∙ e) in
      record {
        held = held;
        parties = few;
        most = most;
        contribution_length = same 0 ∙ s.is;
        externals_length = same 1 ∙ held.inputs;
        keys_length = same 2 ∙ ap (λ (a : ℕ). a * (n * K)) held.inputs;
        rows_length = same 3 ∙ ap (λ (a : ℕ). a * (n * K)) c.is;
      }

-- ---- 19

-- key j of input w, of n·K bytes, lies inside
pub key-inside : (n K party inputs w : ℕ) {len : ℕ} → party < n → w < inputs → len ≡ inputs * (n * K) → (w * n + party) * K + K ≤ len
key-inside n K party inputs w {len} s h e =
    let a : (w * n + party + 1) * K ≤ (inputs * n) * K = mul-le-mul (row n party inputs w s h) (omega arith) in
    omega (arith, e)
  where
    row : (n party inputs w : ℕ) → party < n → w < inputs → w * n + party + 1 ≤ inputs * n
    row n party inputs w s h =
        let a : (w + 1) * n ≤ inputs * n = mul-le-mul (omega arith) (omega arith) in omega arith

pub own-inside : (K inputs w : ℕ) {len : ℕ} → w < inputs → len ≡ inputs * K → w * K + K ≤ len
own-inside K inputs w {len} h e =
    let a : (w + 1) * K ≤ inputs * K = mul-le-mul (omega arith) (omega arith) in omega (arith, e)

-- what comparing two keys says
pub other_is : {x : Bool} {lent made : List ℕ} {y z : List ℕ} → x ≡ same lent made → lent ≡ y → made ≡ z → {b : Bool} → not x ≡ b → not (same y z) ≡ b
other_is e f g h = ap not (ap₂ (λ (u v : List ℕ). same u v) (sym f) (sym g) ∙ sym e) ∙ h

module _ {circuit : Circuit} {n K party : ℕ} {contribution externals keys rows : List ℕ} (g : Given circuit n K party contribution externals keys rows) where
  abbrev wires : List Wire
  wires = wires_in circuit

  count : circuit.inputs ≡ inputs_in wires
  count = g.held.inputs

  inside : (w : ℕ) → w < circuit.inputs → w < length wires
  inside w l = omega (arith, inputs-made g.held, made-is g.held)

  recorded : (w : ℕ) → w < circuit.inputs → record_keys_of wires w ≡ 1
  recorded w l = one_key (wire_at wires w) (g.accepted.inputs_first w (inside w l) ∙ lt-ltb w (inputs_in wires) (omega (arith, count)))

  pub few-inputs : circuit.inputs ≤ 1024
  few-inputs = omega (arith, inputs-made g.held, g.held.room.made)

  pub own_room : circuit.inputs * K ≤ 131072
  own_room = omega (arith, mul-le-mul few-inputs g.sizes.short)

  pub own_fit : {bytes : ℕ} → bytes ≡ circuit.inputs * K → KeysFit circuit K contribution externals bytes
  own_fit e =
      record {
        lent = record { held = g.held; most = g.sizes.short; contribution_length = g.own_size; externals_length = g.externals_size ∙ sym count };
        size = e;
        positive = λ w l. omega (arith, (is_prime→Prime (modulus_at wires w) (g.accepted.fits w (inside w l)).prime).two);
        byte = λ w l. (g.accepted.fits w (inside w l)).byte;
        recorded = recorded;
      }

  abbrev key_of : ℕ → List ℕ
  key_of = input_key wires (drawn 1 K wires contribution) externals

  own-length : (w : ℕ) → w < inputs_in wires → length (key_of w) ≡ K
  unfolding input_key
  own-length w l =
      let i : w < length wires = inside w (omega (arith, count)) in
      let one : length contribution ≡ 1 * contribution_size K wires = omega (arith, g.own_size) in
      let k : length ((drawn 1 K wires contribution).key w 0) ≡ 1 * K = key-length 1 K wires contribution one w 0 i (omega (arith, recorded w (omega (arith, count)))) in
      let o : length ((drawn 1 K wires contribution).offset (modulus_at wires w)) ≡ 1 * K = offset-length 1 K wires contribution one (modulus_at wires w) (used-modulus wires w i) (g.accepted.fits w i).byte in
      key_v-length (modulus_at wires w) ((drawn 1 K wires contribution).key w 0) (get_or externals w 0) ((drawn 1 K wires contribution).offset (modulus_at wires w)) (omega arith)
      ∙ omega arith

  -- the party's own keys, made
  pub own_compared : {own : List ℕ} → own ≡ input_keys_made K (wires_in circuit) contribution externals → Compared n K party circuit.inputs keys own
  own_compared e =
      record {
        seated = g.seated;
        parties = g.sizes.parties;
        most = g.sizes.short;
        few = few-inputs;
        keys_length = g.keys_size ∙ ap (λ (i : ℕ). i * (n * K)) (sym count);
        own_length = ap length e ∙ length_blocks_same (inputs_in wires) K key_of own-length ∙ ap (λ (i : ℕ). i * K) (sym count);
      }

  pub work_cut : (work : List ℕ) → length work ≡ 131072 → length (take (circuit.inputs * K) work) ≡ circuit.inputs * K
  work_cut work e = length-take-le (circuit.inputs * K) work (omega (arith, own_room))

  pub wrong_is : {own : List ℕ} {r : ℕ} → own ≡ input_keys_made K (wires_in circuit) contribution externals
      → r ≡ first circuit.inputs (λ w. not (same (nth_piece keys K (w * n + party)) (nth_piece own K w)))
      → r ≡ first_wrong n K party (wires_in circuit) contribution externals keys
  wrong_is {own} {r} e f =
      f
      ∙ ap (λ (i : ℕ). first i (λ w. not (same (nth_piece keys K (w * n + party)) (nth_piece own K w)))) count
      ∙ first_ext (inputs_in wires) (λ w. not (same (nth_piece keys K (w * n + party)) (nth_piece own K w))) (input_key_wrong n K party wires contribution externals keys)
      (λ w l. ap (λ (x : List ℕ). not (same (nth_piece keys K (w * n + party)) x))
      (ap (λ (x : List ℕ). nth_piece x K w) e ∙ part_blocks_same (inputs_in wires) K key_of own-length w l))

  -- ---- 20

  abbrev fate : ℕ → Answer
  fate round = gates_checked (shake_pad round) n K party (wires_in circuit) (drawn 1 K (wires_in circuit) contribution) externals keys rows

  pub gates_met : {round : ℕ} {wkeys₀ wexternals₀ wkeys wexternals : List ℕ} {r : ℕ} {answer : Answer} → OpensAll circuit n K party round contribution externals keys rows wkeys₀ wexternals₀ r wkeys wexternals
      → answer ≡ named circuit.made r NoMultiplier
      → GatesOpened n K party round (wires_in circuit) contribution externals keys rows wkeys₀ wexternals₀ answer wkeys wexternals
  gates_met {round} {wkeys₀} {wexternals₀} {wkeys} {wexternals} {r} {answer} v e = by (dec_le (length wires) r)
    where
      made : length wires ≡ circuit.made
      made = made-is g.held

      joined : answer ≡ named (length wires) r NoMultiplier
      joined = e ∙ ap (λ (a : ℕ). named a r NoMultiplier) (sym made)

      met : answer ≡ fate round
      met = none_bad-found (length wires) _ NoMultiplier v.found joined

      by : Dec (length wires ≤ r) → GatesOpened n K party round (wires_in circuit) contribution externals keys rows wkeys₀ wexternals₀ answer wkeys wexternals
      by (yes h) =
          let a : fate round ≡ accepts = sym met ∙ joined ∙ named_past (length wires) r NoMultiplier h in
          record {
            answer_is = met;
            keys_are = v.all_keys h ∙ sym (afterwards_passed a _ (replicate (length wkeys₀) 0));
            externals_are = v.all_externals h ∙ sym (afterwards_passed a _ (replicate (length wexternals₀) 0));
          }
      by (no h) =
          let l : r < length wires = omega arith in
          let a : fate round ≡ refuses NoMultiplier r = sym met ∙ joined ∙ named-found (length wires) r NoMultiplier l in
          record {
            answer_is = met;
            keys_are = v.no_keys l ∙ afterwards-refused a _ (replicate (length wkeys₀) 0);
            externals_are = v.no_externals l ∙ afterwards-refused a _ (replicate (length wexternals₀) 0);
          }

  -- ---- 19, and then 20

  abbrev own : Answer
  own = own_keys_checked n K party (wires_in circuit) contribution externals keys

  module _ (wkeys₀ wexternals₀ : List ℕ) {r : ℕ} {answer : Answer} (f : r ≡ first_wrong n K party (wires_in circuit) contribution externals keys)
      (e : answer ≡ named circuit.inputs r WrongInputKey) where
    abbrev Opened : ℕ → Answer → List ℕ → List ℕ → Type 0
    Opened round = InputsOpened n K party round (wires_in circuit) contribution externals keys rows wkeys₀ wexternals₀

    own_met : answer ≡ own
    own_met =
        none_bad-found (inputs_in wires) (input_key_wrong n K party wires contribution externals keys) WrongInputKey f
        (e ∙ ap (λ (a : ℕ). named a r WrongInputKey) count)

    pub own-next : {round : ℕ} {wkeys wexternals : List ℕ} {z : Answer} → answer ≡ accepts
        → GatesOpened n K party round (wires_in circuit) contribution externals keys rows wkeys₀ wexternals₀ z wkeys wexternals → Opened round z wkeys wexternals
    own-next a t =
        let p : own ≡ accepts = sym own_met ∙ a in
        record {
          answer_is = stage_passed own_met a t.answer_is;
          keys_are = t.keys_are ∙ sym (afterwards_passed p _ wkeys₀);
          externals_are = t.externals_are ∙ sym (afterwards_passed p _ wexternals₀);
        }

    pub own_stop : {round : ℕ} {z : Answer} {why : Refused} → z ≡ Err why → answer ≡ Err why → Opened round z wkeys₀ wexternals₀
    own_stop {round} {z} {why} t a =
        let m : own ≡ Err why = sym own_met ∙ a in
        record { answer_is = t ∙ stage_refused own_met (fate round) a; keys_are = afterwards-refused m _ wkeys₀; externals_are = afterwards-refused m _ wexternals₀ }

-- ---- the whole call

after_both : (a b : Answer) (new old : List ℕ) → a ≡ accepts → afterwards (and_then a b) new old ≡ afterwards b new old
after_both a b new old e = ap (λ (c : Answer). afterwards c new old) (and_then-next b e)

module _ (file : List ℕ) (n K party : ℕ) (contribution externals keys rows wkeys wexternals : List ℕ) where
  abbrev read : List Wire
  read = (read_file file).wires

  abbrev asked_read : Answer
  asked_read = open_asked n K read contribution externals keys rows (read_file file).named party (length wkeys) (length wexternals)

  abbrev earlier : Answer
  earlier = and_then (file_checked file) asked_read

  abbrev own_keys : Answer
  own_keys = own_keys_checked n K party read contribution externals keys

  abbrev gates : ℕ → Answer
  gates round = gates_checked (shake_pad round) n K party read (drawn 1 K read contribution) externals keys rows

  abbrev Opens : ℕ → Answer → List ℕ → List ℕ → Type 0
  Opens round a = OpenCall file n K party round contribution externals keys rows wkeys wexternals (number_in a) (place_in a)

  abbrev zero_keys : ℕ → List ℕ
  zero_keys round =
      afterwards (gates round) (wire_keys (shake_pad round) n K party read (drawn 1 K read contribution) externals keys rows) (replicate (length wkeys) 0)

  abbrev zero_externals : ℕ → List ℕ
  zero_externals round =
      afterwards (gates round) (wire_externals (shake_pad round) n K party read (drawn 1 K read contribution) externals keys rows) (replicate (length wexternals) 0)

  -- the call's ends, by the checks as they were made
  ends : {round : ℕ} {a : Answer} {wkeys' wexternals' : List ℕ} → a ≡ and_then (and_then earlier own_keys) (gates round)
      → wkeys' ≡ afterwards (and_then earlier own_keys) (zero_keys round) wkeys
      → wexternals' ≡ afterwards (and_then earlier own_keys) (zero_externals round) wexternals → Opens round a wkeys' wexternals'
  unfolding open_checked open_keys open_externals before_opening
  ends m k x = record { answer = reports m; wire_keys_is = k; wire_externals_is = x }

  refused_call : {round : ℕ} {answer : Answer} {why : Refused} → answer ≡ Err why → Err why ≡ earlier → Opens round answer wkeys wexternals
  refused_call {round} {answer} {why} e m =
      let r : and_then earlier own_keys ≡ Err why = sym (and_then_stop own_keys (sym m)) in
      ends (e ∙ and_then_stop (gates round) r) (afterwards-refused r (zero_keys round) wkeys) (afterwards-refused r (zero_externals round) wexternals)

  pub open_unread : {round : ℕ} {answer : Answer} {why : Refused} → answer ≡ Err why → (read_file file).answer ≡ Err why → Opens round answer wkeys wexternals
  open_unread e r = refused_call e (and_then_stop asked_read r)

  module _ {circuit : Circuit} (h : Holds circuit (read_file file)) {check : Answer}
      (checked : check ≡ open_asked n K (wires_in circuit) contribution externals keys rows (named_in circuit) party (length wkeys) (length wexternals)) where
    abbrev here : List Wire
    here = wires_in circuit

    earlier_met : check ≡ earlier
    earlier_met =
        behind_file file asked_read h
        (checked
        ∙ ap₂ (λ (w : List Wire) (x : List ℕ). open_asked n K w contribution externals keys rows x party (length wkeys) (length wexternals)) h.wires h.named)

    pub open_refused : {round : ℕ} {answer : Answer} {why : Refused} → answer ≡ Err why → check ≡ Err why → Opens round answer wkeys wexternals
    open_refused e k = refused_call e (sym k ∙ earlier_met)

    module _ (e : check ≡ accepts) where
      abbrev bytes : Answer
      bytes = open_bytes n K here contribution externals keys rows

      abbrev lengths : Answer
      lengths = open_lengths n K here contribution externals keys rows (length wkeys) (length wexternals)

      abbrev asked : Answer
      asked = open_party n K here contribution externals keys rows (named_in circuit) party (length wkeys) (length wexternals)

      all : and_then (session_checked n K) asked ≡ accepts
      all = sym checked ∙ e

      fits : SessionFits n K
      fits = session-fits n K (and_then-left (session_checked n K) asked all)

      seated : party < n
      seated = party-below n party (and_then-left (party_checked n party) (and_then (partakers_checked n here (named_in circuit)) (and_then lengths bytes)) (and_then-right (session_checked n K) asked all))

      lent_passed : and_then lengths bytes ≡ accepts
      lent_passed =
          and_then-right (partakers_checked n here (named_in circuit)) (and_then lengths bytes)
          (and_then-right (party_checked n party) (and_then (partakers_checked n here (named_in circuit)) (and_then lengths bytes)) (and_then-right (session_checked n K) asked all))

      sizes : lengths ≡ accepts
      sizes = and_then-left lengths bytes lent_passed

      -- 16 on, 17 on, 18 on
      abbrev lines : Answer
      lines = and_then (keys_checked n K here keys) (rows_checked n K here rows)

      abbrev offsets : Answer
      offsets = and_then (offsets_checked 1 K here contribution) lines

      contents : bytes ≡ accepts
      contents = and_then-right lengths bytes lent_passed

      contributed : and_then (contributions_checked 1 K here contribution) offsets ≡ accepts
      contributed = and_then-right (values_checked externals (modulus_at here)) (and_then (contributions_checked 1 K here contribution) offsets) contents

      lined : lines ≡ accepts
      lined =
          and_then-right (offsets_checked 1 K here contribution) lines (and_then-right (contributions_checked 1 K here contribution) offsets contributed)

      pub open_given : Given circuit n K party contribution externals keys rows
      open_given =
          record {
            file = file;
            held = held_of h;
            accepted = circuit-accepted file h;
            sizes = record { some = omega (arith, fits.parties.least); parties = fits.parties.most; long = fits.least; short = fits.most };
            seated = seated;
            own_size = lent_is _ _ sizes 0;
            externals_size = lent_is _ _ sizes 1;
            keys_size = lent_is _ _ sizes 2;
            rows_size = lent_is _ _ sizes 3;
            externals_below = and_then-left (values_checked externals (modulus_at here)) (and_then (contributions_checked 1 K here contribution) offsets) contents;
            contribution_below = and_then-left (contributions_checked 1 K here contribution) offsets contributed;
            keys_below = and_then-left (keys_checked n K here keys) (rows_checked n K here rows) lined;
            rows_below = and_then-right (keys_checked n K here keys) (rows_checked n K here rows) lined;
          }

      pub open_room : (length wkeys ≡ circuit.made * (n * K)) × (length wexternals ≡ circuit.made)
      open_room =
          (lent_is _ _ sizes 4 ∙ ap (λ (a : ℕ). a * (n * K)) (made-is (held_of h)), lent_is _ _ sizes 5 ∙ made-is (held_of h))

      -- what opening the rows gave, on the circuit of the code
      pub open_done : {round : ℕ} {z : Answer} {wkeys' wexternals' : List ℕ}
          → InputsOpened n K party round (wires_in circuit) contribution externals keys rows wkeys wexternals z wkeys' wexternals' → Opens round z wkeys' wexternals'
      open_done {round} {z} {wkeys'} {wexternals'} came =
          let there : InputsOpened n K party round read contribution externals keys rows wkeys wexternals z wkeys' wexternals' =
          subst (λ (w : List Wire). InputsOpened n K party round w contribution externals keys rows wkeys wexternals z wkeys' wexternals') h.wires came in
          let q : earlier ≡ accepts = sym earlier_met ∙ e in
          ends
          (there.answer_is ∙ sym (ap (λ (c : Answer). and_then c (gates round)) (and_then-next own_keys q)))
          (there.keys_are ∙ sym (after_both earlier own_keys (zero_keys round) wkeys q))
          (there.externals_are ∙ sym (after_both earlier own_keys (zero_externals round) wexternals q))
