-- The pass over the wires: what a turn may look up is what `pair` says, so what its gate makes is the wire's zero key and its rows.
-- Assumes nothing.
use mathlib.Core.Path.{◌≡◌, refl, sym, ap, subst, ◌∙◌, fun_ext}
use mathlib.Core.List.{List, ◌++◌}
use Prim.Native.Nat.{ℕ, ◌+◌, ◌-◌, ◌*◌, ◌≤◌, ◌<◌}
use native.Mathlib.Nat.{le_trans, mul-add}
use native.Mathlib.Omega.{arith}
use lib.ListN.{length, get_or, replicate, length-append, length-replicate}
use Rattle.lists.specs.Blocks.{blocks, sum_to, tab, part}
use Rattle.lists.proofs.Parts.{length_part}
use Rattle.lists.proofs.Sums.{times-fits}
use Rattle.lists.proofs.Blocks.{length-tab, get_or-tab}
use Rattle.lists.proofs.Steps.{Steps, Level, steps_start, steps_fits, steps_put, steps_whole, level_start, level_read, level_place, level_whole}
use Rattle.words.specs.declared.gate.Gate.{Gate}
use Rattle.words.specs.declared.gate.Wire.{Wire}
use Rattle.circuit.specs.declared.Circuit.{Circuit}
use Rattle.circuit.specs.Wires.{wire_at, modulus_at, moduli_of}
use Rattle.circuit.specs.Accepted.{GateFits}
use Rattle.circuit.specs.Held.{wires_in}
use Rattle.circuit.proofs.More.{made}
use Rattle.counts.specs.declared.recipe.Images.TheVariants.{File}
use Rattle.counts.specs.Images.{ImageHeld, ImagesFit}
use Rattle.counts.specs.Recipe.{image_of}
use Rattle.counts.specs.Moduli.{used_below, moduli_used}
use Rattle.counts.proofs.Wires.{wire-at, padded-modulus}
use Rattle.session.proofs.Circuits.{made-is}
use Rattle.contribution.proofs.Cursor.{within}
use Rattle.contribution.proofs.Wired.{sum_to_times_right}
use Rattle.contribution.proofs.Sizes.{times-most}
use Rattle.pads.specs.Pad.{Pad, shake_pad}
use Rattle.pads.proofs.Sizes.{shake_pad-length}
use Rattle.scheme.specs.Contribution.{offset_at}
use Rattle.scheme.proofs.Bounds.{prime, input-first}
use Rattle.scheme.proofs.Used.{used-modulus}
use Rattle.pair.specs.Draw.{input_at, offset_in, zero_in}
use Rattle.pair.specs.Gate.{zero_by, rows_by}
use Rattle.pair.specs.Count.{pair_rows_by, pair_rows_of, pair_rows_in}
use Rattle.pair.specs.Rows.{zero_key, gate_rows, pair_rows}
use Rattle.pair.proofs.Steps.{zero_same, rows_same, zero_key-step}
use Rattle.pair.proofs.Sizes.{offset-inside, input-inside, DrawSizes, zero_key-size}
use Rattle.pair_checks.proofs.Counting.{pair_rows_at}
use Rattle.pair_garbling.specs.declared.turn.Turn.{Turn}
use Rattle.pair_garbling.specs.Source.{Stands, Offset, OfGate, Sourced, Put, offset_here, zero_here, key_here, rows_here}
use Rattle.pair_garbling.specs.Ready.{Drawn, ZeroKeys, rows_garbled}

-- ---- what a gate makes depends on the offsets of moduli alone

module _ {file : List ℕ} {wires : List Wire} {w : ℕ} (o o' : ℕ → List ℕ) (z : ℕ → List ℕ) (pad : Pad) (K : ℕ) (own : o (modulus_at wires w) ≡ o' (modulus_at wires w))
    (e : (a : ℕ) → a < w → o (modulus_at wires a) ≡ o' (modulus_at wires a)) where
  zero_offsets : {gate : Gate} (drawn : List ℕ) → GateFits file wires w gate
      → zero_by file (modulus_at wires) o z pad K w (modulus_at wires w) drawn gate ≡ zero_by file (modulus_at wires) o' z pad K w (modulus_at wires w) drawn gate
  unfolding zero_by
  zero_offsets drawn (GateFits.input fits) = refl
  zero_offsets drawn (GateFits.add fits) = refl
  zero_offsets drawn (GateFits.scale fits) = refl
  zero_offsets drawn (GateFits.multiply {gate} fits) = rw (own, e gate.a fits.a.lower, e gate.b fits.b.lower)
  zero_offsets drawn (GateFits.project {gate} fits) = rw (own, e gate.a fits.lower)
  zero_offsets drawn (GateFits.select fits) = refl

  rows_offsets : {gate : Gate} → GateFits file wires w gate
      → rows_by file (modulus_at wires) o z pad K w (modulus_at wires w) gate ≡ rows_by file (modulus_at wires) o' z pad K w (modulus_at wires w) gate
  unfolding rows_by
  rows_offsets (GateFits.input fits) = refl
  rows_offsets (GateFits.add fits) = refl
  rows_offsets (GateFits.scale fits) = refl
  rows_offsets (GateFits.multiply {gate} fits) = rw (own, e gate.a fits.a.lower, e gate.b fits.b.lower)
  rows_offsets (GateFits.project {gate} fits) = rw (own, e gate.a fits.lower)
  rows_offsets (GateFits.select fits) = refl

module _ {file : List ℕ} {circuit : Circuit} {K : ℕ} {draw : List ℕ} (r : Drawn file circuit K draw) (round : ℕ) where
  abbrev wires : List Wire
  wires = wires_in circuit

  abbrev pad : Pad
  pad = shake_pad round

  abbrev pub zero_at : ℕ → List ℕ
  zero_at = zero_key pad K file wires draw

  abbrev pub rows_at : ℕ → List ℕ
  rows_at = gate_rows pad K file wires draw

  abbrev pub size_at : ℕ → ℕ
  size_at w = pair_rows_of wires w * K

  sized : DrawSizes K wires draw
  unfolding offset_in zero_in
  sized =
      record {
        offset = λ w l.
            length_part draw (offset_at K wires (modulus_at wires w)) K
            (omega (arith, r.size, offset-inside K wires (modulus_at wires w) (used-modulus wires w l) (r.accepted.fits w l).byte));
        zero = λ w l. length_part draw (input_at K wires w) K (omega (arith, r.size, input-inside K wires w l));
      }

  pub key-size : (w : ℕ) → w < circuit.made → length (zero_at w) ≡ K
  key-size w h = zero_key-size (record { size = λ q n input _. shake_pad-length round q n input }) r.accepted sized w (within r.held h)

  -- ---- the memory, and the two loops' ends

  pub keys_fit : circuit.made * K ≤ 131072
  keys_fit = times-most circuit.made K 1024 128 r.held.room.made r.short

  total : sum_to circuit.made size_at ≡ pair_rows_in wires * K
  total = sum_to_times_right circuit.made K (pair_rows_of wires) ∙ ap (λ (m : ℕ). sum_to m (pair_rows_of wires) * K) (sym (made-is r.held))

  pub pass_start : {keys rows : List ℕ} → length keys ≡ circuit.made * K → length rows ≡ pair_rows_in wires * K
      → Level keys 0 0 circuit.made K zero_at 0 keys × Steps rows 0 0 circuit.made size_at rows_at 0 rows
  pass_start e t = (level_start (omega arith), steps_start (omega (arith, total)))

  pub pass_done : {keys₀ keys rows₀ rows : List ℕ} {w place from : ℕ} → Level keys₀ 0 w circuit.made K zero_at place keys
      → Steps rows₀ 0 w circuit.made size_at rows_at from rows → circuit.made ≤ w → length keys₀ ≡ circuit.made * K → length rows₀ ≡ pair_rows_in wires * K
      → ZeroKeys file circuit K round draw keys × (rows ≡ rows_garbled K round circuit file draw)
  unfolding pair_rows
  pass_done k s h e t = (
    record { stand = level_whole k h e },
    steps_whole s h (t ∙ sym total) ∙ ap (λ (m : ℕ). blocks m rows_at) (sym (made-is r.held)),
  )

  -- ---- a turn

  module _ {ranks moduli : List ℕ} (er : ranks ≡ tab 256 (used_below wires)) (em : moduli ≡ moduli_of wires ++ replicate (1024 - circuit.made) 0) where
    modulus_is : (a : ℕ) → get_or moduli a 0 ≡ modulus_at wires a
    modulus_is a = ap (λ (l : List ℕ). get_or l a 0) em ∙ padded-modulus wires (1024 - circuit.made) a

    moduli-long : length moduli ≡ 1024
    moduli-long = ap length em ∙ simp length-append (omega (arith, length-replicate {A = ℕ} (1024 - circuit.made) 0, made wires, made-is r.held, r.held.room.made))

    rank_is : (p : ℕ) → p < 256 → get_or ranks p 0 ≡ used_below wires p
    rank_is p h = ap (λ (l : List ℕ). get_or l p 0) er ∙ get_or-tab 256 (used_below wires) p 0 h

    offset_is : (a : ℕ) → a < length wires → offset_here K draw ranks (modulus_at wires a) ≡ offset_in K wires draw (modulus_at wires a)
    unfolding offset_in offset_at
    offset_is a l = ap (λ (k : ℕ). part draw (K * k) K) (rank_is (modulus_at wires a) (r.accepted.fits a l).byte)

    offset_there : (a : ℕ) → a < length wires → Offset K draw ranks (modulus_at wires a)
    unfolding offset_at
    offset_there a l =
        let byte = (r.accepted.fits a l).byte in
        record {
          held = omega (arith, ap length er ∙ length-tab 256 (used_below wires), byte);
          fits = rw (rank_is (modulus_at wires a) byte, r.size) (offset-inside K wires (modulus_at wires a) (used-modulus wires a l) byte);
        }

    pub turn-bytes : {w y : ℕ} → w < circuit.made → y ≡ pair_rows_by (wire_at circuit.wires w).gate (λ a. get_or moduli a 0) (wire_at circuit.wires w).modulus * K
        → y ≡ size_at w
    turn-bytes {w} h e = e ∙ ap (λ (n : ℕ). n * K) (pair_rows_at circuit.wires circuit.made w (1024 - circuit.made) moduli h em)

    module _ {keys₀ keys : List ℕ} {w place first number : ℕ} (h : w < circuit.made) (done : Level keys₀ 0 w circuit.made K zero_at place keys)
        (ef : first ≡ K * moduli_used wires) (en : number ≡ w) where
      abbrev wire : Wire
      wire = wire_at circuit.wires w

      same : wire_at wires w ≡ wire
      same = wire-at circuit.wires circuit.made w h

      inside : w < length wires
      inside = within r.held h

      lower : {a : ℕ} → a < w → a < length wires
      lower l = omega (arith, inside)

      lower_key : (a : ℕ) → a < w → zero_here K keys a ≡ zero_at a
      lower_key a l = level_read done a l (λ k m. key-size k (omega arith))

      stands : {a : ℕ} → a < w → Stands K keys a
      stands {a} l = record { inside = le_trans (times-fits a w K l) (omega (arith, level_place done, steps_fits done h)) }

      at_is : first + place ≡ input_at K wires w
      unfolding input_at
      at_is = omega (arith, level_place done, mul-add K (moduli_used wires) w)

      drawn_is : part draw (first + place) K ≡ zero_in K wires draw w
      unfolding zero_in
      drawn_is = ap (λ (i : ℕ). part draw i K) at_is

      abbrev pub turn : Turn
      turn = record { k = K; round = round; wire = number; modulus = wire.modulus; at = first + place; place = place }

      p_is : modulus_at wires w ≡ wire.modulus
      p_is = ap (λ (v : Wire). v.modulus) same

      of_gate : {gate : Gate} → GateFits file wires w gate → (wire_at wires w).gate ≡ gate → OfGate turn file draw ranks moduli keys gate
      unfolding image_of
      of_gate (GateFits.input f) is = OfGate.input (omega (arith, at_is, input-inside K wires w (input-first r.accepted w inside is), r.size))
      of_gate (GateFits.add f) is = OfGate.add (record { a = stands f.a.lower; b = stands f.b.lower })
      of_gate (GateFits.scale f) is = OfGate.scale (stands f.a.lower)
      of_gate (GateFits.multiply {gate} f) is =
          OfGate.multiply {g = gate}
          (record {
            wires = record { a = stands f.a.lower; b = stands f.b.lower };
            a = modulus_is gate.a ∙ f.a.same ∙ p_is;
            b = modulus_is gate.b ∙ f.b.same ∙ p_is;
            offset = subst (Offset K draw ranks) p_is (offset_there w inside);
          })
      of_gate (GateFits.project {gate} f) is =
          OfGate.project {g = gate}
          (record {
            held = omega (arith, moduli-long, lower f.lower, r.accepted.wires_limit);
            table =
                rw (modulus_is gate.a)
                (record {
                  under = (prime r.accepted gate.a (lower f.lower)).two;
                  wire = stands f.lower;
                  offset = offset_there gate.a (lower f.lower);
                  given = subst (Offset K draw ranks) p_is (offset_there w inside);
                  images =
                      subst (λ (q : ℕ). ImagesFit file (File gate.table) (modulus_at wires gate.a) q) p_is
                      (record { held = λ v l. ImageHeld.in_file (omega (arith, (f.entries v l).inside)); below = λ v l. (f.entries v l).image });
                });
          })
      of_gate (GateFits.select {gate} f) is = OfGate.select {g = gate}

      rows-counted : pair_rows_by wire.gate (λ a. get_or moduli a 0) wire.modulus ≡ pair_rows_of wires w
      rows-counted = pair_rows_at circuit.wires circuit.made w (1024 - circuit.made) moduli h em

      pub sourced : {out : List ℕ} → length out ≡ size_at w → Sourced turn file draw ranks moduli keys wire.gate out
      sourced e =
          record {
            ranged = record { long = r.long; short = r.short; modulus = subst (λ (q : ℕ). 1 < q) p_is (prime r.accepted w inside).two };
            rests = subst (λ (v : Wire). OfGate turn file draw ranks moduli keys v.gate) same (of_gate (r.accepted.fits w inside).gate refl);
            room = e ∙ ap (λ (n : ℕ). n * K) (sym rows-counted);
          }

      abbrev looked : ℕ → List ℕ
      looked = offset_here K draw ranks

      key_here_lem : key_here turn file draw ranks moduli keys wire.gate ≡ zero_at w
      key_here_lem =
          ap (λ (i : ℕ). zero_by file (λ a. get_or moduli a 0) looked (zero_here K keys) pad K i wire.modulus (part draw (first + place) K) wire.gate) en
          ∙ ap (λ (v : Wire). zero_by file (λ a. get_or moduli a 0) looked (zero_here K keys) pad K w v.modulus (part draw (first + place) K) v.gate) (sym same)
          ∙ ap (λ (d : List ℕ). zero_by file (λ a. get_or moduli a 0) looked (zero_here K keys) pad K w (modulus_at wires w) d (wire_at wires w).gate) drawn_is
          ∙ ap (λ (f : ℕ → ℕ). zero_by file f looked (zero_here K keys) pad K w (modulus_at wires w) (zero_in K wires draw w) (wire_at wires w).gate) (fun_ext modulus_is)
          ∙ zero_offsets looked (offset_in K wires draw) (zero_here K keys) pad K (offset_is w inside) (λ a l. offset_is a (lower l)) (zero_in K wires draw w) (r.accepted.fits w inside).gate
          ∙ zero_same (modulus_at wires) (offset_in K wires draw) (zero_here K keys) zero_at pad K (modulus_at wires w) (zero_in K wires draw w) (r.accepted.fits w inside).gate lower_key
          ∙ sym (zero_key-step r.accepted w inside pad K draw)

      pub rows-here : rows_here turn file draw ranks moduli keys wire.gate ≡ rows_at w
      unfolding gate_rows
      rows-here =
          ap (λ (i : ℕ). rows_by file (λ a. get_or moduli a 0) looked (zero_here K keys) pad K i wire.modulus wire.gate) en
          ∙ ap (λ (v : Wire). rows_by file (λ a. get_or moduli a 0) looked (zero_here K keys) pad K w v.modulus v.gate) (sym same)
          ∙ ap (λ (f : ℕ → ℕ). rows_by file f looked (zero_here K keys) pad K w (modulus_at wires w) (wire_at wires w).gate) (fun_ext modulus_is)
          ∙ rows_offsets looked (offset_in K wires draw) (zero_here K keys) pad K (offset_is w inside) (λ a l. offset_is a (lower l)) (r.accepted.fits w inside).gate
          ∙ rows_same (modulus_at wires) (offset_in K wires draw) (zero_here K keys) zero_at pad K (modulus_at wires w) (r.accepted.fits w inside).gate lower_key

      pub keys_step : {keys' : List ℕ} → Put K place (key_here turn file draw ranks moduli keys wire.gate) keys keys'
          → Level keys₀ 0 (w + 1) circuit.made K zero_at (place + K) keys'
      keys_step put = steps_put done h refl put.long put.eq key_here_lem
