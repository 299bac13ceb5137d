-- The pass as the code makes it: what stands in its locals at one wire is what the definitions cut out for that wire.
-- Assumes nothing.
use mathlib.Core.Path.{◌≡◌, sym, ap, ap₂, subst, ◌∙◌}
use mathlib.Core.List.{List, ◌++◌}
use Prim.Native.Nat.{ℕ, ◌+◌, ◌-◌, ◌*◌, ◌≤◌, ◌<◌}
use native.Mathlib.Omega.{arith}
use lib.ListN.{length, get_or, replicate, length-append, length-replicate}
use Rattle.lists.specs.Blocks.{tab, part}
use Rattle.lists.proofs.Blocks.{length-tab, get_or-tab}
use Rattle.lists.proofs.Sums.{times-fits}
use Rattle.words.specs.declared.gate.Wire.{Wire}
use Rattle.circuit.specs.declared.Circuit.{Circuit}
use Rattle.circuit.specs.Wires.{wire_at, modulus_at, moduli_of}
use Rattle.circuit.specs.Held.{wires_in}
use Rattle.circuit.proofs.More.{made}
use Rattle.counts.specs.declared.recipe.Recipe.{Recipe}
use Rattle.counts.specs.Recipe.{recipe}
use Rattle.counts.specs.Counts.{rows_by, rows_of, record_keys_by}
use Rattle.counts.specs.Moduli.{used_below}
use Rattle.counts.proofs.Wires.{padded-modulus}
use Rattle.counts.proofs.Counting.{rows_same}
use Rattle.session.proofs.Circuits.{made-is}
use Rattle.scheme.specs.Contribution.{record_at, offset_at}
use Rattle.scheme.proofs.Places.{record_fits}
use Rattle.scheme.specs.Opening.{Opened, own_rows}
use Rattle.opening.specs.declared.turn.Turn.{Turn}
use Rattle.opening.specs.Given.{Given}
use Rattle.opening.specs.Step.{over_by, open_at}
use Rattle.opening.specs.Ready.{Seated, Ready}
use Rattle.opening.specs.Swept.{Room, Stored, Swept}
use Rattle.opening.proofs.Reached.{opened_at, Reached}
use Rattle.opening.proofs.Opens.{over_same, turn_at, wire_is}
use Rattle.opening.proofs.Prepared.{seated, rows_inside, ready}
use Rattle.opening.proofs.Sweep.{reached_start, reached-step, swept_short, swept_all, kept-keys, kept-externals}

module _ {circuit : Circuit} {n K party : ℕ} {contribution externals keys rows : List ℕ}
    (given : Given circuit n K party contribution externals keys rows) where
  abbrev wires : List Wire
  wires = wires_in circuit

  abbrev m : ℕ
  m = n * K

  abbrev Stands : ℕ → ℕ → ℕ → ℕ → List ℕ → List ℕ → Type 0
  Stands round w z from wkeys wexternals = Reached n K party round wires contribution externals keys rows w z from wkeys wexternals

  size_is : {long : ℕ} → long ≡ circuit.made * m → long ≡ length wires * m
  size_is e = e ∙ ap (λ (x : ℕ). x * m) (sym (made-is given.held))

  pub loop_start : {round zero : ℕ} {wkeys wexternals : List ℕ} → zero ≡ record_at K wires 0 → length wkeys ≡ circuit.made * m → length wexternals ≡ circuit.made
      → Stands round 0 zero 0 wkeys wexternals
  loop_start {round} e f g = reached_start n K party round wires contribution externals keys rows e (size_is f) (g ∙ sym (made-is given.held))

  pub table-long : {table : List ℕ} → table ≡ moduli_of wires ++ replicate (1024 - circuit.made) 0 → length table ≡ 1024
  table-long e =
      ap length e ∙ length-append (moduli_of wires) (replicate (1024 - circuit.made) 0)
      ∙ omega (arith, made wires, made-is given.held, length-replicate {A = ℕ} (1024 - circuit.made) 0, given.held.room.made)

  -- the buffers keep their sizes
  pub same_keys : {a b : ℕ} → a ≡ length wires * m → b ≡ circuit.made * m → a ≡ b
  same_keys e f = e ∙ sym (size_is f)

  pub same-externals : {a b : ℕ} → a ≡ length wires → b ≡ circuit.made → a ≡ b
  same-externals e f = e ∙ made-is given.held ∙ sym f

  pub places_size : {places : List ℕ} → places ≡ tab 256 (used_below wires) → length places ≡ 256
  places_size e = ap length e ∙ length-tab 256 (used_below wires)

  -- a wire that the loop has come to
  module _ {round w zero from : ℕ} {wkeys wexternals : List ℕ} (within : w < length wires) (r : Stands round w zero from wkeys wexternals) where
    abbrev wire : Wire
    wire = wire_at wires w

    pub cursor_room : {step : ℕ} → step ≡ (K + 1) * record_keys_by (recipe wire) → zero + step ≤ length contribution
    cursor_room e = omega (arith, record_fits K wires w within, r.zero_is, given.own_size)

    pub places_room : {places : List ℕ} → places ≡ tab 256 (used_below wires) → wire.modulus < length places
    places_room e = omega (arith, places_size e, (given.accepted.fits w within).byte)

    module _ {table : List ℕ} (table_is : table ≡ moduli_of wires ++ replicate (1024 - circuit.made) 0) where
      moduli_are : (a : ℕ) → get_or table a 0 ≡ modulus_at wires a
      moduli_are a = ap (λ (l : List ℕ). get_or l a 0) table_is ∙ padded-modulus wires (1024 - circuit.made) a

      module _ {size : ℕ} (size-eq : size ≡ rows_by (recipe wire) (λ a. get_or table a 0) wire.modulus * m) where
        size_here : size ≡ rows_of wires w * m
        size_here = size-eq ∙ ap (λ (x : ℕ). x * m) (rows_same (recipe wire) (λ a. get_or table a 0) (modulus_at wires) wire.modulus moduli_are)

        pub rows-room : from + size ≤ length rows
        rows-room = omega (arith, rows_inside n K wires rows given.rows_size w within, r.from_is, size_here)

        module _ {places : List ℕ} (places-are : places ≡ tab 256 (used_below wires)) {how : Recipe} (how-is : how ≡ recipe wire) {own : List ℕ} (own_is : own ≡ part rows from size)
            {number over offset : ℕ} (number_is : number ≡ w) (over-is : over ≡ over_by how (λ a. get_or table a 0)) (offset_is : offset ≡ K * get_or places wire.modulus 0) where
          abbrev turn : Turn
          turn = record { n = n; k = K; party = party; round = round; wire = number; modulus = wire.modulus; over = over; zero = zero; offset = offset }

          how_same : how ≡ recipe (wire_at wires w)
          how_same = how-is

          own_same : own ≡ own_rows n K wires rows w
          unfolding own_rows
          own_same = own_is ∙ ap₂ (part rows) r.from_is size_here

          over_there : over ≡ over_by (recipe (wire_at wires w)) (modulus_at wires)
          over_there = over-is ∙ over_same how (λ a. get_or table a 0) (modulus_at wires) moduli_are ∙ ap (λ (h : Recipe). over_by h (modulus_at wires)) how_same

          offset_same : offset ≡ offset_at K wires (modulus_at wires w)
          unfolding offset_at
          offset_same =
              offset_is
              ∙ ap (λ (x : ℕ). K * x)
              (ap (λ (l : List ℕ). get_or l wire.modulus 0) places-are
              ∙ get_or-tab 256 (used_below wires) (modulus_at wires w) 0 (given.accepted.fits w within).byte)

          turn_same : turn ≡ turn_at n K party round wires w
          turn_same = rw (number_is, over_there, r.zero_is, offset_same)

          pub turn-seated : Seated turn
          turn-seated = subst (λ (t : Turn). Seated t) (sym turn_same) (seated given round w within)

          pub turn-ready : Ready turn contribution externals keys own wkeys wexternals how
          turn-ready =
              subst (λ (t : Turn). Ready t contribution externals keys own wkeys wexternals how) (sym turn_same)
              (subst (λ (l : List ℕ). Ready (turn_at n K party round wires w) contribution externals keys l wkeys wexternals how) (sym own_same)
              (subst (λ (h : Recipe). Ready (turn_at n K party round wires w) contribution externals keys (own_rows n K wires rows w) wkeys wexternals h) (sym how_same)
              (ready given round w within r)))

          pub turn-room : Room turn wkeys wexternals
          turn-room =
              record {
                keys = rw number_is (omega (arith, times-fits w (length wires) m within, r.keys_size));
                external = omega (arith, within, r.externals_size);
              }

          abbrev final : ℕ → Opened
          final = opened_at n K party round wires contribution externals keys rows

          -- what the code opens here is what document 01 opens
          opens : open_at turn contribution externals keys own wkeys wexternals how ≡ final w
          opens =
              ap (λ (t : Turn). open_at t contribution externals keys own wkeys wexternals how) turn_same
              ∙ ap₂ (λ (l : List ℕ) (h : Recipe). open_at (turn_at n K party round wires w) contribution externals keys l wkeys wexternals h) own_same how_same
              ∙ wire_is n K party round wires contribution externals keys rows given.own_size w given.accepted within wkeys wexternals r.wire

          module _ {e : ℕ} {wkeys' wexternals' : List ℕ}
              (put : Stored turn (open_at turn contribution externals keys own wkeys wexternals how) wkeys wexternals e wkeys' wexternals') where
            put_same : Stored (turn_at n K party round wires w) (final w) wkeys wexternals e wkeys' wexternals'
            put_same =
                subst (λ (t : Turn). Stored t (final w) wkeys wexternals e wkeys' wexternals') turn_same
                (subst (λ (o : Opened). Stored turn o wkeys wexternals e wkeys' wexternals') opens put)

            pub loop-next : {step : ℕ} → e < wire.modulus → step ≡ (K + 1) * record_keys_by (recipe wire) → Stands round (w + 1) (zero + step) (from + size) wkeys' wexternals'
            loop-next {step} l s =
                reached-step n K party round wires contribution externals keys rows r within put_same l
                (ap (λ (x : ℕ). zero + x) s) (ap (λ (x : ℕ). from + x) size_here)

            -- the buffers keep their sizes, whether a multiplier fits or not
            pub loop-keys : length wkeys' ≡ length wires * m
            loop-keys = kept-keys n K party round wires contribution externals keys rows r within put_same

            pub loop-externals : length wexternals' ≡ length wires
            loop-externals = kept-externals n K party round wires contribution externals keys rows r within put_same

            pub loop-short : wire.modulus ≤ e → Swept n K party round wires contribution externals keys rows w wkeys' wexternals'
            loop-short l =
                swept_short n K party round wires contribution externals keys rows r within put_same l

  pub loop-all : {round w zero from : ℕ} {wkeys wexternals : List ℕ} → Stands round w zero from wkeys wexternals → length wires ≤ w
      → Swept n K party round wires contribution externals keys rows circuit.made wkeys wexternals
  loop-all {round} {wkeys = wkeys} {wexternals = wexternals} r h =
      subst (λ (i : ℕ). Swept n K party round wires contribution externals keys rows i wkeys wexternals) (omega (arith, made-is given.held, r.turns))
      (swept_all n K party round wires contribution externals keys rows r h)
