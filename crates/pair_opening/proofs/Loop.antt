-- The pass as the code makes it: what stands in its locals at one wire is what the definitions cut out for that wire.
-- Assumes nothing.
use mathlib.Core.Path.{◌≡◌, sym, ap, ap₂, subst, ◌∙◌}
use mathlib.Core.List.{List, ◌++◌}
use Prim.Native.Nat.{ℕ, ◌+◌, ◌-◌, ◌*◌, ◌≤◌, ◌<◌}
use native.Mathlib.Omega.{arith}
use lib.ListN.{length, get_or, replicate, length-append, length-replicate, set}
use Rattle.lists.specs.Blocks.{part, written}
use Rattle.lists.proofs.Sums.{times-fits}
use Rattle.words.specs.declared.gate.Gate.{Gate}
use Rattle.words.specs.declared.gate.Wire.{Wire}
use Rattle.circuit.specs.declared.Circuit.{Circuit}
use Rattle.circuit.specs.Wires.{wire_at, modulus_at, moduli_of}
use Rattle.circuit.specs.Held.{wires_in}
use Rattle.circuit.proofs.More.{made}
use Rattle.counts.proofs.Wires.{wire-at, padded-modulus}
use Rattle.session.proofs.Circuits.{made-is}
use Rattle.pads.specs.Pad.{shake_pad}
use Rattle.pair.specs.Key.{external_of}
use Rattle.pair.specs.Count.{pair_rows_by, pair_rows_of}
use Rattle.pair.specs.Opening.{own_rows, opened_key, pair_wire_keys, pair_wire_externals}
use Rattle.pair_checks.proofs.Counting.{pair_rows_at}
use Rattle.pair_opening.specs.declared.turn.Turn.{Turn}
use Rattle.pair_opening.specs.Given.{Given}
use Rattle.pair_opening.specs.Ready.{Seated, Ready}
use Rattle.pair_opening.specs.Step.{over_by, open_at, Room, Stored}
use Rattle.pair_opening.proofs.Opens.{over_same, turn_at, rows_inside, wire_is}
use Rattle.pair_opening.proofs.Reached.{Reached}
use Rattle.pair_opening.proofs.Prepared.{seated, ready}
use Rattle.pair_opening.proofs.Sweep.{reached_start, reached-step, all-keys, all-externals}

-- ---- a wire is put into the buffers

pub put_is : (turn : Turn) {key wkeys₀ wexternals₀ wkeys out : List ℕ} {w : ℕ} → w ≡ turn.wire → length out ≡ turn.k → out ≡ key
    → wkeys ≡ written wkeys₀ (w * turn.k) out → Stored turn key wkeys₀ wexternals₀ wkeys (set wexternals₀ w (get_or out 0 0))
unfolding external_of
put_is turn {wkeys₀ = wkeys₀} {wexternals₀ = wexternals₀} e s m k =
    record {
      size = ap length (sym m) ∙ s;
      keys = k ∙ ap₂ (λ (x : ℕ) (xs : List ℕ). written wkeys₀ (x * turn.k) xs) e m;
      externals = ap₂ (λ (x : ℕ) (xs : List ℕ). set wexternals₀ x (get_or xs 0 0)) e m;
    }

-- ---- the loop

module _ {circuit : Circuit} {K : ℕ} {keys rows : List ℕ} (given : Given circuit K keys rows) where
  abbrev wires : List Wire
  wires = wires_in circuit

  abbrev Stands : ℕ → ℕ → ℕ → List ℕ → List ℕ → Type 0
  Stands round w from wkeys wexternals = Reached K round wires keys rows w from wkeys wexternals

  size_is : {long : ℕ} → long ≡ circuit.made * K → long ≡ length wires * K
  size_is e = e ∙ ap (λ (x : ℕ). x * K) (sym (made-is given.held))

  pub loop_start : {round : ℕ} {wkeys wexternals : List ℕ} → length wkeys ≡ circuit.made * K → length wexternals ≡ circuit.made
      → Stands round 0 0 wkeys wexternals
  loop_start {round} f g = reached_start K round wires keys rows (size_is f) (g ∙ sym (made-is given.held))

  pub table-long : {table : List ℕ} → table ≡ moduli_of wires ++ replicate (1024 - circuit.made) 0 → length table ≡ 1024
  table-long e =
      ap length e ∙ length-append (moduli_of wires) (replicate (1024 - circuit.made) 0)
      ∙ omega (arith, made wires, made-is given.held, length-replicate {A = ℕ} (1024 - circuit.made) 0, given.held.room.made)

  -- the buffers keep their sizes
  pub same_keys : {a b : ℕ} → a ≡ length wires * K → b ≡ circuit.made * K → a ≡ b
  same_keys e f = e ∙ sym (size_is f)

  pub same-externals : {a b : ℕ} → a ≡ length wires → b ≡ circuit.made → a ≡ b
  same-externals e f = e ∙ made-is given.held ∙ sym f

  -- a wire that the loop has come to
  module _ {round w from : ℕ} {wkeys wexternals : List ℕ} (h : w < circuit.made) (r : Stands round w from wkeys wexternals) where
    abbrev wire : Wire
    wire = wire_at circuit.wires w

    within : w < length wires
    within = omega (arith, made-is given.held)

    wire_same : wire_at wires w ≡ wire
    wire_same = wire-at circuit.wires circuit.made w h

    module _ {table : List ℕ} (table_is : table ≡ moduli_of wires ++ replicate (1024 - circuit.made) 0) where
      moduli_are : (a : ℕ) → get_or table a 0 ≡ modulus_at wires a
      moduli_are a = ap (λ (l : List ℕ). get_or l a 0) table_is ∙ padded-modulus wires (1024 - circuit.made) a

      module _ {size : ℕ} (size-eq : size ≡ pair_rows_by wire.gate (λ a. get_or table a 0) wire.modulus * K) where
        size_here : size ≡ pair_rows_of wires w * K
        size_here = size-eq ∙ ap (λ (x : ℕ). x * K) (pair_rows_at circuit.wires circuit.made w (1024 - circuit.made) table h table_is)

        pub rows-room : from + size ≤ length rows
        rows-room = omega (arith, rows_inside K wires rows given.rows_size w within, r.from_is, size_here)

        module _ {own : List ℕ} (own_is : own ≡ part rows from size) {number over : ℕ} (number_is : number ≡ w)
            (over-is : over ≡ over_by wire.gate (λ a. get_or table a 0)) where
          abbrev turn : Turn
          turn = record { k = K; round = round; wire = number; modulus = wire.modulus; over = over }

          own_same : own ≡ own_rows K wires rows w
          unfolding own_rows
          own_same = own_is ∙ ap₂ (part rows) r.from_is size_here

          gate_same : wire.gate ≡ (wire_at wires w).gate
          gate_same = ap (λ (x : Wire). x.gate) (sym wire_same)

          modulus_same : wire.modulus ≡ modulus_at wires w
          modulus_same = ap (λ (x : Wire). x.modulus) (sym wire_same)

          over_there : over ≡ over_by (wire_at wires w).gate (modulus_at wires)
          over_there =
              over-is ∙ over_same wire.gate (λ a. get_or table a 0) (modulus_at wires) moduli_are ∙ ap (λ (g : Gate). over_by g (modulus_at wires)) gate_same

          turn_same : turn ≡ turn_at K round wires w
          turn_same = rw (number_is, modulus_same, over_there)

          pub turn-seated : Seated turn
          turn-seated = subst (λ (t : Turn). Seated t) (sym turn_same) (seated given round w within)

          pub turn-ready : Ready turn keys own wkeys wire.gate
          turn-ready =
              subst (λ (t : Turn). Ready t keys own wkeys wire.gate) (sym turn_same)
              (subst (λ (l : List ℕ). Ready (turn_at K round wires w) keys l wkeys wire.gate) (sym own_same)
              (subst (λ (g : Gate). Ready (turn_at K round wires w) keys (own_rows K wires rows w) wkeys g) (sym gate_same) (ready given round w within r)))

          pub turn-room : Room turn wkeys wexternals
          turn-room =
              record {
                keys = rw number_is (omega (arith, times-fits w (length wires) K within, r.keys_size));
                external = omega (arith, within, r.externals_size);
              }

          abbrev final : List ℕ
          final = opened_key (shake_pad round) K wires keys rows w

          -- what the code opens here is the wire's opened key
          opens : open_at turn keys own wkeys wire.gate ≡ final
          opens =
              ap (λ (t : Turn). open_at t keys own wkeys wire.gate) turn_same
              ∙ ap₂ (λ (l : List ℕ) (g : Gate). open_at (turn_at K round wires w) keys l wkeys g) own_same gate_same
              ∙ wire_is given.accepted K round keys rows w within wkeys r.key

          pub loop-next : {wkeys' wexternals' : List ℕ} → Stored turn (open_at turn keys own wkeys wire.gate) wkeys wexternals wkeys' wexternals'
              → Stands round (w + 1) (from + size) wkeys' wexternals'
          loop-next {wkeys'} {wexternals'} put =
              reached-step K round wires keys rows r within
              (subst (λ (t : Turn). Stored t final wkeys wexternals wkeys' wexternals') turn_same
              (subst (λ (o : List ℕ). Stored turn o wkeys wexternals wkeys' wexternals') opens put))
              (ap (λ (x : ℕ). from + x) size_here)

  module _ {round w from : ℕ} {wkeys wexternals : List ℕ} (r : Stands round w from wkeys wexternals) (h : circuit.made ≤ w) where
    pub loop-keys : wkeys ≡ pair_wire_keys (shake_pad round) K wires keys rows
    loop-keys = all-keys K round wires keys rows r (omega (arith, made-is given.held))

    pub loop-externals : wexternals ≡ pair_wire_externals (shake_pad round) K wires keys rows
    loop-externals = all-externals K round wires keys rows r (omega (arith, made-is given.held))
