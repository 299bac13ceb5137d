-- What a turn rests on is there, at each wire of an accepted circuit once the checks have passed.
-- Assumes nothing.
use mathlib.Core.Path.{◌≡◌, refl, sym, ap, subst}
use mathlib.Core.List.{List}
use Prim.Native.Nat.{ℕ, ◌-◌, ◌*◌, ◌<◌}
use native.Mathlib.Omega.{arith}
use lib.ListN.{length}
use Rattle.lists.specs.Blocks.{sum_to}
use Rattle.lists.proofs.Parts.{length_part}
use Rattle.lists.proofs.Sums.{times-fits}
use Rattle.words.specs.declared.gate.Gate.{Gate}
use Rattle.words.specs.declared.gate.Wire.{Wire}
use Rattle.circuit.specs.declared.Circuit.{Circuit}
use Rattle.circuit.specs.Wires.{wire_at, modulus_at, inputs_in}
use Rattle.circuit.specs.Accepted.{Alike, GateFits}
use Rattle.circuit.specs.Held.{wires_in}
use Rattle.pads.specs.Pad.{shake_pad}
use Rattle.scheme.proofs.Bounds.{prime, input-first}
use Rattle.pair.specs.Key.{external_of}
use Rattle.pair.specs.Count.{pair_rows_by, pair_rows_of}
use Rattle.pair.specs.Opening.{own_rows}
use Rattle.pair_opening.specs.declared.turn.Turn.{Turn}
use Rattle.pair_opening.specs.Given.{Given}
use Rattle.pair_opening.specs.Ready.{Seated, Lines, KeyHeld, KeyOpened, Ready}
use Rattle.pair_opening.specs.Step.{over_by}
use Rattle.pair_opening.proofs.Opens.{turn_at, key_below, rows_inside, rows-below, external-below}
use Rattle.pair_opening.proofs.Reached.{Reached}

module _ {circuit : Circuit} {K : ℕ} {keys rows : List ℕ} (given : Given circuit K keys rows) (round w : ℕ) (made : w < length (wires_in circuit)) where
  abbrev wires : List Wire
  wires = wires_in circuit

  abbrev p : ℕ
  p = modulus_at wires w

  abbrev turn : Turn
  turn = turn_at K round wires w

  pub seated : Seated turn
  seated = record { long = given.long; short = given.short; modulus = (prime given.accepted w made).two }

  own_lines : {gate : Gate} → (wire_at wires w).gate ≡ gate → Lines turn (pair_rows_by gate (modulus_at wires) p) (own_rows K wires rows w)
  unfolding own_rows
  own_lines is =
      subst (λ (g : Gate). Lines turn (pair_rows_by g (modulus_at wires) p) (own_rows K wires rows w)) is
      (record {
        size = length_part rows (sum_to w (pair_rows_of wires) * K) (pair_rows_of wires w * K) (rows_inside K wires rows given.rows_size w made);
        below = rows-below K wires rows given.rows_size w made given.rows_below;
      })

  module _ {from : ℕ} {wkeys wexternals : List ℕ} (r : Reached K round wires keys rows w from wkeys wexternals) where
    lower_held : (a : ℕ) → a < w → KeyHeld turn wkeys a
    lower_held a l = record { inside = omega (arith, times-fits a (length wires) K (omega arith), r.keys_size) }

    lower_there : (a : ℕ) → a < w → KeyOpened turn (modulus_at wires a) wkeys a
    lower_there a l =
        record {
          held = lower_held a l;
          external = subst (λ (xs : List ℕ). external_of xs < modulus_at wires a) (sym (r.key a l))
              (external-below given.accepted K keys rows (key_below K wires keys given.keys_size given.keys_below) (shake_pad round) a (omega arith));
        }

    like : {a : ℕ} → Alike wires w a → KeyOpened turn p wkeys a
    like {a} f = subst (λ (q : ℕ). KeyOpened turn q wkeys a) f.same (lower_there a f.lower)

    by-gate : {gate : Gate} → GateFits given.file wires w gate → (wire_at wires w).gate ≡ gate → Ready turn keys (own_rows K wires rows w) wkeys gate
    by-gate (GateFits.input fits) is =
        Ready.input (record { inside = omega (arith, times-fits w (inputs_in wires) K (input-first given.accepted w made is), given.keys_size) })
    by-gate (GateFits.add fits) is = Ready.add (record { a = (like fits.a).held; b = (like fits.b).held })
    by-gate (GateFits.scale fits) is = Ready.scale (like fits.a).held
    by-gate (GateFits.multiply fits) is = Ready.multiply (record { lines = own_lines is; a = like fits.a; b = like fits.b })
    by-gate (GateFits.project {gate = g} fits) is =
        let over : turn.over ≡ modulus_at wires g.a = ap (λ (h : Gate). over_by h (modulus_at wires)) is in
        Ready.project
        (record {
          lines = subst (λ (c : ℕ). Lines turn c (own_rows K wires rows w)) (ap (λ (q : ℕ). q - 1) (sym over)) (own_lines is);
          a = subst (λ (q : ℕ). KeyOpened turn q wkeys g.a) (sym over) (lower_there g.a fits.lower);
        })
    by-gate (GateFits.select fits) is = Ready.select

    pub ready : Ready turn keys (own_rows K wires rows w) wkeys (wire_at wires w).gate
    ready = by-gate (given.accepted.fits w made).gate refl
