-- What a turn rests on is there, at each wire of an accepted circuit once the checks have passed.
-- Assumes nothing.
use mathlib.Core.Path.{◌≡◌, refl, sym, ap, subst, ◌∙◌}
use mathlib.Core.List.{List}
use Prim.Native.Nat.{ℕ, ◌+◌, ◌*◌, ◌≤◌, ◌<◌}
use native.Mathlib.Nat.{mul_comm, mul-zero}
use native.Mathlib.Omega.{arith}
use borrow.Author.Tests.{leb-false}
use lib.ListN.{length, get_or}
use Rattle.lists.specs.Blocks.{sum_to, runs}
use Rattle.lists.proofs.Parts.{length_part}
use Rattle.lists.proofs.Sums.{sum_to_ext, sum_to_times, sum_to-fits, times-fits}
use Rattle.lists.proofs.Blocks.{get_or-runs}
use Rattle.residue.specs.Vector.{AllBelow}
use Rattle.checks.specs.declared.Refusal.TheVariants.{ValueTooLarge, KeyOrRowTooLarge}
use Rattle.checks.proofs.Passed.{none_bad_none}
use Rattle.words.specs.declared.gate.Wire.{Wire}
use Rattle.circuit.specs.declared.Circuit.{Circuit}
use Rattle.circuit.specs.Wires.{wire_at, modulus_at, inputs_in}
use Rattle.circuit.specs.Accepted.{Alike}
use Rattle.circuit.specs.Held.{wires_in}
use Rattle.counts.specs.declared.recipe.Recipe.{Recipe}
use Rattle.counts.specs.Recipe.{recipe}
use Rattle.counts.specs.Counts.{rows_by, rows_of, rows_in, record_keys_by}
use Rattle.counts.proofs.Recipes.{RecipeFits, recipe-fits}
use Rattle.counts.proofs.Recipes.RecipeFits.{entered, sum, multiple, table, product, choice}
use Rattle.session.specs.Session.{too_large, values_checked}
use Rattle.scheme.specs.Contribution.{key_at}
use Rattle.scheme.specs.Opening.{row_at, own_rows}
use Rattle.scheme.proofs.Places.{key_fits, offset-fits}
use Rattle.scheme.proofs.Used.{used-modulus}
use Rattle.scheme.proofs.EachBelow.{below-part}
use Rattle.scheme.proofs.Bounds.{prime}
use Rattle.scheme.specs.Bytes.{bytes_checked, rows_checked, counted_rows_checked}
use Rattle.opening.specs.declared.turn.Turn.{Turn}
use Rattle.opening.specs.Given.{Rows, Given}
use Rattle.opening.specs.Step.{over_by}
use Rattle.opening.specs.Ready.{Seated, Inside, Lower, Ready}
use Rattle.opening.proofs.Reached.{Reached}
use Rattle.opening.proofs.Opens.{turn_at}
use Rattle.checks.specs.Answer.{accepts}

-- the rows of a wire among all, in bytes: where they start, and that they lie inside
module _ (n K : ℕ) (wires : List Wire) where
  abbrev bytes_of : ℕ → ℕ
  bytes_of v = rows_of wires v * (n * K)

  rows_place : (w : ℕ) → sum_to w bytes_of ≡ row_at wires w * (n * K)
  unfolding row_at
  rows_place w =
      sum_to_ext w bytes_of (λ v. n * K * rows_of wires v) (λ v _. mul_comm (rows_of wires v) (n * K))
      ∙ sum_to_times w (n * K) (rows_of wires) ∙ mul_comm (n * K) (sum_to w (rows_of wires))

  module _ (rows : List ℕ) (size : length rows ≡ rows_in wires * (n * K)) (w : ℕ) (h : w < length wires) where
    pub rows_inside : row_at wires w * (n * K) + rows_of wires w * (n * K) ≤ length rows
    unfolding row_at
    rows_inside = omega (arith, sum_to-fits w (length wires) bytes_of h, rows_place w, rows_place (length wires), size)

    -- the checked bytes
    rows-below : rows_checked n K wires rows ≡ accepts → AllBelow (modulus_at wires w) (own_rows n K wires rows w)
    unfolding counted_rows_checked bytes_checked own_rows
    rows-below e =
        below-part (modulus_at wires w) rows (row_at wires w * (n * K)) (bytes_of w) rows_inside
        (λ i l.
        rw (get_or-runs (length wires) bytes_of (modulus_at wires) w i 0 h l, rows_place w) at
        (leb-false (get_or (runs (length wires) bytes_of (modulus_at wires)) (sum_to w bytes_of + i) 0) (get_or rows (sum_to w bytes_of + i) 0)
        (none_bad_none (length rows) (too_large rows (λ j. get_or (runs (length wires) bytes_of (modulus_at wires)) j 0)) KeyOrRowTooLarge e
        (sum_to w bytes_of + i) (omega (arith, rows_inside, rows_place w)))))

module _ {circuit : Circuit} {n K party : ℕ} {contribution externals keys rows : List ℕ}
    (given : Given circuit n K party contribution externals keys rows) where
  abbrev wires : List Wire
  wires = wires_in circuit

  abbrev m : ℕ
  m = n * K

  external-below : (w : ℕ) → w < inputs_in wires → get_or externals w 0 < modulus_at wires w
  unfolding values_checked
  external-below w h =
      leb-false (modulus_at wires w) (get_or externals w 0)
      (none_bad_none (length externals) (too_large externals (modulus_at wires)) ValueTooLarge given.externals_below w (omega (arith, given.externals_size)))

  module _ (round w : ℕ) (made : w < length wires) where
    abbrev p : ℕ
    p = modulus_at wires w

    abbrev turn : Turn
    turn = turn_at n K party round wires w

    pub seated : Seated turn
    seated = record { sizes = given.sizes; party = given.seated; modulus = (prime given.accepted w made).two }

    module _ {how : Recipe} (is : recipe (wire_at wires w) ≡ how) where
      own_lines : Rows n K p (own_rows n K wires rows w) (rows_by how (modulus_at wires) p)
      unfolding own_rows
      own_lines =
          subst (λ (r : Recipe). Rows n K p (own_rows n K wires rows w) (rows_by r (modulus_at wires) p)) is
          (record {
            modulus = (prime given.accepted w made).two;
            size = length_part rows (row_at wires w * m) (rows_of wires w * m) (rows_inside n K wires rows given.rows_size w made);
            below = rows-below n K wires rows given.rows_size w made given.rows_below;
          })

      own_there : 0 < record_keys_by how → Inside turn contribution
      unfolding key_at
      own_there h =
          record {
            zero = omega (arith, key_fits K wires w 0 (rw is h) made, mul-zero K, given.own_size);
            offset = omega (arith, offset-fits K wires p (used-modulus wires w made) (given.accepted.fits w made).byte, given.own_size);
          }

    module _ {zero from : ℕ} {wkeys wexternals : List ℕ}
        (r : Reached n K party round wires contribution externals keys rows w zero from wkeys wexternals) where
      lower_there : (a : ℕ) → a < w → Lower turn (modulus_at wires a) wkeys wexternals a
      lower_there a l =
          record {
            keys = omega (arith, times-fits a (length wires) m (omega arith), r.keys_size);
            held = omega (arith, r.externals_size);
            below = r.below a l;
          }

      like : {a : ℕ} → Alike wires w a → Lower turn p wkeys wexternals a
      like {a} f = subst (λ (q : ℕ). Lower turn q wkeys wexternals a) f.same (lower_there a f.lower)

      by_recipe : {how : Recipe} → RecipeFits given.file wires w how → recipe (wire_at wires w) ≡ how
          → Ready turn contribution externals keys (own_rows n K wires rows w) wkeys wexternals how
      by_recipe (entered here) is =
          record {
            inside = omega (arith, times-fits w (inputs_in wires) m here, given.keys_size);
            held = omega (arith, given.externals_size);
            below = external-below w here;
          }
      by_recipe (sum fits) is = record { a = like fits.a; b = like fits.b }
      by_recipe (multiple fits) is = like fits.a
      by_recipe (table {g} fits) is =
          let over : turn.over ≡ modulus_at wires g.a = ap (λ (r : Recipe). over_by r (modulus_at wires)) is in
          record {
            own = own_there is (omega arith);
            lines = subst (λ (c : ℕ). Rows n K p (own_rows n K wires rows w) c) (sym over) (own_lines is);
            over = subst (λ (q : ℕ). Lower turn q wkeys wexternals g.a) (sym over) (lower_there g.a fits.lower);
          }
      by_recipe (product fits) is =
          record { own = own_there is (omega arith); lines = own_lines is; pair = record { a = like fits.a; b = like fits.b } }
      by_recipe (choice {g} fits) is =
          record {
            own = own_there is (omega arith);
            lines = own_lines is;
            bit = subst (λ (q : ℕ). Lower turn q wkeys wexternals g.bit) fits.binary (lower_there g.bit fits.lower);
            a = like fits.a;
            b = like fits.b;
          }

      pub ready : Ready turn contribution externals keys (own_rows n K wires rows w) wkeys wexternals (recipe (wire_at wires w))
      ready = by_recipe (recipe-fits given.accepted w made) refl
