-- A bit times itself has no rows and no record, and its keys, mask and external value are those of the bit: a multiple by 1, modulo 2, of residues.
-- Assumes nothing.
use mathlib.Core.Path.{◌≡◌, refl, sym, ap, subst, ◌∙◌}
use mathlib.Core.List.{List}
use Prim.Native.Nat.{ℕ, ◌*◌, ◌<◌}
use native.Mathlib.Omega.{arith}
use lib.ListN.{length, get_or}
use Rattle.lists.specs.Blocks.{nth_piece}
use Rattle.residue.specs.Residue.{mul}
use Rattle.residue.specs.Vector.{mul_v, AllBelow}
use Rattle.residue.proofs.Ring.{ring}
use Rattle.residue.proofs.Ring.Expr.{var, ◌⊗◌}
use Rattle.residue.proofs.VectorRing.{vring}
use Rattle.residue.proofs.VectorRing.VExpr.{vec, ◌⊡◌}
use Rattle.words.specs.declared.gate.Scaling.{Scaling}
use Rattle.words.specs.declared.gate.Wire.{Wire}
use Rattle.circuit.specs.Wires.{wire_at, modulus_at}
use Rattle.circuit.specs.Accepted.{Alike, AcceptedCircuit}
use Rattle.circuit.specs.File.{read_file}
use Rattle.circuit.proofs.Accepted.{accepted}
use Rattle.counts.specs.declared.recipe.Recipe.TheVariants.{Multiple}
use Rattle.counts.specs.Recipe.{recipe}
use Rattle.counts.proofs.Recipes.{RecipeFits, recipe-fits, by-gate, a_square, a_copy}
use Rattle.counts.proofs.Recipes.RecipeFits.{multiple}
use Rattle.pads.specs.Pad.{Pad, shake_pad}
use Rattle.scheme.specs.Draw.{Draw, drawn}
use Rattle.scheme.specs.Opening.{Opened, nothing, multiplied, open_from, own_rows, open_input, multiplier_of, open_wire, opened, wire_keys, wire_externals}
use Rattle.scheme.specs.Zero.{zero_key_by, mask_by, zero_key, mask}
use Rattle.scheme.proofs.Steps.{zero_key-step, mask_step, open_step}
use Rattle.scheme.proofs.Bounds.{positive, mask_below, zero_key-below}
use Rattle.scheme.proofs.Drawn.{key_below}
use Rattle.scheme.proofs.Contributed.{Contributed}
use Rattle.round.specs.Copies.{CopyOf, CopiesAreFree, CopiesAreDrawn, CopiesAreOpened}
use Rattle.round.proofs.Contributions.{contributions-below}
use Rattle.round.proofs.FromContributions.{well_drawn}
use Rattle.round.proofs.Wires.{keys_of, external-of}
use Rattle.round.proofs.Reduced.{Reduced, Checked, reduced}
use Rattle.round.proofs.OpeningAccepted.{lent_checked, keys-written, externals-written}

-- ---- once a residue is that residue

once : {p : ℕ} (e : ℕ) → e < p → mul p 1 e ≡ e
once e h = ring (omega arith) (var 1 ⊗ var e) (var e) tt h (omega arith)

once_v : {p : ℕ} → 0 < p → (xs : List ℕ) → AllBelow p xs → mul_v p 1 xs ≡ xs
once_v above xs h = vring above (length xs) (var 1 ⊡ vec xs) (vec xs) (omega arith) (omega arith) tt h (λ i. omega arith)

module _ (file : List ℕ) (w a : ℕ) (copy : CopyOf file w a) where
  abbrev wires : List Wire
  wires = (read_file file).wires

  circuit : AcceptedCircuit file wires (read_file file).outputs
  circuit = accepted file copy.accepted

  copy_recipe : recipe (wire_at wires w) ≡ Multiple (record { constant = 1; a = a })
  copy_recipe = by-gate (wire_at wires w) copy.gate ∙ a_square (record { a = a; b = a }) (modulus_at wires w) refl ∙ a_copy a (modulus_at wires w) copy.bit

  -- the bit is a lower wire, and a bit
  multiple_of : {g : Scaling} → RecipeFits file wires w (Multiple g) → Alike wires w g.a
  multiple_of (multiple fits) = fits.a

  of_bit : Alike wires w a
  of_bit = multiple_of (subst (RecipeFits file wires w) copy_recipe (recipe-fits circuit w copy.made))

  bit_made : a < length wires
  bit_made = omega (arith, of_bit.lower, copy.made)

  -- ---- what was drawn

  module _ (n K : ℕ) (contributions : List ℕ) (r : Contributed n K wires contributions) where
    abbrev draw : Draw
    draw = drawn n K wires contributions

    same_key : zero_key wires draw w ≡ zero_key wires draw a
    unfolding zero_key_by
    same_key =
        zero_key-step circuit w copy.made draw
        ∙ ap (zero_key_by (draw.key w 0) (modulus_at wires w) (zero_key wires draw)) copy_recipe
        ∙ once_v (positive circuit w copy.made) (zero_key wires draw a)
        (subst (λ (p : ℕ). AllBelow p (zero_key wires draw a)) of_bit.same (zero_key-below circuit draw (λ v made has. key_below r v 0 made has) a bit_made))

    same_mask : mask wires draw w ≡ mask wires draw a
    unfolding mask_by
    same_mask =
        mask_step circuit w copy.made draw
        ∙ ap (mask_by (draw.mask w 0) (modulus_at wires w) (mask wires draw)) copy_recipe
        ∙ once (mask wires draw a) (subst (λ (p : ℕ). mask wires draw a < p) of_bit.same (mask_below circuit (well_drawn circuit r) a bit_made))

  -- ---- what is opened

  module _ (pad : Pad) (n K party : ℕ) (own : Draw) (externals keys rows : List ℕ) (checked : Checked pad n K party wires own externals keys rows) where
    abbrev open_of : ℕ → Opened
    open_of v = get_or (opened pad n K party wires own externals keys rows) v nothing

    at : (v : ℕ) → v < length wires → Reduced (modulus_at wires v) (n * K) (open_of v)
    at = reduced pad n K party wires own externals keys rows checked circuit

    bit_reduced : Reduced (modulus_at wires w) (n * K) (open_of a)
    bit_reduced = subst (λ (p : ℕ). Reduced p (n * K) (open_of a)) of_bit.same (at a bit_made)

    opened_is : open_of w ≡ multiplied (modulus_at wires w) 1 (open_of a)
    unfolding open_wire open_from
    opened_is =
        open_step circuit w copy.made pad n K party own externals keys rows
        ∙ ap (open_from pad n K w (modulus_at wires w) (modulus_at wires) (multiplier_of K party wires own w) (own_rows n K wires rows w) (open_input n K externals keys w) open_of)
        copy_recipe

    same_keys : nth_piece (wire_keys pad n K party wires own externals keys rows) (n * K) w
        ≡ nth_piece (wire_keys pad n K party wires own externals keys rows) (n * K) a
    same_keys =
        let piece = keys_of pad n K party wires own externals keys rows (λ v made. (at v made).long) in
        piece w copy.made
        ∙ ap (λ (o : Opened). o.keys) opened_is
        ∙ once_v (positive circuit w copy.made) (open_of a).keys bit_reduced.keys
        ∙ sym (piece a bit_made)

    same_external : get_or (wire_externals pad n K party wires own externals keys rows) w 0
        ≡ get_or (wire_externals pad n K party wires own externals keys rows) a 0
    same_external =
        let byte = external-of pad n K party wires own externals keys rows in
        byte w ∙ ap (λ (o : Opened). o.external) opened_is ∙ once (open_of a).external bit_reduced.external ∙ sym (byte a)

pub copies_are_free : (file : List ℕ) → CopiesAreFree file
copies_are_free file w a copy =
    let is = copy_recipe file w a copy in
    record { rows = rw is; record_keys = rw is }

pub copies_are_drawn : (file : List ℕ) → CopiesAreDrawn file
copies_are_drawn file n K contributions long bytes w a copy =
    let r = contributions-below n K (read_file file).wires contributions long bytes in
    record { key = same_key file w a copy n K contributions r; mask = same_mask file w a copy n K contributions r }

pub copies_are_opened : (file : List ℕ) → CopiesAreOpened file
copies_are_opened file o w a copy =
    let own = drawn 1 o.K (read_file file).wires o.contribution in
    let checked = lent_checked o.accepted in
    record {
      keys =
          ap (λ (l : List ℕ). nth_piece l (o.n * o.K) w) (keys-written o.accepted)
          ∙ same_keys file w a copy (shake_pad o.round) o.n o.K o.party own o.externals o.keys o.rows checked
          ∙ ap (λ (l : List ℕ). nth_piece l (o.n * o.K) a) (sym (keys-written o.accepted));
      external =
          ap (λ (l : List ℕ). get_or l w 0) (externals-written o.accepted)
          ∙ same_external file w a copy (shake_pad o.round) o.n o.K o.party own o.externals o.keys o.rows checked
          ∙ ap (λ (l : List ℕ). get_or l a 0) (sym (externals-written o.accepted));
    }
