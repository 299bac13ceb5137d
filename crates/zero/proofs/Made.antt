-- The zero keys and masks of all wires: their sizes, the masks' bounds, and how both are read out of what holds them. Lengths of contributions are
-- enough for all of it; what their bytes are is not asked.
-- Assumes nothing.
use mathlib.Core.List.{List}
use mathlib.Core.Path.{◌≡◌, refl, sym, ap, ◌∙◌}
use Prim.Native.Nat.{ℕ, ◌-◌, ◌*◌, ◌<◌}
use native.Mathlib.Omega.{arith}
use lib.ListN.{length, get_or, replicate, length-append, length-replicate, get_or-append}
use Rattle.lists.proofs.Grown.{length-grown}
use Rattle.lists.proofs.Blocks.{part_blocks_same}
use Rattle.lists.specs.Blocks.{nth_piece}
use Rattle.residue.proofs.Vectors.{add-below, mul-below, add_v-length, mul_v-length}
use Rattle.words.specs.declared.gate.Wire.{Wire}
use Rattle.circuit.specs.Wires.{wire_at, modulus_at}
use Rattle.circuit.specs.declared.Circuit.{Circuit}
use Rattle.circuit.specs.Held.{wires_in}
use Rattle.counts.specs.Counts.{record_keys_by}
use Rattle.counts.specs.declared.recipe.Recipe.{Recipe}
use Rattle.counts.specs.Recipe.{recipe}
use Rattle.counts.proofs.Recipes.{RecipeFits, recipe-fits}
use Rattle.counts.proofs.Recipes.RecipeFits.{entered, sum, multiple, table, product, choice}
use Rattle.session.proofs.Circuits.{made-is}
use Rattle.scheme.proofs.Bounds.{positive}
use Rattle.scheme.proofs.Steps.{by-lower, zero_key-step, mask_step}
use Rattle.scheme.specs.Contribution.{contribution_size}
use Rattle.scheme.specs.Draw.{Draw}
use Rattle.scheme.specs.Zero.{zero_key_by, mask_by, masks_to, zero_key, mask}
use Rattle.zero.specs.Ready.{Contributed, drawn_in, ZeroKeys, Masks}
use Rattle.contribution.proofs.Cursor.{within}
use Rattle.scheme.proofs.Drawn as drawn_laws

module _ {file : List ℕ} {circuit : Circuit} {n K size : ℕ} {contributions : List ℕ} (r : Contributed file circuit n K size contributions) where
  abbrev wires : List Wire
  wires = wires_in circuit

  abbrev draw : Draw
  draw = drawn_in circuit n K contributions

  pub all-long : length contributions ≡ n * contribution_size K wires
  all-long = r.all ∙ ap (λ (s : ℕ). n * s) r.each

  pub drawn_key_size : {how : Recipe} (w j : ℕ) → w < length wires → recipe (wire_at wires w) ≡ how → j < record_keys_by how → length (draw.key w j) ≡ n * K
  drawn_key_size w j h is l = drawn_laws.key-length n K wires contributions all-long w j h (rw is l)

  pub above_0 : (w : ℕ) → w < circuit.made → 0 < modulus_at wires w
  above_0 w h = positive r.accepted w (within r.held h)

  module _ (w : ℕ) (made : w < length wires) where
    sized : {how : Recipe} → RecipeFits file wires w how → recipe (wire_at wires w) ≡ how
        → ((a : ℕ) → a < w → length (zero_key wires draw a) ≡ n * K)
        → length (zero_key_by (draw.key w 0) (modulus_at wires w) (zero_key wires draw) how) ≡ n * K
    unfolding zero_key_by
    sized (entered fits) is lower = drawn_key_size w 0 made is (omega arith)
    sized (sum {g} fits) is lower =
        add_v-length _ _ _ (lower g.a fits.a.lower ∙ sym (lower g.b fits.b.lower)) ∙ lower g.a fits.a.lower
    sized (multiple {g} fits) is lower = mul_v-length _ _ _ ∙ lower g.a fits.a.lower
    sized (table fits) is lower = drawn_key_size w 0 made is (omega arith)
    sized (product fits) is lower = drawn_key_size w 0 made is (omega arith)
    sized (choice {g} fits) is lower =
        add_v-length _ _ _ (drawn_key_size w 0 made is (omega arith) ∙ sym (lower g.a fits.a.lower)) ∙ drawn_key_size w 0 made is (omega arith)

    reduced : {how : Recipe} → 0 < modulus_at wires w → RecipeFits file wires w how
        → mask_by (draw.mask w 0) (modulus_at wires w) (mask wires draw) how < modulus_at wires w
    unfolding mask_by
    reduced p (entered fits) = drawn_laws.mask_below n K wires contributions w 0 p
    reduced p (sum fits) = add-below p _ _
    reduced p (multiple fits) = mul-below p _ _
    reduced p (table fits) = drawn_laws.mask_below n K wires contributions w 0 p
    reduced p (product fits) = drawn_laws.mask_below n K wires contributions w 0 p
    reduced p (choice fits) = add-below p _ _

  every_size : (w : ℕ) → w < length wires → length (zero_key wires draw w) ≡ n * K
  every_size = by-lower (λ w. w < length wires → length (zero_key wires draw w) ≡ n * K) (λ w lower made.
      ap length (zero_key-step r.accepted w made draw)
      ∙ sized w made (recipe-fits r.accepted w made) refl (λ a l. lower a l (omega arith)))

  -- a wire's zero keys are n·K bytes, and its mask is a residue
  pub zero_key_size : (w : ℕ) → w < circuit.made → length (zero_key wires draw w) ≡ n * K
  zero_key_size w h = every_size w (within r.held h)

  pub mask_below : (w : ℕ) → w < circuit.made → mask wires draw w < modulus_at wires w
  mask_below w h = rw (mask_step r.accepted w (within r.held h) draw) (reduced w (within r.held h) (above_0 w h) (recipe-fits r.accepted w (within r.held h)))

  -- read out of what holds them
  pub zero_keys_at : {keys : List ℕ} → ZeroKeys circuit n K contributions keys → (w : ℕ) → w < circuit.made → nth_piece keys (n * K) w ≡ zero_key wires draw w
  zero_keys_at z w h =
      ap (λ (l : List ℕ). nth_piece l (n * K) w) z.stand
      ∙ part_blocks_same circuit.made (n * K) (zero_key wires draw) zero_key_size w h

  -- the masks of all wires, as the list that the definition grows
  pub mask-of : (w : ℕ) → get_or (masks_to wires draw circuit.made) w 0 ≡ mask wires draw w
  unfolding mask
  mask-of w = ap (λ (m : ℕ). get_or (masks_to wires draw m) w 0) (sym (made-is r.held))

  pub masks-made : length (masks_to wires draw circuit.made) ≡ circuit.made
  unfolding masks_to
  masks-made = length-grown (λ v below. mask_by (draw.mask v 0) (modulus_at wires v) (λ a. get_or below a 0) (recipe (wire_at wires v))) circuit.made

  pub masks-kept : {masks : List ℕ} → Masks circuit n K contributions masks → length masks ≡ 1024
  masks-kept z =
      ap length z.stand ∙ length-append (masks_to wires draw circuit.made) (replicate (1024 - circuit.made) 0)
      ∙ omega (arith, masks-made, length-replicate {A = ℕ} (1024 - circuit.made) 0, r.held.room.made)

  pub masks-at : {masks : List ℕ} → Masks circuit n K contributions masks → (w : ℕ) → w < circuit.made → get_or masks w 0 ≡ mask wires draw w
  masks-at z w h =
      ap (λ (l : List ℕ). get_or l w 0) z.stand
      ∙ get_or-append (masks_to wires draw circuit.made) (replicate (1024 - circuit.made) 0) 0 w (omega (arith, masks-made))
      ∙ mask-of w
