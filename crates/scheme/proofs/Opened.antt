-- Every gate of an accepted circuit is opened rightly where the wires that it uses are; and so, by induction over the wires, opening undoes garbling.
-- Assumes nothing.
use mathlib.Core.Path.{◌≡◌, refl, sym, ap, ap₂, ◌∙◌, subst, subst⁻¹}
use mathlib.Core.List.{List}
use Prim.Native.Nat.{ℕ, ◌*◌, ◌<◌}
use native.Mathlib.Nat.{mul_comm}
use native.Mathlib.Omega.{arith}
use lib.Dec.{ltb}
use lib.ListN.{length, get_or}
use borrow.Author.Tests.{lt-ltb}
use Rattle.lists.specs.Blocks.{part, nth_piece, sum_to}
use Rattle.lists.proofs.Sums.{sum_to_ext, sum_to_times}
use Rattle.lists.proofs.Blocks.{part-blocks}
use Rattle.residue.specs.Residue.{add}
use Rattle.residue.specs.Vector.{key_v, AllBelow}
use Rattle.residue.proofs.Vectors.{add-below, mul-below, sub_v-length}
use Rattle.words.specs.declared.gate.Choice.{Choice as Chosen}
use Rattle.words.specs.declared.gate.Wire.{Wire}
use Rattle.circuit.specs.Wires.{wire_at, modulus_at}
use Rattle.circuit.specs.Accepted.{Alike, ChoiceFits, AcceptedCircuit}
use Rattle.counts.specs.declared.recipe.Recipe.{Recipe}
use Rattle.counts.specs.Recipe.{recipe, image_of}
use Rattle.counts.specs.Counts.{rows_by, rows_of, record_keys_of, record_keys_by}
use Rattle.counts.proofs.Recipes.{RecipeFits, recipe-fits}
use Rattle.counts.proofs.Recipes.RecipeFits.{entered, sum, multiple, table, product, choice}
use Rattle.plain.specs.Plain.{plain_values}
use Rattle.plain.proofs.ByRecipe.{value_by, plain_step}
use Rattle.pads.specs.Pad.{Pad}
use Rattle.search.specs.Search.{multiplier}
use Rattle.scheme.specs.Draw.{Draw}
use Rattle.scheme.specs.Keyed.{Keyed, less}
use Rattle.scheme.specs.Zero.{zero_key_by, mask_by, zero_key, mask, zero_of}
use Rattle.scheme.specs.Gate.{rows_from}
use Rattle.scheme.specs.Rows.{source_of, gate_rows, garbled_rows}
use Rattle.scheme.specs.Opening.{Opened, nothing, searched, open_from, row_at, own_rows, open_input, multiplier_of, open_wire, opened}
use Rattle.scheme.specs.Drawn.{PadSize, WellDrawn}
use Rattle.scheme.specs.Given.{RoundAt, OpeningUndoesGarbling}
use Rattle.scheme.proofs.Steps.{by-lower, zero_key-step, mask_step, open_step}
use Rattle.scheme.proofs.Search.{multiplier_is, key-part, part-below}
use Rattle.scheme.proofs.Bounds.{prime, positive, key-size, mask-small, zero_key-size}
use Rattle.scheme.proofs.Contributed.{length_nth}
use Rattle.scheme.proofs.Known.{Known, known_rightly, known_at, added_known, sum_known, difference_known, multiple_known, choice_value}
use Rattle.scheme.proofs.Gates.{table-size, table-opens, product-size, product-opens, choice_size, choice_opens}

-- ---- the rows of a wire among all rows

module _ {pad : Pad} (pads : PadSize pad) {file : List ℕ} {wires : List Wire} {outputs : List ℕ} (accepted : AcceptedCircuit file wires outputs)
    {n K : ℕ} {draw : Draw} (drawn : WellDrawn n K wires draw) where
  zero-size : (w a : ℕ) → w < length wires → a < w → length (zero_key wires draw a) ≡ n * K
  zero-size w a made h = zero_key-size accepted drawn a (omega arith)

  -- d's keys
  less_size : (w : ℕ) → w < length wires → {g : Chosen} → ChoiceFits wires w g
      → length (less (modulus_at wires w) (zero_of wires draw g.b) (zero_of wires draw g.a)).key ≡ n * K
  less_size w made {g} fits =
      let b = zero-size w g.b made fits.b.lower in
      sub_v-length (modulus_at wires w) _ _ (b ∙ sym (zero-size w g.a made fits.a.lower)) ∙ b

  -- a gate has as many rows as are counted
  recipe_size : (w : ℕ) → w < length wires → {r : Recipe} → RecipeFits file wires w r → recipe (wire_at wires w) ≡ r
      → length (rows_from pad n K w (modulus_at wires w) file (source_of wires draw w) r) ≡ rows_by r (modulus_at wires) (modulus_at wires w) * (n * K)
  unfolding rows_from
  recipe_size w made (entered fits) is = omega arith
  recipe_size w made (sum fits) is = omega arith
  recipe_size w made (multiple fits) is = omega arith
  recipe_size w made (table {g} fits) is =
      table-size pads n K w (modulus_at wires w) (prime accepted w made).two _ (drawn.offset_size w made) _ _ _ _ _
      (key-size accepted drawn w 0 made is (omega arith))
  recipe_size w made (product {g} fits) is =
      product-size pads n K w (modulus_at wires w) (prime accepted w made).two _ (drawn.offset_size w made) _ _ _ _
      (zero-size w g.a made fits.a.lower) (key-size accepted drawn w 0 made is (omega arith)) (key-size accepted drawn w 1 made is (omega arith))
  recipe_size w made (choice {g} fits) is =
      choice_size pads n K w (modulus_at wires w) (prime accepted w made).two _ (drawn.offset_size w made) _ _ _ _ _ _
      (less_size w made fits) (key-size accepted drawn w 0 made is (omega arith)) (key-size accepted drawn w 1 made is (omega arith))
      (key-size accepted drawn w 2 made is (omega arith))

  pub gate-size : (w : ℕ) → w < length wires → length (gate_rows pad n K file wires draw w) ≡ rows_of wires w * (n * K)
  unfolding gate_rows
  gate-size w made = recipe_size w made (recipe-fits accepted w made) refl

  rows_before : (w : ℕ) → sum_to w (λ v. rows_of wires v * (n * K)) ≡ row_at wires w * (n * K)
  unfolding row_at
  rows_before w =
      sum_to_ext w (λ v. rows_of wires v * (n * K)) (λ v. n * K * rows_of wires v) (λ v _. mul_comm (rows_of wires v) (n * K))
      ∙ sum_to_times w (n * K) (rows_of wires)
      ∙ mul_comm (n * K) (sum_to w (rows_of wires))

  pub own-rows : (w : ℕ) → w < length wires → own_rows n K wires (garbled_rows pad n K file wires draw) w ≡ gate_rows pad n K file wires draw w
  unfolding own_rows garbled_rows
  own-rows w made =
      ap (λ (at : ℕ). part (garbled_rows pad n K file wires draw) at (rows_of wires w * (n * K))) (sym (rows_before w))
      ∙ part-blocks (length wires) (gate_rows pad n K file wires draw) (λ v. rows_of wires v * (n * K)) gate-size w made

-- ---- a round

module _ {pad : Pad} {n K s : ℕ} {file : List ℕ} {wires : List Wire} {outputs : List ℕ} {draw own : Draw} {values inputs keys rows : List ℕ}
    (round : RoundAt pad n K s file wires outputs draw own values inputs keys rows) where
  -- of a wire: its value, its zero keys and mask, and what it is opened to
  abbrev value_of : ℕ → ℕ
  value_of a = get_or (plain_values file wires values) a 0

  abbrev wire_of : ℕ → Keyed
  wire_of = zero_of wires draw

  abbrev open_of : ℕ → Opened
  open_of a = get_or (opened pad n K s wires own inputs keys rows) a nothing

  -- what is known of wire a, its modulus being p
  abbrev At : ℕ → ℕ → Type 0
  At p a = Known p (n * K) (value_of a) (wire_of a) (draw.offset p) (open_of a)

  module _ (w : ℕ) (made : w < length wires) where
    abbrev p : ℕ
    p = modulus_at wires w

    abbrev D : List ℕ
    D = draw.offset p

    abbrev record₀ : Keyed
    record₀ = record { key = draw.key w 0; mask = draw.mask w 0 }

    abbrev search : List ℕ → ℕ
    search = multiplier_of K s wires own w

    above : 0 < p
    above = positive round.accepted w made

    offset-size : length D ≡ n * K
    offset-size = round.drawn.offset_size w made

    -- ---- the search

    found_is : 0 < record_keys_of wires w → (e : ℕ) → e < p → search (key_v p (draw.key w 0) e D) ≡ e
    unfolding multiplier_of
    found_is has e h =
        let k : own.key w 0 ≡ nth_piece (draw.key w 0) K s = round.party.key w made has in
        let d : own.offset p ≡ nth_piece D K s = round.party.offset w made in
        let k-size = length_nth n K (draw.key w 0) (round.drawn.key_size w 0 made has) s round.party.party in
        let d-size = length_nth n K D offset-size s round.party.party in
        ap (multiplier p (own.key w 0) (own.offset p))
        (key-part p K s (draw.key w 0) e D ∙ ap₂ (λ (x y : List ℕ). key_v p x e y) (sym k) (sym d))
        ∙ multiplier_is p (prime round.accepted w made) (own.key w 0) (own.offset p)
        (ap length k ∙ k-size ∙ sym (ap length d ∙ d-size))
        (subst⁻¹ (AllBelow p) d (part-below p K s D (round.drawn.offset_below w made)))
        (round.party.not_zero w made) e h

    searched_known : {r : Recipe} → recipe (wire_at wires w) ≡ r → 0 < record_keys_by r → (all : List ℕ) (v : ℕ) → v < p
        → all ≡ key_v p (draw.key w 0) (add p v (draw.mask w 0)) D → Known p (n * K) v record₀ D (searched p search all)
    unfolding searched
    searched_known is has all v h e =
        let external : search all ≡ add p v (draw.mask w 0) =
        ap search e ∙ found_is (rw is has) (add p v (draw.mask w 0)) (add-below above v (draw.mask w 0)) in
        record {
          keys = e;
          external = external;
          fits = ap (λ (x : ℕ). ltb x p) external ∙ lt-ltb _ _ (add-below above v (draw.mask w 0));
          value = h;
          mask = mask-small round.accepted round.drawn w 0 made is has;
          size = key-size round.accepted round.drawn w 0 made is has;
        }

    -- ---- a lower wire, its modulus known by another name

    alike : {a : ℕ} → Alike wires w a → At (modulus_at wires a) a → At p a
    alike {a} fits r = subst (λ (q : ℕ). At q a) fits.same r

    -- ---- input

    drawn_key : {r : Recipe} → recipe (wire_at wires w) ≡ r → zero_key wires draw w ≡ zero_key_by (draw.key w 0) p (zero_key wires draw) r
    drawn_key is = zero_key-step round.accepted w made draw ∙ ap (zero_key_by (draw.key w 0) p (zero_key wires draw)) is

    drawn_mask : {r : Recipe} → recipe (wire_at wires w) ≡ r → mask wires draw w ≡ mask_by (draw.mask w 0) p (mask wires draw) r
    drawn_mask is = mask_step round.accepted w made draw ∙ ap (mask_by (draw.mask w 0) p (mask wires draw)) is

    -- ---- any gate

    recipe_known : {r : Recipe} → RecipeFits file wires w r → recipe (wire_at wires w) ≡ r → ((a : ℕ) → a < w → At (modulus_at wires a) a)
        → Known p (n * K) (value_by file values w p r value_of)
        (record { key = zero_key_by (draw.key w 0) p (zero_key wires draw) r; mask = mask_by (draw.mask w 0) p (mask wires draw) r }) D
        (open_from pad n K w p (modulus_at wires) search (rows_from pad n K w p file (source_of wires draw w) r) (open_input n K inputs keys w) open_of r)
    unfolding value_by mask_by zero_key_by open_from rows_from open_input
    recipe_known (entered here) is lower =
        let external : get_or inputs w 0 ≡ add p (get_or values w 0) (draw.mask w 0) =
        round.given.external w here ∙ ap (add p (get_or values w 0)) (drawn_mask is) in
        record {
          keys = round.given.key w here ∙ ap₂ (λ (k : List ℕ) (e : ℕ). key_v p k e D) (drawn_key is) external;
          external = external;
          fits = refl;
          value = round.given.value w here;
          mask = mask-small round.accepted round.drawn w 0 made is (omega arith);
          size = key-size round.accepted round.drawn w 0 made is (omega arith);
        }
    recipe_known (sum {g} fits) is lower =
        sum_known above D offset-size (alike fits.a (lower g.a fits.a.lower)) (alike fits.b (lower g.b fits.b.lower))
    recipe_known (multiple {g} fits) is lower =
        multiple_known above D offset-size g.constant (alike fits.a (lower g.a fits.a.lower))
    recipe_known (table {g} fits) is lower =
        let a = lower g.a fits.lower in
        searched_known is (omega arith) _ _ (fits.images.below (value_of g.a) a.value)
        (table-opens round.pads n K w p (prime round.accepted w made).two D offset-size (image_of file g.images p) _ _ _ _
        (key-size round.accepted round.drawn w 0 made is (omega arith))
        (positive round.accepted g.a (omega (arith, fits.lower))) a)
    recipe_known (product {g} fits) is lower =
        searched_known is (omega arith) _ _ (mul-below above (value_of g.a) (value_of g.b))
        (product-opens round.pads n K w p (prime round.accepted w made).two D offset-size _ _ _ _
        (zero-size round.pads round.accepted round.drawn w g.a made fits.a.lower)
        (key-size round.accepted round.drawn w 0 made is (omega arith)) (key-size round.accepted round.drawn w 1 made is (omega arith))
        (alike fits.a (lower g.a fits.a.lower)) (alike fits.b (lower g.b fits.b.lower)))
    recipe_known (choice {g} fits) is lower =
        let bit : At 2 g.bit = subst (λ (q : ℕ). At q g.bit) fits.binary (lower g.bit fits.lower) in
        let a : At p g.a = alike fits.a (lower g.a fits.a.lower) in
        let b : At p g.b = alike fits.b (lower g.b fits.b.lower) in
        known_at (choice_value p (value_of g.bit) (value_of g.a) (value_of g.b) bit.value a.value b.value) refl refl refl
        (added_known above D offset-size
        (searched_known is (omega arith) _ _ (mul-below above (value_of g.bit) _)
        (choice_opens round.pads n K w p (prime round.accepted w made).two D offset-size (draw.offset 2) _ _ _ _ _
        (less_size round.pads round.accepted round.drawn w made fits)
        (key-size round.accepted round.drawn w 0 made is (omega arith)) (key-size round.accepted round.drawn w 1 made is (omega arith))
        (key-size round.accepted round.drawn w 2 made is (omega arith)) bit (difference_known above D offset-size b a)))
        a)

    -- the wire's own rows are those of its gate
    here : own_rows n K wires rows w ≡ rows_from pad n K w p file (source_of wires draw w) (recipe (wire_at wires w))
    unfolding gate_rows
    here = ap (λ (l : List ℕ). own_rows n K wires l w) round.garbled ∙ own-rows round.pads round.accepted round.drawn w made

    wire_known : ((a : ℕ) → a < w → At (modulus_at wires a) a) → At p w
    unfolding open_wire
    wire_known lower =
        known_at (plain_step round.accepted w made values) (mask_step round.accepted w made draw) (zero_key-step round.accepted w made draw)
        (open_step round.accepted w made pad n K s own inputs keys rows
        ∙ ap (λ (l : List ℕ). open_from pad n K w p (modulus_at wires) search l (open_input n K inputs keys w) open_of (recipe (wire_at wires w))) here)
        (recipe_known (recipe-fits round.accepted w made) refl lower)

  opened_known : (w : ℕ) → w < length wires → At (modulus_at wires w) w
  opened_known =
      by-lower (λ w. w < length wires → At (modulus_at wires w) w) (λ w lower made. wire_known w made (λ a l. lower a l (omega arith)))

pub opening_undoes_garbling : OpeningUndoesGarbling
opening_undoes_garbling pad n K s file wires outputs draw own values inputs keys rows round w made = known_rightly (opened_known round w made)
