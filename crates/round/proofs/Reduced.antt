-- What an accepted opening opens, whatever the rows: on every wire n times K residues, and an external value, below the wire's modulus.
-- Assumes nothing.
use mathlib.Core.Path.{◌≡◌, refl, sym, ap, subst, subst⁻¹, ◌∙◌}
use mathlib.Core.Bool.{true}
use mathlib.Core.List.{List}
use Prim.Native.Nat.{ℕ, zero, suc, ◌+◌, ◌*◌, ◌≤◌, ◌<◌}
use native.Mathlib.Nat.{add-mul, mul-le-mul_right}
use native.Mathlib.Omega.{arith}
use borrow.Author.Tests.{ltb-true}
use lib.ListN.{length, get_or}
use Rattle.lists.specs.Blocks.{sum_to, part, nth_piece}
use Rattle.lists.proofs.Parts.{length_part}
use Rattle.lists.proofs.Sums.{sum_to-fits}
use Rattle.residue.specs.Vector.{AllBelow}
use Rattle.residue.proofs.Vectors.{add-below, sub-below, mul-below, add_v-below, sub_v-below, mul_v-below, add_v-length, sub_v-length, mul_v-length}
use Rattle.words.specs.declared.gate.Wire.{Wire}
use Rattle.circuit.specs.Wires.{wire_at, modulus_at, inputs_in}
use Rattle.circuit.specs.Accepted.{Alike, AcceptedCircuit}
use Rattle.counts.specs.declared.recipe.Recipe.{Recipe}
use Rattle.counts.specs.Recipe.{recipe}
use Rattle.counts.specs.Counts.{rows_of, rows_in}
use Rattle.counts.proofs.Recipes.{RecipeFits, recipe-fits}
use Rattle.counts.proofs.Recipes.RecipeFits.{entered, sum, multiple, table, product, choice}
use Rattle.pads.specs.Pad.{Pad}
use Rattle.pads.proofs.Sizes.{pad_row-length}
use Rattle.scheme.specs.Draw.{Draw}
use Rattle.scheme.specs.Drawn.{PadSize}
use Rattle.scheme.specs.Opening.{Opened, nothing, differing, chosen, corrector, bared, table_keys, product_keys, choice_keys, searched, added, open_from, row_at, own_rows, open_input, multiplier_of, open_wire, opened}
use Rattle.scheme.proofs.Steps.{by-lower, open_step}
use Rattle.scheme.proofs.Bounds.{positive}
use Rattle.scheme.proofs.Contributed.{length_nth}

-- an opened wire of modulus p: so many residues, and an external value
pub record Reduced (p size : ℕ) (o : Opened) : Type 0 where
  pub long : length o.keys ≡ size
  pub keys : AllBelow p o.keys
  pub external : o.external < p

module _ (pad : Pad) (n K party : ℕ) (wires : List Wire) (own : Draw) (externals keys rows : List ℕ) where
  abbrev open_of : ℕ → Opened
  open_of w = get_or (opened pad n K party wires own externals keys rows) w nothing

  -- that pads have their length, and what the checks of an opening say of what it is lent and of what it found
  pub record Checked : Type 0 where
    pub pads : PadSize pad
    pub keys_size : length keys ≡ inputs_in wires * (n * K)
    pub rows_size : length rows ≡ rows_in wires * (n * K)
    pub external : (w : ℕ) → w < inputs_in wires → get_or externals w 0 < modulus_at wires w
    pub key : (w : ℕ) → w < inputs_in wires → AllBelow (modulus_at wires w) (nth_piece keys (n * K) w)
    pub fits : (w : ℕ) → w < length wires → (get_or (opened pad n K party wires own externals keys rows) w nothing).fits ≡ true

  module _ (checked : Checked) {file outputs : List ℕ} (accepted : AcceptedCircuit file wires outputs) (w : ℕ) (made : w < length wires) where
    abbrev p : ℕ
    p = modulus_at wires w

    abbrev size : ℕ
    size = n * K

    abbrev rows_here : List ℕ
    rows_here = own_rows n K wires rows w

    above : 0 < p
    above = positive accepted w made

    -- ---- a row of the wire's own, without its pads

    rows_inside : row_at wires w * size + rows_of wires w * size ≤ length rows
    unfolding row_at
    rows_inside =
        rw (checked.rows_size, sym (add-mul (sum_to w (rows_of wires)) (rows_of wires w) size))
        (mul-le-mul_right size (sum_to-fits w (length wires) (rows_of wires) made))

    own-size : length rows_here ≡ rows_of wires w * size
    unfolding own_rows
    own-size = length_part rows (row_at wires w * size) (rows_of wires w * size) rows_inside

    row_size : (r : ℕ) → r < rows_of wires w → length (nth_piece rows_here size r) ≡ size
    row_size r h = length_nth (rows_of wires w) size rows_here own-size r h

    bared_size : (q component : ℕ) (senders : List ℕ) (r : ℕ) → r < rows_of wires w → length (bared pad n K w p rows_here q component senders r) ≡ size
    unfolding bared
    bared_size q component senders r h =
        sub_v-length p _ _ (row_size r h ∙ sym (pad_row-length pad K p (λ input. checked.pads.size p K input above) _ senders n)) ∙ row_size r h

    -- ---- a lower wire, its modulus known by another name

    alike : {a : ℕ} → Alike wires w a → Reduced (modulus_at wires a) size (open_of a) → Reduced p size (open_of a)
    alike {a} fits r = subst (λ (q : ℕ). Reduced q size (open_of a)) fits.same r

    -- ---- any gate

    -- a wire whose external value was searched for, and found
    found_reduced : (found : List ℕ → ℕ) (all : List ℕ) → length all ≡ size → AllBelow p all → (searched p found all).fits ≡ true
        → Reduced p size (searched p found all)
    unfolding searched
    found_reduced found all long below fits = record { long = long; keys = below; external = ltb-true (found all) p fits }

    table-long : (q : ℕ) (a : Opened) → a.external < rows_of wires w → length (table_keys pad n K w p rows_here q a) ≡ size
    unfolding table_keys
    table-long q a h = bared_size q 0 a.keys a.external h

    product_long : (a b : Opened) → Reduced p size a → Reduced p size b → rows_of wires w ≡ 2 * p → length (product_keys pad n K w p rows_here a b) ≡ size
    unfolding product_keys
    product_long a b x y e =
        let first = bared_size p 0 a.keys a.external (omega (arith, x.external)) in
        let second = bared_size p 1 b.keys (p + b.external) (omega (arith, y.external)) in
        let both = add_v-length p _ _ (first ∙ sym second) ∙ first in
        add_v-length p _ _ (both ∙ sym (mul_v-length p b.external a.keys ∙ x.long)) ∙ both

    chosen_long : (e : ℕ) (part d : List ℕ) → length part ≡ size → length d ≡ size → length (chosen e p part d) ≡ size
    unfolding chosen
    chosen_long zero part d long same = long
    chosen_long (suc e) part d long same = add_v-length p part d (long ∙ sym same) ∙ long

    corrector_inside : (e α : ℕ) → e < 2 → α < p → corrector p e α < 2 * p + 2
    unfolding corrector
    corrector_inside zero α h l = omega arith
    corrector_inside (suc e) α h l = omega arith

    choice_long : (bit d : Opened) → Reduced 2 size bit → Reduced p size d → rows_of wires w ≡ 2 * p + 2
        → length (choice_keys pad n K w p rows_here bit d) ≡ size
    unfolding choice_keys
    choice_long bit d x y e =
        let first = chosen_long bit.external _ d.keys (bared_size 2 0 bit.keys bit.external (omega (arith, x.external))) y.long in
        let second = bared_size p (1 + bit.external) d.keys (corrector p bit.external d.external)
        (rw e (corrector_inside bit.external d.external x.external y.external)) in
        add_v-length p _ _ (first ∙ sym second) ∙ first

    difference_reduced : {a b : Opened} → Reduced p size a → Reduced p size b → Reduced p size (differing p a b)
    difference_reduced x y =
        record {
          long = sub_v-length p _ _ (x.long ∙ sym y.long) ∙ x.long;
          keys = sub_v-below above _ _;
          external = sub-below above _ _;
        }

    abbrev search : List ℕ → ℕ
    search = multiplier_of K party wires own w

    recipe_reduced : {r : Recipe} → RecipeFits file wires w r → recipe (wire_at wires w) ≡ r
        → ((a : ℕ) → a < w → Reduced (modulus_at wires a) size (open_of a))
        → (open_from pad n K w p (modulus_at wires) search rows_here (open_input n K externals keys w) open_of r).fits ≡ true
        → Reduced p size (open_from pad n K w p (modulus_at wires) search rows_here (open_input n K externals keys w) open_of r)
    unfolding open_from open_input searched added table_keys product_keys bared
    recipe_reduced (entered here) is lower fits =
        record {
          long = length_nth (inputs_in wires) size keys checked.keys_size w here;
          keys = checked.key w here;
          external = checked.external w here;
        }
    recipe_reduced (sum {g} fit) is lower fits =
        let a = alike fit.a (lower g.a fit.a.lower) in
        let b = alike fit.b (lower g.b fit.b.lower) in
        record { long = add_v-length p _ _ (a.long ∙ sym b.long) ∙ a.long; keys = add_v-below above _ _; external = add-below above _ _ }
    recipe_reduced (multiple {g} fit) is lower fits =
        let a = alike fit.a (lower g.a fit.a.lower) in
        record { long = mul_v-length p _ _ ∙ a.long; keys = mul_v-below above _ _; external = mul-below above _ _ }
    recipe_reduced (table {g} fit) is lower fits =
        let a = lower g.a fit.lower in
        found_reduced search _ (table-long (modulus_at wires g.a) (open_of g.a) (rw is a.external)) (sub_v-below above _ _) fits
    recipe_reduced (product {g} fit) is lower fits =
        let a = alike fit.a (lower g.a fit.a.lower) in
        let b = alike fit.b (lower g.b fit.b.lower) in
        found_reduced search _ (product_long (open_of g.a) (open_of g.b) a b (rw is)) (add_v-below above _ _) fits
    recipe_reduced (choice {g} fit) is lower fits =
        let bit : Reduced 2 size (open_of g.bit) = subst (λ (q : ℕ). Reduced q size (open_of g.bit)) fit.binary (lower g.bit fit.lower) in
        let a = alike fit.a (lower g.a fit.a.lower) in
        let b = alike fit.b (lower g.b fit.b.lower) in
        let h = choice_long (open_of g.bit) (differing p (open_of g.b) (open_of g.a)) bit (difference_reduced b a) (rw is) in
        record { long = add_v-length p _ _ (h ∙ sym a.long) ∙ h; keys = add_v-below above _ _; external = add-below above _ _ }

    wire_reduced : ((a : ℕ) → a < w → Reduced (modulus_at wires a) size (open_of a)) → Reduced p size (open_of w)
    unfolding open_wire
    wire_reduced lower =
        let step = open_step accepted w made pad n K party own externals keys rows in
        subst⁻¹ (Reduced p size) step (recipe_reduced (recipe-fits accepted w made) refl lower (ap (λ (o : Opened). o.fits) (sym step) ∙ checked.fits w made))

  pub reduced : Checked → {file outputs : List ℕ} → AcceptedCircuit file wires outputs → (w : ℕ) → w < length wires
      → Reduced (modulus_at wires w) (n * K) (get_or (opened pad n K party wires own externals keys rows) w nothing)
  reduced checked accepted =
      by-lower (λ w. w < length wires → Reduced (modulus_at wires w) (n * K) (open_of w))
      (λ w lower made. wire_reduced checked accepted w made (λ a l. lower a l (omega arith)))
