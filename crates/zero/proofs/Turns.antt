-- The loops that make the zero keys and the masks of all wires: what a turn may read, and what it makes.
-- Assumes nothing.
use mathlib.Core.List.{List, ◌++◌}
use mathlib.Core.Logic.{◌⊎◌, inl, inr}
use mathlib.Core.Path.{◌≡◌, refl, sym, ap, ap₂, ◌∙◌}
use Prim.Native.Nat.{ℕ, ◌+◌, ◌-◌, ◌*◌, ◌≤◌, ◌<◌}
use native.Mathlib.Nat.{add-zero, le_trans}
use native.Mathlib.Omega.{arith}
use lib.ListN.{length, get_or, take, drop, set, replicate, length-replicate, replicate-append-replicate, get_or-append}
use lib.Seq.{get_or-take, length-take-le, drop_at}
use Rattle.lists.proofs.Filled.{Filled, filled_start, filled_step, filled_done}
use Rattle.lists.proofs.Steps.{Level, level_start, level_read, level_whole, level_place, steps_put, steps_fits}
use Rattle.lists.proofs.Sums.{times-fits}
use Rattle.lists.specs.Blocks.{blocks, part, nth_piece}
use Rattle.residue.specs.Residue.{add}
use Rattle.residue.specs.Vector.{add_v, mul_v}
use Rattle.words.specs.declared.gate.Choice.{Choice as Chosen}
use Rattle.words.specs.declared.gate.Pair.{Pair}
use Rattle.words.specs.declared.gate.Scaling.{Scaling}
use Rattle.words.specs.declared.gate.Wire.{Wire}
use Rattle.circuit.specs.Accepted.{Alike}
use Rattle.circuit.specs.Wires.{wire_at, modulus_at}
use Rattle.circuit.specs.declared.Circuit.{Circuit}
use Rattle.circuit.specs.Held.{wires_in}
use Rattle.counts.proofs.Wires.{wire-at}
use Rattle.counts.specs.Counts.{record_keys_by, record_keys_of}
use Rattle.counts.specs.declared.recipe.Recipe.{Recipe}
use Rattle.counts.specs.declared.recipe.Recipe.TheVariants.{Entered, Sum, Multiple, Table, Product, Choice}
use Rattle.counts.specs.declared.recipe.Lookup.{Lookup}
use Rattle.counts.specs.Recipe.{recipe}
use Rattle.counts.proofs.Recipes.{RecipeFits, recipe-fits}
use Rattle.counts.proofs.Recipes.RecipeFits.{entered, sum, multiple, table, product, choice}
use Rattle.plain.specs.Ready.{Below}
use Rattle.scheme.proofs.Steps.{zero_key_same, mask_same, zero_key-step, mask_step}
use Rattle.scheme.specs.Contribution.{record_at, key_at, share_at}
use Rattle.scheme.specs.Draw.{Draw, drawn}
use Rattle.scheme.specs.Zero.{zero_key_by, mask_by, masks_to, zero_key, mask}
use Rattle.zero.specs.Ready.{Contributed, drawn_in, ZeroKeys, Masks}
use Rattle.zero.specs.Turn.{keys_at, mask_at, key_here, mask_here, Stands, KeysReady, KeysAsked, MaskReady, MaskAsked, Put}
use Rattle.contribution.proofs.Sizes.{times-most}
use Rattle.contribution.proofs.Cursor.{within, cursor_next, cursor_fits, shares_fit, key_here_lem, share_here}
use Rattle.zero.proofs.Made.{above_0, zero_key_size, mask_below, mask-of, masks-made}

zeros_left : (made total : ℕ) → made ≤ total → drop {A = ℕ} made (replicate total 0) ≡ replicate (total - made) 0
zeros_left made total h =
    let all : made + (total - made) ≡ total = omega arith in
    ap (λ (m : ℕ). drop {A = ℕ} made (replicate m 0)) (sym all)
    ∙ ap (drop {A = ℕ} made) (sym (replicate-append-replicate {A = ℕ} made (total - made) 0))
    ∙ drop_at {A = ℕ} (replicate made 0) (replicate (total - made) 0) made (length-replicate {A = ℕ} made 0)

pub masks-long : {masks : List ℕ} → masks ≡ replicate 1024 0 → length masks ≡ 1024
masks-long e = ap length e ∙ length-replicate {A = ℕ} 1024 0

pub key-made : (drawn : List ℕ) (p : ℕ) (zero : ℕ → List ℕ) {how how' : Recipe} {ys : List ℕ} → how ≡ how' → ys ≡ zero_key_by drawn p zero how → ys ≡ zero_key_by drawn p zero how'
key-made drawn p zero e h = h ∙ ap (zero_key_by drawn p zero) e

pub mask-made : (drawn p : ℕ) (low : ℕ → ℕ) {how how' : Recipe} {y : ℕ} → how ≡ how' → y ≡ mask_by drawn p low how → y ≡ mask_by drawn p low how'
mask-made drawn p low e h = h ∙ ap (mask_by drawn p low) e

-- a wire whose record's first key and share are what was drawn for it
abbrev pub FirstDrawn : Recipe → Type 0
FirstDrawn how = (how ≡ Entered) ⊎ ((x : Lookup) × (how ≡ Table x)) ⊎ ((x : Pair) × (how ≡ Product x))

pub key-drawn : (drawn : List ℕ) (p : ℕ) (zero : ℕ → List ℕ) {how how' : Recipe} {ys : List ℕ} → FirstDrawn how → how ≡ how' → ys ≡ drawn → ys ≡ zero_key_by drawn p zero how'
unfolding zero_key_by
key-drawn drawn p zero (inl e) f h = key-made drawn p zero (sym e ∙ f) h
key-drawn drawn p zero (inr (inl (x, e))) f h = key-made drawn p zero (sym e ∙ f) h
key-drawn drawn p zero (inr (inr (x, e))) f h = key-made drawn p zero (sym e ∙ f) h

pub mask-drawn : (drawn p : ℕ) (low : ℕ → ℕ) {how how' : Recipe} {y : ℕ} → FirstDrawn how → how ≡ how' → y ≡ drawn → y ≡ mask_by drawn p low how'
unfolding mask_by
mask-drawn drawn p low (inl e) f h = mask-made drawn p low (sym e ∙ f) h
mask-drawn drawn p low (inr (inl (x, e))) f h = mask-made drawn p low (sym e ∙ f) h
mask-drawn drawn p low (inr (inr (x, e))) f h = mask-made drawn p low (sym e ∙ f) h

-- .. where lower wires are read: their keys are cut by a length that has another name
module _ (drawn : List ℕ) (p : ℕ) (keys : List ℕ) {m m' : ℕ} (long : m ≡ m') {how : Recipe} {ys : List ℕ} where
  pub sum_made : {g : Pair} → Sum g ≡ how → ys ≡ add_v p (nth_piece keys m g.a) (nth_piece keys m g.b) → ys ≡ zero_key_by drawn p (λ a. nth_piece keys m' a) how
  unfolding zero_key_by
  sum_made {g} e h = key-made drawn p (λ a. nth_piece keys m' a) e (h ∙ ap (λ (l : ℕ). add_v p (nth_piece keys l g.a) (nth_piece keys l g.b)) long)

  pub multiple_made : {g : Scaling} → Multiple g ≡ how → ys ≡ mul_v p g.constant (nth_piece keys m g.a) → ys ≡ zero_key_by drawn p (λ a. nth_piece keys m' a) how
  unfolding zero_key_by
  multiple_made {g} e h = key-made drawn p (λ a. nth_piece keys m' a) e (h ∙ ap (λ (l : ℕ). mul_v p g.constant (nth_piece keys l g.a)) long)

  pub choice-made : {g : Chosen} {base : List ℕ} → Choice g ≡ how → ys ≡ add_v p base (nth_piece keys m g.a) → base ≡ drawn → ys ≡ zero_key_by drawn p (λ a. nth_piece keys m' a) how
  unfolding zero_key_by
  choice-made {g} {base} e h k = key-made drawn p (λ a. nth_piece keys m' a) e (h ∙ ap₂ (λ (b : List ℕ) (l : ℕ). add_v p b (nth_piece keys l g.a)) k long)

pub choice_mask_made : (drawn p : ℕ) (low : ℕ → ℕ) {how : Recipe} {g : Chosen} {y share : ℕ} → Choice g ≡ how → y ≡ add p share (low g.a) → share ≡ drawn → y ≡ mask_by drawn p low how
unfolding mask_by
choice_mask_made drawn p low {how} {g} {y} {share} e h k = mask-made drawn p low e (h ∙ ap (λ (s : ℕ). add p s (low g.a)) k)

module _ {file : List ℕ} {circuit : Circuit} {n K size : ℕ} {contributions : List ℕ} (r : Contributed file circuit n K size contributions) where
  abbrev wires : List Wire
  wires = wires_in circuit

  abbrev draw : Draw
  draw = drawn_in circuit n K contributions

  -- one contribution is no longer than all of them
  size-most : size ≤ length contributions
  size-most = omega (arith, r.all, times-most 1 size n size r.sizes.some (omega arith))

  -- what the code knows of a wire that it has is known of the one that is looked up
  as_looked : {w : ℕ} → w < circuit.made → {x : ℕ} (f : Wire → ℕ) → x ≡ f (wire_at wires w) → x ≡ f (wire_at circuit.wires w)
  as_looked {w} h f e = e ∙ ap f (wire-at circuit.wires circuit.made w h)

  same_recipe : {w : ℕ} → w < circuit.made → {how : Recipe} → recipe (wire_at wires w) ≡ how → recipe (wire_at circuit.wires w) ≡ how
  same_recipe {w} h is = ap recipe (sym (wire-at circuit.wires circuit.made w h)) ∙ is

  module _ {w at : ℕ} (h : w < circuit.made) (here : at ≡ record_at K wires w) {step : ℕ} where
    pub next-record : step ≡ (K + 1) * record_keys_by (recipe (wire_at wires w)) → at + step ≡ record_at K wires (w + 1)
    next-record e = cursor_next r.held K h here (as_looked h (λ (wire : Wire). (K + 1) * record_keys_by (recipe wire)) e)

    pub record-fits : step ≡ (K + 1) * record_keys_by (recipe (wire_at wires w)) → at + step ≤ length contributions
    record-fits e = omega (arith, cursor_fits r.held K h here r.each (as_looked h (λ (wire : Wire). (K + 1) * record_keys_by (recipe wire)) e), size-most)

    pub shares-fit : step ≡ K * record_keys_by (recipe (wire_at wires w)) → at + step ≤ length contributions
    shares-fit e = omega (arith, shares_fit r.held K h here r.each (as_looked h (λ (wire : Wire). K * record_keys_by (recipe wire)) e), size-most)

  -- what stands at the cursor is what was drawn
  drawn_key : (w : ℕ) {at : ℕ} → at ≡ record_at K wires w → keys_at n K size contributions at ≡ draw.key w 0
  unfolding keys_at drawn key_at
  drawn_key w {at} e =
      let k : at ≡ record_at K wires w + K * 0 = omega arith in
      ap₂ (λ (s a : ℕ). blocks n (λ party. part (nth_piece contributions s party) a K)) r.each k

  drawn_mask : (w : ℕ) {at : ℕ} → at ≡ record_at K wires w + K * record_keys_of wires w → mask_at n size contributions (modulus_at wires w) at ≡ draw.mask w 0
  unfolding mask_at drawn share_at
  drawn_mask w {at} e =
      let k : at ≡ record_at K wires w + K * record_keys_of wires w + 0 = e ∙ sym (add-zero _) in
      ap₂ (λ (s a : ℕ). mask_at n s contributions (modulus_at wires w) a) r.each k

  -- ---- zero keys

  pub keys_start : {keys : List ℕ} → length keys ≡ circuit.made * (n * K) → Level keys 0 0 circuit.made (n * K) (zero_key wires draw) 0 keys
  keys_start e = level_start (omega arith)

  module _ {keys₀ keys : List ℕ} {w at to : ℕ} (h : w < circuit.made) (here : at ≡ record_at K wires w) (done : Level keys₀ 0 w circuit.made (n * K) (zero_key wires draw) to keys) where
    lower_key : (a : ℕ) → a < w → nth_piece keys (n * K) a ≡ zero_key wires draw a
    lower_key a l = level_read done a l (λ k m. zero_key_size r k (omega arith))

    stands : {a : ℕ} → a < w → Stands (n * K) keys a
    stands {a} l = record { inside = le_trans (times-fits a w (n * K) l) (omega (arith, level_place done, steps_fits done h)) }

    first_key : {how : Recipe} → recipe (wire_at wires w) ≡ how → 0 < record_keys_by how → at + K ≤ size
    first_key is l = omega (arith, key_here_lem r.held K h here r.each 0 (rw (same_recipe h is) l))

    keys-by : {how : Recipe} → RecipeFits file wires w how → recipe (wire_at wires w) ≡ how → KeysReady (n * K) K size at keys how
    keys-by (entered fits) is = first_key is (omega arith)
    keys-by (sum fits) is = (stands fits.a.lower, stands fits.b.lower)
    keys-by (multiple fits) is = stands fits.a.lower
    keys-by (table fits) is = first_key is (omega arith)
    keys-by (product fits) is = first_key is (omega arith)
    keys-by (choice fits) is = (first_key is (omega arith), stands fits.a.lower)

    pub keys_asked : KeysAsked n K size at (modulus_at wires w) (recipe (wire_at wires w)) contributions keys
    keys_asked = record { all = r.all; positive = above_0 r w h; ready = keys-by (recipe-fits r.accepted w (within r.held h)) refl }

    pub keys_step : {m : ℕ} {keys' : List ℕ} → m ≡ n * K
        → Put n K to (key_here n K size at contributions keys (wire_at wires w)) keys keys'
        → Level keys₀ 0 (w + 1) circuit.made (n * K) (zero_key wires draw) (to + m) keys'
    keys_step {m} {keys'} e put =
        steps_put done h (omega arith) put.long put.eq
        (ap (λ (k : List ℕ). zero_key_by k (modulus_at wires w) (λ a. nth_piece keys (n * K) a) (recipe (wire_at wires w))) (drawn_key w here)
        ∙ zero_key_same (draw.key w 0) (modulus_at wires w) _ (zero_key wires draw) (recipe-fits r.accepted w (within r.held h)) lower_key
        ∙ sym (zero_key-step r.accepted w (within r.held h) draw))

  pub keys-done : {keys₀ keys : List ℕ} {w to : ℕ} → Level keys₀ 0 w circuit.made (n * K) (zero_key wires draw) to keys → circuit.made ≤ w → length keys₀ ≡ circuit.made * (n * K) → ZeroKeys circuit n K contributions keys
  keys-done done h e = record { stand = level_whole done h e }

  -- ---- masks

  abbrev target : List ℕ
  target = masks_to wires draw circuit.made

  pub masks_start : {masks : List ℕ} → masks ≡ replicate 1024 0 → Filled masks 0 circuit.made target masks
  masks_start e = filled_start (masks-made r) (omega (arith, r.held.room.made, masks-long e))

  module _ {masks₀ masks : List ℕ} {w at shares : ℕ} (h : w < circuit.made) (here : at ≡ record_at K wires w) (behind : shares ≡ K * record_keys_by (recipe (wire_at wires w)))
      (done : Filled masks₀ w circuit.made target masks) where
    lower_mask : (a : ℕ) → a < w → get_or masks a 0 ≡ mask wires draw a
    lower_mask a l =
        let long : length (take w target) ≡ w = length-take-le w target (omega (arith, masks-made r)) in
        ap (λ (ms : List ℕ). get_or ms a 0) done.eq
        ∙ get_or-append (take w target) (drop w masks₀) 0 a (omega arith)
        ∙ get_or-take w target a 0 l
        ∙ mask-of r a

    mask_alike : {a : ℕ} → Alike wires w a → Below masks (modulus_at wires w) a
    mask_alike {a} fits =
        record {
          held = omega (arith, fits.lower, done.room, done.kept);
          below = rw (lower_mask a fits.lower, ← fits.same) (mask_below r a (omega (arith, fits.lower)));
        }

    first_share : {how : Recipe} → recipe (wire_at wires w) ≡ how → 0 < record_keys_by how → at + shares < size
    first_share is l = omega (arith, share_here r.held K h here r.each 0 (rw (same_recipe h is) l) (as_looked h (λ (wire : Wire). K * record_keys_by (recipe wire)) behind))

    mask-by : {how : Recipe} → RecipeFits file wires w how → recipe (wire_at wires w) ≡ how → MaskReady (modulus_at wires w) size (at + shares) masks how
    mask-by (entered fits) is = first_share is (omega arith)
    mask-by (sum fits) is = record { a = mask_alike fits.a; b = mask_alike fits.b }
    mask-by (multiple fits) is = mask_alike fits.a
    mask-by (table fits) is = first_share is (omega arith)
    mask-by (product fits) is = first_share is (omega arith)
    mask-by (choice fits) is = (first_share is (omega arith), mask_alike fits.a)

    pub mask_asked : MaskAsked n size (at + shares) (modulus_at wires w) (recipe (wire_at wires w)) contributions masks
    mask_asked =
        record {
          all = r.all;
          parties = r.sizes.parties;
          positive = above_0 r w h;
          ready = mask-by (recipe-fits r.accepted w (within r.held h)) refl;
        }

    pub masks-step : {v : ℕ}
        → v ≡ mask_here n size (at + shares) contributions masks (wire_at wires w)
        → Filled masks₀ (w + 1) circuit.made target (set masks w v)
    masks-step {v} e =
        let place : at + shares ≡ record_at K wires w + K * record_keys_of wires w = ap₂ ◌+◌ here behind in
        filled_step done h
        (mask-of r w
        ∙ mask_step r.accepted w (within r.held h) draw
        ∙ sym (e
        ∙ ap (λ (m : ℕ). mask_by m (modulus_at wires w) (λ a. get_or masks a 0) (recipe (wire_at wires w))) (drawn_mask w place)
        ∙ mask_same (draw.mask w 0) (modulus_at wires w) _ (mask wires draw) (recipe-fits r.accepted w (within r.held h)) lower_mask))

  pub masks-done : {masks₀ masks : List ℕ} {w : ℕ} → masks₀ ≡ replicate 1024 0 → Filled masks₀ w circuit.made target masks → circuit.made ≤ w → Masks circuit n K contributions masks
  masks-done {masks₀} e done h =
      record {
        stand = filled_done done h ∙ ap (λ (l : List ℕ). target ++ l) (ap (drop {A = ℕ} circuit.made) e ∙ zeros_left circuit.made 1024 r.held.room.made);
      }
