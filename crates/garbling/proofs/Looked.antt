-- What the code looks up is what the scheme says: moduli, zero keys and masks of wires, offsets of moduli, keys and masks of a wire's record. And so the rows
-- that are made of it are the scheme's: a wire's rows depend on their source only where its recipe looks.
-- Assumes nothing.
use mathlib.Core.Path.{◌≡◌, refl, sym, ap, ap₂, subst, ◌∙◌}
use mathlib.Core.Bool.{true}
use mathlib.Core.List.{List, ◌++◌}
use Prim.Native.Nat.{ℕ, suc, ◌+◌, ◌-◌, ◌*◌, ◌%◌, ◌≤◌, ◌<◌}
use native.Mathlib.Omega.{arith}
use lib.ListN.{length, get_or, replicate, length-append, length-replicate}
use Rattle.lists.specs.Blocks.{blocks, sum_to, tab, part, nth_piece}
use Rattle.lists.proofs.Sums.{times-fits}
use Rattle.lists.proofs.Blocks.{length_blocks_same, length-tab, get_or-tab}
use Rattle.words.specs.declared.gate.Wire.{Wire}
use Rattle.circuit.specs.declared.Circuit.{Circuit}
use Rattle.circuit.specs.Wires.{wire_at, modulus_at, moduli_of}
use Rattle.circuit.proofs.More.{made}
use Rattle.circuit.specs.Held.{wires_in}
use Rattle.counts.specs.declared.recipe.Recipe.{Recipe}
use Rattle.counts.specs.Recipe.{recipe}
use Rattle.counts.specs.Counts.{record_keys_by, record_keys_of, rows_by, rows_of}
use Rattle.counts.specs.Moduli.{used, used_below}
use Rattle.counts.proofs.Wires.{padded-modulus}
use Rattle.counts.proofs.Counting.{rows_same}
use Rattle.counts.proofs.Recipes.{RecipeFits, recipe-fits}
use Rattle.counts.proofs.Recipes.RecipeFits.{entered, sum, multiple, table, product, choice}
use Rattle.session.proofs.Circuits.{made-is}
use Rattle.pads.specs.Pad.{Pad, shake_pad}
use Rattle.scheme.specs.Contribution.{offset_at, record_at, key_at, share_at, contribution_size}
use Rattle.scheme.specs.Draw.{Draw, drawn}
use Rattle.scheme.specs.Keyed.{Keyed, less}
use Rattle.scheme.specs.Zero.{zero_key, mask}
use Rattle.scheme.specs.Gate.{table_rows, product_rows, choice_rows, Source, rows_from}
use Rattle.scheme.specs.Rows.{source_of, gate_rows}
use Rattle.scheme.proofs.Bounds.{prime}
use Rattle.scheme.proofs.Used.{used-modulus}
use Rattle.scheme.proofs.Places.{offset-fits, record_fits}
use Rattle.zero.specs.Ready.{Contributed, ZeroKeys, Masks, drawn_in}
use Rattle.zero.specs.Turn.{keys_at, mask_at}
use Rattle.contribution.proofs.Cursor.{record_next}
use Rattle.zero.proofs.Made.{zero_key_size, mask_below, zero_keys_at, masks-at, masks-kept}
use Rattle.garbling.specs.declared.turn.Turn.{Turn}
use Rattle.garbling.specs.Source.{source_here, rows_here, Offsets, Reduced, OfRecipe, Sourced}
use Rattle.garbling.proofs.Fronts.{pair_is}

-- ---- rows that are made of equal operands are equal

module _ (pad : Pad) (n K w p : ℕ) where
  pub table_same : (image : ℕ → ℕ) {q q' : ℕ} {a a' z z' : Keyed} {E E' D D' : List ℕ} → q ≡ q' → a ≡ a' → E ≡ E' → z ≡ z' → D ≡ D'
      → table_rows pad n K w image q a E p z D ≡ table_rows pad n K w image q' a' E' p z' D'
  table_same image e₁ e₂ e₃ e₄ e₅ = cc

  pub product_same : {D D' : List ℕ} {a a' b b' z z' x x' : Keyed} → D ≡ D' → a ≡ a' → b ≡ b' → z ≡ z' → x ≡ x'
      → product_rows pad n K w p D a b z x ≡ product_rows pad n K w p D' a' b' z' x'
  product_same e₁ e₂ e₃ e₄ e₅ = cc

  pub choice_same : {D D' E E' : List ℕ} {v v' d d' z z' x x' y y' : Keyed} → D ≡ D' → E ≡ E' → v ≡ v' → d ≡ d' → z ≡ z' → x ≡ x' → y ≡ y'
      → choice_rows pad n K w p D E v d z x y ≡ choice_rows pad n K w p D' E' v' d' z' x' y'
  choice_same e₁ e₂ e₃ e₄ e₅ e₆ e₇ = cc

-- two sources agree on what wire w looks at: the offsets of moduli, lower wires, and m pairs of its record
record Agree (wires : List Wire) (w m : ℕ) (s t : Source) : Type 0 where
  offset : (q : ℕ) → q < 256 → s.offset q ≡ t.offset q
  modulus : (a : ℕ) → s.modulus a ≡ modulus_at wires a
  modulus' : (a : ℕ) → t.modulus a ≡ modulus_at wires a
  wire : (a : ℕ) → a < w → s.wire a ≡ t.wire a
  drawn : (j : ℕ) → j < m → s.drawn j ≡ t.drawn j

from_same : {file : List ℕ} {wires : List Wire} {w : ℕ} {how : Recipe} (pad : Pad) (n K : ℕ) {s t : Source} → RecipeFits file wires w how
    → ((a : ℕ) → a < suc w → modulus_at wires a < 256) → Agree wires w (record_keys_by how) s t
    → rows_from pad n K w (modulus_at wires w) file s how ≡ rows_from pad n K w (modulus_at wires w) file t how
unfolding rows_from
from_same pad n K (entered fits) byte e = refl
from_same pad n K (sum fits) byte e = refl
from_same pad n K (multiple fits) byte e = refl
from_same {wires = wires} {w = w} pad n K {s = s} {t = t} (table {g} fits) byte e =
    let q : s.modulus g.a ≡ t.modulus g.a = e.modulus g.a ∙ sym (e.modulus' g.a) in
    table_same pad n K w (modulus_at wires w) _ q (e.wire g.a fits.lower)
    (ap s.offset (e.modulus g.a) ∙ e.offset (modulus_at wires g.a) (byte g.a (omega (arith, fits.lower))) ∙ ap t.offset (sym (e.modulus' g.a)))
    (e.drawn 0 (omega arith)) (e.offset (modulus_at wires w) (byte w (omega arith)))
from_same {wires = wires} {w = w} pad n K (product {g} fits) byte e =
    product_same pad n K w (modulus_at wires w) (e.offset (modulus_at wires w) (byte w (omega arith))) (e.wire g.a fits.a.lower) (e.wire g.b fits.b.lower)
    (e.drawn 0 (omega arith)) (e.drawn 1 (omega arith))
from_same {wires = wires} {w = w} pad n K (choice {g} fits) byte e =
    choice_same pad n K w (modulus_at wires w) (e.offset (modulus_at wires w) (byte w (omega arith))) (e.offset 2 (omega arith)) (e.wire g.bit fits.lower)
    (ap₂ (less (modulus_at wires w)) (e.wire g.b fits.b.lower) (e.wire g.a fits.a.lower))
    (e.drawn 0 (omega arith)) (e.drawn 1 (omega arith)) (e.drawn 2 (omega arith))

-- ---- what the code looks up

module _ {file : List ℕ} {circuit : Circuit} {n K size : ℕ} {contributions : List ℕ} (r : Contributed file circuit n K size contributions) where
  abbrev wires : List Wire
  wires = wires_in circuit

  abbrev drew : Draw
  drew = drawn_in circuit n K contributions

  -- the record of wire w, at place at
  module _ (w : ℕ) {at : ℕ} (here : at ≡ record_at K wires w) where
    key-is : (j : ℕ) → keys_at n K size contributions (at + K * j) ≡ drew.key w j
    unfolding keys_at drawn key_at
    key-is j = ap₂ (λ (s a : ℕ). blocks n (λ party. part (nth_piece contributions s party) (a + K * j) K)) r.each here

    share_is : (m j : ℕ) → record_keys_of wires w ≡ m → mask_at n size contributions (modulus_at wires w) (at + K * m + j) ≡ drew.mask w j
    unfolding mask_at drawn share_at
    share_is m j e =
        ap₂ (λ (s a : ℕ). sum_to n (λ party. get_or (nth_piece contributions s party) (a + K * m + j) 0) % modulus_at wires w) r.each here
        ∙ ap (λ (i : ℕ). sum_to n (λ party. get_or (nth_piece contributions (contribution_size K wires) party) (record_at K wires w + K * i + j) 0) % modulus_at wires w) (sym e)

  module _ {ranks : List ℕ} (er : ranks ≡ tab 256 (used_below wires)) where
    pub ranks_long : length ranks ≡ 256
    ranks_long = ap length er ∙ length-tab 256 (used_below wires)

    rank_is : (p : ℕ) → p < 256 → get_or ranks p 0 ≡ used_below wires p
    rank_is p h = ap (λ (l : List ℕ). get_or l p 0) er ∙ get_or-tab 256 (used_below wires) p 0 h

    offset_is : (p : ℕ) → p < 256 → keys_at n K size contributions (K * get_or ranks p 0) ≡ drew.offset p
    unfolding keys_at drawn offset_at
    offset_is p h = ap₂ (λ (s k : ℕ). blocks n (λ party. part (nth_piece contributions s party) (K * k) K)) r.each (rank_is p h)

    offsets_fit : (p : ℕ) → used wires p ≡ true → p < 256 → K * get_or ranks p 0 + K ≤ size
    unfolding offset_at
    offsets_fit p t h = rw (rank_is p h, r.each) (offset-fits K wires p t h)

    offsets_there : (turn : Turn) → turn.k ≡ K → turn.size ≡ size → {p : ℕ} (a : ℕ) → a < length wires → modulus_at wires a ≡ p → Offsets turn ranks p
    offsets_there turn ek es {p} a h e =
        subst (λ (q : ℕ). Offsets turn ranks q) e
        (record {
          held = omega (arith, ranks_long, (r.accepted.fits a h).byte);
          fits = rw (ek, es) (offsets_fit (modulus_at wires a) (used-modulus wires a h) (r.accepted.fits a h).byte);
        })

  module _ {keys masks : List ℕ} (z : ZeroKeys circuit n K contributions keys) (m : Masks circuit n K contributions masks) where
    zero_is : (a : ℕ) → a < length wires → nth_piece keys (n * K) a ≡ zero_key wires drew a
    zero_is a h = zero_keys_at r z a (omega (arith, made-is r.held))

    zero_there : (a : ℕ) → a < length wires → a * (n * K) + n * K ≤ length keys
    zero_there a h =
        omega (
          arith,
          times-fits a circuit.made (n * K) (omega (arith, made-is r.held)),
          ap length z.stand ∙ length_blocks_same circuit.made (n * K) (zero_key wires drew) (zero_key_size r),
        )

    mask_is : (a : ℕ) → a < length wires → get_or masks a 0 ≡ mask wires drew a
    mask_is a h = masks-at r m a (omega (arith, made-is r.held))

    operand : (turn : Turn) → turn.n * turn.k ≡ n * K → {p : ℕ} (a : ℕ) → a < length wires → modulus_at wires a ≡ p → Reduced turn keys masks p a
    operand turn e {p} a h f =
        record {
          there = record { key = rw e (zero_there a h); held = omega (arith, made-is r.held, masks-kept r m, r.held.room.made) };
          below = rw (mask_is a h, ← f) (mask_below r a (omega (arith, made-is r.held)));
        }

    module _ {ranks moduli : List ℕ} (er : ranks ≡ tab 256 (used_below wires)) (em : moduli ≡ moduli_of wires ++ replicate (1024 - circuit.made) 0) where
      pub modulus_is : (a : ℕ) → get_or moduli a 0 ≡ modulus_at wires a
      modulus_is a = ap (λ (l : List ℕ). get_or l a 0) em ∙ padded-modulus wires (1024 - circuit.made) a

      pub moduli-long : length moduli ≡ 1024
      moduli-long = ap length em ∙ simp length-append (omega (arith, length-replicate {A = ℕ} (1024 - circuit.made) 0, made wires, made-is r.held, r.held.room.made))

      -- ---- a wire, at its turn

      module _ {w at : ℕ} (h : w < length wires) (here : at ≡ record_at K wires w) where
        abbrev wire : Wire
        wire = wire_at wires w

        lower : {a : ℕ} → a < w → a < length wires
        lower l = omega (arith, h)

        pub rows-counted : rows_by (recipe wire) (λ a. get_or moduli a 0) wire.modulus ≡ rows_of wires w
        rows-counted = rows_same (recipe wire) _ (modulus_at wires) wire.modulus modulus_is

        -- the next record, and where this one ends
        module _ {step : ℕ} (e : step ≡ (K + 1) * record_keys_by (recipe wire)) where
          pub record-past : at + step ≡ record_at K wires (w + 1)
          record-past = omega (arith, record_next K wires w)

          pub record-inside : at + step ≤ size
          record-inside = omega (arith, record_fits K wires w h, r.each)

        module _ (round number count : ℕ) (en : number ≡ w) (ec : count ≡ record_keys_by (recipe wire)) where
          abbrev turn : Turn
          turn = record { n = n; k = K; round = round; wire = number; modulus = wire.modulus; size = size; at = at; count = count }

          operands : {how : Recipe} → RecipeFits file wires w how → OfRecipe turn ranks moduli keys masks file how
          operands (entered f) = OfRecipe.entered
          operands (sum {g} f) = OfRecipe.sum {g = g}
          operands (multiple {g} f) = OfRecipe.multiple {g = g}
          operands (table {g} f) =
              OfRecipe.table {g = g}
              (record {
                held = omega (arith, moduli-long, lower f.lower, r.accepted.wires_limit);
                over =
                    rw (modulus_is g.a)
                    (record {
                      modulus = (prime r.accepted g.a (lower f.lower)).two;
                      operand = operand turn refl g.a (lower f.lower) refl;
                      offsets = offsets_there er turn refl refl g.a (lower f.lower) refl;
                      images = f.images;
                    });
              })
          operands (product {g} f) =
              OfRecipe.product {g = g}
              (record { a = operand turn refl g.a (lower f.a.lower) f.a.same; b = operand turn refl g.b (lower f.b.lower) f.b.same })
          operands (choice {g} f) =
              OfRecipe.choice {g = g}
              (record {
                bit = operand turn refl g.bit (lower f.lower) f.binary;
                pair = offsets_there er turn refl refl g.bit (lower f.lower) f.binary;
                a = operand turn refl g.a (lower f.a.lower) f.a.same;
                b = operand turn refl g.b (lower f.b.lower) f.b.same;
              })

          pub sourced : count ≤ 3 → {out : List ℕ} → length out ≡ rows_by (recipe wire) (λ a. get_or moduli a 0) wire.modulus * (n * K)
              → Sourced turn contributions ranks moduli keys masks file (recipe wire) out
          sourced few e =
              record {
                drawn = record {
                  own = record {
                    gathers = record { sizes = r.sizes; all = r.all };
                    modulus = (prime r.accepted w h).two;
                    few = few;
                    fits = record-inside (ap (λ (m : ℕ). (K + 1) * m) ec);
                  };
                  count = ec;
                  offsets = offsets_there er turn refl refl w h refl;
                };
                operands = operands (recipe-fits r.accepted w h);
                room = e;
              }

          agree : Agree wires w (record_keys_of wires w) (source_here turn contributions ranks moduli keys masks) (source_of wires drew w)
          agree =
              record {
                offset = λ q l. offset_is er q l;
                modulus = modulus_is;
                modulus' = λ a. refl;
                wire = λ a l. pair_is (zero_is a (lower l)) (mask_is a (lower l));
                drawn = λ j l. pair_is (key-is w here j) (share_is w here count j (sym ec));
              }

          pub rows_are : rows_here turn contributions ranks moduli keys masks file (recipe wire) ≡ gate_rows (shake_pad round) n K file wires drew w
          unfolding gate_rows
          rows_are =
              ap (λ (i : ℕ). rows_from (shake_pad round) n K i wire.modulus file (source_here turn contributions ranks moduli keys masks) (recipe wire)) en
              ∙ from_same (shake_pad round) n K (recipe-fits r.accepted w h) (λ a l. (r.accepted.fits a (omega (arith, h))).byte) agree
