-- One turn is the scheme's: `open_from` at what is cut out for a wire is what the scheme opens the wire to.
-- Assumes nothing.
use mathlib.Core.Path.{◌≡◌, refl, sym, ap, ap₂, ◌∙◌}
use mathlib.Core.List.{List}
use Prim.Native.Nat.{ℕ, ◌+◌, ◌*◌, ◌<◌}
use native.Mathlib.Nat.{mul-zero}
use native.Mathlib.Omega.{arith}
use lib.ListN.{length}
use Rattle.lists.specs.Blocks.{blocks, part, nth_piece}
use Rattle.search.specs.Search.{multiplier}
use Rattle.words.specs.declared.gate.Wire.{Wire}
use Rattle.circuit.specs.Wires.{wire_at, modulus_at}
use Rattle.circuit.specs.Accepted.{AcceptedCircuit}
use Rattle.counts.specs.declared.recipe.Recipe.{Recipe}
use Rattle.counts.specs.declared.recipe.Recipe.TheVariants.{Entered, Sum, Multiple, Table, Product, Choice}
use Rattle.counts.specs.Recipe.{recipe}
use Rattle.counts.proofs.Recipes.{recipe-fits}
use Rattle.pads.specs.Pad.{shake_pad}
use Rattle.scheme.specs.Contribution.{record_at, key_at, offset_at, contribution_size}
use Rattle.scheme.specs.Draw.{drawn}
use Rattle.scheme.specs.Opening.{Opened, open_from, own_rows, open_input, multiplier_of, open_wire}
use Rattle.scheme.proofs.Contributed.{nth_whole}
use Rattle.scheme.proofs.Steps.{open_same, open_step}
use Rattle.opening.specs.declared.turn.Turn.{Turn}
use Rattle.opening.specs.Step.{over_by, lower, multiplier_at, open_by, open_at}
use Rattle.opening.proofs.Reached.{opened_at}

-- ---- the modulus of the wire that a table is over

pub over_same : (how : Recipe) (f g : ℕ → ℕ) → ((a : ℕ) → f a ≡ g a) → over_by how f ≡ over_by how g
over_same Entered f g e = refl
over_same (Sum o) f g e = refl
over_same (Multiple o) f g e = refl
over_same (Table o) f g e = e o.a
over_same (Product o) f g e = refl
over_same (Choice o) f g e = refl

-- no other modulus of a lower wire is looked up
module _ (round n K w p : ℕ) (modulus_of : ℕ → ℕ) (found : List ℕ → ℕ) (rows : List ℕ) (given : Opened) (look : ℕ → Opened) where
  one_modulus : (how : Recipe)
      → open_from (shake_pad round) n K w p (λ _. over_by how modulus_of) found rows given look how ≡ open_from (shake_pad round) n K w p modulus_of found rows given look how
  unfolding open_from
  one_modulus Entered = refl
  one_modulus (Sum o) = refl
  one_modulus (Multiple o) = refl
  one_modulus (Table o) = refl
  one_modulus (Product o) = refl
  one_modulus (Choice o) = refl

-- ---- what one party drew by itself stands in its contribution

module _ (K : ℕ) (wires : List Wire) (c : List ℕ) (e : length c ≡ contribution_size K wires) where
  own_offset_is : (p : ℕ) → (drawn 1 K wires c).offset p ≡ part c (offset_at K wires p) K
  unfolding drawn blocks
  own_offset_is p = ap (λ (l : List ℕ). part l (offset_at K wires p) K) (nth_whole c (contribution_size K wires) e)

  own_key_is : (w : ℕ) → (drawn 1 K wires c).key w 0 ≡ part c (record_at K wires w) K
  unfolding drawn blocks key_at
  own_key_is w =
      ap (λ (l : List ℕ). part l (record_at K wires w + K * 0) K) (nth_whole c (contribution_size K wires) e)
      ∙ ap (λ (at : ℕ). part c at K) (omega (arith, mul-zero K))

-- ---- the turn at wire w

abbrev pub turn_at : ℕ → ℕ → ℕ → ℕ → List Wire → ℕ → Turn
turn_at n K party round wires w =
    record {
      n = n;
      k = K;
      party = party;
      round = round;
      wire = w;
      modulus = modulus_at wires w;
      over = over_by (recipe (wire_at wires w)) (modulus_at wires);
      zero = record_at K wires w;
      offset = offset_at K wires (modulus_at wires w);
    }

module _ (n K party round : ℕ) (wires : List Wire) (contribution externals keys rows : List ℕ) (e : length contribution ≡ contribution_size K wires) (w : ℕ) where
  abbrev turn : Turn
  turn = turn_at n K party round wires w

  found_is : multiplier_at turn contribution ≡ multiplier_of K party wires (drawn 1 K wires contribution) w
  unfolding multiplier_at multiplier_of
  found_is =
      ap₂ {C = List ℕ → ℕ} (λ (k D : List ℕ) (all : List ℕ). multiplier (modulus_at wires w) k D (nth_piece all K party)) (sym (own_key_is K wires contribution e w))
      (sym (own_offset_is K wires contribution e (modulus_at wires w)))

  module _ {file : List ℕ} {outputs : List ℕ} (accepted : AcceptedCircuit file wires outputs) (made : w < length wires) (wkeys wexternals : List ℕ)
      (below : (a : ℕ) → a < w → lower (n * K) wkeys wexternals a ≡ opened_at n K party round wires contribution externals keys rows a) where
    pub wire_is : open_at turn contribution externals keys (own_rows n K wires rows w) wkeys wexternals (recipe (wire_at wires w))
        ≡ opened_at n K party round wires contribution externals keys rows w
    unfolding open_at open_by open_wire
    wire_is =
        one_modulus round n K w (modulus_at wires w) (modulus_at wires) _ _ _ _ (recipe (wire_at wires w))
        ∙ ap
        (λ (found : List ℕ → ℕ). open_from (shake_pad round) n K w (modulus_at wires w) (modulus_at wires) found (own_rows n K wires rows w)
        (open_input n K externals keys w) (lower (n * K) wkeys wexternals) (recipe (wire_at wires w))) found_is
        ∙ open_same (shake_pad round) n K (modulus_at wires w) (modulus_at wires) _ _ _ _ _ (recipe-fits accepted w made) below
        ∙ sym (open_step accepted w made (shake_pad round) n K party (drawn 1 K wires contribution) externals keys rows)
