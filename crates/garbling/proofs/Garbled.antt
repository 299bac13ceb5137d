-- The pass over the wires, the memory that it works in, and the masks of the inputs.
-- Assumes nothing.
use mathlib.Core.Path.{◌≡◌, sym, ap, ap₂, subst, ◌∙◌}
use mathlib.Core.List.{List, ◌++◌}
use Prim.Native.Nat.{ℕ, ◌-◌, ◌*◌, ◌≤◌, ◌<◌}
use native.Mathlib.Omega.{arith}
use lib.ListN.{length, get_or, take, replicate}
use lib.Seq.{get_or-take, length-take-le}
use Rattle.lists.specs.Blocks.{blocks, sum_to, tab}
use Rattle.lists.proofs.Blocks.{is-tab}
use Rattle.lists.proofs.Steps.{Steps, steps_start, steps_whole}
use Rattle.words.specs.declared.gate.Wire.{Wire}
use Rattle.circuit.specs.declared.Circuit.{Circuit}
use Rattle.circuit.specs.Wires.{wire_at, moduli_of, inputs_in}
use Rattle.circuit.specs.Held.{wires_in}
use Rattle.counts.specs.Recipe.{recipe}
use Rattle.counts.specs.declared.recipe.Recipe.{Recipe}
use Rattle.counts.specs.Counts.{record_keys_by, rows_by, rows_of, rows_in, Counts}
use Rattle.counts.specs.Moduli.{used_below}
use Rattle.session.proofs.Circuits.{made-is, inputs-made}
use Rattle.pads.specs.Pad.{shake_pad}
use Rattle.scheme.specs.Contribution.{record_at}
use Rattle.scheme.specs.Draw.{Draw}
use Rattle.scheme.specs.Zero.{mask}
use Rattle.scheme.specs.Rows.{gate_rows, garbled_rows, input_masks}
use Rattle.session.specs.Sizes.{Sizes}
use Rattle.zero.specs.Ready.{Contributed, ZeroKeys, Masks, drawn_in}
use Rattle.garbling.specs.declared.turn.Turn.{Turn}
use Rattle.garbling.specs.Source.{rows_here, Sourced}
use Rattle.contribution.proofs.Sizes.{times-most, vector-fits}
use Rattle.contribution.proofs.Wired.{sum_to_times_right}
use Rattle.zero.proofs.Made.{masks-at, masks-kept}
use Rattle.garbling.proofs.Looked.{rows-counted, sourced, rows_are}

pub count_fits : {n K x : ℕ} → Sizes n K → x ≤ 512 → x * (n * K) ≤ 524288
count_fits {n} {K} {x} s h = times-most x (n * K) 512 1024 h (vector-fits s)

module _ {file : List ℕ} {circuit : Circuit} {n K size : ℕ} {contributions : List ℕ} (r : Contributed file circuit n K size contributions) where
  abbrev wires : List Wire
  wires = wires_in circuit

  abbrev drew : Draw
  drew = drawn_in circuit n K contributions

  -- the zero keys of all wires fit the memory
  pub keys_fit : circuit.made * (n * K) ≤ 1048576
  keys_fit = times-most circuit.made (n * K) 1024 1024 r.held.room.made (vector-fits r.sizes)

  -- ---- the pass: rows of so many wires stand, and the cursor is at the next record

  abbrev pub rows_at : ℕ → ℕ → List ℕ
  rows_at round = gate_rows (shake_pad round) n K file wires drew

  abbrev pub size_at : ℕ → ℕ
  size_at w = rows_of wires w * (n * K)

  total : sum_to circuit.made size_at ≡ rows_in wires * (n * K)
  total = sum_to_times_right circuit.made (n * K) (rows_of wires) ∙ ap (λ (m : ℕ). sum_to m (rows_of wires) * (n * K)) (sym (made-is r.held))

  pub pass_start : (round : ℕ) {rows : List ℕ} → length rows ≡ rows_in wires * (n * K) → Steps rows 0 0 circuit.made size_at (rows_at round) 0 rows
  pass_start round e = steps_start (omega (arith, total))

  pub pass_done : (round : ℕ) {rows₀ rows : List ℕ} {from w : ℕ} → Steps rows₀ 0 w circuit.made size_at (rows_at round) from rows → circuit.made ≤ w → length rows₀ ≡ rows_in wires * (n * K)
      → rows ≡ garbled_rows (shake_pad round) n K file wires drew
  unfolding garbled_rows
  pass_done round s h e = steps_whole s h (e ∙ sym total) ∙ ap (λ (m : ℕ). blocks m (rows_at round)) (sym (made-is r.held))

  module _ {keys masks : List ℕ} (z : ZeroKeys circuit n K contributions keys) (m : Masks circuit n K contributions masks) where
    module _ {ranks moduli : List ℕ} (er : ranks ≡ tab 256 (used_below wires)) (em : moduli ≡ moduli_of wires ++ replicate (1024 - circuit.made) 0)
        {w at y b : ℕ} (h : w < length wires) (here : at ≡ record_at K wires w)
        (e : y ≡ rows_by (recipe (wire_at wires w)) (λ a. get_or moduli a 0) (wire_at wires w).modulus * b) (f : b ≡ n * K) where
      -- y bytes are those of the wire's rows
      pub turn-size : y ≡ size_at w
      turn-size = e ∙ ap₂ ◌*◌ (rows-counted r z m er em h here) f

      module _ (round number count : ℕ) (en : number ≡ w) (ec : Counts 3 (record_keys_by (recipe (wire_at wires w))) count) where
        abbrev turn : Turn
        turn = record { n = n; k = K; round = round; wire = number; modulus = (wire_at wires w).modulus; size = size; at = at; count = count }

        pub turn-ready : {how : Recipe} {out : List ℕ} → how ≡ recipe (wire_at wires w) → length out ≡ size_at w
            → Sourced turn contributions ranks moduli keys masks file how out
        turn-ready {out = out} g l =
            subst (λ (q : Recipe). Sourced turn contributions ranks moduli keys masks file q out) (sym g)
            (sourced r z m er em h here round number count en ec.is ec.most (l ∙ ap (λ (i : ℕ). i * (n * K)) (sym (rows-counted r z m er em h here))))

        pub turn-rows : {how : Recipe} {xs : List ℕ} → how ≡ recipe (wire_at wires w)
            → xs ≡ rows_here turn contributions ranks moduli keys masks file how → xs ≡ rows_at round w
        turn-rows g k = k ∙ ap (rows_here turn contributions ranks moduli keys masks file) g ∙ rows_are r z m er em h here round number count en ec.is

  module _ {masks : List ℕ} (m : Masks circuit n K contributions masks) where
    -- ---- the input masks

    pub inputs_fit : {bytes : ℕ} → bytes ≡ inputs_in wires → bytes ≤ length masks
    inputs_fit e = omega (arith, inputs-made r.held, r.held.inputs, r.held.room.made, masks-kept r m)

    pub inputs_are : {bytes : ℕ} → bytes ≡ inputs_in wires → take bytes masks ≡ input_masks wires drew
    unfolding input_masks
    inputs_are {bytes} e =
        is-tab (inputs_in wires) (mask wires drew) (take bytes masks) 0 (length-take-le bytes masks (inputs_fit e) ∙ e)
        (λ i h. get_or-take bytes masks i 0 (omega arith) ∙ masks-at r m i (omega (arith, inputs-made r.held, r.held.inputs)))
