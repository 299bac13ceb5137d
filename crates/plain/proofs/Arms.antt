-- What each arm of a match on a gate goes by.
-- Assumes nothing.
use mathlib.Core.Path.{◌≡◌, subst}
use mathlib.Core.List.{List}
use Prim.Native.Nat.{ℕ, ◌*◌, ◌<◌}
use native.Mathlib.Omega.{arith}
use lib.ListN.{length, get_or}
use Rattle.words.specs.Bits.{image, word_at}
use Rattle.words.specs.declared.gate.Owned.{Owned}
use Rattle.words.specs.declared.gate.Pair.{Pair}
use Rattle.words.specs.declared.gate.Scaling.{Scaling}
use Rattle.words.specs.declared.gate.Projection.{Projection}
use Rattle.words.specs.declared.gate.Choice.{Choice}
use Rattle.words.specs.declared.gate.Gate.{Gate}
use Rattle.words.specs.declared.gate.Gate.TheVariants.{Input, Add, Scale, Multiply, Project, Select}
use Rattle.plain.specs.Ready.{Below, PairReady, ProjectionReady, ChoiceReady, Ready}

-- the first byte of a word is its bits 7 to 0
pub image-byte : (file : List ℕ) (i : ℕ) → get_or file (4 * i) 0 < 256 → get_or file (4 * i) 0 ≡ image (word_at file i)
image-byte file i h = omega arith

-- where the gate is known, so is what its kind rests on
module _ {file values done : List ℕ} {w p : ℕ} where
  input_ready : {gate : Owned} → Ready file values done w p (Input gate) → w < length values
  input_ready (Ready.input r) = r

  add_ready : {gate : Pair} → Ready file values done w p (Add gate) → PairReady done p gate
  add_ready (Ready.add r) = r

  scale_ready : {gate : Scaling} → Ready file values done w p (Scale gate) → Below done p gate.a
  scale_ready (Ready.scale r) = r

  multiply_ready : {gate : Pair} → Ready file values done w p (Multiply gate) → PairReady done p gate
  multiply_ready (Ready.multiply r) = r

  project_ready : {gate : Projection} → Ready file values done w p (Project gate) → ProjectionReady file done gate
  project_ready (Ready.project r) = r

  select_ready : {gate : Choice} → Ready file values done w p (Select gate) → ChoiceReady done gate
  select_ready (Ready.select r) = r

  known : {gate gate' : Gate} → gate ≡ gate' → Ready file values done w p gate → Ready file values done w p gate'
  known e r = subst (λ (g : Gate). Ready file values done w p g) e r

  pub at-input : {gate : Gate} {g : Owned} → gate ≡ Input g → Ready file values done w p gate → w < length values
  at-input e r = input_ready (known e r)

  pub at-add : {gate : Gate} {g : Pair} → gate ≡ Add g → Ready file values done w p gate → PairReady done p g
  at-add e r = add_ready (known e r)

  pub at_scale : {gate : Gate} {g : Scaling} → gate ≡ Scale g → Ready file values done w p gate → Below done p g.a
  at_scale e r = scale_ready (known e r)

  pub at_multiply : {gate : Gate} {g : Pair} → gate ≡ Multiply g → Ready file values done w p gate → PairReady done p g
  at_multiply e r = multiply_ready (known e r)

  pub at_project : {gate : Gate} {g : Projection} → gate ≡ Project g → Ready file values done w p gate → ProjectionReady file done g
  at_project e r = project_ready (known e r)

  pub at-select : {gate : Gate} {g : Choice} → gate ≡ Select g → Ready file values done w p gate → ChoiceReady done g
  at-select e r = select_ready (known e r)
