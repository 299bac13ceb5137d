-- `prices::line::byte_at` meets its contract. Assumes nothing.
use mathlib.Core.Path.{ap₂, ◌∙◌}
use Prim.Native.Nat.{ℕ, ◌+◌, ◌*◌}
use native.Mathlib.Nat.{add_assoc}
use native.Mathlib.Omega.{arith}
use Rattle.prices.proofs.Hex.{digit_at, byte-at}
use Rattle.prices.proofs.line.byte_at.Goals as goal

pub overflow_add-first : goal.overflow_add-first
overflow_add-first c = omega (arith, (digit_at c.args.at c.args.text.now c.requires.0 c.args.i (omega (arith, c.requires.1))).there)

pub overflow_add-second : goal.overflow_add-second
overflow_add-second c = omega (arith, (digit_at c.args.at c.args.text.now c.requires.0 c.args.i (omega (arith, c.requires.1))).there)

pub bounds-text-first : goal.bounds-text-first
bounds-text-first c = (digit_at c.args.at c.args.text.now c.requires.0 c.args.i (omega (arith, c.requires.1))).there

pub bounds-text-second : goal.bounds-text-second
bounds-text-second c = omega (arith, (digit_at c.args.at c.args.text.now c.requires.0 (c.args.i + 1) (omega (arith, c.requires.1))).there)

pub overflow_mul-result : goal.overflow_mul-result
overflow_mul-result c = omega (arith, c.hex_value-high.ensures, (digit_at c.args.at c.args.text.now c.requires.0 c.args.i (omega (arith, c.requires.1))).small)

pub overflow_add-result : goal.overflow_add-result
overflow_add-result c = omega (arith, c.hex_value-high.ensures, c.hex_value-low.ensures, (digit_at c.args.at c.args.text.now c.requires.0 c.args.i (omega (arith, c.requires.1))).small, rw (← add_assoc c.args.at c.args.i 1) at (digit_at c.args.at c.args.text.now c.requires.0 (c.args.i + 1) (omega (arith, c.requires.1))).small)

pub returns : goal.returns
returns c = ap₂ (λ (h l : ℕ). 16 * h + l) c.hex_value-high.ensures c.hex_value-low.ensures ∙ byte-at c.args.at c.args.i c.args.text.now
