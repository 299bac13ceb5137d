-- `rehearsal::sizes_of` meets its contract: the products fit, and each size is the circuit's. Assumes nothing.
use native.Mathlib.Omega.{arith}
use Rattle.rehearsal.proofs.Sized.{sized, each-most, reads, read_as}
use Rattle.rehearsal.proofs.memory.sizes_of.Goals as goal

pub unwrap-circuit-requires : goal.unwrap-circuit-requires
unwrap-circuit-requires c = reads c.args.file.now c.read.result c.requires.accepted c.read.ensures.err

pub overflow_mul-result : goal.overflow_mul-result
overflow_mul-result c =
    let h = read_as c.args.file.now c.read.ensures.ok c.unwrap-circuit.ensures in
    omega (arith, each-most c.args.file.now h c.requires.ranged.0 c.requires.ranged.1)

pub returns : goal.returns
returns c = let h = read_as c.args.file.now c.read.ensures.ok c.unwrap-circuit.ensures in sized c.args.file.now h c.contribution_size.ensures.is
