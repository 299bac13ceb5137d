-- `counts::moduli_used` meets its contract: the marks that are set are those of the moduli in use. Assumes nothing.
use Rattle.circuit.specs.Held.{wires_in}
use Rattle.counts.specs.Moduli.{used}
use Rattle.counts.proofs.Marked.{marks_summed}
use Rattle.counts.proofs.modulus.moduli_used.Goals as goal

pub returns : goal.returns
returns c = marks_summed 256 (used (wires_in c.args.circuit)) c.marks.ensures c.marks_set.ensures
