-- `plain::evaluate` meets its contract, from what its two calls ensure. Assumes nothing.
use mathlib.Core.Path.{◌∙◌}
use Rattle.plain.proofs.Ending.{gives_of, outputs-plain}
use Rattle.plain.proofs.wires.evaluate.Goals as goal

pub put_outputs-requires : goal.put_outputs-requires
put_outputs-requires c = gives_of c.requires c.wire_values-done.ensures

pub returns : goal.returns
returns c = c.put_outputs.ensures ∙ outputs-plain c.requires c.wire_values-done.ensures
