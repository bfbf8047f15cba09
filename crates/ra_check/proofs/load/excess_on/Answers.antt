-- The number read is the use.
use Rattle.std.proofs.Common.{◌∙◌, List}
use Rattle.ra_base.specs.declared.ids.Machine.{Machine}
use Rattle.ra_check.proofs.CostLaws.{excess_from}
use Rattle.ra_check.proofs.load.excess_on.Goals as goal

pub returns : goal.returns
returns c = λ (a : List Machine) sums.
    c.saturating_sub.ensures ∙ excess_from c.args.inst.now.tables c.args.m.0
    c.args.r.0 sums c.resources.ensures c.requires.resource
    c.read_cell-used.ensures (c.from.ensures ∙ c.safety.ensures)
