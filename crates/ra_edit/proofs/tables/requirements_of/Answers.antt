use Rattle.std.proofs.lemmas.Grind.{common_steps}
use Rattle.std.proofs.Common.{arith, length-append}
use Rattle.ra_edit.proofs.CopyLaws.{requirement_more, requirement_whole, some_width, row_below, column_below}
use Rattle.ra_edit.proofs.tables.requirements_of.Goals as goal

pub loop-k-preserved : goal.loop-k-preserved
loop-k-preserved g c = grind (arith, common_steps, requirement_more, length-append)

pub returns : goal.returns
returns g c = grind (arith, common_steps, requirement_whole)

pub requirement-requires-clause-process : goal.requirement-requires-clause-process
requirement-requires-clause-process g c =
    row_below c.loop-k.k c.resources-width.result c.loop-k-test.true c.processes.ensures

pub requirement-requires-clause-resource : goal.requirement-requires-clause-resource
requirement-requires-clause-resource g c =
    column_below c.loop-k.k c.processes.result c.loop-k-test.true c.resources-width.ensures

pub nonzero_div-k : goal.nonzero_div-k
nonzero_div-k g c = some_width c.loop-k.k c.processes.result c.resources-width.result c.loop-k-test.true

pub nonzero_rem-k : goal.nonzero_rem-k
nonzero_rem-k g c = some_width c.loop-k.k c.processes.result c.resources-width.result c.loop-k-test.true
