-- The greatest of the counts after the change, times the weight.
use Rattle.std.proofs.Common.{◌∙◌, arith}
use Rattle.ra_edit.specs.Keeping.{drafted}
use Rattle.ra_edit.proofs.MovedLaws.{cost_without}
use Rattle.ra_edit.proofs.VerdictLaws.{times_small}
use Rattle.ra_edit.proofs.moved.service_cost_without.Goals as goal

pub returns-clause-value : goal.returns-clause-value
returns-clause-value c = λ e gone.
    cost_without (drafted c.args.inst.now.tables c.args.lists.now) e c.args.p.0 c.args.moved.now
    c.change_without-change.result c.from.result c.from-2.result c.requires.moved gone
    (c.change_without-change.ensures.counts e gone) (c.from.ensures ∙ c.service_weight.ensures)
    (c.from-2.ensures ∙ c.greatest_after-most.ensures.value)

pub returns-clause-bound : goal.returns-clause-bound
returns-clause-bound c =
    times_small c.from.result c.from-2.result (omega (arith, c.from.ensures)) (omega (arith, c.from-2.ensures))
