-- The numbers are those of the resource.
use Rattle.std.proofs.Common.{◌∙◌, ◌*◌, ◌-◌, ap}
use Rattle.ra_shift.proofs.FilterReads.{load_more_is}
use Rattle.ra_shift.proofs.filter.load_more.Goals as goal

pub returns-clause-value : goal.returns-clause-value
returns-clause-value c = λ a p used amount.
    ap (λ x. c.from-2.result * x)
    (c.saturating_sub.ensures ∙ ap (λ x. x - c.saturating_sub-below.result) c.from-3.ensures
    ∙ ap (λ x. c.args.amount - x) c.saturating_sub-below.ensures)
    ∙ (load_more_is c.args.inst.now.tables a p c.args.m.0 c.args.r.0 c.args.used c.args.amount c.from-2.result
    c.from.result used amount (c.from-2.ensures ∙ c.load_weight.ensures) (c.from.ensures ∙ c.safety.ensures))
