-- The weight is that of the objective.
use Rattle.std.proofs.Common.{◌∙◌, ◌*◌, ℕ, ap}
use Rattle.ra_shift.proofs.FilterReads.{saved_by_is, weight_read}
use Rattle.ra_shift.proofs.filter.saved_by.Goals as goal

pub returns-clause-value : goal.returns-clause-value
returns-clause-value c = λ p are.
    let i = c.args.inst.now.tables in
    ap (λ (x : ℕ). c.from.result * x) (c.from-2.ensures ∙ c.saturating_sub.ensures)
    ∙ saved_by_is i p c.args.b _ _ (c.from.ensures ∙ weight_read i c.args.b _ c.balance.ensures)
    (c.asked_of-asked.ensures p are)
