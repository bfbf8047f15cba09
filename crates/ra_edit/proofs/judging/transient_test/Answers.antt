-- The resource is transient, or it isn't.
use Rattle.std.proofs.Common.{◌∙◌, sym}
use Rattle.ra_edit.proofs.TestLaws.{transient_once}
use Rattle.ra_edit.proofs.judging.transient_test.Goals as goal

pub over_capacity-requires-clause-transient : goal.over_capacity-requires-clause-transient
over_capacity-requires-clause-transient c = sym c.transient.ensures ∙ c.if-transient.true

pub returns-else-transient : goal.returns-else-transient
returns-else-transient c =
    λ e same is. transient_once e c.args.m.0 c.args.r.0 (cc (c.transient.ensures, c.if-transient.false))
