use Rattle.std.proofs.Common.{subst}
use Rattle.ra_model.specs.Feasible.{Feasible}
use Rattle.ra_edit.specs.Drafts.{Drafted, instance_of}
use Rattle.ra_edit.proofs.DraftLaws.{kept_feasible}
use Rattle.ra_edit.proofs.draft.Draft.leave.Goals as goal

pub returns-clause-feasible : goal.returns-clause-feasible
returns-clause-feasible c = subst (λ (o : Drafted). Feasible (instance_of o) o.initial o.current) c.self.view_is
    (kept_feasible c.self.invariant.kept)
