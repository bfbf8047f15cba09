use Rattle.std.proofs.Common.{subst}
use Rattle.ra_model.specs.Feasible.{Feasible}
use Rattle.ra_edit.specs.Drafts.{Drafted, instance_of}
use Rattle.ra_edit.proofs.DraftLaws.{kept_feasible}
use Rattle.ra_edit.proofs.draft.Draft.parts.Goals as goal

pub returns-clause-feasible : goal.returns-clause-feasible
returns-clause-feasible c = subst (λ (d : Drafted). Feasible (instance_of d) d.initial d.current) c.self.view_is
    (kept_feasible c.self.invariant.kept)
