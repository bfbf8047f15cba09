use Rattle.std.proofs.Common.{refl}
use Rattle.ra_journal.specs.Entries.{made_by}
use Rattle.plain.proofs.Clauses.{done_apart, refused_apart}
use Rattle.plain.proofs.touching.is_apart.Goals as goal

pub returns-in-Done : goal.returns-in-Done
unfolding made_by
returns-in-Done c = done_apart _ _ _ _ _ _ c.in-Done.is c.keeps_apart.ensures

pub returns-in-Refused : goal.returns-in-Refused
unfolding made_by
returns-in-Refused c =
    let apart = refused_apart c.args.inst.now.tables c.args.mv.now.steps c.args.other.now.mv.steps _ _
    c.in-Refused.is in
    (λ yes. apart, λ all. refl)
