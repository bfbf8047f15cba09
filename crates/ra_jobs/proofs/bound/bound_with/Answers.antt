use Rattle.ra_jobs.specs.Files.{name_of, names_of}
use Rattle.ra_jobs.proofs.StageLemmas.{bound_is}
use Rattle.ra_jobs.proofs.bound.bound_with.Goals as goal

pub returns-clause-read : goal.returns-clause-read
unfolding name_of
returns-clause-read g c = bound_is (g.F.Files.held c.args.files.now) (names_of c.args.names.now).initial
    c.args.inst.now.tables c.in_ok-a0.a0.items _ c.requires.initial c.in_ok-a0.ensures.read c.in_ok-bound_from.ensures
