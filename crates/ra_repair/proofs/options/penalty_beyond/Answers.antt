-- The way back ends where it began.
use Rattle.std.proofs.Common.{◌∙◌, sym, ap}
use Rattle.ra_repair.specs.Penalty.{penalty}
use Rattle.ra_repair.proofs.MoveLemmas.{made_of, back_again}
use Rattle.ra_repair.proofs.KeepLemmas.{keeps_on}
use Rattle.ra_repair.proofs.options.penalty_beyond.Goals as goal

pub go_back-requires-clause-made : goal.go_back-requires-clause-made
go_back-requires-clause-made g c = made_of c.args.inst.now.tables c.args.kept.now.assignment.items _ c.args.mv.now.steps
    c.requires.keeps.stands.fits c.requires.moves c.follow.ensures.assignment

pub returns-clause-keeps : goal.returns-clause-keeps
returns-clause-keeps g c =
    let i = c.args.inst.now.tables in
    keeps_on c.args.kept.now.penalty c.go_back.ensures.stands
    (c.requires.keeps.penalty_is
    ∙ ap (penalty i c.args.start.now.items)
    (sym (back_again i c.args.kept.now.assignment.items _ _ c.args.mv.now.steps c.requires.moves
    (made_of i c.args.kept.now.assignment.items _ c.args.mv.now.steps c.requires.keeps.stands.fits
    c.requires.moves c.follow.ensures.assignment)
    c.follow.ensures.assignment c.go_back.ensures.assignment)))

pub returns-clause-same : goal.returns-clause-same
returns-clause-same g c =
    let i = c.args.inst.now.tables in
    back_again i c.args.kept.now.assignment.items _ _ c.args.mv.now.steps c.requires.moves
    (made_of i c.args.kept.now.assignment.items _ c.args.mv.now.steps c.requires.keeps.stands.fits
    c.requires.moves c.follow.ensures.assignment)
    c.follow.ensures.assignment c.go_back.ensures.assignment
