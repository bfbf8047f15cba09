-- Rows, counters and assignment change alike.
use Rattle.std.proofs.Common.{◌∙◌}
use Rattle.ra_model.proofs.TallyLemmas.{fits_set}
use Rattle.ra_repair.proofs.KeepLemmas.{stands_on}
use Rattle.ra_repair.proofs.following.put.Goals as goal

pub returns-clause-stands : goal.returns-clause-stands
returns-clause-stands g c =
    let kept = c.args.kept.now in
    let i = c.args.inst.now.tables in
    let a0 = c.args.start.now.items in
    let a = kept.assignment.items in
    let stands = c.requires.stands in
    stands_on _ i a0 _ c.set.ensures.items
    (fits_set i a c.args.p.0 c.args.to stands.fits c.requires.process c.requires.to)
    (c.shift.ensures.tables ∙ stands.tables) (c.shift.ensures.start ∙ stands.start)
    (c.shift.ensures.stands a stands.rows c.requires.at_from)
    (c.change.ensures.stand i a0 a stands.cells c.requires.at_from)
