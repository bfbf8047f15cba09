-- The penalty is renewed by what is touched.
use Rattle.std.proofs.Common.{arith}
use Rattle.ra_repair.proofs.StepLemmas.{goes}
use Rattle.ra_repair.proofs.KeepLemmas.{renews, keeps_on}
use Rattle.ra_repair.proofs.following.follow_step.Goals as goal

pub overflow_add-kept : goal.overflow_add-kept
overflow_add-kept g c =
    let news = renews c.args.step.to c.args.inst.now.well_formed c.args.inst.now.small c.requires.keeps
    (goes c.args.step.process.0 c.args.step.to c.requires.keeps.stands.fits c.requires.process c.requires.at_from
    c.requires.to
    c.requires.apart) c.put.ensures.assignment c.touched-before.ensures.value c.touched-after.ensures.value
    c.touched-after.ensures.few in
    omega (arith, news.fits, c.put.ensures.penalty, c.from.ensures)

pub overflow_sub-kept : goal.overflow_sub-kept
overflow_sub-kept g c =
    let news = renews c.args.step.to c.args.inst.now.well_formed c.args.inst.now.small c.requires.keeps
    (goes c.args.step.process.0 c.args.step.to c.requires.keeps.stands.fits c.requires.process c.requires.at_from
    c.requires.to
    c.requires.apart) c.put.ensures.assignment c.touched-before.ensures.value c.touched-after.ensures.value
    c.touched-after.ensures.few in
    omega (arith, news.enough, c.put.ensures.penalty, c.from.ensures, c.from-2.ensures)

pub returns-clause-keeps : goal.returns-clause-keeps
returns-clause-keeps g c =
    let news = renews c.args.step.to c.args.inst.now.well_formed c.args.inst.now.small c.requires.keeps
    (goes c.args.step.process.0 c.args.step.to c.requires.keeps.stands.fits c.requires.process c.requires.at_from
    c.requires.to
    c.requires.apart) c.put.ensures.assignment c.touched-before.ensures.value c.touched-after.ensures.value
    c.touched-after.ensures.few in
    keeps_on _ c.put.ensures.stands
    (omega (arith, news.renewed, c.put.ensures.penalty, c.from.ensures, c.from-2.ensures))
