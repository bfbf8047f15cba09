-- The neighbourhood of the process's machine.
use Rattle.std.proofs.Common.{◌∙◌, eqb, ap}
use Rattle.ra_model.specs.Numbers.{neighbourhood_of, need_of}
use Rattle.ra_model.specs.Services.{in_neighbourhood}
use Rattle.ra_model.specs.Broken.{near_of}
use Rattle.ra_repair.specs.Members.{seat_of, is_far}
use Rattle.ra_repair.proofs.ReadLemmas.{need_there}
use Rattle.ra_repair.proofs.sums.is_far.Goals as goal

pub near-requires-clause-service : goal.near-requires-clause-service
near-requires-clause-service c = need_there c.args.inst.now.tables c.args.s.0 c.args.k c.args.need.0
    c.args.inst.now.well_formed c.requires.service c.requires.dependency c.requires.need

pub returns : goal.returns
unfolding is_far near_of seat_of
returns c =
    let i = c.args.inst.now.tables in
    let a = c.args.kept.now.assignment.items in
    ap (λ n. eqb n 0)
    (c.near.ensures.value ∙ ap (λ u. in_neighbourhood i a u c.neighbourhood-label.result) c.requires.need
    ∙ ap (in_neighbourhood i a (need_of i c.args.s.0 c.args.k)) (c.neighbourhood-label.ensures
    ∙ ap (neighbourhood_of i) c.seat.ensures.value))
