-- The members are the processes of the service.
use Rattle.std.proofs.Common.{◌≡◌, sym, ap, ◌∙◌, length, subst, arith}
use Rattle.ra_base.specs.Searches.{first}
use Rattle.ra_base.proofs.Searches.{first_none, first_found, first_more_none}
use Rattle.ra_model.specs.Members.{member_at}
use Rattle.ra_weigh.specs.Nearness.{far_member, StaysNear}
use Rattle.ra_weigh.specs.Trials.{tables_of, steps_of, after_of}
use Rattle.ra_weigh.proofs.StepLemmas.{need_there}
use Rattle.ra_weigh.proofs.NearLemmas.{pair_stays}
use Rattle.ra_weigh.proofs.MemberLemmas.{members_listed, member_there, pair_listed}
use Rattle.ra_weigh.proofs.trial.Trial.pair_dependency.Goals as goal

pub far_test-requires-clause-process : goal.far_test-requires-clause-process
unfolding member_at
far_test-requires-clause-process c = grind (arith, member_there, members_listed)

pub returns-in-Some : goal.returns-in-Some
unfolding far_member member_at
returns-in-Some c =
    sym (pair_listed (after_of c.args.self.now) c.args.k
    (members_listed c.args.self.now.topo.now c.args.s.0
    c.args.self.now.topology c.requires.service c.members-members.ensures)
    ∙ first_found c.loop-x.x (length c.members-members.result.now)
    _ c.in-Some.cause c.loop-x-test.true c.loop-x.invariant (sym c.in-Some.ensures))

pub loop-x-preserved : goal.loop-x-preserved
unfolding far_member member_at
loop-x-preserved c = grind (arith, first_more_none)

pub loop-x-init : goal.loop-x-init
loop-x-init c = grind (arith, first_none)

pub returns : goal.returns
returns c =
    let all : length c.members-members.result.now ≡ c.loop-x.x =
    omega (arith, c.loop-x-test.false, c.loop-x.auto.x-end) in
    sym (pair_listed (after_of c.args.self.now) c.args.k
    (members_listed c.args.self.now.topo.now c.args.s.0
    c.args.self.now.topology c.requires.service c.members-members.ensures)
    ∙ ap (λ n. first n
    (far_member (tables_of c.args.self.now) (after_of c.args.self.now) c.args.s.0 c.args.k
    c.members-members.result.now)) all ∙ c.loop-x.invariant)

pub stays_near-requires-clause-need : goal.stays_near-requires-clause-need
stays_near-requires-clause-need c = grind (arith, need_there)

pub returns-then-stays_near : goal.returns-then-stays_near
returns-then-stays_near c = grind (arith, pair_stays)
