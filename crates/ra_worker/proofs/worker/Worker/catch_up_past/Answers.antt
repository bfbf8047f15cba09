use Rattle.std.proofs.Common.{arith}
use Rattle.ra_worker.proofs.Steps.{behind_later, own_past, turn_left, turned_none, turned_more}
use Rattle.ra_worker.proofs.worker.Worker.catch_up_past.Goals as goal

pub behind-init : goal.behind-init
behind-init g c = record { work = c.requires.work; behind = c.requires.behind; turned = turned_none c.args.self.now }

pub catch_up-requires-clause-left : goal.catch_up-requires-clause-left
catch_up-requires-clause-left g c = turn_left c.args.shared.now c.args.self.now c.behind.self c.args.shown
    c.behind.invariant.work c.behind.invariant.behind c.requires.turns c.behind.invariant.turned
    (omega (arith, c.behind-test.true, c.place.ensures))

pub catch_up-requires-clause-more : goal.catch_up-requires-clause-more
catch_up-requires-clause-more g c = omega (arith, c.behind-test.true, c.place.ensures, c.behind.invariant.behind.within)

pub behind-preserved : goal.behind-preserved
behind-preserved g c = record {
  work = c.catch_up.ensures.work;
  behind = behind_later c.behind.self c.catch_up.new.self c.args.shown c.behind.invariant.behind c.catch_up.ensures.seen
      c.catch_up.ensures.made c.catch_up.ensures.number;
  turned = turned_more c.args.self.now c.behind.self c.catch_up.new.self c.behind.invariant.turned
      c.catch_up.ensures.number c.catch_up.ensures.turn c.catch_up.ensures.place;
}

pub behind-smaller : goal.behind-smaller
behind-smaller g c = omega (arith, c.behind-test.true, c.place.ensures, c.catch_up.ensures.place)

pub returns-clause-own : goal.returns-clause-own
returns-clause-own g c = own_past c.args.shared.now c.behind.self c.args.shown c.behind.invariant.work
    c.behind.invariant.behind (omega (arith, c.behind-test.false, c.place.ensures))
