-- A service that is new is added, and one that was named before isn't.
use Rattle.std.proofs.Common.{arith}
use Rattle.ra_topology.proofs.CountLemmas.{mark_says_new, mark_says_seen, marked_new, marked_again}
use Rattle.ra_topology.proofs.DistinctLemmas.{distinct_new, distinct_again}
use Rattle.ra_topology.proofs.distinct.add_need.Goals as goal

pub returns-in_ok-push-clause-marked : goal.returns-in_ok-push-clause-marked
returns-in_ok-push-clause-marked c =
    rw c.set.ensures.items
    (marked_new c.requires.marked c.need_at-u.ensures.value c.need_at-u.ensures.there)

pub returns-in_ok-push-clause-row : goal.returns-in_ok-push-clause-row
returns-in_ok-push-clause-row c =
    rw c.in_ok-push.ensures.items
    (distinct_new c.args.inst.now.tables c.args.s c.args.k c.need_at-u.result c.args.row.now.items c.requires.row
    c.need_at-u.ensures.value
    (mark_says_new c.need_at-u.result c.requires.marked c.need_at-u.ensures.there c.get.ensures
    (omega (arith, c.if-get-s.true))))

pub returns-else-get-s-clause-marked : goal.returns-else-get-s-clause-marked
returns-else-get-s-clause-marked c =
    marked_again c.requires.marked c.need_at-u.ensures.value
    (mark_says_seen c.need_at-u.result c.requires.marked c.need_at-u.ensures.there c.get.ensures
    (omega (arith, c.if-get-s.false)))

pub returns-else-get-s-clause-row : goal.returns-else-get-s-clause-row
returns-else-get-s-clause-row c =
    distinct_again c.args.inst.now.tables c.args.s c.args.k c.need_at-u.result c.args.row.now.items c.requires.row
    c.need_at-u.ensures.value
    (mark_says_seen c.need_at-u.result c.requires.marked c.need_at-u.ensures.there c.get.ensures
    (omega (arith, c.if-get-s.false)))
