-- The processes that are left.
use Rattle.std.proofs.Common.{◌≡◌, ◌-◌, ◌<◌, ◌∙◌, sym, ap, subst, arith}
use Rattle.ra_model.specs.Numbers.{process_count}
use Rattle.ra_model.specs.Situations.{Situation, cost_at}
use Rattle.ra_descent.proofs.TurnLemmas.{AreSettled, none_settled, goes_on, one_settled, all_settled, cost_falls}
use Rattle.ra_descent.proofs.descent.descend.Goals as goal
use Rattle.ra_descent.proofs.descent.descend.Goals.{then-improve, else-improve}

pub loop-left-smaller : goal.loop-left-smaller
loop-left-smaller g c = elim c.if-improve.branch [
  | then-improve w ↦ let lower = c.improve.ensures.cheaper w.if-improve.true in
      rw w.left-is (cost_falls _ _ c.processes-processes.result _ _ lower (omega arith))
  | else-improve w ↦ let same = ap cost_at (c.improve.ensures.stays w.if-improve.false) in
      rw (w.left-is, same) (omega (arith, c.loop-left-test.true))
]

pub loop-left-preserved : goal.loop-left-preserved
loop-left-preserved g c =
    let is = c.loop-left.invariant in
    let processes = c.processes-processes.result in
    let goes = goes_on c.loop-left.world processes c.loop-left.next c.after-next.result is.next c.after-next.ensures.next
    c.after-next.ensures.first in
    let next : c.after-next.result < processes = omega (arith, is.next, goes) in
    let here = λ (st : Situation). let now : Situation = record st { here = c.improve.new.world.here } in now in
    let same : c.improve.new.world ≡ here c.args.world.now = c.improve.ensures.same ∙ ap here is.same in
    elim c.if-improve.branch [
      | then-improve w ↦ record {
        next = next;
        left = omega (arith, w.left-is);
        settled = subst (AreSettled c.improve.new.world processes c.after-next.result) (sym w.left-is)
            (none_settled c.improve.new.world processes c.after-next.result next);
        same = same;
        no_dearer = omega (arith, c.improve.ensures.cheaper w.if-improve.true, is.no_dearer);
      }
      | else-improve w ↦ let stays = c.improve.ensures.stays w.if-improve.false in
          record {
            next = next;
            left = omega (arith, w.left-is, is.left);
            settled = subst (AreSettled c.improve.new.world processes c.after-next.result) (sym w.left-is)
                (subst (λ (st : Situation). AreSettled st processes c.after-next.result (c.loop-left.left - 1)) (sym stays)
                (one_settled c.loop-left.world processes c.loop-left.next c.loop-left.left c.after-next.result is.next
                c.loop-left-test.true goes is.settled (c.improve.ensures.none w.if-improve.false)));
            same = same;
            no_dearer = omega (arith, ap cost_at stays, is.no_dearer);
          }
    ]

pub returns-clause-optimal : goal.returns-clause-optimal
returns-clause-optimal g c =
    let is = c.loop-left.invariant in
    let count = c.processes-processes.ensures
    ∙ ap process_count (c.instance.ensures.value ∙ sym (ap (λ (st : Situation). st.tables) is.same)) in
    all_settled c.loop-left.world c.processes-processes.result c.loop-left.next c.loop-left.left count
    (omega (arith, c.loop-left-test.false)) (omega (arith, is.next)) is.settled
