use Rattle.std.proofs.Common.{refl, sym, subst, ◌∙◌, arith}
use Rattle.ra_worker.specs.Replicas.{HasPassed}
use Rattle.ra_worker.specs.declared.worker.Worker.{Worker}
use Rattle.ra_worker.specs.Working.{IsAtOrAfterOwn, shown_in}
use Rattle.ra_worker.proofs.OpeningLemmas.{passed_next, passed_place}
use Rattle.ra_worker.proofs.Owning.{behind_same, copied_next, handed, shown, quiet_next, own_passed, place_grows}
use Rattle.ra_worker.proofs.Steps.{next_commit, place_few, moved_taken, moved_then, room_moved}
use Rattle.ra_worker.proofs.worker.Worker.hand_in.Goals as goal

pub commit_and_copy-reply-requires : goal.commit_and_copy-reply-requires
commit_and_copy-reply-requires g c = record {
  rest = c.requires.work.rest;
  left = omega (arith, c.requires.turns.turns, place_few c.args.shared.now c.args.self.now c.requires.work);
  commit = next_commit c.args.shared.now c.args.self.now c.args.plan.now c.requires.work c.requires.own c.requires.left
      c.requires.plan;
}

pub pass_over-requires-clause-work : goal.pass_over-requires-clause-work
pass_over-requires-clause-work g c =
    let after : Worker = record c.args.self.now {
      pass = c.commit_and_copy-reply.new.pass;
      batch = c.commit_and_copy-reply.new.batch;
    } in
    handed c.args.shared.now c.args.self.now after c.args.plan.now c.commit_and_copy-reply.result c.requires.work
    c.requires.own c.requires.left c.requires.plan refl c.commit_and_copy-reply.ensures.done

pub pass_over-requires-clause-quiet : goal.pass_over-requires-clause-quiet
pass_over-requires-clause-quiet g c =
    let after : Worker = record c.args.self.now {
      pass = c.commit_and_copy-reply.new.pass;
      batch = c.commit_and_copy-reply.new.batch;
    } in
    quiet_next c.args.shared.now c.args.self.now after c.args.plan.now c.commit_and_copy-reply.result c.requires.work
    c.requires.own c.requires.left c.requires.plan refl c.commit_and_copy-reply.ensures.done
    c.commit_and_copy-reply.ensures.batch (sym c.len-copied.ensures.value ∙ c.if-copied-eq0.true)

pub returns-then-copied-eq0-clause-own : goal.returns-then-copied-eq0-clause-own
returns-then-copied-eq0-clause-own g c =
    let after : Worker = record c.args.self.now {
      pass = c.commit_and_copy-reply.new.pass;
      batch = c.commit_and_copy-reply.new.batch;
    } in
    own_passed c.args.shared.now c.args.self.now after c.args.plan.now c.commit_and_copy-reply.result c.requires.work
    c.requires.own c.requires.left c.requires.plan refl c.commit_and_copy-reply.ensures.done
    c.commit_and_copy-reply.ensures.batch (sym c.len-copied.ensures.value ∙ c.if-copied-eq0.true) c.pass_over.new.self
    c.pass_over.ensures.pass (passed_next c.pass_over.ensures.passed)

pub returns-then-copied-eq0-clause-moved : goal.returns-then-copied-eq0-clause-moved
returns-then-copied-eq0-clause-moved g c =
    let after : Worker = record c.args.self.now {
      pass = c.commit_and_copy-reply.new.pass;
      batch = c.commit_and_copy-reply.new.batch;
    } in
    let done = c.commit_and_copy-reply.ensures.done in
    moved_taken c.args.self.now after c.pass_over.new.self refl done.turn.0 done.turn.1 c.pass_over.ensures.pass
    (omega (
      arith,
      place_grows c.args.shared.now c.args.self.now after c.args.plan.now c.commit_and_copy-reply.result c.requires.work
          c.requires.own c.requires.left c.requires.plan refl done,
      passed_place c.pass_over.ensures.passed,
    ))

pub returns-then-copied-eq0-clause-quiet : goal.returns-then-copied-eq0-clause-quiet
returns-then-copied-eq0-clause-quiet g c =
    λ quiet. subst (HasPassed c.args.self.now.replica c.pass_over.new.self.replica) (sym (passed_place c.pass_over.ensures.passed))
    c.pass_over.ensures.passed

pub take_copied-requires-clause-work : goal.take_copied-requires-clause-work
take_copied-requires-clause-work g c =
    let after : Worker = record c.args.self.now {
      pass = c.commit_and_copy-reply.new.pass;
      batch = c.commit_and_copy-reply.new.batch;
    } in
    handed c.args.shared.now c.args.self.now after c.args.plan.now c.commit_and_copy-reply.result c.requires.work
    c.requires.own c.requires.left c.requires.plan refl c.commit_and_copy-reply.ensures.done

pub take_copied-requires-clause-next : goal.take_copied-requires-clause-next
take_copied-requires-clause-next g c =
    copied_next (record c.args.self.now {
      pass = c.commit_and_copy-reply.new.pass;
      batch = c.commit_and_copy-reply.new.batch;
    })
    c.args.plan.now.q c.commit_and_copy-reply.ensures.batch c.requires.plan.place
    (λ none. c.if-copied-eq0.false (c.len-copied.ensures.value ∙ none))

pub take_copied-requires-clause-more : goal.take_copied-requires-clause-more
take_copied-requires-clause-more g c =
    let after : Worker = record c.args.self.now {
      pass = c.commit_and_copy-reply.new.pass;
      batch = c.commit_and_copy-reply.new.batch;
    } in
    place_grows c.args.shared.now c.args.self.now after c.args.plan.now c.commit_and_copy-reply.result c.requires.work
    c.requires.own c.requires.left c.requires.plan refl c.commit_and_copy-reply.ensures.done

pub catch_up_past-requires-clause-behind : goal.catch_up_past-requires-clause-behind
catch_up_past-requires-clause-behind g c =
    let after : Worker = record c.args.self.now {
      pass = c.commit_and_copy-reply.new.pass;
      batch = c.commit_and_copy-reply.new.batch;
    } in
    subst (λ k. IsAtOrAfterOwn k c.take_copied.new.self) (sym c.shown_by.ensures)
    (behind_same after c.take_copied.new.self (shown_in c.commit_and_copy-reply.result)
    (shown c.args.shared.now c.args.self.now after c.args.plan.now c.commit_and_copy-reply.result c.requires.work
    c.requires.own c.requires.left c.requires.plan refl c.commit_and_copy-reply.ensures.done)
    c.take_copied.ensures.pass)

pub catch_up_past-requires-clause-turns : goal.catch_up_past-requires-clause-turns
catch_up_past-requires-clause-turns g c =
    let done = c.commit_and_copy-reply.ensures.done in
    room_moved c.args.shared.now c.args.self.now c.take_copied.new.self c.requires.turns
    (moved_taken c.args.self.now
    (record c.args.self.now { pass = c.commit_and_copy-reply.new.pass; batch = c.commit_and_copy-reply.new.batch })
    c.take_copied.new.self refl done.turn.0 done.turn.1 c.take_copied.ensures.pass c.take_copied.ensures.place)

pub returns-else-copied-eq0-clause-moved : goal.returns-else-copied-eq0-clause-moved
returns-else-copied-eq0-clause-moved g c =
    let done = c.commit_and_copy-reply.ensures.done in
    moved_then c.args.self.now c.take_copied.new.self c.catch_up_past.new.self
    (moved_taken c.args.self.now
    (record c.args.self.now { pass = c.commit_and_copy-reply.new.pass; batch = c.commit_and_copy-reply.new.batch })
    c.take_copied.new.self refl done.turn.0 done.turn.1 c.take_copied.ensures.pass c.take_copied.ensures.place)
    c.catch_up_past.ensures.turned
