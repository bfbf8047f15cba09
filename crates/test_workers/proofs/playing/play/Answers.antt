use Rattle.std.proofs.Common.{◌≡◌, refl, ◌∙◌, subst, arith}
use Rattle.ra_worker.specs.AllReplicas.{core_of}
use Rattle.ra_worker.proofs.CoreLemmas.{over_itself, over_then}
use Rattle.ra_worker.specs.Core.{step}
use Rattle.ra_worker.proofs.OpeningLemmas.{over_is}
use Rattle.ra_journal.specs.Journals.{opening_in}
use Rattle.ra_journal.specs.Openings.{Opening}
use Rattle.test_workers.proofs.PlayLemmas.{core_start, replies_start, core_more, replies_more, core_end, replies_end, room_left}
use Rattle.test_workers.proofs.playing.play.Goals as goal

pub loop-n-init : goal.loop-n-init
loop-n-init c = record {
  core = core_start _ _ _;
  replies = replies_start _ _ _ _;
  room = refl;
  at = c.requires.at;
  over = over_itself c.args.journal.now;
}

pub push-requires : goal.push-requires
push-requires c =
    let j = c.args.journal.now in
    room_left (opening_in j) (core_of j.entries c.args.replicas.now.items)
    c.args.events.now.items c.loop-n.n c.loop-n.replies.room c.args.replies.now.items c.loop-n.replies.items
    c.loop-n.invariant.replies (omega (arith, c.loop-n-test.true, c.len-n-end.ensures.value))
    (omega (arith, c.requires.room, c.loop-n.invariant.room))

pub loop-n-preserved : goal.loop-n-preserved
loop-n-preserved c =
    let j = c.args.journal.now in
    let k = c.loop-n.journal in
    let inv = c.loop-n.invariant in
    let start = core_of j.entries c.args.replicas.now.items in
    let d = core_of k.entries c.loop-n.replicas.items in
    let e = core_of c.play_event-reply.new.journal.entries c.play_event-reply.new.replicas.items in
    let stepped = subst (λ (o : Opening). step o d c.event_of-event.result ≡ record {
      after = e;
      reply = c.play_event-reply.result;
    }) (over_is j k inv.over) c.play_event-reply.ensures.step in
    record {
      core = core_more (opening_in j) start d e c.args.events.now.items c.loop-n.n
          c.event_of-event.result c.play_event-reply.result inv.core c.event_of-event.ensures stepped;
      replies = replies_more (opening_in j) start d e c.args.events.now.items c.loop-n.n
          c.event_of-event.result c.play_event-reply.result c.args.replies.now.items c.loop-n.replies.items
          c.push.new.self.items inv.core c.event_of-event.ensures stepped inv.replies c.push.ensures.items;
      room = c.push.ensures.room ∙ inv.room;
      at = c.play_event-reply.ensures.at;
      over = over_then j k c.play_event-reply.new.journal inv.over c.play_event-reply.ensures.over;
    }

pub returns-clause-core : goal.returns-clause-core
returns-clause-core c = core_end _ _ _ _ c.loop-n.n c.loop-n.invariant.core
    (omega (arith, c.loop-n-test.false, c.loop-n.auto.n-end, c.len-n-end.ensures.value))

pub returns-clause-replies : goal.returns-clause-replies
returns-clause-replies c = replies_end _ _ _ c.loop-n.n _ _ c.loop-n.invariant.replies
    (omega (arith, c.loop-n-test.false, c.loop-n.auto.n-end, c.len-n-end.ensures.value))
