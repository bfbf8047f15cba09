use Rattle.std.proofs.Common.{length, ap, ◌∙◌}
use Rattle.ra_moves.specs.Judging.{judge}
use Rattle.ra_journal.specs.Openings.{opening}
use Rattle.ra_journal.specs.States.{state_at}
use Rattle.ra_journal.proofs.EndLemmas.{settling_now, has_settling}
use Rattle.ra_journal.proofs.recording.judge_now.Goals as goal

pub allowed-rise-requires-clause-worker : goal.allowed-rise-requires-clause-worker
allowed-rise-requires-clause-worker c = c.requires.next.commit.worker

pub allowed-rise-requires-clause-left : goal.allowed-rise-requires-clause-left
allowed-rise-requires-clause-left c = c.requires.next.commit.within

pub settle_now-requires : goal.settle_now-requires
settle_now-requires c =
    let settling = settling_now _ c.args.book.now c.args.worker
    c.args.plan.now c.requires.start c.requires.kept c.requires.next.commit c.requires.next.untouched in
    record {
      some = has_settling _ c.args.plan.now.mv.steps c.args.book.now
          c.args.plan.now settling;
    }

pub returns : goal.returns
returns c =
    let h = c.args.book.now.entries.items in
    let st = state_at (opening c.args.inst.now.tables c.args.a0.now.items c.args.lots.now) h (length h) in
    let steps = c.args.plan.now.mv.steps in
    let settling = settling_now _ c.args.book.now c.args.worker c.args.plan.now c.requires.start
    c.requires.kept c.requires.next.commit c.requires.next.untouched in
    c.settle_now.ensures st.start st.here steps settling ∙ ap (judge st steps) c.allowed-rise.ensures
