use Rattle.std.proofs.Common.{◌∷◌, [], ◌++◌, sym, refl, ap, ap₂, ◌∙◌, subst, arith}
use Rattle.ra_cells.specs.MovedCounts.{MovedCounts}
use Rattle.ra_journal.specs.declared.entries.Entry.{Entry}
use Rattle.ra_journal.specs.declared.replies.Reply.TheVariants.{Recorded}
use Rattle.ra_journal.specs.Recording.{AreChangesOf}
use Rattle.ra_journal.specs.Openings.{opening}
use Rattle.ra_journal.proofs.EndLemmas.{planned_within, settling_now, next_entry_is}
use Rattle.ra_journal.proofs.KeepingLemmas.{recorded_by, kept_more}
use Rattle.ra_journal.proofs.RecordingLemmas.{has_room, small_next, worker_below, made_few, counts_fit, is_next}
use Rattle.ra_journal.proofs.recording.record.Goals as goal

pub add-requires-clause-room : goal.add-requires-clause-room
add-requires-clause-room c = has_room _ c.args.book.now
    c.args.worker c.args.plan.now c.requires.kept c.requires.next.commit

pub add-requires-clause-small : goal.add-requires-clause-small
add-requires-clause-small c =
    let plan = c.args.plan.now in
    let e : Entry = record {
      worker = c.args.worker;
      k = plan.k;
      q = plan.q;
      mv = plan.mv;
      verdict = c.judge_now-verdict.result;
    } in
    small_next _ c.args.book.now plan e c.requires.start
    c.requires.kept c.requires.next.commit refl refl refl

pub add-requires-clause-there : goal.add-requires-clause-there
add-requires-clause-there c =
    omega (arith, worker_below c.args.lots.now c.args.worker c.requires.next.commit.worker, c.requires.kept.made.long)

pub add-requires-clause-few : goal.add-requires-clause-few
add-requires-clause-few c =
    omega (
      arith,
      c.requires.kept.made.each c.args.worker c.requires.next.commit.worker,
      made_few _ c.args.book.now.entries.items c.args.worker
          c.requires.kept.legal c.requires.next.commit.worker,
    )

pub take_in-requires-clause-within : goal.take_in-requires-clause-within
take_in-requires-clause-within c = planned_within _
    c.args.book.now.entries.items c.args.worker c.args.plan.now c.requires.start c.requires.kept.legal
    c.requires.next.commit

pub take_in-requires-clause-counts : goal.take_in-requires-clause-counts
take_in-requires-clause-counts c =
    let settling = settling_now _ c.args.book.now c.args.worker c.args.plan.now
    c.requires.start c.requires.kept c.requires.next.commit c.requires.next.untouched in
    let fit = counts_fit _ c.args.plan.now.mv.steps
    c.args.book.now.greatest c.args.book.now.kept c.args.plan.now.weighed c.requires.start.limits settling in
    subst (λ (moved : MovedCounts). AreChangesOf moved c.args.plan.now.weighed) (sym c.add.ensures.greatest) fit

pub returns : goal.returns
returns c =
    let o = opening c.args.inst.now.tables c.args.a0.now.items c.args.lots.now in
    let book = c.args.book.now in
    let plan = c.args.plan.now in
    let start = c.requires.start in
    let kept = c.requires.kept in
    let commit = c.requires.next.commit in
    let e : Entry = record {
      worker = c.args.worker;
      k = plan.k;
      q = plan.q;
      mv = plan.mv;
      verdict = c.judge_now-verdict.result;
    } in
    let next = is_next o book c.args.worker plan e start kept commit c.requires.next.untouched refl
    c.judge_now-verdict.ensures in
    let recorded = recorded_by o.tables e plan.weighed book c.add.new.book c.take_in.new.book c.keep_best.new.book
    c.add.ensures c.take_in.ensures c.keep_best.ensures in
    let is = next_entry_is o book.entries.items c.args.worker plan c.judge_now-verdict.result commit
    c.judge_now-verdict.ensures in
    record {
      kept = kept_more o e plan.weighed book c.keep_best.new.book start kept next recorded;
      journal = recorded.entries ∙ ap (λ (d : Entry). book.entries.items ++ d ∷ []) is;
      reply = ap₂ Recorded c.len-at.ensures.value (ap (λ (d : Entry). d.verdict) is);
    }
