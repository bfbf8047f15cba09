use Rattle.std.proofs.Common.{ℕ, List, sym, ap, ap₂, ◌∙◌, subst}
use Rattle.ra_journal.specs.declared.entries.Entry.{Entry}
use Rattle.ra_journal.specs.Committing.{committed, IsCommit}
use Rattle.ra_journal.specs.Journals.{History, opening_in}
use Rattle.ra_worker.proofs.TurnLemmas.{may_commit}
use Rattle.ra_worker.specs.declared.events.CoreReply.TheVariants.{Answer}
use Rattle.ra_worker.specs.Core.{Turn}
use Rattle.ra_worker.proofs.CoreTurnLemmas.{next_within, turn_answered}
use Rattle.ra_worker.proofs.turns.commit_next.Goals as goal

pub offer-plan-requires : goal.offer-plan-requires
offer-plan-requires g c = record {
  left = next_within (opening_in c.args.journal.now)
      c.args.journal.now.entries c.args.replica.now c.requires.at c.requires.not_skipped;
}

pub commit-reply-requires : goal.commit-reply-requires
commit-reply-requires g c =
    let j = c.args.journal.now in
    record {
      commit = subst (λ w. IsCommit (opening_in j) j.entries w
          c.offer-plan.result) (sym c.worker.ensures.value)
          (may_commit (opening_in j) j.entries c.args.replica.now
          c.offer-plan.result c.requires.at c.requires.not_skipped c.offer-plan.ensures.next.place
          c.offer-plan.ensures.next.number c.offer-plan.ensures.next.planned c.offer-plan.ensures.next.weighed);
    }

pub returns : goal.returns
returns g c =
    let j = c.args.journal.now in
    let r = c.args.replica.now in
    let own = c.worker.ensures.value in
    let place = c.offer-plan.ensures.next.place in
    let done = sym (turn_answered (opening_in j) j.entries r.worker
    r.place c.requires.not_skipped) in
    record {
      journal = c.commit-reply.ensures.journal
          ∙ ap (λ (h : List Entry). let k : History = record j { entries = h } in k)
          (ap₂ (λ (w q : ℕ). (committed (opening_in j) j.entries w q).journal)
          own place ∙ ap (λ (t : Turn). t.journal) done);
      reply = ap Answer (c.commit-reply.ensures.reply
          ∙ ap₂ (λ (w q : ℕ).
          (committed (opening_in j) j.entries w q).reply) own place)
          ∙ ap (λ (t : Turn). t.reply) done;
      sound = λ _. c.commit-reply.ensures.sound;
    }
