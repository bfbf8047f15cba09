use Rattle.std.proofs.Common.{sym, refl, ap, ◌∙◌, subst, option_copied}
use Rattle.ra_journal.specs.Journals.{history, opening_in, IsJournal}
use Rattle.ra_journal.proofs.HeldLemmas.{sound_journal, held_listed}
use Rattle.ra_journal.proofs.NewerLemmas.{committed_stale, committed_recorded}
use Rattle.ra_journal.proofs.journal.Journal.commit_with.Goals as goal

pub record-requires-clause-next : goal.record-requires-clause-next
record-requires-clause-next c = record {
  commit = rw (← c.self.view_is) at c.requires.commit;
  untouched = rw (← c.self.view_is) at (sym c.first_newer.ensures ∙ c.in-None.is);
}

pub record-requires-clause-held : goal.record-requires-clause-held
record-requires-clause-held c =
    rw (← c.self.view_is) at
    (held_listed c.args.self.now c.args.plan.now (option_copied c.args.held) c.requires.held)

pub returns-in-Some : goal.returns-in-Some
returns-in-Some c =
    let j = c.args.self.now in
    let s = c.self.inside in
    let done = sym (committed_stale (opening_in j) j.entries c.args.worker
    c.args.plan.now c.in-Some.newer c.requires.commit (sym c.first_newer.ensures ∙ c.in-Some.is)) in
    record {
      journal = ap (λ x. record j { entries = x.journal }) done;
      reply = ap (λ x. x.reply) done;
      stale = λ _ _. refl;
      sound = subst IsJournal c.self.view_is (sound_journal s.inst.now _ s.a0.now s.lots.now s.book c.self.invariant);
    }

pub returns-in-None : goal.returns-in-None
returns-in-None c =
    let s = c.self.inside in
    let none = sym c.first_newer.ensures ∙ c.in-None.is in
    let done = sym (committed_recorded _ _ c.args.worker c.args.plan.now
    (rw (← c.self.view_is) at c.requires.commit) (rw (← c.self.view_is) at none)) in
    record {
      journal = rw (← c.self.view_is) (ap (history s.inst.now s.topo.now s.a0.now s.lots.now)
          (c.record.ensures.journal ∙ ap (λ x. x.journal) done));
      reply = rw (← c.self.view_is) (c.record.ensures.reply ∙ ap (λ x. x.reply) done);
      stale = λ one is. absurd (cc (none, is));
      sound = sound_journal s.inst.now _ s.a0.now s.lots.now c.record.new.book record {
        topology = c.self.invariant.topology;
        start = c.self.invariant.start;
        kept = c.record.ensures.kept;
      };
    }
