use Rattle.std.proofs.Common.{◌≡◌, ◌≤◌, length, inl, ⊎_elim, refl, ap, sym, ◌∙◌, subst, Contains}
use Rattle.std.proofs.Common.{option_copied, arith}
use Rattle.ra_guards.specs.Order.{AreWrites}
use Rattle.ra_journal.specs.Journals.{History, IsJournal, HasHeld}
use Rattle.ra_turn.specs.Notes.{grip}
use Rattle.ra_shared.specs.declared.books.Opened.{Opened}
use Rattle.ra_shared.specs.Books.{opening_of_journal}
use Rattle.ra_shared.specs.Numbers.{number_of_guard}
use Rattle.ra_shared.specs.Shares.{start_of}
use Rattle.ra_shared.proofs.Known.{by_guards, of_given}
use Rattle.ra_shared.proofs.Turned.{IsTurned, turned_by, turned_commit, turned_held, turned_gives, turned_refused}
use Rattle.ra_shared.proofs.Turned.{turned_stale, turned_place, turned_committed, legal_now}
use Rattle.ra_shared.proofs.shared.Shared.commit_once.Goals as goal

pub commit_with-reply-requires-clause-commit : goal.commit_with-reply-requires-clause-commit
commit_with-reply-requires-clause-commit g c =
    let o : Opened = start_of c.args.self.now in
    let j : History = c.deref_mut.result.now in
    let p = c.args.pass.now in
    let q = c.take-held.new.pass in
    let took = c.take-held.ensures in
    let opened : opening_of_journal j ≡ o = ap (λ (x : History). opening_of_journal x) c.deref_mut.ensures.value
    ∙ took.opening in
    let seen : q.seat.me.0.own.seen ≡ j.entries = took.seen.0
    ∙ ap (λ (x : History). x.entries) (sym c.deref_mut.ensures.value) in
    let may = c.requires.may in
    let turned : IsTurned p.number p.seat.me.0.own.seen p.seat.me.0.own.mine j.entries =
    turned_by p.seat.me.0.own.number p.number q.number p.seat.me.0.own.seen p.seat.me.0.own.mine j.entries
    q.seat.me.0.own.seen q.seat.me.0.own.mine took.seen.1 seen p.owned p.numbered took.pass.1.2 took.made.1
    took.made.0 in
    turned_commit o (opening_of_journal j) p.number c.number-worker.result p.seat.me.0.own.seen p.seat.me.0.own.mine
    j.entries c.args.plan.now opened c.number-worker.ensures turned may.commit

pub commit_with-reply-requires-clause-held : goal.commit_with-reply-requires-clause-held
commit_with-reply-requires-clause-held g c =
    let o : Opened = start_of c.args.self.now in
    let j : History = c.deref_mut.result.now in
    let sound : IsJournal j = subst IsJournal (sym c.deref_mut.ensures.value) c.take-held.result.value.sound in
    let p = c.args.pass.now in
    let q = c.take-held.new.pass in
    let took = c.take-held.ensures in
    let opened : opening_of_journal j ≡ o = ap (λ (x : History). opening_of_journal x) c.deref_mut.ensures.value
    ∙ took.opening in
    let seen : q.seat.me.0.own.seen ≡ j.entries = took.seen.0
    ∙ ap (λ (x : History). x.entries) (sym c.deref_mut.ensures.value) in
    let may = c.requires.may in
    let turned : IsTurned p.number p.seat.me.0.own.seen p.seat.me.0.own.mine j.entries =
    turned_by p.seat.me.0.own.number p.number q.number p.seat.me.0.own.seen p.seat.me.0.own.mine j.entries
    q.seat.me.0.own.seen q.seat.me.0.own.mine took.seen.1 seen p.owned p.numbered took.pass.1.2 took.made.1
    took.made.0 in
    let commit = turned_commit o o p.number p.number p.seat.me.0.own.seen p.seat.me.0.own.mine j.entries
    c.args.plan.now refl refl turned may.commit in
    of_given {P = HasHeld j c.args.plan.now} o c.args.plan.now p (option_copied c.args.guards)
    c.requires.guards (λ given listed holds. record {
      listed = subst (λ (x : Opened). AreWrites x.inst.tables c.args.plan.now.mv.steps given) (sym opened) listed;
      known = turned_held o (opening_of_journal j) p.number q.number j.entries q.seat.me.0.own.seen
          c.args.plan.now p.seat.me.0.grips q.seat.me.0.grips opened took.pass.1.2 seen took.guards.0.0 sound.start
          sound.legal commit holds took.guards.1;
    })

pub copy-requires : goal.copy-requires
copy-requires g c =
    let o = start_of c.args.self.now in
    let j = c.deref_mut.result.now in
    let p = c.args.pass.now in
    let q = c.take-held.new.pass in
    let took = c.take-held.ensures in
    let may = c.requires.may in
    let turned =
    turned_by p.seat.me.0.own.number p.number q.number p.seat.me.0.own.seen p.seat.me.0.own.mine j.entries
    q.seat.me.0.own.seen q.seat.me.0.own.mine took.seen.1 (took.seen.0
    ∙ ap (λ x. x.entries) (sym c.deref_mut.ensures.value)) p.owned p.numbered took.pass.1.2 took.made.1
    took.made.0 in
    subst (λ x. c.args.plan.now.q ≤ length x.entries) (sym c.deref.ensures)
    (turned_place o (opening_of_journal j) p.number c.number-worker.result j.entries
    c.commit_with-reply.new.self.entries c.args.plan.now (ap (λ x. opening_of_journal x) c.deref_mut.ensures.value
    ∙ took.opening) c.number-worker.ensures (turned_commit o o p.number p.number p.seat.me.0.own.seen p.seat.me.0.own.mine j.entries
    c.args.plan.now refl refl turned may.commit)
    (ap (λ (x : History). x.entries) c.commit_with-reply.ensures.journal))

pub give-requires-clause-notes : goal.give-requires-clause-notes
give-requires-clause-notes g c =
    let o = start_of c.args.self.now in
    let j = c.deref_mut.result.now in
    let sound : IsJournal j = subst IsJournal (sym c.deref_mut.ensures.value) c.take-held.result.value.sound in
    let p = c.args.pass.now in
    let q = c.take-held.new.pass in
    let took = c.take-held.ensures in
    let opened : opening_of_journal j ≡ o = ap (λ x. opening_of_journal x) c.deref_mut.ensures.value
    ∙ took.opening in
    let seen = took.seen.0
    ∙ ap (λ x. x.entries) (sym c.deref_mut.ensures.value) in
    let may = c.requires.may in
    let commit = turned_commit o o p.number p.number p.seat.me.0.own.seen p.seat.me.0.own.mine j.entries
    c.args.plan.now refl refl (turned_by p.seat.me.0.own.number p.number q.number p.seat.me.0.own.seen p.seat.me.0.own.mine j.entries
    q.seat.me.0.own.seen q.seat.me.0.own.mine took.seen.1 seen p.owned p.numbered took.pass.1.2 took.made.1
    took.made.0) may.commit in
    by_guards o c.args.plan.now p (option_copied c.args.guards) c.requires.guards
    (λ holds. turned_gives o (opening_of_journal j) p.number q.number c.number-worker.result j.entries
    q.seat.me.0.own.seen c.commit_with-reply.new.self.entries c.args.plan.now p.seat.me.0.grips
    q.seat.me.0.grips opened took.pass.1.2 c.number-worker.ensures seen took.guards.0.0 commit holds
    (ap (λ (x : History). x.entries) c.commit_with-reply.ensures.journal))
    (⊎_elim
    (λ refused. turned_refused o (opening_of_journal j) p.number q.number c.number-worker.result j.entries
    q.seat.me.0.own.seen c.commit_with-reply.new.self.entries c.args.plan.now q.seat.me.0.grips opened
    took.pass.1.2 c.number-worker.ensures seen sound.start sound.legal commit refused
    (ap (λ (x : History). x.entries) c.commit_with-reply.ensures.journal))
    (λ newer. inl (turned_stale o (opening_of_journal j) p.number c.number-worker.result j.entries q.seat.me.0.own.seen
    c.commit_with-reply.new.self.entries c.args.plan.now newer.guard newer.version opened
    c.number-worker.ensures seen sound.start sound.legal commit newer.written newer.above
    (took.guards.2 (number_of_guard o.inst.tables newer.guard) newer.version (subst (λ ks. Contains ks (grip (number_of_guard o.inst.tables newer.guard) newer.version))
    (sym took.guards.0.1) newer.told))
    (ap (λ (x : History). x.entries) c.commit_with-reply.ensures.journal))))

pub returns-clause-done : goal.returns-clause-done
returns-clause-done g c =
    let o = start_of c.args.self.now in
    let j = c.deref_mut.result.now in
    let sound : IsJournal j = subst IsJournal (sym c.deref_mut.ensures.value) c.take-held.result.value.sound in
    let p = c.args.pass.now in
    let q = c.take-held.new.pass in
    let took = c.take-held.ensures in
    let opened : opening_of_journal j ≡ o = ap (λ x. opening_of_journal x) c.deref_mut.ensures.value
    ∙ took.opening in
    let seen = took.seen.0
    ∙ ap (λ x. x.entries) (sym c.deref_mut.ensures.value) in
    let may = c.requires.may in
    let gave = c.give.ensures in
    let new = c.commit_with-reply.new.self in
    record {
      ready = (
        (gave.pass.1.0 ∙ (took.pass.1.0 ∙ may.ready.0.0), gave.pass.1.3 ∙ (took.pass.1.3 ∙ may.ready.0.1)),
        gave.pass.0,
      );
      number = gave.pass.1.2 ∙ took.pass.1.2;
      left = (let a = gave.pass.2 in let b = took.pass.2 in omega arith);
      grips = gave.guards.0.0 ∙ took.guards.0.0;
      legal = legal_now o j new _ c.give.new.pass.seat.me.0.own.seen opened c.commit_with-reply.ensures.journal gave.seen
          c.commit_with-reply.ensures.sound;
      committed = turned_committed o (opening_of_journal j) p.number c.number-worker.result c.args.plan.now.q
          p.seat.me.0.own.seen p.seat.me.0.own.mine j.entries q.seat.me.0.own.seen q.seat.me.0.own.mine
          new.entries
          c.give.new.pass.seat.me.0.own.seen c.give.new.pass.seat.me.0.own.mine c.commit_with-reply.result opened
          c.number-worker.ensures (turned_by p.seat.me.0.own.number p.number q.number p.seat.me.0.own.seen p.seat.me.0.own.mine j.entries
          q.seat.me.0.own.seen q.seat.me.0.own.mine took.seen.1 seen p.owned p.numbered took.pass.1.2 took.made.1
          took.made.0) sound.legal seen took.made.0 gave.seen gave.made
          (ap (λ (x : History). x.entries) c.commit_with-reply.ensures.journal) c.commit_with-reply.ensures.reply;
    }

pub returns-clause-copied : goal.returns-clause-copied
returns-clause-copied g c =
    subst (λ xs. g.C.Copying.copied c.copy.new.self xs c.args.plan.now.q)
    (ap (λ x. x.entries) c.deref.ensures ∙ sym c.give.ensures.seen) c.copy.ensures
