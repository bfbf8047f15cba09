use Rattle.std.proofs.Common.{◌<◌, ℕ, inl, inr, sym, subst}
use Rattle.ra_guards.specs.Guards.{AreWithin}
use Rattle.ra_journal.proofs.EndLemmas.{planned_within}
use Rattle.ra_journal.specs.Entries.{worker_count, budget, allowed}
use Rattle.ra_journal.specs.Refusing.{IsRefused}
use Rattle.ra_shared.specs.Books.{KnowsOwn, opening_by}
use Rattle.ra_shared.specs.Shares.{start_of}
use Rattle.ra_shared.proofs.Back.{may_hand_in, may_still, has_committed, handed_later}
use Rattle.ra_shared.proofs.shared.Shared.hand_in.Goals as goal

pub is_refused-requires-clause-worker : goal.is_refused-requires-clause-worker
is_refused-requires-clause-worker g c =
    subst (λ l. c.number.result < worker_count l) (sym c.args.self.now.allotted)
    (subst (λ w. w < worker_count (start_of c.args.self.now).lots) (sym c.number.ensures)
    c.requires.commit.worker)

pub is_refused-requires-clause-left : goal.is_refused-requires-clause-left
is_refused-requires-clause-left g c =
    subst (λ l. c.args.plan.now.k < budget l c.number.result) (sym c.args.self.now.allotted)
    (subst (λ w. c.args.plan.now.k < budget (start_of c.args.self.now).lots w) (sym c.number.ensures)
    c.requires.commit.within)

pub commit_once-requires-clause-may : goal.commit_once-requires-clause-may
commit_once-requires-clause-may g c =
    may_hand_in c.args.self.now c.args.plan.now c.args.pass.now c.args.pass.now c.requires

pub commit_once-requires-clause-guards : goal.commit_once-requires-clause-guards
commit_once-requires-clause-guards g c =
    let s = c.args.self.now in
    let plan = c.args.plan.now in
    inl (subst (λ x. IsRefused x.tables (allowed (start_of s).lots c.args.pass.now.number plan.k) plan)
    s.instance
    (subst (λ l. IsRefused s.inst.now.tables (allowed l c.args.pass.now.number plan.k) plan) s.allotted
    (subst (λ w. IsRefused s.inst.now.tables (allowed s.lots.now w plan.k) plan) c.number.ensures
    (c.is_refused.ensures.0 c.if-is_refused.true))))

pub returns-then-is_refused-clause-done : goal.returns-then-is_refused-clause-done
returns-then-is_refused-clause-done g c =
    let q = c.commit_once.new.pass in
    has_committed c.args.self.now c.args.plan.now c.args.pass.now q c.commit_once.result c.requires
    (subst (λ (n : ℕ). KnowsOwn n q.seat.me.0.own.seen q.seat.me.0.own.mine) q.numbered q.owned)
    c.commit_once.ensures.done

pub writes-guards-requires : goal.writes-guards-requires
writes-guards-requires g c =
    let s = c.args.self.now in
    let p = c.args.pass.now in
    let plan = c.args.plan.now in
    subst (λ x. AreWithin x.tables plan.mv.steps) (sym s.instance)
    (planned_within (opening_by (start_of s)) p.seat.me.0.own.seen p.number plan s.started c.requires.rest.legal
    c.requires.commit)

pub commit_from-requires-clause-may : goal.commit_from-requires-clause-may
commit_from-requires-clause-may g c =
    may_hand_in c.args.self.now c.args.plan.now c.args.pass.now c.args.pass.now c.requires

pub returns-in-Some-clause-done : goal.returns-in-Some-clause-done
returns-in-Some-clause-done g c =
    let q = c.commit_from.new.pass in
    has_committed c.args.self.now c.args.plan.now c.args.pass.now q c.in-Some.reply c.requires
    (subst (λ (n : ℕ). KnowsOwn n q.seat.me.0.own.seen q.seat.me.0.own.mine) q.numbered q.owned)
    c.in-Some.ensures.some

pub commit_once-requires-in-None-clause-may : goal.commit_once-requires-in-None-clause-may
commit_once-requires-in-None-clause-may g c = may_still c.args.self.now c.args.plan.now c.args.pass.now
    c.commit_from.new.pass c.requires c.in-None.ensures.none

pub commit_once-requires-in-None-clause-guards : goal.commit_once-requires-in-None-clause-guards
commit_once-requires-in-None-clause-guards g c = inr c.in-None.ensures.none.newer

pub returns-in-None-clause-done : goal.returns-in-None-clause-done
returns-in-None-clause-done g c =
    let s = c.args.self.now in
    let plan = c.args.plan.now in
    let p = c.args.pass.now in
    let r = c.commit_once-in-None.new.pass in
    has_committed s plan p r c.commit_once-in-None.result c.requires
    (subst (λ (n : ℕ). KnowsOwn n r.seat.me.0.own.seen r.seat.me.0.own.mine) r.numbered r.owned)
    (handed_later s plan p c.commit_from.new.pass r c.commit_once-in-None.result c.in-None.ensures.none
    c.commit_once-in-None.ensures.done)
