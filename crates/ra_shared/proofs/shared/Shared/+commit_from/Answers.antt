-- Each write guard is locked before the next one, and unlocked after it.
use Rattle.std.proofs.Common.{◌+◌, ◌-◌, ◌<◌, ◌≤◌, ℕ, length, Contains, IfSome, rules, refl, ap, sym, subst, ◌∙◌}
use Rattle.std.proofs.Common.{arith}
use Rattle.std.proofs.lemmas.List.Elements.{All-contains}
use Rattle.ra_model.specs.declared.numbers.Instance.{Instance}
use Rattle.ra_guards.specs.Order.{IsKnown, guard_at}
use Rattle.ra_turn.specs.Notes.{grip, touching, OnlyBy, IsVersion}
use Rattle.ra_turn.specs.Passes.{seen_by, notes_made_by, grips_of, news_of}
use Rattle.ra_shared.specs.Books.{entry_touches, KnowsOwn}
use Rattle.ra_shared.specs.Holding.{number_at, then_version}
use Rattle.ra_shared.specs.Shares.{start_of}
use Rattle.ra_shared.proofs.Back.{longer_back, version_back, handed_back, held_back}
use Rattle.ra_shared.proofs.Next.{number_found, all_held, next_guard, holds_next, still_held}
use Rattle.ra_shared.proofs.shared.Shared.+commit_from.Goals as goal

pub commit_once-requires-clause-guards : goal.commit_once-requires-clause-guards
commit_once-requires-clause-guards g t c = (
  c.requires.guards,
  all_held c.args.self.now c.args.plan.now c.args.guards.now c.args.k c.args.pass.now
      c.requires.may c.requires.guards c.requires.held (omega (arith, c.len.ensures.value, c.if-k-len.true)),
)

pub number_of-guard-requires : goal.number_of-guard-requires
number_of-guard-requires g t c =
    let s = c.args.self.now in
    let inside : c.args.k < length c.args.guards.now =
    omega (arith, c.requires.place, c.len.ensures.value, c.if-k-len.false) in
    let next = next_guard s c.args.plan.now c.args.guards.now c.args.k c.args.pass.now c.requires.may c.requires.guards
    c.requires.held _ refl inside in
    subst (λ (x : Instance). IsKnown x.tables c.guard.result) (sym s.instance)
    (subst (IsKnown (start_of s).inst.tables) (sym c.guard.ensures) next.known)

pub hold-requires-clause-guard : goal.hold-requires-clause-guard
hold-requires-clause-guard g t c =
    let s = c.args.self.now in
    let inside : c.args.k < length c.args.guards.now =
    omega (arith, c.requires.place, c.len.ensures.value, c.if-k-len.false) in
    let number = number_found s c.args.guards.now c.args.k c.number_of-guard.result c.guard.result c.guard.ensures
    c.number_of-guard.ensures in
    let next = next_guard s c.args.plan.now c.args.guards.now c.args.k c.args.pass.now c.requires.may c.requires.guards
    c.requires.held _ number inside in
    (omega (arith, next.few, s.guards), next.below, omega (arith, inside, c.requires.held.count, c.requires.guards.few))

pub returns-in_default-clause-none : goal.returns-in_default-clause-none
returns-in_default-clause-none g t c =
    let s = c.args.self.now in
    let may = c.requires.may in
    let inside : c.args.k < length c.args.guards.now =
    omega (arith, c.requires.place, c.len.ensures.value, c.if-k-len.false) in
    let number = number_found s c.args.guards.now c.args.k c.number_of-guard.result c.guard.result c.guard.ensures
    c.number_of-guard.ensures in
    let next = next_guard s c.args.plan.now c.args.guards.now c.args.k c.args.pass.now may c.requires.guards
    c.requires.held _ number inside in
    let pass = c.hold.ensures.pass in
    let newer = c.in_default.ensures.answer in
    record {
      ready = ((pass.1.0 ∙ may.ready.0.0, pass.1.3 ∙ may.ready.0.1), pass.0);
      number = pass.1.2;
      same = pass.2;
      grips = newer.grips;
      newer = record {
        guard = guard_at c.args.guards.now c.args.k;
        version = c.in_default.field-0;
        written = next.written;
        above = newer.above;
        told = subst (λ m. Contains (news_of c.hold.new.pass) (grip m c.in_default.field-0)) number newer.news;
      };
    }

pub commit_from-reply-requires : goal.commit_from-reply-requires
commit_from-reply-requires g t c κs within =
    let s = c.args.self.now in
    let inside : c.args.k < length c.args.guards.now =
    omega (arith, c.requires.place, c.len.ensures.value, c.if-k-len.false) in
    let number = number_found s c.args.guards.now c.args.k c.number_of-guard.result c.guard.result c.guard.ensures
    c.number_of-guard.ensures in
    let pass = c.hold.ensures.pass in
    let holds = holds_next s c.args.plan.now c.args.guards.now c.args.k c.args.pass.now c.requires.may c.requires.guards
    c.requires.held _ c.in-Held.version c.hold.new.pass number inside pass.0 pass.1 pass.2
    c.in-Held.ensures.answer in
    let place : c.args.k + 1 ≤ length c.args.guards.now = omega arith in
    let falls : length c.args.guards.now - (c.args.k + 1) < t = omega (arith, c.decreases) in
    search (rules, falls, holds.may, holds.held, place, c.requires.guards)

pub release-requires-clause-grip : goal.release-requires-clause-grip
release-requires-clause-grip g t c =
    let s = c.args.self.now in
    let plan = c.args.plan.now in
    let p = c.args.pass.now in
    let q = c.hold.new.pass in
    let r = c.commit_from-reply.new.pass in
    let e = c.commit_from-reply.ensures in
    let pass = c.hold.ensures.pass in
    let gripped = c.in-Held.ensures.answer in
    let inside : c.args.k < length c.args.guards.now =
    omega (arith, c.requires.place, c.len.ensures.value, c.if-k-len.false) in
    let number = number_found s c.args.guards.now c.args.k c.number_of-guard.result c.guard.result c.guard.ensures
    c.number_of-guard.ensures in
    let holds = holds_next s plan c.args.guards.now c.args.k p c.requires.may c.requires.guards c.requires.held _
    c.in-Held.version q number inside pass.0 pass.1 pass.2 gripped in
    let own : KnowsOwn q.number (seen_by q) (notes_made_by q) =
    subst (λ (w : ℕ). KnowsOwn w (seen_by q) (notes_made_by q)) q.numbered q.owned in
    let longer = longer_back s plan p q r r c.commit_from-reply.result
    own holds.may.commit e.some e.none in (
      c.in-Held.version,
      still_held s plan c.args.guards.now c.args.k p _ _ q r _ gripped.grips e.some e.none,
      omega (arith, holds.reached, longer),
    )

pub release-requires-clause-version : goal.release-requires-clause-version
release-requires-clause-version g t c =
    let s = c.args.self.now in
    let o = start_of s in
    let plan = c.args.plan.now in
    let guards = c.args.guards.now in
    let p = c.args.pass.now in
    let q = c.hold.new.pass in
    let r = c.commit_from-reply.new.pass in
    let e = c.commit_from-reply.ensures in
    let pass = c.hold.ensures.pass in
    let v = c.in-Held.version in
    let gripped = c.in-Held.ensures.answer in
    let inside : c.args.k < length guards = omega (arith, c.requires.place, c.len.ensures.value, c.if-k-len.false) in
    let number = number_found s guards c.args.k c.number_of-guard.result c.guard.result c.guard.ensures
    c.number_of-guard.ensures in
    let next = next_guard s plan guards c.args.k p c.requires.may c.requires.guards c.requires.held _ number inside in
    let holds = holds_next s plan guards c.args.k p c.requires.may c.requires.guards c.requires.held _ v q number inside
    pass.0 pass.1 pass.2 gripped in
    let there = version_back s plan p q r r (guard_at guards c.args.k) v
    next.known next.written c.commit_from-reply.result _ e.shut
    (λ shut. subst (λ m. OnlyBy (touching entry_touches o m) (λ x. x.worker) r.number (seen_by r) v)
    number
    (All-contains (λ h. OnlyBy (touching entry_touches o h.guard) (λ x. x.worker) r.number
    (seen_by r) h.version) (grips_of r) (grip c.number_of-guard.result v) shut (still_held s plan guards c.args.k p c.number_of-guard.result v q r c.commit_from-reply.result
    gripped.grips e.some e.none)))
    e.some e.none (subst (λ w. KnowsOwn w (seen_by q) (notes_made_by q)) q.numbered q.owned) holds.may.commit holds.reached (subst (λ m. IsVersion (touching entry_touches o m) (seen_by q) v) number (gripped.version holds.reached)) in
    subst (λ m. IsVersion (touching entry_touches o m) (seen_by r) c.then_version-now.result) (sym number)
    (subst (IsVersion (touching entry_touches o (number_at o.inst.tables guards c.args.k)) (seen_by r)) (sym (c.then_version-now.ensures ∙ ap (then_version c.commit_from-reply.result v) c.seen.ensures)) there)

pub returns-clause-some : goal.returns-clause-some
returns-clause-some g t c =
    let s = c.args.self.now in
    let plan = c.args.plan.now in
    let p = c.args.pass.now in
    let pass = c.hold.ensures.pass in
    let gave = c.release.ensures in
    let inside : c.args.k < length c.args.guards.now =
    omega (arith, c.requires.place, c.len.ensures.value, c.if-k-len.false) in
    let next = next_guard s plan c.args.guards.now c.args.k p c.requires.may c.requires.guards c.requires.held _ (number_found s c.args.guards.now c.args.k c.number_of-guard.result c.guard.result c.guard.ensures
    c.number_of-guard.ensures)
    inside in
    handed_back s plan p c.hold.new.pass c.commit_from-reply.new.pass c.release.new.pass
    c.number_of-guard.result c.in-Held.version pass.1 pass.2
    c.in-Held.ensures.answer.grips next.below gave.pass.0 gave.pass.1 gave.pass.2 gave.pass.3 gave.grips
    c.commit_from-reply.result c.commit_from-reply.ensures.some

pub returns-clause-none : goal.returns-clause-none
returns-clause-none g t c =
    let s = c.args.self.now in
    let plan = c.args.plan.now in
    let p = c.args.pass.now in
    let pass = c.hold.ensures.pass in
    let gave = c.release.ensures in
    let inside : c.args.k < length c.args.guards.now =
    omega (arith, c.requires.place, c.len.ensures.value, c.if-k-len.false) in
    let next = next_guard s plan c.args.guards.now c.args.k p c.requires.may c.requires.guards c.requires.held _ (number_found s c.args.guards.now c.args.k c.number_of-guard.result c.guard.result c.guard.ensures
    c.number_of-guard.ensures)
    inside in
    held_back s plan p c.hold.new.pass c.commit_from-reply.new.pass c.release.new.pass
    c.number_of-guard.result c.in-Held.version pass.1 pass.2
    c.in-Held.ensures.answer.grips next.below gave.pass.0 gave.pass.1 gave.pass.2 gave.pass.3 gave.grips
    c.commit_from-reply.result c.commit_from-reply.ensures.none

pub returns-clause-copied : goal.returns-clause-copied
returns-clause-copied g t c =
    subst (λ xs. IfSome c.commit_from-reply.result
    (λ _. g.C.Copying.copied c.commit_from-reply.new.copy xs c.args.plan.now.q))
    (sym c.release.ensures.pass.2.0) c.commit_from-reply.ensures.copied
