use Rattle.std.proofs.Common.{sym, ap, ◌∙◌}
use Rattle.ra_journal.specs.Journals.{opening_in}
use Rattle.ra_worker.proofs.CoreLemmas.{over_by}
use Rattle.ra_verify.proofs.FollowLemmas.{none_may_follow}
use Rattle.ra_verify.proofs.CheckerLemmas.{may_stand, taken}
use Rattle.ra_verify.proofs.checker.Checker.take.Goals as goal

pub returns-then-not-may_stand-clause-wrong : goal.returns-then-not-may_stand-clause-wrong
returns-then-not-may_stand-clause-wrong c = λ no e legal own at.
    let yes = c.may_stand.ensures.1
    (may_stand c.args.self.now e c.args.worker c.args.q c.requires.ready legal own at) in let not_so =
    c.if-not-may_stand.true in (cc)

pub returns-clause-right : goal.returns-clause-right
returns-clause-right c = λ yes. taken c.args.self.now _ c.args.worker c.args.q c.take_turn_at-reply.result
    c.requires.ready (c.may_stand.ensures.0 (let so = c.if-not-may_stand.false in (cc))) (over_by c.args.self.now.journal _ _ c.take_turn_at-reply.ensures.turn.journal)
    (ap (λ j. j.entries) c.take_turn_at-reply.ensures.turn.journal) c.take_turn_at-reply.ensures.turn.reply
    (sym c.is_recorded.ensures ∙ yes)
    c.take_turn_at-reply.ensures.places

pub returns-clause-wrong : goal.returns-clause-wrong
returns-clause-wrong c =
    let j = c.args.self.now.journal in
    λ no e legal own at. none_may_follow (opening_in j) j.entries c.args.worker
    c.args.q c.take_turn_at-reply.result c.args.self.now.sound.start c.take_turn_at-reply.ensures.turn.reply
    (sym c.is_recorded.ensures ∙ no) e legal own at

pub returns-clause-same : goal.returns-clause-same
returns-clause-same c = over_by c.args.self.now.journal _ _ c.take_turn_at-reply.ensures.turn.journal
