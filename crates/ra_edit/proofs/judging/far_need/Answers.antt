-- Where a process of the service comes, it is near; otherwise the count is that of before.
use Rattle.std.proofs.Common.{◌∙◌, sym, arith}
use Rattle.ra_edit.proofs.ScanLaws.{near_told}
use Rattle.ra_edit.proofs.TestLaws.{need_far, need_near}
use Rattle.ra_edit.proofs.TouchLaws.{come_near_mine, come_near_other}
use Rattle.ra_edit.proofs.judging.far_need.Goals as goal

pub returns-then-need-s : goal.returns-then-need-s
returns-then-need-s c = λ d e m k has come label_is need_is.
    need_near e c.args.s.0 c.args.label k c.args.need.0 _ need_is
    (sym (come_near_mine come label_is c.if-need-s.true))
    (λ none. omega (arith, none))

pub returns-then-at-eq0 : goal.returns-then-at-eq0
returns-then-at-eq0 c = λ d e m k has come label_is need_is.
    need_far e c.args.s.0 c.args.label k c.args.need.0 c.at.result need_is
    (near_told d d.current c.args.need.0 c.args.label (c.at.ensures d has)
    ∙ sym (come_near_other c.args.need.0 come label_is c.if-need-s.false))
    c.if-at-eq0.true

pub returns-else-at-eq0 : goal.returns-else-at-eq0
returns-else-at-eq0 c = λ d e m k has come label_is need_is.
    need_near e c.args.s.0 c.args.label k c.args.need.0 c.at.result need_is
    (near_told d d.current c.args.need.0 c.args.label (c.at.ensures d has)
    ∙ sym (come_near_other c.args.need.0 come label_is c.if-need-s.false))
    c.if-at-eq0.false
