-- The last one in its location leaves one location less.
use Rattle.std.proofs.Common.{◌∙◌, sym, arith}
use Rattle.ra_edit.specs.Keeping.{drafted}
use Rattle.ra_edit.proofs.ScanLaws.{location_told}
use Rattle.ra_edit.proofs.TouchLaws.{gone_last, gone_other}
use Rattle.ra_edit.proofs.VerdictLaws.{has_gone}
use Rattle.ra_edit.proofs.judging.locations_without.Goals as goal

pub overflow_sub-result : goal.overflow_sub-result
overflow_sub-result c =
    let d = drafted c.args.inst.now.tables c.args.lists.now in
    let less = gone_last
    (has_gone c.args.p.0 c.requires.sound c.requires.process) c.requires.mine
    c.requires.here c.location.ensures (omega arith) (sym (location_told d d.current c.args.s.0 c.location.result
    (c.at.ensures d c.requires.members)) ∙ c.if-at-eq1.true) in
    omega (arith, less, c.locations-has.ensures d c.requires.members)

pub returns-then-at-eq1 : goal.returns-then-at-eq1
returns-then-at-eq1 c = λ e gone.
    let d = drafted c.args.inst.now.tables c.args.lists.now in
    let less = gone_last gone c.requires.mine c.requires.here
    c.location.ensures (omega arith) (sym (location_told d d.current c.args.s.0 c.location.result
    (c.at.ensures d c.requires.members)) ∙ c.if-at-eq1.true) in
    omega (arith, less, c.locations-has.ensures d c.requires.members)

pub returns-else-at-eq1 : goal.returns-else-at-eq1
returns-else-at-eq1 c = λ e gone.
    let d = drafted c.args.inst.now.tables c.args.lists.now in
    c.locations-has.ensures d c.requires.members
    ∙ gone_other gone c.requires.mine
    c.requires.here c.location.ensures (omega arith) (λ one. c.if-at-eq1.false
    ((location_told d d.current c.args.s.0 c.location.result
    (c.at.ensures d c.requires.members)) ∙ one))

pub locations-has-requires : goal.locations-has-requires
locations-has-requires c = omega (arith, c.requires.service, c.requires.members.numbered.one_each)
