-- One dependant after another.
use Rattle.std.proofs.Common.{◌≡◌, ◌∙◌, length, sym, arith}
use Rattle.ra_base.proofs.Searches.{first_none, first_more_none, first_found}
use Rattle.ra_model.specs.Numbers.{service_count}
use Rattle.ra_topology.specs.Lists.{service_at, AreDependantsOf}
use Rattle.ra_edit.specs.Drafts.{instance_of}
use Rattle.ra_edit.specs.Keeping.{drafted}
use Rattle.ra_edit.proofs.ScanLaws.{near_told}
use Rattle.ra_edit.proofs.TestLaws.{left_listed, none_left}
use Rattle.ra_edit.proofs.TouchLaws.{left_more, gone_left}
use Rattle.ra_edit.proofs.judging.first_left.Goals as goal

pub returns-then-at-gt1 : goal.returns-then-at-gt1
returns-then-at-gt1 c = λ e gone.
    let d = drafted c.args.inst.now.tables c.args.lists.now in
    rw (← c.neighbourhood-label.ensures)
    (none_left e c.args.s.0 c.neighbourhood-label.result (service_count (instance_of e))
    (left_more gone
    c.requires.mine c.requires.here c.neighbourhood-label.ensures
    (near_told d d.current c.args.s.0 c.neighbourhood-label.result
    (c.at.ensures d c.requires.members))
    (omega (arith, c.if-at-gt1.true))))

pub dependants-services-requires : goal.dependants-services-requires
dependants-services-requires c = omega (arith, c.requires.service, c.requires.topology.dependants.one_each)

pub loop-k-init : goal.loop-k-init
loop-k-init c = λ e left. first_none _

pub loop-k-preserved : goal.loop-k-preserved
unfolding service_at
loop-k-preserved c = λ e left.
    first_more_none c.loop-k.k _ (c.loop-k.invariant e left)
    (sym (c.left_alone.ensures (drafted c.args.inst.now.tables c.args.lists.now) e c.requires.members left)
    ∙ c.in_default.is)

pub returns-in-Some : goal.returns-in-Some
unfolding service_at
returns-in-Some c = λ e gone.
    let d = drafted c.args.inst.now.tables c.args.lists.now in
    let left = gone_left gone
    c.requires.mine c.requires.here c.neighbourhood-label.ensures
    (near_told d d.current c.args.s.0 c.neighbourhood-label.result
    (c.at.ensures d c.requires.members)) (omega (arith, c.if-at-gt1.false)) in
    let list = c.dependants-services.result.now in
    let are : AreDependantsOf c.args.inst.now.tables c.args.s.0 list =
    rw c.dependants-services.ensures (c.requires.topology.dependants.each c.args.s.0 c.requires.service) in
    rw (← c.neighbourhood-label.ensures)
    (sym (sym (left_listed e c.neighbourhood-label.result left.origin are)
    ∙ first_found c.loop-k.k (length list) _ c.in-Some.cause c.loop-k-test.true
    (c.loop-k.invariant e left)
    (sym (c.left_alone.ensures d e c.requires.members left) ∙ c.in-Some.is)))

pub returns : goal.returns
returns c = λ e gone.
    let d = drafted c.args.inst.now.tables c.args.lists.now in
    let left = gone_left gone
    c.requires.mine c.requires.here c.neighbourhood-label.ensures
    (near_told d d.current c.args.s.0 c.neighbourhood-label.result
    (c.at.ensures d c.requires.members)) (omega (arith, c.if-at-gt1.false)) in
    let list = c.dependants-services.result.now in
    let are : AreDependantsOf c.args.inst.now.tables c.args.s.0 list =
    rw c.dependants-services.ensures (c.requires.topology.dependants.each c.args.s.0 c.requires.service) in
    let all : c.loop-k.k ≡ length list = omega (arith, c.loop-k-test.false, c.loop-k.auto.k-end) in
    rw (← c.neighbourhood-label.ensures)
    (sym (sym (left_listed e c.neighbourhood-label.result left.origin are)
    ∙ rw all at (c.loop-k.invariant e left)))
