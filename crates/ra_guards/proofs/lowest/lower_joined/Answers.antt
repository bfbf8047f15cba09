use Rattle.std.proofs.Common.{sym, subst}
use Rattle.ra_topology.specs.Lists.{AreNeedsOf, AreDependantsOf}
use Rattle.ra_guards.proofs.LowestLemmas.{lower_both}
use Rattle.ra_guards.proofs.JoinLemmas.{needs_known, dependants_known, both_lists}
use Rattle.ra_guards.proofs.lowest.lower_joined.Goals as goal

pub lower_listed-least-requires-clause-services : goal.lower_listed-least-requires-clause-services
lower_listed-least-requires-clause-services c = needs_known c.args.inst.now.tables c.args.service.0 c.needs.result.now
    (subst (AreNeedsOf c.args.inst.now.tables c.args.service.0) (sym c.needs.ensures)
    (c.requires.topology.needs.each c.args.service.0 c.requires.service)) c.args.inst.now.well_formed
    c.requires.service

pub lower_listed-requires-clause-services : goal.lower_listed-requires-clause-services
lower_listed-requires-clause-services c =
    dependants_known c.args.inst.now.tables c.args.service.0 c.dependants.result.now
    (subst (AreDependantsOf c.args.inst.now.tables c.args.service.0) (sym c.dependants.ensures)
    (c.requires.topology.dependants.each c.args.service.0 c.requires.service))

pub returns : goal.returns
returns c =
    let i = c.args.inst.now.tables in
    let steps = c.args.mv.now.steps in
    let s = c.args.service.0 in
    let needs = c.needs.result.now in
    let dependants = c.dependants.result.now in
    lower_both i _ c.args.q _
    _ _ c.args.before c.lower_listed-least.result
    c.lower_listed.result
    (both_lists i steps s needs dependants
    (subst (AreNeedsOf i s) (sym c.needs.ensures) (c.requires.topology.needs.each s c.requires.service))
    (subst (AreDependantsOf i s) (sym c.dependants.ensures)
    (c.requires.topology.dependants.each s c.requires.service)) c.args.inst.now.well_formed c.requires.service)
    c.lower_listed-least.ensures c.lower_listed.ensures
