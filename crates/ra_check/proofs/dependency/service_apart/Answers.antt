use Rattle.std.proofs.Common.{◌+◌, ◌<◌, ◌∙◌, Some, sym, refl, ap, length, get_or, arith}
use Rattle.ra_base.specs.declared.ids.Service.{Service}
use Rattle.ra_base.specs.declared.causes.Cause.TheVariants.{Dependency}
use Rattle.ra_base.proofs.Searches.{first_found, first_more_none}
use Rattle.ra_model.specs.Numbers.{machine_count, service_count, dependency_count}
use Rattle.ra_model.specs.Broken.{pair_dependency, service_dependency}
use Rattle.ra_model.specs.Members.{members_of}
use Rattle.ra_check.proofs.StampLemmas.{seated}
use Rattle.ra_check.proofs.DependencyLemmas.{need_within, far_within, pair_found}
use Rattle.ra_check.proofs.dependency.service_apart.Goals as goal

pub stamp_service-requires-clause-seated : goal.stamp_service-requires-clause-seated
stamp_service-requires-clause-seated c =
    let i = c.args.inst.now.tables in
    let needs : Service = get_or c.depends-all_needs.result.now c.loop-k.k (record { 0 = 0 }) in
    let below : c.loop-k.k < dependency_count c.args.inst.now.tables c.args.service.0 =
    omega (arith, c.loop-k-test.true, c.depends-all_needs.ensures.count) in
    let inside : needs.0 < service_count c.args.inst.now.tables =
    omega (
      arith,
      c.depends-all_needs.ensures.each c.loop-k.k below,
      need_within i c.args.service.0 c.loop-k.k c.args.inst.now.well_formed c.requires.there below,
    ) in
    seated i c.args.a.now.items c.args.members.now needs.0 (length c.loop-k.marks.items) c.requires.assigned
    c.requires.members inside c.loop-k.invariant.marks.one_each

pub neighbourhood-requires : goal.neighbourhood-requires
neighbourhood-requires c =
    let i = c.args.inst.now.tables in
    far_within c.stamp_service.new.marks.items ((get_or c.depends-all_needs.result.now c.loop-k.k
    (record { 0 = 0 })).0 + 1) (machine_count i) c.args.places.now.neighbourhoods
    c.args.a.now.items (members_of c.args.members.now c.args.service.0) c.in-Some.machine
    (seated i c.args.a.now.items c.args.members.now c.args.service.0 (machine_count i) c.requires.assigned
    c.requires.members c.requires.there refl)
    (rw c.of-own.ensures at c.in-Some.ensures)

pub returns-in-Some-clause-cause : goal.returns-in-Some-clause-cause
unfolding service_dependency
returns-in-Some-clause-cause c =
    let i = c.args.inst.now.tables in
    let s = c.args.service.0 in
    let k = c.loop-k.k in
    let needs : Service = get_or c.depends-all_needs.result.now c.loop-k.k (record { 0 = 0 }) in
    let below : c.loop-k.k < dependency_count c.args.inst.now.tables c.args.service.0 =
    omega (arith, c.loop-k-test.true, c.depends-all_needs.ensures.count) in
    sym (first_found k (dependency_count i s) (pair_dependency i c.args.a.now.items s)
    (Dependency c.args.service needs c.neighbourhood.result) below c.loop-k.invariant.none
    (pair_found s k needs
    c.requires.assigned c.requires.members c.requires.places c.requires.there (c.depends-all_needs.ensures.each k below)
    (need_within i s k c.args.inst.now.well_formed c.requires.there below) c.loop-k.invariant.marks.one_each
    c.stamp_service.ensures.marks c.stamp_service.ensures.last (rw c.of-own.ensures at c.in-Some.ensures)
    ∙ ap (λ l. Some (Dependency c.args.service needs l)) (sym c.neighbourhood.ensures)))

pub loop-k-preserved : goal.loop-k-preserved
loop-k-preserved c =
    let i = c.args.inst.now.tables in
    let s = c.args.service.0 in
    let k = c.loop-k.k in
    let below : c.loop-k.k < dependency_count c.args.inst.now.tables c.args.service.0 =
    omega (arith, c.loop-k-test.true, c.depends-all_needs.ensures.count) in
    record {
      none = first_more_none k (pair_dependency i c.args.a.now.items s) c.loop-k.invariant.none
          (pair_found s k (get_or c.depends-all_needs.result.now c.loop-k.k (record { 0 = 0 }))
          c.requires.assigned c.requires.members c.requires.places c.requires.there
          (c.depends-all_needs.ensures.each k below)
          (need_within i s k c.args.inst.now.well_formed c.requires.there below) c.loop-k.invariant.marks.one_each
          c.stamp_service.ensures.marks c.stamp_service.ensures.last (rw c.of-own.ensures at c.in_default.ensures));
      marks = rw c.loop-k.invariant.marks.one_each at c.stamp_service.ensures.marks;
    }
