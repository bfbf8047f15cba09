-- One resource more, and all.
use Rattle.std.proofs.Common.{◌≡◌, arith, List}
use Rattle.ra_base.specs.declared.ids.Machine.{Machine}
use Rattle.ra_model.specs.Numbers.{resource_count}
use Rattle.ra_bounds.proofs.PinnedLemmas.{load_none, load_more, load_all}
use Rattle.ra_bounds.proofs.pinned.pinned_load_bound.Goals as goal

pub loop-r-init : goal.loop-r-init
loop-r-init c = record { value = λ (a0 : List Machine) stand. load_none c.args.inst.now.tables a0; fits = omega arith }

pub loop-r-preserved : goal.loop-r-preserved
loop-r-preserved c = record {
  value = λ (a0 : List Machine) stand. load_more c.args.inst.now.tables a0 c.loop-r.r c.loop-r.cost
      c.weighed_overload-cost.result (c.loop-r.invariant.value a0 stand)
      (c.weighed_overload-cost.ensures.value a0 stand);
  fits = omega (arith, c.loop-r.invariant.fits, c.weighed_overload-cost.ensures.fits);
}

pub returns-clause-value : goal.returns-clause-value
returns-clause-value c = λ (a0 : List Machine) stand.
    let all : c.loop-r.r ≡ resource_count c.args.inst.now.tables =
    omega (arith, c.resources-r-end.ensures, c.loop-r-test.false, c.loop-r.auto.r-end) in
    load_all c.args.inst.now.tables a0 c.loop-r.r c.loop-r.cost all (c.loop-r.invariant.value a0 stand)
