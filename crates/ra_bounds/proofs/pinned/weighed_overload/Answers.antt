-- The greater of the two sums of the resource.
use Rattle.std.proofs.Common.{◌∙◌, refl, List}
use Rattle.ra_base.specs.declared.ids.Machine.{Machine}
use Rattle.ra_bounds.proofs.ReadLemmas.{overload_from}
use Rattle.ra_bounds.proofs.PinnedLemmas.{overload_is}
use Rattle.ra_bounds.proofs.pinned.weighed_overload.Goals as goal

pub returns-clause-value : goal.returns-clause-value
returns-clause-value c = λ (a0 : List Machine) stand.
    let i = c.args.inst.now.tables in
    rw (
      c.from.ensures,
      c.load_weight.ensures,
      c.from-2.ensures,
      c.max.ensures,
      overload_is i a0 c.args.r.0 c.saturating_sub-together.result c.excess_sum-pinned.result
          (c.saturating_sub-together.ensures ∙ overload_from i c.args.r.0 c.args.required.now c.args.safety.now
          c.requires.required c.requires.safety c.requires.resource) (c.excess_sum-pinned.ensures.value a0 stand),
    )
    refl
