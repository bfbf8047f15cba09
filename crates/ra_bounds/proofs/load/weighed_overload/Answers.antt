-- The two sums of the resource.
use Rattle.std.proofs.Common.{refl}
use Rattle.ra_bounds.proofs.ReadLemmas.{overload_from}
use Rattle.ra_bounds.proofs.load.weighed_overload.Goals as goal

pub returns-clause-value : goal.returns-clause-value
returns-clause-value c = rw (
  c.from.ensures,
  c.from-2.ensures,
  c.load_weight.ensures,
  c.saturating_sub-overload.ensures,
  overload_from c.args.inst.now.tables c.args.r.0 c.args.required.now c.args.safety.now c.requires.required
      c.requires.safety c.requires.resource,
) refl
