-- The weights stay, with new proofs that they are small.
use Rattle.std.proofs.Common.{ap}
use Rattle.ra_model.specs.declared.raw.RawInstance.{RawInstance}
use Rattle.ra_model.specs.declared.raw.Tables.{Tables}
use Rattle.ra_model.specs.Numbers.{with_processes}
use Rattle.ra_model.proofs.InstanceLemmas.{same_weights}
use Rattle.ra_model.proofs.raw.Tables.with_processes.Goals as goal

pub returns : goal.returns
returns c = ap (λ (x : RawInstance). let t : Tables = record { raw = x; closed = c.args.self.closed } in t)
    (same_weights (with_processes c.args.self c.args.rows c.args.requirements).raw _ _ _)
