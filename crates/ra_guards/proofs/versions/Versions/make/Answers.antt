use Rattle.ra_guards.proofs.KeptLemmas.{zeros, zeros_at_most}
use Rattle.ra_guards.proofs.versions.Versions.make.Goals as goal

pub returns : goal.returns
returns c = zeros c.args.machines c.args.services _ _ c.in_ok-machines.ensures c.in_ok-services.ensures

pub invariant_of-result : goal.invariant_of-result
invariant_of-result c =
    zeros_at_most c.args.machines c.args.services _ _ c.in_ok-machines.ensures c.in_ok-services.ensures
