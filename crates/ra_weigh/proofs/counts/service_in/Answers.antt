-- The process is one of the instance, and so is its service.
use Rattle.std.proofs.Common.{arith}
use Rattle.ra_weigh.proofs.MoveLemmas.{process_known, service_read, service_known}
use Rattle.ra_weigh.proofs.counts.service_in.Goals as goal

pub service_of-requires : goal.service_of-requires
service_of-requires c = grind (arith, process_known)

pub returns-clause-value : goal.returns-clause-value
returns-clause-value c = grind (arith, service_read)

pub returns-clause-there : goal.returns-clause-there
returns-clause-there c = grind (arith, service_known, process_known)
