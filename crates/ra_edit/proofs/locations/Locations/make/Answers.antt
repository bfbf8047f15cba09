-- No process is counted, and each number is 0.
use Rattle.ra_edit.proofs.LocationLaws.{numbered_none}
use Rattle.ra_edit.proofs.locations.Locations.make.Goals as goal

pub returns-clause-numbered : goal.returns-clause-numbered
returns-clause-numbered c = numbered_none (cc (c.in_ok-numbers.ensures, c.services.ensures)) c.new.ensures
