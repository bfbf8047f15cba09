use Rattle.ra_model_read.proofs.Rows.{has_none}
use Rattle.ra_model_read.proofs.services.service_tables.Goals as goal

pub returns-clause-none : goal.returns-clause-none
returns-clause-none c = has_none _ _ c.in_ok-rows.ensures.items c.in_ok-dependencies.ensures.items
    c.in_ok-rows.ensures.room c.in_ok-dependencies.ensures.room
