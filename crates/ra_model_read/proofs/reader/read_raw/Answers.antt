use Rattle.std.proofs.Common.{refl, ap, ap₂}
use Rattle.ra_model_read.proofs.Rows.{counted}
use Rattle.ra_model_read.specs.Lists.{of_resource, service_numbers_of}
use Rattle.ra_model_read.specs.ModelText.{model, machines, rest}
use Rattle.ra_model_read.proofs.Steps.{gives_bind, gives_then, gives_same, refuses_first, refuses_next, refuses_same}
use Rattle.ra_model_read.proofs.Steps.{refused_at_exit}
use Rattle.ra_model_read.proofs.WholeTables.{whole_read}
use Rattle.ra_model_read.proofs.reader.read_raw.Goals as goal

pub returns-in_err-resources-clause-refuses : goal.returns-in_err-resources-clause-refuses
unfolding model
returns-in_err-resources-clause-refuses g c =
    refused_at_exit _ c.from_residual.ensures (refuses_first _ c.in_err-resources.ensures.refuses)

pub returns-in_err-machines-clause-refuses : goal.returns-in_err-machines-clause-refuses
unfolding model
returns-in_err-machines-clause-refuses g c = refused_at_exit _ c.from_residual-in_err-machines.ensures
    (refuses_next _ c.in_ok-resources.ensures.gives
    (refuses_first _
    (refuses_same (ap machines (counted of_resource _ _ c.len-resource_count.ensures.value))
    c.in_err-machines.ensures.refuses)))

pub returns-in_err-services-clause-refuses : goal.returns-in_err-services-clause-refuses
unfolding model
returns-in_err-services-clause-refuses g c = refused_at_exit _ c.from_residual-in_err-services.ensures
    (refuses_next _ c.in_ok-resources.ensures.gives
    (refuses_next _
    (gives_same (ap machines (counted of_resource _ _ c.len-resource_count.ensures.value))
    c.in_ok-machines.ensures.gives) (refuses_first _ c.in_err-services.ensures.refuses)))

pub returns-in_err-rest-clause-refuses : goal.returns-in_err-rest-clause-refuses
unfolding model
returns-in_err-rest-clause-refuses g c = refused_at_exit _ c.from_residual-in_err-rest.ensures
    (refuses_next _ c.in_ok-resources.ensures.gives
    (refuses_next _
    (gives_same (ap machines (counted of_resource _ _ c.len-resource_count.ensures.value))
    c.in_ok-machines.ensures.gives)
    (refuses_next _ c.in_ok-services.ensures.gives
    (refuses_first _
    (refuses_same
    (ap₂ rest (counted service_numbers_of _ _ c.len-service_count.ensures.value)
    (counted of_resource _ _ c.len-resource_count.ensures.value)) c.in_err-rest.ensures.refuses)))))

pub returns-clause-gives : goal.returns-clause-gives
unfolding model
returns-clause-gives g c =
    gives_bind _ c.in_ok-resources.ensures.gives
    (gives_bind _
    (gives_same (ap machines (counted of_resource _ _ c.len-resource_count.ensures.value))
    c.in_ok-machines.ensures.gives)
    (gives_bind _ c.in_ok-services.ensures.gives
    (gives_then _
    (gives_same (ap₂ rest (counted service_numbers_of _ _ c.len-service_count.ensures.value)
    (counted of_resource _ _ c.len-resource_count.ensures.value)) c.in_ok-rest.ensures.gives) refl)))

pub returns-clause-well_formed : goal.returns-clause-well_formed
returns-clause-well_formed g c = let others = c.in_ok-rest.ensures.shape in
    whole_read _ _ _ c.len-resource_count.ensures.value c.len-service_count.ensures.value c.in_ok-resources.ensures.some
    c.in_ok-resources.ensures.few c.in_ok-machines.ensures.shape c.in_ok-services.ensures.shape others.processes
    others.few others.among
