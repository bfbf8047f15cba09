use Rattle.std.proofs.Common.{sym, ap, ◌∙◌, length}
use Rattle.std.proofs.lemmas.List.{length_push}
use Rattle.ra_model_read.specs.Formats.{pure}
use Rattle.ra_model_read.specs.Lists.{of_resource}
use Rattle.ra_model_read.specs.ModelText.{resource}
use Rattle.ra_model_read.proofs.Steps.{gives_bind, gives_then, refuses_first, refuses_next, refused_at_exit}
use Rattle.ra_model_read.proofs.Rows.{rows_pushed}
use Rattle.ra_model_read.proofs.resources.read_resource.Goals as goal

pub returns-in_err-transient-clause-refuses : goal.returns-in_err-transient-clause-refuses
unfolding resource
returns-in_err-transient-clause-refuses g c =
    refused_at_exit _ c.from_residual.ensures (refuses_first _ c.in_err-transient.ensures.refuses)

pub returns-in_err-load_weight-clause-refuses : goal.returns-in_err-load_weight-clause-refuses
unfolding resource
returns-in_err-load_weight-clause-refuses g c = refused_at_exit _ c.from_residual-in_err-load_weight.ensures
    (refuses_next _ c.in_ok-transient.ensures.gives (refuses_first _ c.in_err-load_weight.ensures.refuses))

pub returns-clause-gives : goal.returns-clause-gives
unfolding resource
returns-clause-gives g c =
    gives_bind _ c.in_ok-transient.ensures.gives
    (gives_then _ c.in_ok-load_weight.ensures.gives
    (ap pure (sym (rows_pushed of_resource _ _ _ c.push.ensures.items))))

pub returns-clause-length : goal.returns-clause-length
returns-clause-length g c = ap length c.push.ensures.items ∙ length_push _ _

pub push-requires : goal.push-requires
push-requires g c = c.requires.room
