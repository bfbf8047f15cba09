use Rattle.ra_model_read.specs.FieldOrder.{resource_numbers}
use Rattle.ra_model_text.specs.ModelTexts.{resource_text}
use Rattle.ra_model_text.proofs.lines.add_resource.Goals as goal

pub returns : goal.returns
unfolding resource_text resource_numbers
returns g c = rw (c.transient_flag.ensures, c.load_weight.ensures) at c.add_two.ensures
