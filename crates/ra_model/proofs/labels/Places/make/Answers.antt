use Rattle.ra_model.specs.Places.{label_of}
use Rattle.ra_model.proofs.labels.Places.make.Goals as goal

pub returns : goal.returns
unfolding label_of
returns c = record { locations = c.in_ok-locations.ensures; neighbourhoods = c.in_ok-neighbourhoods.ensures }
