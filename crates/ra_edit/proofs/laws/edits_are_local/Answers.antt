-- One law for each kind of edit.
use Rattle.ra_edit.proofs.AddedLaws.{added_law}
use Rattle.ra_edit.proofs.RetiredLaws.{retired_law}
use Rattle.ra_edit.proofs.ResizedLaws.{resized_law}
use Rattle.ra_edit.proofs.laws.edits_are_local.Goals as goal

pub returns-clause-adds : goal.returns-clause-adds
returns-clause-adds c = added_law

pub returns-clause-retires : goal.returns-clause-retires
returns-clause-retires c = retired_law

pub returns-clause-resizes : goal.returns-clause-resizes
returns-clause-resizes c = resized_law
