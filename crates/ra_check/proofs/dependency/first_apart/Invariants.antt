use Rattle.std.proofs.Common.{◌≡◌, None}
use Rattle.ra_base.specs.Searches.{first}
use Rattle.ra_model.specs.Numbers.{machine_count}
use Rattle.ra_model.specs.Broken.{service_dependency}
use Rattle.ra_check.specs.Stamps.{TellTrue}
use Rattle.ra_check.proofs.dependency.first_apart.Given as goal

abbrev pub invariant-loop-s : goal.invariant-loop-s
invariant-loop-s l = record {
  none : first l.s (service_dependency l.inst.tables l.a.items) ≡ None;
  marks : TellTrue l.members l.places.neighbourhoods l.a.items (machine_count l.inst.tables) l.marks.items l.last;
}
