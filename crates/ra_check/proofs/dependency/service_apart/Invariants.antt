use Rattle.std.proofs.Common.{◌≡◌, None}
use Rattle.ra_base.specs.Searches.{first}
use Rattle.ra_model.specs.Numbers.{machine_count}
use Rattle.ra_model.specs.Broken.{pair_dependency}
use Rattle.ra_check.specs.Stamps.{TellTrue}
use Rattle.ra_check.proofs.dependency.service_apart.Given as goal

abbrev pub invariant-loop-k : goal.invariant-loop-k
invariant-loop-k l = record {
  none : first l.k (pair_dependency l.inst.tables l.a.items l.service.0) ≡ None;
  marks : TellTrue l.members l.places.neighbourhoods l.a.items (machine_count l.inst.tables) l.marks.items l.last;
}
