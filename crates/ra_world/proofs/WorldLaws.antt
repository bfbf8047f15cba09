-- What is known of every world.
use Rattle.std.proofs.Common.{arith, ℕ, List}
use Rattle.ra_base.specs.declared.ids.Machine.{Machine}
use Rattle.ra_model.specs.declared.numbers.Instance.{Instance}
use Rattle.ra_model.specs.Situations.{situation, IsSound}
use Rattle.ra_moves.specs.declared.divisors.Divisors.{Divisors}
use Rattle.ra_topology.specs.TopologyLists.{TopologyLists}
use Rattle.ra_world.specs.declared.kept.Kept.{Kept}
use Rattle.ra_world.specs.Keeping.{IsWorld}

pub sound_world : (i : Instance) {a0 : List Machine} (topo : TopologyLists) {list : List ℕ} {by : Divisors}
    (kept : Kept) → IsWorld i.tables a0 topo list by kept → IsSound (situation i.tables a0 kept.assignment.items)
sound_world i topo kept is = grind arith
