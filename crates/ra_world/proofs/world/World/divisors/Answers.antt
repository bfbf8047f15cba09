use Rattle.std.proofs.Common.{subst}
use Rattle.ra_model.specs.Situations.{IsSound}
use Rattle.ra_world.proofs.WorldLaws.{sound_world}
use Rattle.ra_world.proofs.world.World.divisors.Goals as goal

pub returns-clause-sound : goal.returns-clause-sound
returns-clause-sound c =
    subst IsSound c.self.view_is (sound_world c.self.inside.inst.now _ c.self.inside.kept c.self.invariant)
