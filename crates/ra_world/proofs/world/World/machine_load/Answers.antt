-- The cost that is kept.
use Rattle.std.proofs.Common.{◌≡◌, arith, subst}
use Rattle.ra_model.specs.MachineCosts.{machine_load}
use Rattle.ra_model.specs.Situations.{Situation, IsSound}
use Rattle.ra_world.proofs.RenewalLaws.{kept_cost}
use Rattle.ra_world.proofs.WorldLaws.{sound_world}
use Rattle.ra_world.proofs.world.World.machine_load.Goals as goal

pub get-requires : goal.get-requires
get-requires c =
    omega (arith, rw (← c.self.view_is) at c.requires, c.self.invariant.keeps.loads.one_each)

pub returns-clause-value : goal.returns-clause-value
returns-clause-value c =
    let w = c.self.inside in
    subst (λ (st : Situation). c.get.result ≡ machine_load st.tables st.here c.args.m.0) c.self.view_is
    (kept_cost
    c.args.m.0 c.self.invariant.keeps.loads (rw (← c.self.view_is) at c.requires) c.get.ensures)

pub returns-clause-sound : goal.returns-clause-sound
returns-clause-sound c =
    subst IsSound c.self.view_is (sound_world c.self.inside.inst.now _ c.self.inside.kept c.self.invariant)
