-- A machine's way to itself is the one that is kept.
use Rattle.std.proofs.Common.{◌≡◌, ◌∙◌, ap, arith, subst}
use Rattle.ra_model.specs.Numbers.{way_cost_of}
use Rattle.ra_model.specs.Situations.{Situation}
use Rattle.ra_world.proofs.RenewalLaws.{kept_cost}
use Rattle.ra_world.proofs.world.World.way.Goals as goal

pub get-requires : goal.get-requires
get-requires c = omega (arith, rw (← c.self.view_is) at c.requires.from, c.self.invariant.stays.one_each)

pub returns-then-from-to : goal.returns-then-from-to
returns-then-from-to c =
    let w = c.self.inside in
    let i = w.inst.now.tables in
    subst (λ (st : Situation). c.get.result ≡ way_cost_of st.tables c.args.from.0 c.args.to.0) c.self.view_is
    (kept_cost c.args.from.0
    c.self.invariant.stays (rw (← c.self.view_is) at c.requires.from) c.get.ensures
    ∙ ap (way_cost_of i c.args.from.0) c.if-from-to.true)
