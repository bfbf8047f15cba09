use Rattle.std.proofs.Common.{◌≡◌, ◌∙◌, ap, pos, rules}
use Rattle.std.specs.Prelude.{FitsSigned}
use Rattle.std.specs.Int.{w128}
use Rattle.std.proofs.lemmas.Int.{to_z-of_z}
use Rattle.ra_moves.specs.Judging.{rise_test, verdict_of}
use Rattle.ra_moves.specs.Settling.{settled_cost}
use Rattle.ra_moves.proofs.Settled.{settled_broken, settled_whole}
use Rattle.ra_moves.proofs.verdicts.settle.Goals as goal

pub returns-in-Some : goal.returns-in-Some
returns-in-Some c = λ cost is. settled_broken _ _ _ _ c.in-Some.is

pub returns-in-None : goal.returns-in-None
returns-in-None c = λ cost is.
    let local = c.args.weighed.now.local in
    let fits : FitsSigned w128 local = search rules in
    let value : pos c.cost_after-cost.result ≡ settled_cost c.args.kept c.args.now c.args.after c.args.service_weight
    local = rw (to_z-of_z w128 local fits) at c.cost_after-cost.ensures.value in
    let both = value ∙ is in
    let same : c.cost_after-cost.result ≡ cost = cc in
    c.by_rise.ensures ∙ ap (λ n. verdict_of (rise_test c.args.kept n c.args.allowed) n) same
    ∙ settled_whole _ _ _ c.in-None.is
