-- The descent begins at the best of three lists: where the lead stands, the best one so far, and the last one.
use Rattle.std.proofs.Common.{◌≡◌, arith, ap, ◌∙◌, sym, subst, List}
use Rattle.ra_base.specs.declared.ids.Machine.{Machine}
use Rattle.ra_descent.specs.Optimal.{NoShiftCheaper}
use Rattle.ra_model.specs.Costs.{objective}
use Rattle.ra_model.specs.Situations.{Situation, cost_at}
use Rattle.ra_search.specs.Kept.{IsKept, kept_at}
use Rattle.ra_search.proofs.FoundLemmas.{found, kept_from, kept_cost}
use Rattle.ra_search.proofs.ReachLemmas.{reach_on}
use Rattle.ra_search.proofs.hunt.Hunt.ended.Goals as goal

pub returns : goal.returns
returns g c = λ from low.
    let st : Situation = c.args.self.lead.world in
    let end : Situation = c.descend-moves.new.world in
    let best = c.keep.new.self in
    let last = c.args.self.last in
    let better : Situation = c.stand_at_better-is_best.new.self.world in
    let below : Situation = c.stand_at_better-is_last.new.self.world in
    let settled : Situation = c.settle.new.self.world in
    let to_better = c.stand_at_better-is_best.ensures in
    let to_below = c.stand_at_better-is_last.ensures in
    let to_end = c.descend-moves.ensures in
    let reach = reach_on st better end to_better.reaches (reach_on better below end to_below.reaches
    (reach_on below settled end c.settle.ensures.reaches to_end.same)) in
    let there : end ≡ kept_at st best = reach
    ∙ ap (λ (list : List Machine). let to : Situation = record st { here = list } in to) (sym c.keep.ensures.list) in
    let cost : cost_at end ≡ objective st.tables st.start best.list.items = ap (λ (s : Situation). cost_at s) there in
    let last_cost = kept_cost st last c.args.self.last_kept in
    found st best last _
    (kept_from st end.here best (subst (λ (s : Situation). IsKept s best) reach c.keep.ensures.kept))
    c.args.self.last_kept
    (subst (λ (s : Situation). NoShiftCheaper s) there to_end.optimal)
    (omega (arith, cost, last_cost, to_end.no_dearer, c.settle.ensures.no_dearer, to_below.below))
    from
    (omega (arith, cost, low, to_end.no_dearer, c.settle.ensures.no_dearer, to_below.no_dearer, to_better.below))
