-- The list that is found has the instance and the start of the world of the search.
use Rattle.std.proofs.Common.{◌≡◌, ◌≤◌, arith, ap, ◌∙◌, subst, List}
use Rattle.ra_base.specs.declared.ids.Machine.{Machine}
use Rattle.ra_model.specs.Costs.{objective}
use Rattle.ra_model.specs.Situations.{Situation, situation, parts_at}
use Rattle.ra_search.specs.Found.{IsFound}
use Rattle.ra_search.proofs.FoundLemmas.{begins_sound}
use Rattle.ra_weigh.proofs.CostLaws.{total_now}
use Rattle.ra_search.proofs.searching.search_counted.Goals as goal

pub returns : goal.returns
returns g c =
    let begun = c.args.beginning.now in
    let from : List Machine = begun.from.now.items in
    let at : Situation = situation begun.inst.now.tables begun.initial.now.items from in
    let hunt = c.in_ok-hunt.hunt in
    let end = c.run.new.hunt in
    let is : hunt.lead.world ≡ at = c.in_ok-hunt.ensures.world ∙ c.in_ok-world.ensures in
    let first : hunt.best.parts ≡ parts_at at =
    c.in_ok-hunt.ensures.best ∙ ap (λ (st : Situation). parts_at st) c.in_ok-world.ensures in
    let cost : hunt.best.parts.total ≡ objective at.tables at.start from = total_now (begins_sound _ _ _ begun.inst.now.well_formed begun.inst.now.small begun.initial_fits begun.from_fits begun.from_unbroken) first in
    let there : end.lead.world ≡ situation at.tables at.start end.lead.world.here =
    c.run.ensures.reaches
    ∙ ap (λ (st : Situation). let to : Situation = record st { here = end.lead.world.here } in to) is in
    subst
    (λ (st : Situation). end.best.parts.total ≤ objective st.tables st.start from →
    IsFound st.tables st.start from c.ended.result)
    there
    (c.ended.ensures from)
    (omega (arith, cost, c.run.ensures.no_dearer))
