-- The numbers after those of the resources don't count.
use Rattle.std.proofs.Common.{◌∙◌, ◌+◌, ℕ, ap₂, arith, slice_index}
use Rattle.std.proofs.lemmas.List.{get_or-take}
use Rattle.ra_model.proofs.MachineLemmas.{row_load_same, row_balance_same}
use Rattle.ra_shift.specs.Sharing.{row_cost_with}
use Rattle.ra_shift.proofs.costs.cost_of_row.Goals as goal

pub returns-clause-value : goal.returns-clause-value
unfolding row_cost_with
returns-clause-value c =
    let i = c.args.inst.now.tables in
    let row = c.args.row.now in
    ap₂ (λ x y. x + y)
    (c.row_load.ensures.value
    ∙ row_load_same i c.args.m.0 _ (slice_index row)
    (λ r within. get_or-take {A = ℕ} c.resources.result row r 0 (omega (arith, within, c.resources.ensures))))
    (c.row_balance.ensures.value ∙ row_balance_same i c.args.m.0 _ (slice_index row) c.args.inst.now.well_formed
    (λ r within. get_or-take {A = ℕ} c.resources.result row r 0 (omega (arith, within, c.resources.ensures))))
