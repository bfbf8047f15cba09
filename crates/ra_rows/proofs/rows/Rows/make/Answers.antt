-- The rows of the initial assignment.
use Rattle.std.proofs.Common.{◌∙◌, ℕ, ap, length}
use Rattle.ra_base.specs.Listed.{Listed}
use Rattle.ra_rows.proofs.StandLemmas.{stand_at_start, are_rows}
use Rattle.ra_rows.proofs.rows.Rows.make.Goals as goal

pub invariant_of-result : goal.invariant_of-result
invariant_of-result c =
    are_rows c.args.inst.now.tables c.args.a0.now.items c.args.a0.now.items c.sum_usage.new.table.items
    c.in_ok-between.between.items c.args.inst.now.well_formed c.args.inst.now.small c.requires
    c.sum_usage.ensures.grid (ap (λ (l : Listed ℕ). length l.items) c.in_ok-between.ensures ∙ c.sum_usage.ensures.grid)
    (stand_at_start c.args.inst.now.tables c.args.a0.now.items c.sum_usage.new.table.items c.in_ok-between.between.items
    c.requires c.sum_usage.ensures.sums (ap (λ (l : Listed ℕ). l.items) c.in_ok-between.ensures))

pub returns-clause-stands : goal.returns-clause-stands
returns-clause-stands c = stand_at_start c.args.inst.now.tables c.args.a0.now.items c.sum_usage.new.table.items
    c.in_ok-between.between.items c.requires c.sum_usage.ensures.sums
    (ap (λ (l : Listed ℕ). l.items) c.in_ok-between.ensures)
