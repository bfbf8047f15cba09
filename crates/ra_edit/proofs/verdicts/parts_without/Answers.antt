-- What the process added to each part is gone.
use Rattle.std.proofs.Common.{◌∙◌, ◌<◌, refl, sym, arith}
use Rattle.ra_model.specs.Numbers.{machine_count}
use Rattle.ra_edit.specs.Loads.{draft_in}
use Rattle.ra_edit.proofs.LoadLaws.{row_less, row_enough, use_step}
use Rattle.ra_edit.proofs.VerdictLaws.{parts_told, has_gone, gone_process, gone_way, gone_parts, here_at}
use Rattle.ra_edit.proofs.verdicts.parts_without.Goals as goal

pub use_row-requires : goal.use_row-requires
use_row-requires c = record {
  machine = here_at c.requires.held.kept.sound c.requires.process c.requires.here;
  grid = c.requires.held.loads_are.used_grid;
}

pub row_without-requires : goal.row_without-requires
row_without-requires c = record {
  width = c.requirements_of.ensures.one_each ∙ sym c.use_row.ensures.one_each;
  enough =
      row_enough
      (use_step (has_gone c.args.p.0 c.requires.held.kept.sound c.requires.process).fewer (sym c.requires.here))
      (c.use_row.ensures.row (draft_in c.args.kept.now) refl c.requires.held.loads_are) c.requirements_of.ensures;
}

pub costs_with-costs-requires : goal.costs_with-costs-requires
costs_with-costs-requires c = record {
  kept = c.requires.held.kept;
  loads = c.requires.held.loads_are;
  machine = here_at c.requires.held.kept.sound c.requires.process c.requires.here;
  one_each = rw c.as_slice.ensures (c.in_ok-used.ensures.one_each ∙ c.use_row.ensures.one_each);
}

pub overflow_sub-process : goal.overflow_sub-process
overflow_sub-process c = omega (
  arith,
  (parts_told c.requires.held.kept c.small.ensures).process,
  c.moved_share.ensures,
  gone_process (has_gone c.args.p.0 c.requires.held.kept.sound c.requires.process),
)

pub overflow_sub-machine : goal.overflow_sub-machine
overflow_sub-machine c = omega (
  arith,
  (parts_told c.requires.held.kept c.small.ensures).machine,
  c.way_share.ensures,
  gone_way (has_gone c.args.p.0 c.requires.held.kept.sound c.requires.process),
)

pub summed-requires : goal.summed-requires
summed-requires c =
    let has = parts_told c.requires.held.kept c.small.ensures in
    record {
      load_small = c.costs_with-costs.ensures.load_small;
      balance_small = c.costs_with-costs.ensures.balance_small;
      process_small = omega (arith, has.process_small);
      service_small = omega (arith, c.service_cost_without-service.ensures.bound);
      machine_small = omega (arith, has.machine_small);
    }

pub returns : goal.returns
returns c = λ e gone.
    let within : c.args.here.0 < machine_count c.args.kept.now.inst.now.tables =
    here_at c.requires.held.kept.sound c.requires.process c.requires.here in
    let costs = c.costs_with-costs.ensures.costs e (sym gone.fewer.origin)
    (rw c.as_slice.ensures (row_less (use_step gone.fewer (sym c.requires.here))
    (c.use_row.ensures.row (draft_in c.args.kept.now) refl c.requires.held.loads_are) c.requirements_of.ensures
    c.in_ok-used.ensures.one_each c.in_ok-used.ensures.each)) in
    c.summed.ensures ∙ gone_parts c.costs_with-costs.result.load
    c.costs_with-costs.result.balance _ _
    c.args.kept.now.inst.now.well_formed (parts_told c.requires.held.kept
    c.small.ensures) gone c.requires.here within costs.before_are costs.after_are costs.load
    costs.balance (cc (c.moved_share.ensures))
    (c.service_cost_without-service.ensures.value e gone)
    (cc (c.way_share.ensures))
