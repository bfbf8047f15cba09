-- A process that has come: what it touches, or what it costs.
use Rattle.std.proofs.Common.{◌≡◌, ◌∙◌, length, refl, sym, arith}
use Rattle.ra_edit.specs.Drafts.{Drafted}
use Rattle.ra_edit.specs.Kinds.{HasCome, Asks}
use Rattle.ra_edit.specs.Loads.{IsUseRow, draft_in}
use Rattle.ra_edit.specs.Replies.{broken_in}
use Rattle.ra_model.proofs.BoundLemmas.{use_under, transient_under}
use Rattle.ra_edit.proofs.LoadLaws.{row_small, row_more, use_step, transient_step, there_now}
use Rattle.ra_edit.proofs.VerdictLaws.{parts_told, come_broken, come_parts, times_small}
use Rattle.ra_edit.proofs.verdicts.judge_added.Goals as goal
use Rattle.ra_edit.proofs.verdicts.judge_added.Goals.{After-added_breaks}

pub use_row-requires-clause-grid : goal.use_row-requires-clause-grid
use_row-requires-clause-grid c = c.requires.held.loads_are.used_grid

pub row_with-requires : goal.row_with-requires
row_with-requires c = record {
  width = c.requires.asked ∙ sym c.use_row.ensures.one_each;
  below = row_small (c.use_row.ensures.row (draft_in c.args.kept.now) refl c.requires.held.loads_are)
      (λ r. use_under _ _ c.args.m.0 r c.requires.held.kept.sound.well_formed c.small.ensures);
}

pub transient_row-requires-clause-grid : goal.transient_row-requires-clause-grid
transient_row-requires-clause-grid c = c.requires.held.loads_are.between_grid

pub row_with-requires-2 : goal.row_with-requires-2
row_with-requires-2 c = record {
  width = c.requires.asked ∙ sym c.transient_row.ensures.one_each;
  below = row_small (c.transient_row.ensures.row (draft_in c.args.kept.now) refl c.requires.held.loads_are)
      (λ r. transient_under _ _ _ c.args.m.0 r c.requires.held.kept.sound.well_formed c.small.ensures);
}

-- the row of its machine after the edit, and what is broken then
used_row : (c : After-added_breaks) → (e : Drafted) → HasCome (draft_in c.args.kept.now) e c.args.s.0 c.args.m.0 →
    Asks e (length c.args.kept.now.lists.rows.items) c.args.asked.now → IsUseRow e c.args.m.0 c.as_slice.result.now
used_row c e come asks = rw c.as_slice.ensures (row_more (use_step come.more come.here)
    (c.use_row.ensures.row _ refl c.requires.held.loads_are) asks c.in_ok-used.ensures.one_each
    c.in_ok-used.ensures.each)

broken_then : (c : After-added_breaks) → (e : Drafted) → HasCome (draft_in c.args.kept.now) e c.args.s.0 c.args.m.0 →
    Asks e (length c.args.kept.now.lists.rows.items) c.args.asked.now → broken_in e ≡ c.added_breaks.result
broken_then c e come asks =
    let d = draft_in c.args.kept.now in
    let between = row_more (transient_step c.args.m.0 come.more (there_now e _ (sym come.here)))
    (c.transient_row.ensures.row d refl c.requires.held.loads_are) asks c.in_ok-between.ensures.one_each
    c.in_ok-between.ensures.each in
    come_broken c.requires.held.kept come
    ∙ sym (c.added_breaks.ensures d e refl c.requires.held.members_are come (used_row c e come asks)
    (rw c.as_slice-2.ensures between))

pub returns-in-Some : goal.returns-in-Some
returns-in-Some c = λ e come asks. broken_then (goal.at.returns-in-Some c).After-added_breaks e come asks ∙ c.in-Some.is

pub overflow_add-kept : goal.overflow_add-kept
overflow_add-kept c = omega (
  arith,
  (parts_told c.requires.held.kept c.small.ensures).machine_small,
  times_small c.from.result c.from-2.result (omega (arith, c.from.ensures)) (omega (arith, c.from-2.ensures)),
)

pub summed-cost-requires : goal.summed-cost-requires
summed-cost-requires c =
    let has = parts_told c.requires.held.kept c.small.ensures in
    record {
      load_small = c.costs_with-costs.ensures.load_small;
      balance_small = c.costs_with-costs.ensures.balance_small;
      process_small = omega (arith, has.process_small);
      service_small = omega (arith, has.service_small);
      machine_small = omega (
        arith,
        has.machine_small,
        times_small c.from.result c.from-2.result (omega (arith, c.from.ensures)) (omega (arith, c.from-2.ensures)),
      );
    }

pub returns : goal.returns
returns c = λ e come asks.
    let at = (goal.at.returns c).After-added_breaks in
    let costs = c.costs_with-costs.ensures.costs e come.more.origin
    (rw (c.as_slice-3.ensures, ← c.as_slice.ensures) (used_row at e come asks)) in (
      broken_then at e come asks ∙ c.in_default.is,
      c.summed-cost.ensures ∙ come_parts c.costs_with-costs.result.load c.costs_with-costs.result.balance
          c.args.kept.now.inst.now.well_formed (parts_told c.requires.held.kept c.small.ensures) come costs.before_are
          costs.after_are costs.load costs.balance
          (cc (c.from.ensures, c.machine_weight.ensures, c.from-2.ensures, c.move_cost.ensures)),
    )
