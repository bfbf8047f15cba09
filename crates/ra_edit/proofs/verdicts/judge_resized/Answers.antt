-- A process that requires something else: what it touches, or what it costs.
use Rattle.std.proofs.Common.{◌≡◌, ◌∙◌, refl, sym, arith}
use Rattle.ra_model.specs.Assignments.{machine_at}
use Rattle.ra_edit.specs.Drafts.{Drafted}
use Rattle.ra_edit.specs.Kinds.{HasOther, Asks}
use Rattle.ra_edit.specs.Loads.{IsUseRow, draft_in}
use Rattle.ra_edit.specs.Replies.{broken_in}
use Rattle.ra_model.proofs.BoundLemmas.{use_under, transient_under}
use Rattle.ra_edit.proofs.LoadLaws.{row_small, row_enough, row_other, use_step, transient_step, there_first, there_now}
use Rattle.ra_edit.proofs.VerdictLaws.{has_gone, parts_told, other_broken, other_parts, here_at, home_at}
use Rattle.ra_edit.proofs.SoundLaws.{initial_read, current_read}
use Rattle.ra_edit.proofs.verdicts.judge_resized.Goals as goal
use Rattle.ra_edit.proofs.verdicts.judge_resized.Goals.{After-resized_breaks}

pub machine_of-home-requires : goal.machine_of-home-requires
machine_of-home-requires c = initial_read c.requires.held.kept.sound c.requires.process

pub machine_of-here-requires : goal.machine_of-here-requires
machine_of-here-requires c = current_read c.requires.held.kept.sound c.requires.process

pub use_row-requires : goal.use_row-requires
use_row-requires c = record {
  machine = here_at c.requires.held.kept.sound c.requires.process c.machine_of-here.ensures;
  grid = c.requires.held.loads_are.used_grid;
}

pub row_changed-requires : goal.row_changed-requires
row_changed-requires c =
    let is = c.use_row.ensures.row (draft_in c.args.kept.now) refl c.requires.held.loads_are in
    record {
      less = c.requirements_of-was.ensures.one_each ∙ sym c.use_row.ensures.one_each;
      more = c.requires.asked ∙ sym c.use_row.ensures.one_each;
      each = λ r w. (
        row_enough (use_step (has_gone c.args.p.0 c.requires.held.kept.sound c.requires.process).fewer
            (sym c.machine_of-here.ensures)) is c.requirements_of-was.ensures r w,
        row_small is (λ q. use_under _ _ _ q c.requires.held.kept.sound.well_formed c.small.ensures) r w,
      );
    }

pub transient_row-requires : goal.transient_row-requires
transient_row-requires c = record {
  machine = home_at c.requires.held.kept.sound c.requires.process c.machine_of-home.ensures;
  grid = c.requires.held.loads_are.between_grid;
}

pub row_changed-requires-2 : goal.row_changed-requires-2
row_changed-requires-2 c =
    let is = c.transient_row.ensures.row (draft_in c.args.kept.now) refl c.requires.held.loads_are in
    record {
      less = c.requirements_of-was.ensures.one_each ∙ sym c.transient_row.ensures.one_each;
      more = c.requires.asked ∙ sym c.transient_row.ensures.one_each;
      each = λ r w. (
        row_enough (transient_step _ (has_gone c.args.p.0 c.requires.held.kept.sound c.requires.process).fewer
            (there_first (draft_in c.args.kept.now) _ c.machine_of-home.ensures)) is c.requirements_of-was.ensures r w,
        row_small is (λ q. transient_under _ _ _ _ q c.requires.held.kept.sound.well_formed c.small.ensures) r w,
      );
    }

pub transient_row-requires-2 : goal.transient_row-requires-2
transient_row-requires-2 c = record {
  machine = here_at c.requires.held.kept.sound c.requires.process c.machine_of-here.ensures;
  grid = c.requires.held.loads_are.between_grid;
}

pub row_changed-requires-3 : goal.row_changed-requires-3
row_changed-requires-3 c =
    let is = c.transient_row-2.ensures.row (draft_in c.args.kept.now) refl c.requires.held.loads_are in
    record {
      less = c.requirements_of-was.ensures.one_each ∙ sym c.transient_row-2.ensures.one_each;
      more = c.requires.asked ∙ sym c.transient_row-2.ensures.one_each;
      each = λ r w. (
        row_enough (transient_step _ (has_gone c.args.p.0 c.requires.held.kept.sound c.requires.process).fewer
            (there_now (draft_in c.args.kept.now) _ c.machine_of-here.ensures)) is c.requirements_of-was.ensures r w,
        row_small is (λ q. transient_under _ _ _ _ q c.requires.held.kept.sound.well_formed c.small.ensures) r w,
      );
    }

pub resized_breaks-requires : goal.resized_breaks-requires
resized_breaks-requires c = record {
  home = home_at c.requires.held.kept.sound c.requires.process c.machine_of-home.ensures;
  here = here_at c.requires.held.kept.sound c.requires.process c.machine_of-here.ensures;
  used = rw c.as_slice.ensures (c.in_ok-used.ensures.one_each ∙ c.use_row.ensures.one_each);
  at_home = rw c.as_slice-2.ensures (c.in_ok-at_home.ensures.one_each ∙ c.transient_row.ensures.one_each);
  at_here = rw c.as_slice-3.ensures (c.in_ok-at_here.ensures.one_each ∙ c.transient_row-2.ensures.one_each);
}

-- the row of its machine after the edit, and what is broken then
used_row : (c : After-resized_breaks) → (e : Drafted) → HasOther (draft_in c.args.kept.now) e c.args.p.0 →
    Asks e c.args.p.0 c.args.asked.now → IsUseRow e c.machine_of-here.result.0 c.as_slice.result.now
used_row c e other asks =
    let here : c.machine_of-here.result.0 ≡ machine_at e.current c.args.p.0 =
    rw other.current c.machine_of-here.ensures in
    rw c.as_slice.ensures (row_other (use_step other.before (sym c.machine_of-here.ensures))
    (use_step other.after (sym here)) (c.use_row.ensures.row _ refl c.requires.held.loads_are)
    c.requirements_of-was.ensures asks c.in_ok-used.ensures.one_each c.in_ok-used.ensures.each)

broken_then : (c : After-resized_breaks) → (e : Drafted) → HasOther (draft_in c.args.kept.now) e c.args.p.0 →
    Asks e c.args.p.0 c.args.asked.now → broken_in e ≡ c.resized_breaks.result
broken_then c e other asks =
    let d = draft_in c.args.kept.now in
    let home = c.machine_of-home.ensures in
    let here = c.machine_of-here.ensures in
    let home_e : c.machine_of-home.result.0 ≡ machine_at e.initial c.args.p.0 = rw other.initial home in
    let here_e : c.machine_of-here.result.0 ≡ machine_at e.current c.args.p.0 = rw other.current here in
    let at_home = row_other (transient_step _ other.before (there_first d _ home)) (transient_step _ other.after
    (there_first e _ home_e)) (c.transient_row.ensures.row d refl c.requires.held.loads_are)
    c.requirements_of-was.ensures asks c.in_ok-at_home.ensures.one_each c.in_ok-at_home.ensures.each in
    let at_here = row_other (transient_step _ other.before (there_now d _ here)) (transient_step _ other.after
    (there_now e _ here_e)) (c.transient_row-2.ensures.row d refl c.requires.held.loads_are)
    c.requirements_of-was.ensures asks c.in_ok-at_here.ensures.one_each c.in_ok-at_here.ensures.each in
    other_broken c.requires.held.kept other home here
    ∙ sym (c.resized_breaks.ensures e (other.after.origin ∙ sym other.before.origin)
    (used_row c e other asks)
    (rw c.as_slice-2.ensures at_home) (rw c.as_slice-3.ensures at_here))

pub returns-in-Some : goal.returns-in-Some
returns-in-Some c = λ e other asks. broken_then (goal.at.returns-in-Some c).After-resized_breaks e other asks
    ∙ c.in-Some.is

pub costs_with-costs-requires : goal.costs_with-costs-requires
costs_with-costs-requires c = record {
  kept = c.requires.held.kept;
  loads = c.requires.held.loads_are;
  machine = here_at c.requires.held.kept.sound c.requires.process c.machine_of-here.ensures;
  one_each = rw c.as_slice-4.ensures (c.in_ok-used.ensures.one_each ∙ c.use_row.ensures.one_each);
}

pub summed-cost-requires : goal.summed-cost-requires
summed-cost-requires c =
    let has = parts_told c.requires.held.kept c.small.ensures in
    record {
      load_small = c.costs_with-costs.ensures.load_small;
      balance_small = c.costs_with-costs.ensures.balance_small;
      process_small = omega (arith, has.process_small);
      service_small = omega (arith, has.service_small);
      machine_small = omega (arith, has.machine_small);
    }

pub returns : goal.returns
returns c = λ e other asks.
    let here = c.machine_of-here.ensures in
    let at = (goal.at.returns c).After-resized_breaks in
    let costs = c.costs_with-costs.ensures.costs e (other.after.origin ∙ sym other.before.origin)
    (rw (c.as_slice-4.ensures, ← c.as_slice.ensures) (used_row at e other asks)) in (
      broken_then at e other asks ∙ c.in_default.is,
      c.summed-cost.ensures ∙ other_parts c.costs_with-costs.result.load c.costs_with-costs.result.balance
          c.args.kept.now.inst.now.well_formed
          (here_at c.requires.held.kept.sound c.requires.process here) here
          (parts_told c.requires.held.kept c.small.ensures) other costs.before_are costs.after_are costs.load
          costs.balance,
    )
