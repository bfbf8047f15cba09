-- What a world has for settling, and the two forms of a weighing.
use Rattle.std.proofs.Common.{◌≡◌, ℕ, ◌*◌, ◌<◌, ◌≤◌, List, [], ◌∷◌, length, Some, None, sym, ap, ◌∙◌, arith, mul-le-mul_right}
use Rattle.ra_base.specs.Searches.{or_else}
use Rattle.ra_base.specs.declared.causes.Cause.{Cause}
use Rattle.ra_base.specs.declared.costs.Parts.{Parts}
use Rattle.ra_base.specs.declared.ids.Machine.{Machine}
use Rattle.ra_base.proofs.Searches.{or_else_none, or_else_some, or_else_assoc, left_none}
use Rattle.ra_model.specs.declared.raw.Tables.{Tables}
use Rattle.ra_model.specs.Numbers.{resource_count, machine_count, process_count}
use Rattle.ra_model.specs.Assignments.{IsAssignment}
use Rattle.ra_model.specs.Costs.{parts_of}
use Rattle.ra_model.specs.Situations.{Situation, broken_at, parts_at}
use Rattle.ra_cells.specs.MovedCounts.{MovedCounts}
use Rattle.ra_cells.specs.Stands.{StandFor}
use Rattle.ra_cells.specs.declared.cells.Cells.{Cells}
use Rattle.ra_moves.specs.declared.steps.Step.{Step}
use Rattle.ra_moves.specs.declared.verdicts.Weighed.{Weighed}
use Rattle.ra_moves.specs.Judging.{repeat_of, same_of, broken_by}
use Rattle.ra_moves.specs.Options.{leaving}
use Rattle.ra_moves.specs.Steps.{process_in, step_at, to_in}
use Rattle.ra_moves.specs.Moving.{IsMove, IsOffered, MayMove}
use Rattle.ra_moves.specs.Weighing.{weighed_of}
use Rattle.ra_moves.specs.Replacing.{after_move}
use Rattle.ra_shift.specs.Finding.{IsFinding, cause_of}
use Rattle.ra_shift.specs.declared.finding.Finding.TheVariants.{Broken, Unbroken}
use Rattle.ra_shift.proofs.AllowLaws.{no_repeat}
use Rattle.ra_moves.specs.SettledNow.{AreMovedOf, IsSettling, HasSettling}
use Rattle.ra_plan.specs.Deciding.{IsShiftOf}
use Rattle.ra_plan.specs.Weighings.{IsWeighing}

module _ (st : Situation) where
  -- the counts that cells keep are the moved counts of their assignment
  pub counts_of_cells : (cells : Cells) (moved : MovedCounts) → StandFor cells st.tables st.start st.here →
      moved ≡ cells.greatest → AreMovedOf st moved
  counts_of_cells cells moved stand is = grind arith

  pub settling_of : (steps : List Step) {cells : Cells} (moved : MovedCounts) {parts : Parts} {weighed : Weighed} →
      IsAssignment st.tables st.start → IsAssignment st.tables st.here → StandFor cells st.tables st.start st.here →
      moved ≡ cells.greatest → parts ≡ parts_at st → IsOffered st.tables st.here steps → weighed ≡ weighed_of st steps →
      IsSettling st steps moved parts.total weighed
  unfolding parts_of
  settling_of steps {cells} moved start fits stand is costs offered weighing = grind (arith, counts_of_cells)

  pub has_settling : (cells : Cells) (moved : MovedCounts) (parts : Parts) (weighed : Weighed) →
      IsAssignment st.tables st.start → IsAssignment st.tables st.here → StandFor cells st.tables st.start st.here →
      moved ≡ cells.greatest → parts ≡ parts_at st → IsWeighing st weighed →
      HasSettling st.tables moved parts.total weighed
  has_settling cells moved parts weighed start fits stand is costs some = grind (arith, settling_of)

  module _ (steps : List Step) where
    -- a move that is refused for no cause names no process twice
    pub move_of : IsOffered st.tables st.here steps → broken_by st steps ≡ None → MayMove st steps
    unfolding broken_by
    move_of offered none = offered (left_none _ _ none)

    -- a move that is refused for itself, and one that isn't
    pub flawed : (cause : Cause) → Some cause ≡ or_else (repeat_of steps) (same_of steps) →
        broken_by st steps ≡ Some cause
    unfolding broken_by
    flawed cause is =
        sym (or_else_assoc (repeat_of steps) (same_of steps) (broken_at (after_move st steps)))
        ∙ ap (λ o. or_else o (broken_at (after_move st steps))) (sym is)
        ∙ or_else_some cause (broken_at (after_move st steps))

    pub flawless : None ≡ or_else (repeat_of steps) (same_of steps) →
        broken_by st steps ≡ broken_at (after_move st steps)
    unfolding broken_by
    flawless none = sym (or_else_assoc (repeat_of steps) (same_of steps) (broken_at (after_move st steps)))
        ∙ ap (λ o. or_else o (broken_at (after_move st steps))) (sym none)
        ∙ or_else_none (broken_at (after_move st steps))

module _ (i : Tables) (a : List Machine) where
  pub flawless_move : (steps : List Step) → IsOffered i a steps → None ≡ or_else (repeat_of steps) (same_of steps) →
      IsMove i a steps
  flawless_move steps offered none = offered (left_none _ _ (sym none))

  -- the requirements of a move are read for at most three processes
  pub reads_few : {steps : List Step} → IsMove i a steps → length steps * resource_count i ≤ 3 * resource_count i
  reads_few move = mul-le-mul_right (resource_count i) move.few

  -- the one step of a shift enters a machine of the instance
  pub one_reaches : (p to : ℕ) {steps : List Step} → IsOffered i a steps → steps ≡ leaving a p to ∷ [] →
      (step_at steps 0).to.0 < machine_count i
  unfolding to_in
  one_reaches p to offered one = grind (arith, no_repeat)

  pub processes_known : {steps : List Step} → IsMove i a steps → (j : ℕ) → j < length steps →
      process_in steps j < process_count i
  processes_known move j within = omega (arith, move.stands.known j within, move.fits.one_each)

-- what is so of a shift of a world is so of the move that is this shift
pub shift_same : {X : Type 0} (f : Situation → List Step → X) (w v : Situation) (p to : ℕ) (steps : List Step) → v ≡ w →
    IsShiftOf w p steps → (step_at steps 0).to.0 ≡ to → f v (leaving v.here p to ∷ []) ≡ f w steps
shift_same f w v p to steps same is to_is = grind arith

module _ (w : Situation) (p to : ℕ) where
  -- what is found
  pub cause_found : (cause : Cause) → IsFinding w p to (Broken cause) → cause_of w p to ≡ Some cause
  unfolding IsFinding
  cause_found cause found = found

  pub unbroken_found : IsFinding w p to Unbroken → cause_of w p to ≡ None
  unfolding IsFinding
  unbroken_found found = found
