-- The steps of a move that the judge doesn't refuse, one after another.
use Rattle.std.proofs.Common.{◌≡◌, ℕ, ◌+◌, ◌*◌, ◌<◌, ◌≤◌, List, length, None, add-one, suc-mul, arith}
use Rattle.std.proofs.Common.{mul-le-mul_right}
use Rattle.ra_base.specs.declared.ids.Machine.{Machine}
use Rattle.ra_base.proofs.Searches.{left_none, right_none}
use Rattle.ra_model.specs.declared.raw.Tables.{Tables}
use Rattle.ra_model.specs.Numbers.{machine_count}
use Rattle.ra_model.specs.Assignments.{IsAssignment}
use Rattle.ra_model.specs.Broken.{first_broken}
use Rattle.ra_model.specs.Situations.{Situation}
use Rattle.ra_moves.specs.declared.steps.Step.{Step}
use Rattle.ra_moves.specs.Steps.{step_at, from_in, to_in, StandsAt}
use Rattle.ra_moves.specs.Replacing.{after_steps, applied}
use Rattle.ra_moves.specs.Judging.{broken_by}
use Rattle.ra_moves.proofs.FollowLemmas.{apart_from_none, IsStep, step_needs}
use Rattle.ra_moves.proofs.Repeats.{distinct_from_none}
use Rattle.ra_world.specs.Following.{AreSteps}

pub steps_from : (st : Situation) (steps : List Step) → StandsAt from_in steps st.here →
    ((j : ℕ) → j < length steps → to_in steps j < machine_count st.tables) → broken_by st steps ≡ None →
    AreSteps st.tables st.here steps
unfolding broken_by
steps_from st steps stand reach none = grind (arith, distinct_from_none, left_none, apart_from_none, right_none)

-- no constraint is broken after the move
pub unbroken_from : (st : Situation) (b : List Machine) (steps : List Step) → broken_by st steps ≡ None →
    b ≡ applied st.here steps → first_broken st.tables st.start b ≡ None
unfolding broken_by
unbroken_from st b steps none is = grind (arith, right_none)

-- what one of the steps needs after those before it
pub step_of : {i : Tables} {a b : List Machine} {steps : List Step} (j : ℕ) {s : Step} → IsAssignment i a →
    AreSteps i a steps → j < length steps → b ≡ after_steps a steps j → s ≡ step_at steps j → IsStep i b s
step_of {i} {a} {b} {steps} j {s} fits are within made is =
    step_needs i a b steps j s fits are.stand are.distinct are.apart are.reach within made is

-- one more step reads one more row
pub counted_more : (base j width : ℕ) {now next : ℕ} → now ≡ base + j * width → next ≡ now + width →
    next ≡ base + (j + 1) * width
counted_more base j width is more = rw add-one (rw suc-mul (omega arith))

-- and three steps at most read three rows at most
pub counted_few : (base n width now : ℕ) → n ≤ 3 → now ≡ base + n * width → now ≤ base + 3 * width
counted_few base n width now few is = grind (arith, mul_few n width few)
  where
    mul_few : (n width : ℕ) → n ≤ 3 → n * width ≤ 3 * width
    mul_few n width few = mul-le-mul_right width few
