-- The states of a history, which is given as a list: what steps each of its entries makes.
use Rattle.std.specs.Prelude.{◌≡◌, ℕ, zero, suc, ◌<◌, ◌≤◌, List, length, Option, Some, None}
use Rattle.ra_base.specs.declared.ids.Machine.{Machine}
use Rattle.ra_model.specs.declared.raw.Tables.{Tables}
use Rattle.ra_model.specs.Numbers.{machine_count}
use Rattle.ra_model.specs.Assignments.{IsAssignment}
use Rattle.ra_model.specs.Broken.{first_broken}
use Rattle.ra_model.specs.Situations.{situation}
use Rattle.ra_moves.specs.declared.steps.Step.{Step}
use Rattle.ra_moves.specs.Steps.{from_in, to_in, StandsAt, Distinct}
use Rattle.ra_moves.specs.Replacing.{applied}
use Rattle.ra_moves.specs.Moving.{IsOffered}
use Rattle.ra_moves.specs.Weighing.{weighed_of}
use Rattle.ra_moves.specs.Alike.{HeldAlike}
use Rattle.ra_guards.specs.Versions.{made_at}

-- an assignment after the steps that are made, if there are any
unfoldable pub after_made : List Machine → Option (List Step) → List Machine
after_made a None = a
after_made a (Some steps) = applied a steps

-- the state at place n: a0 with the moves that the first n entries make applied in order
unfoldable pub made_state : List Machine → List (Option (List Step)) → ℕ → List Machine
made_state a0 made zero = a0
made_state a0 made (suc n) = after_made (made_state a0 made n) (made_at made n)

-- each state up to place n is an assignment that breaks nothing
pub record AreSound (i : Tables) (a0 : List Machine) (made : List (Option (List Step))) (n : ℕ) :
    Type 0 where
  pub fits : (j : ℕ) → j ≤ n → IsAssignment i (made_state a0 made j)
  pub unbroken : (j : ℕ) → j ≤ n → first_broken i a0 (made_state a0 made j) ≡ None

-- a move of an assignment names each process once, on the machine that its step leaves, and enters machines of the
-- instance
pub record StandsHere (i : Tables) (a : List Machine) (steps : List Step) : Type 0 where
  pub distinct : Distinct steps
  pub stands : StandsAt from_in steps a
  pub reaches : (j : ℕ) → j < length steps → to_in steps j < machine_count i

-- each move that the first n entries make is one of the state before it
pub record MadeStand (i : Tables) (a0 : List Machine) (made : List (Option (List Step))) (n : ℕ) :
    Type 0 where
  pub each : (j : ℕ) (steps : List Step) → j < n → made_at made j ≡ Some steps
      → StandsHere i (made_state a0 made j) steps

-- what was right for a move at place q is right at place n: its machines hold the same processes, and the processes of
-- its services have the same machines; it can be weighed; and its weighing is the same
pub record IsRightLater (i : Tables) (a0 : List Machine) (made : List (Option (List Step)))
    (q n : ℕ) (steps : List Step) : Type 0 where
  pub alike : HeldAlike i steps (made_state a0 made q) (made_state a0 made n)
  pub offered : IsOffered i (made_state a0 made n) steps
  pub weighed :
      weighed_of (situation i a0 (made_state a0 made q)) steps
      ≡ weighed_of (situation i a0 (made_state a0 made n)) steps
