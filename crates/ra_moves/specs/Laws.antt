-- What holds of every move, each law proved by a function of `ra_laws`.
use Rattle.std.specs.Prelude.{◌≡◌, ℕ, ◌<◌, List, length, Option, None, Bool, false}
use Rattle.ra_base.specs.Sums.{is_named}
use Rattle.ra_base.specs.declared.causes.Cause.{Cause}
use Rattle.ra_base.specs.declared.ids.Machine.{Machine}
use Rattle.ra_model.specs.declared.raw.Tables.{Tables}
use Rattle.ra_model.specs.Numbers.{machine_count, service_count, process_count, dependency_count, need_of}
use Rattle.ra_model.specs.Limits.{WellFormed}
use Rattle.ra_model.specs.Broken.{first_broken, row_capacity, row_transient, conflict_test, service_conflict, spread_test, pair_dependency, service_dependency, closed_test}
use Rattle.ra_model.specs.Situations.{situation}
use Rattle.ra_moves.specs.declared.steps.Step.{Step}
use Rattle.ra_moves.specs.Steps.{process_in}
use Rattle.ra_moves.specs.Replacing.{applied}
use Rattle.ra_moves.specs.Touched.{touches_machine, moves_service, guards_service}
use Rattle.ra_moves.specs.Moving.{IsMove, IsOffered}
use Rattle.ra_moves.specs.Weighing.{weighed_of}
use Rattle.ra_moves.specs.Alike.{HeldAlike}

-- a cause is found at a place below n only if a test of the place is true
pub record OnlyWhere (n : ℕ) (test : ℕ → Bool) (found : ℕ → Option Cause) : Type 0 where
  pub others : (k : ℕ) → k < n → test k ≡ false → found k ≡ None

-- what can be broken in assignment b, if a move by these steps made it from one that breaks nothing
pub record AreLocal (i : Tables) (a0 b : List Machine) (steps : List Step) : Type 0 where
  -- capacity and transient use, on a machine that a step leaves or enters
  pub capacity : OnlyWhere (machine_count i) (touches_machine steps) (row_capacity i b)
  pub transient : OnlyWhere (machine_count i) (touches_machine steps) (row_transient i a0 b)
  -- conflict, for a service that moves, on such a machine
  pub conflict : OnlyWhere (service_count i) (moves_service i steps) (service_conflict i b)
  pub conflict_at : (s : ℕ) → s < service_count i
      → OnlyWhere (machine_count i) (touches_machine steps) (conflict_test i b s)
  -- spread, for a service that moves
  pub spread : OnlyWhere (service_count i) (moves_service i steps) (spread_test i b)
  -- dependency, for a service that moves or is joined with one, and only if one of the two services moves
  pub dependency : OnlyWhere (service_count i) (guards_service i steps) (service_dependency i b)
  pub pair : (s k : ℕ) → s < service_count i → k < dependency_count i s
      → moves_service i steps s ≡ false → moves_service i steps (need_of i s k) ≡ false
      → pair_dependency i b s k ≡ None
  -- a closed machine, for a process that moves
  pub closed :
      OnlyWhere (process_count i) (is_named (length steps) (process_in steps)) (closed_test i a0 b)

-- a move of an assignment that breaks nothing breaks only what it touches
abbrev pub FailuresAreLocal : Type 0
FailuresAreLocal =
    (i : Tables) (a0 a : List Machine) (steps : List Step) → WellFormed i → IsMove i a steps
    → first_broken i a0 a ≡ None → AreLocal i a0 (applied a steps) steps

-- a move has the same weighing in two assignments that break nothing and are alike for the move
abbrev pub WeighingIsDetermined : Type 0
WeighingIsDetermined =
    (i : Tables) (a0 a b : List Machine) (steps : List Step) → WellFormed i → IsOffered i a steps
    → IsOffered i b steps → first_broken i a0 a ≡ None → first_broken i a0 b ≡ None
    → HeldAlike i steps a b → weighed_of (situation i a0 a) steps ≡ weighed_of (situation i a0 b) steps
