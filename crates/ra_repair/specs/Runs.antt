-- The run of tries: at each try one move is chosen among the options that the words of the lot's next proposal name,
-- and is taken unless the penalty rises by it.
use Rattle.std.specs.Prelude.{ℕ, zero, suc, List, [], ◌∷◌, ◌++◌, Bool, false, if◌then◌else◌, ◌==◌, nat_le, Option, Some}
use Rattle.std.specs.Prelude.{None, unwrap_or}
use Rattle.ra_base.specs.Searches.{or_else, least, least_place}
use Rattle.ra_base.specs.declared.causes.Cause.{Cause}
use Rattle.ra_base.specs.declared.causes.Drawing.TheVariants.{Two}
use Rattle.ra_base.specs.declared.ids.Machine.{Machine}
use Rattle.ra_draws.specs.declared.sources.Lot.{Lot}
use Rattle.ra_draws.specs.Words.{proposal_words}
use Rattle.ra_model.specs.declared.raw.Tables.{Tables}
use Rattle.ra_model.specs.Numbers.{machine_count}
use Rattle.ra_moves.specs.MoveSteps.{MoveSteps}
use Rattle.ra_moves.specs.Judging.{repeat_of, same_of}
use Rattle.ra_moves.specs.Options.{option_count, option_at}
use Rattle.ra_moves.specs.Replacing.{applied}
use Rattle.ra_moves.specs.declared.steps.Step.{Step}
use Rattle.ra_repair.specs.declared.tries.Try.{Try}
use Rattle.ra_repair.specs.Penalty.{penalty}

-- a number, unless its option is left out for a cause
unfoldable pub unless : Option Cause → ℕ → Option ℕ
unless None n = Some n
unless (Some cause) n = None

-- how many options the words x name
unfoldable pub try_count : Tables → List ℕ → ℕ
try_count i x = option_count x (machine_count i) Two

-- option k of assignment a
unfoldable pub try_option : Tables → List Machine → List ℕ → ℕ → MoveSteps
try_option i a x k = option_at a x (machine_count i) Two k

-- the penalty after a move of assignment a, unless the judge calls the move Repeat or Same
unfoldable pub penalty_by : Tables → List Machine → List Machine → List Step → Option ℕ
penalty_by i a0 a steps =
    unless (or_else (repeat_of steps) (same_of steps)) (penalty i a0 (applied a steps))

-- the penalty after option k, unless the option is left out
unfoldable pub option_penalty : Tables → List Machine → List Machine → List ℕ → ℕ → Option ℕ
option_penalty i a0 a x k = penalty_by i a0 a (try_option i a x k).steps

-- the least penalty after an option, if one is left
unfoldable pub least_after : Tables → List Machine → List Machine → List ℕ → Option ℕ
least_after i a0 a x = least (try_count i x) (option_penalty i a0 a x)

-- the first option with the least penalty, and option 0 if none is left
unfoldable pub chosen : Tables → List Machine → List Machine → List ℕ → MoveSteps
chosen i a0 a x = try_option i a x (least_place (try_count i x) (option_penalty i a0 a x))

-- a move is taken if there is a penalty after it that is at most the penalty before
unfoldable pub is_taken : ℕ → Option ℕ → Bool
is_taken before None = false
is_taken before (Some after) = nat_le after before

-- try k at assignment a, with the words x: if no option is left, `after` is the penalty before
unfoldable pub try_with : Tables → List Machine → List Machine → List ℕ → ℕ → Try
try_with i a0 a x k =
    let before = penalty i a0 a in
    let least = least_after i a0 a x in
    record {
      k = k;
      mv = chosen i a0 a x;
      taken = is_taken before least;
      before = before;
      after = unwrap_or least before;
    }

-- try k at assignment a
unfoldable pub try_at : Tables → List Machine → List Machine → Lot → ℕ → Try
try_at i a0 a lot k = try_with i a0 a (proposal_words lot.source k) k

-- assignment a after a try: the move is applied if it was taken
unfoldable pub after_try : List Machine → Try → List Machine
after_try a t = if t.taken then applied a t.mv.steps else a

-- a list of tries, and the assignment after them
pub record Repaired : Type 0 where
  pub assignment : List Machine
  pub tries : List Try

-- one more try, or none if the penalty is 0
unfoldable pub next_try : Tables → List Machine → Lot → ℕ → Repaired → Repaired
next_try i a0 lot k r =
    let t = try_at i a0 r.assignment lot k in
    if penalty i a0 r.assignment == 0 then r
    else (record { assignment = after_try r.assignment t; tries = r.tries ++ t ∷ [] })

-- the run from a0 up to try k: tries 0, 1 .. are made in turn, until the penalty is 0
unfoldable pub repaired_by : Tables → List Machine → Lot → ℕ → Repaired
repaired_by i a0 lot zero = record { assignment = a0; tries = [] }
repaired_by i a0 lot (suc k) = next_try i a0 lot k (repaired_by i a0 lot k)

-- the run of a lot: it goes on while the penalty isn't 0 and k is below the budget
unfoldable pub repair_run : Tables → List Machine → Lot → Repaired
repair_run i a0 lot = repaired_by i a0 lot lot.budget
