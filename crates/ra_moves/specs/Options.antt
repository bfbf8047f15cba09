-- The options that the eight words x of a proposal name, and the one that is planned.
use Rattle.std.specs.Prelude.{ℕ, ◌+◌, ◌%◌, min, List, [], ◌∷◌, length, Option, Some, None, if◌then◌else◌, nat_lt, slice_index}
use Rattle.ra_base.specs.Searches.{least_place}
use Rattle.ra_base.specs.declared.ids.Machine.{Machine}
use Rattle.ra_base.specs.declared.causes.Drawing.{Drawing}
use Rattle.ra_base.specs.declared.causes.Drawing.TheVariants.{One, Two}
use Rattle.ra_model.specs.Numbers.{machine_count}
use Rattle.ra_model.specs.Assignments.{machine_at}
use Rattle.ra_model.specs.Situations.{Situation}
use Rattle.ra_moves.specs.declared.steps.MoveKind.{MoveKind}
use Rattle.ra_moves.specs.declared.steps.MoveKind.TheVariants.{Shift, Swap, Chain}
use Rattle.ra_moves.specs.declared.steps.Step.{Step}
use Rattle.ra_moves.specs.declared.verdicts.Verdict.{Verdict}
use Rattle.ra_moves.specs.declared.verdicts.Verdict.TheVariants.{Done, Refused}
use Rattle.ra_moves.specs.MoveSteps.{MoveSteps}
use Rattle.ra_moves.specs.Judging.{judge}

-- x0 mod 8 gives the kind: 0 to 4 a shift, 5 and 6 a swap, 7 a chain
unfoldable pub kind_of : List ℕ → MoveKind
kind_of x =
    let r = slice_index x 0 % 8 in if nat_lt r 5 then Shift
    else (if nat_lt r 7 then Swap else Chain)

-- how many options there are over m machines
unfoldable pub count_of : MoveKind → Drawing → ℕ → ℕ
count_of Shift One m = 4
count_of Shift Two m = min 64 m
count_of Swap d m = 4
count_of Chain d m = 1

unfoldable pub option_count : List ℕ → ℕ → Drawing → ℕ
option_count x m d = count_of (kind_of x) d m

-- the process that word j names: the word modulo the number of processes
unfoldable pub drawn : List Machine → List ℕ → ℕ → ℕ
drawn a x j = slice_index x j % length a

-- the machine of shift option i: x(2+i) mod M, or ((x2 mod M) + i) mod M
unfoldable pub target : Drawing → List ℕ → ℕ → ℕ → ℕ
target One x m i = slice_index x (2 + i) % m
target Two x m i = (slice_index x 2 % m + i) % m

-- process p leaves its machine of a for machine `to`
unfoldable pub leaving : List Machine → ℕ → ℕ → Step
leaving a p to =
    record {
      process = record { 0 = p };
      from = record { 0 = machine_at a p };
      to = record { 0 = to };
    }

-- process p goes to a machine
unfoldable pub shift_of : List Machine → ℕ → ℕ → MoveSteps
shift_of a p to = record { kind = Shift; steps = leaving a p to ∷ [] }

-- processes p and q exchange their machines, with the step of p first
unfoldable pub swap_of : List Machine → ℕ → ℕ → MoveSteps
swap_of a p q =
    record { kind = Swap; steps = leaving a p (machine_at a q) ∷ leaving a q (machine_at a p) ∷ [] }

-- process p goes to the machine of q, q to the machine of r, and r to a machine, in this order of steps
unfoldable pub chain_of : List Machine → ℕ → ℕ → ℕ → ℕ → MoveSteps
chain_of a p q r to =
    record {
      kind = Chain;
      steps = leaving a p (machine_at a q) ∷ leaving a q (machine_at a r) ∷ leaving a r to ∷ [];
    }

-- option i, by kind
unfoldable pub option_of : MoveKind → List Machine → List ℕ → ℕ → Drawing → ℕ → MoveSteps
option_of Shift a x m d i = shift_of a (drawn a x 1) (target d x m i)
option_of Swap a x m d i = swap_of a (drawn a x 1) (drawn a x (2 + i))
option_of Chain a x m d i =
    chain_of a (drawn a x 1) (drawn a x 2) (drawn a x 3) (slice_index x 4 % m)

-- option i of assignment a
unfoldable pub option_at : List Machine → List ℕ → ℕ → Drawing → ℕ → MoveSteps
option_at a x m d i = option_of (kind_of x) a x m d i

-- the cost of a move that is done
unfoldable pub done_cost : Verdict → Option ℕ
done_cost (Done cost) = Some cost
done_cost (Refused cause) = None

-- the cost of option k, if it is judged Done
unfoldable pub option_cost : Situation → List ℕ → Drawing → ℕ → ℕ → Option ℕ
option_cost st x d allowed k =
    done_cost (judge st (option_at st.here x (machine_count st.tables) d k).steps allowed)

-- the first option of least cost among those that are judged Done, and option 0 if there is none
unfoldable pub plan_place : Situation → List ℕ → Drawing → ℕ → ℕ
plan_place st x d allowed =
    least_place (option_count x (machine_count st.tables) d) (option_cost st x d allowed)

unfoldable pub plan_of : Situation → List ℕ → Drawing → ℕ → MoveSteps
plan_of st x d allowed =
    option_at st.here x (machine_count st.tables) d (plan_place st x d allowed)
