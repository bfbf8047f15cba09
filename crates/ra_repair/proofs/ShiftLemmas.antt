-- The options of words that ask for shifts, whatever machine the process is on.
use Rattle.std.proofs.Common.{◌≡◌, ℕ, ◌<◌, ◌≤◌, List, [], ◌∷◌, length, set, Option, refl, sym, ap, ◌∙◌}
use Rattle.std.proofs.Common.{arith}
use Rattle.std.proofs.lemmas.List.{set-set, set-get_or}
use Rattle.ra_base.specs.Searches.{or_else}
use Rattle.ra_base.specs.declared.causes.Drawing.{Drawing}
use Rattle.ra_base.specs.declared.causes.Drawing.TheVariants.{Two}
use Rattle.ra_base.specs.declared.ids.Machine.{Machine}
use Rattle.ra_model.specs.declared.raw.Tables.{Tables}
use Rattle.ra_model.specs.Assignments.{machine_at}
use Rattle.ra_moves.specs.MoveSteps.{MoveSteps}
use Rattle.ra_moves.specs.declared.steps.MoveKind.{MoveKind}
use Rattle.ra_moves.specs.declared.steps.MoveKind.TheVariants.{Shift, Swap, Chain}
use Rattle.ra_moves.specs.declared.steps.Step.{Step}
use Rattle.ra_moves.specs.Judging.{repeat_of, same_of}
use Rattle.ra_moves.specs.Options.{kind_of, count_of, option_count, drawn, target, leaving, shift_of, swap_of, chain_of}
use Rattle.ra_moves.specs.Options.{option_of, option_at}
use Rattle.ra_moves.specs.Replacing.{after_steps, applied}
use Rattle.ra_moves.specs.Steps.{step_at, process_in}
use Rattle.ra_repair.specs.Penalty.{penalty}
use Rattle.ra_repair.specs.Runs.{unless, try_option, penalty_by, option_penalty}
use Rattle.ra_repair.specs.Shifting.{AskForShifts}

-- the kind of an option is that of the words

of_kind : (kind : MoveKind) (a : List Machine) (x : List ℕ) (m : ℕ) (d : Drawing) (k : ℕ) →
    (option_of kind a x m d k).kind ≡ kind
unfolding option_of shift_of swap_of chain_of
of_kind Shift a x m d k = refl
of_kind Swap a x m d k = refl
of_kind Chain a x m d k = refl

module _ (a : List Machine) (x : List ℕ) (m : ℕ) (d : Drawing) (k : ℕ) where
  pub kind_is : (mv : MoveSteps) → mv ≡ option_at a x m d k → mv.kind ≡ Shift → kind_of x ≡ Shift
  unfolding option_at
  kind_is mv is kind = grind (arith, of_kind)

  -- an option of words that ask for shifts has one step

  shift_at : kind_of x ≡ Shift → option_at a x m d k ≡ shift_of a (drawn a x 1) (target d x m k)
  unfolding option_at option_of
  shift_at kind = ap (λ (v : MoveKind). option_of v a x m d k) kind

  pub one_step : (mv : MoveSteps) → kind_of x ≡ Shift → mv ≡ option_at a x m d k → length mv.steps ≡ 1
  unfolding shift_of
  one_step mv kind is = grind (arith, shift_at)

  module _ (mv : MoveSteps) (s : Step) (kind : kind_of x ≡ Shift) (is : mv ≡ option_at a x m d k)
      (s_is : s ≡ step_at mv.steps 0) where
    step_is : s ≡ leaving a (drawn a x 1) (target d x m k)
    unfolding shift_of step_at
    step_is = grind (arith, shift_at)

    pub goes_to : s.to.0 ≡ target d x m k
    unfolding leaving
    goes_to = ap (λ (t : Step). t.to.0) (step_is)

  -- and its step says which process is asked for
  pub asks_from : (mv : MoveSteps) (s : Step) → mv ≡ option_at a x m d k → mv.kind ≡ Shift → s ≡ step_at mv.steps 0 →
      AskForShifts x a s.process.0 s.from.0
  unfolding leaving
  asks_from mv s is kind s_is =
      let shifts = kind_is mv is kind in
      let same = step_is mv s shifts is s_is in
      record {
        kind = shifts;
        process = sym (ap (λ (t : Step). t.process.0) same);
        at_home = ap (machine_at a) (ap (λ (t : Step). t.process.0) same) ∙ sym (ap (λ (t : Step). t.from.0) same);
      }

-- a step of that process from its home to the machine of option k is that option
pub shift_is : (a : List Machine) (x : List ℕ) (m k : ℕ) (s : Step) (mv : MoveSteps) →
    AskForShifts x a s.process.0 s.from.0 → s.to.0 ≡ target Two x m k → mv ≡ (record { kind = Shift; steps = s ∷ [] }) →
    mv ≡ option_at a x m Two k
unfolding shift_of leaving
shift_is a x m k s mv asks to_is is = grind (arith, shift_at)

-- what a move of one step makes
one_applied : (a : List Machine) (s : Step) (mv : MoveSteps) → mv ≡ (record { kind = Shift; steps = s ∷ [] }) →
    set a s.process.0 s.to ≡ applied a mv.steps
unfolding applied after_steps process_in step_at
one_applied a s mv is = ap (λ (v : MoveSteps). applied a v.steps) (sym is)

-- the penalty after option k, if the process is on its machine
pub shift_penalty : (i : Tables) (a0 a b : List Machine) (x : List ℕ) (k : ℕ) (s : Step) (mv : MoveSteps) (now : ℕ)
    (after : Option ℕ) → mv ≡ try_option i a x k → mv ≡ (record { kind = Shift; steps = s ∷ [] }) →
    b ≡ set a s.process.0 s.to → now ≡ penalty i a0 b →
    after ≡ unless (or_else (repeat_of mv.steps) (same_of mv.steps)) now → after ≡ option_penalty i a0 a x k
unfolding option_penalty penalty_by
shift_penalty i a0 a b x k s mv now after option is b_is now_is after_is = grind (arith, one_applied)

-- a process that is put where it is
pub stays : (a : List Machine) (p : ℕ) (home : Machine) → machine_at a p ≡ home.0 → set a p home ≡ a
unfolding machine_at
stays a p home at =
    let as_machine : ℕ → Machine = λ n. record { 0 = n } in
    ap (set a p) (ap as_machine (sym at)) ∙ set-get_or a p (record { 0 = 0 })

-- a process that is put on another machine and then home
pub back_home : (a b : List Machine) (p : ℕ) (to home : Machine) → b ≡ set a p to → set b p home ≡ set a p home
back_home a b p to home is = grind (arith, set-set)

-- the process that is asked for is one of the processes
pub asked_known : (x : List ℕ) (a : List Machine) (p home : ℕ) → AskForShifts x a p home → 1 ≤ length a → p < length a
unfolding drawn
asked_known x a p home asks some = omega (arith, asks.process)

-- the machine of an option exists
pub target_there : (x : List ℕ) (m k : ℕ) → 1 ≤ m → target Two x m k < m
unfolding target
target_there x m k some = omega arith

-- words name an option, whatever they ask for
count_some : (kind : MoveKind) (m : ℕ) → 1 ≤ m → 0 < count_of kind Two m
unfolding count_of
count_some Shift m some = omega arith
count_some Swap m some = omega arith
count_some Chain m some = omega arith

pub option_some : (x : List ℕ) (m : ℕ) → 1 ≤ m → 0 < option_count x m Two
unfolding option_count
option_some x m some = count_some _ m some
