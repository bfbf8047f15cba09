-- The options by kind: how many steps each has, and what is read for all of them.
use Rattle.std.proofs.Common.{◌≡◌, ◌≢◌, ℕ, zero, suc, ◌+◌, ◌*◌, ◌%◌, min, ◌<◌, ◌≤◌, arith, Bool, true, false, cond, []}
use Rattle.std.proofs.Common.{◌∷◌, List, length, Option, refl, sym, ap, ◌∙◌}
use Rattle.std.specs.Prelude.{slice_index}
use Rattle.ra_base.specs.Searches.{is_better, least, least_place}
use Rattle.ra_base.specs.declared.ids.Machine.{Machine}
use Rattle.ra_base.specs.declared.causes.Drawing.{Drawing}
use Rattle.ra_base.specs.declared.causes.Drawing.TheVariants.{One, Two}
use Rattle.ra_moves.specs.declared.steps.MoveKind.{MoveKind}
use Rattle.ra_moves.specs.declared.steps.MoveKind.TheVariants.{Shift, Swap, Chain}
use Rattle.ra_moves.specs.MoveSteps.{MoveSteps, step_count}
use Rattle.ra_moves.specs.Steps.{step_at}
use Rattle.ra_moves.specs.Options.{kind_of, count_of, option_count, drawn, target, leaving, shift_of, swap_of, chain_of}
use Rattle.ra_moves.specs.Options.{option_of, option_at}

kind_in : (k : MoveKind) (a : List Machine) (x : List ℕ) (m : ℕ) (d : Drawing) (i : ℕ) →
    (option_of k a x m d i).kind ≡ k
unfolding option_of shift_of swap_of chain_of
kind_in Shift a x m d i = refl
kind_in Swap a x m d i = refl
kind_in Chain a x m d i = refl

length_in : (k : MoveKind) (a : List Machine) (x : List ℕ) (m : ℕ) (d : Drawing) (i : ℕ) →
    length (option_of k a x m d i).steps ≡ step_count k
unfolding option_of shift_of swap_of chain_of step_count
length_in Shift a x m d i = refl
length_in Swap a x m d i = refl
length_in Chain a x m d i = refl

few_steps : (k : MoveKind) → step_count k ≤ 3
unfolding step_count
few_steps Shift = omega arith
few_steps Swap = omega arith
few_steps Chain = omega arith

-- what is read for all options of a swap or a chain but one, if two numbers are read for each step and each of r
-- resources
rest_reads_of : (k : MoveKind) (d : Drawing) (m r : ℕ) → k ≢ Shift → count_of k d m * (2 * (step_count k * r)) ≤ 12 * r
    + 2 * (step_count k * r)
unfolding count_of step_count
rest_reads_of Shift d m r other = absurd (other refl)
rest_reads_of Swap d m r other = omega arith
rest_reads_of Chain d m r other = omega arith

pub rest_reads : (x : List ℕ) (m : ℕ) (d : Drawing) (r : ℕ) → kind_of x ≢ Shift →
    option_count x m d * (2 * (step_count (kind_of x) * r)) ≤ 12 * r + 2 * (step_count (kind_of x) * r)
unfolding option_count
rest_reads x m d r other = rest_reads_of _ d m r other

some_options : (k : MoveKind) (d : Drawing) (m : ℕ) → 1 ≤ m → 0 < count_of k d m
unfolding count_of
some_options Shift One m some = omega arith
some_options Shift Two m some = omega arith
some_options Swap d m some = omega arith
some_options Chain d m some = omega arith

pub option_some : (x : List ℕ) (m : ℕ) (d : Drawing) → 1 ≤ m → 0 < option_count x m d
unfolding option_count
option_some x m d some = some_options _ d m some

module _ (a : List Machine) (x : List ℕ) where
  module _ (m : ℕ) (d : Drawing) (i : ℕ) where
    -- an option's kind
    pub option_kind : (option_at a x m d i).kind ≡ kind_of x
    unfolding option_at
    option_kind = kind_in _ a x m d i

    -- how many steps it has
    pub option_length : length (option_at a x m d i).steps ≡
        step_count (kind_of x)
    unfolding option_at
    option_length = length_in _ a x m d i

    pub option_few : length (option_at a x m d i).steps ≤ 3
    option_few = omega (arith, option_length, few_steps (kind_of x))

    -- a shift's options differ by their machines
    pub shift_steps : (p to : ℕ) → kind_of x ≡ Shift → p ≡ drawn a x 1 → to ≡ target d x m i →
        (option_at a x m d i).steps ≡ leaving a p to ∷ []
    unfolding option_at option_of shift_of
    shift_steps p to is process machine = rw (is, process, machine) refl

    first_drawn : kind_of x ≡ Shift → (step_at (option_at a x m d i).steps 0).process.0 ≡ drawn a x 1
    unfolding option_at option_of shift_of step_at leaving
    first_drawn is = rw is refl

    module _ (mv : MoveSteps) (option : mv ≡ option_at a x m d i) where
      pub shift_length : kind_of x ≡ Shift → length mv.steps ≡ 1
      unfolding step_count
      shift_length is =
          ap (λ (v : MoveSteps). length v.steps) option ∙ option_length ∙ ap step_count is

      -- a resolved shift, and its process
      pub is_shift : kind_of x ≡ Shift → mv.kind ≡ Shift
      is_shift is = ap (λ (v : MoveSteps). v.kind) option ∙ option_kind ∙ is

      pub asks_shift : mv.kind ≡ Shift → kind_of x ≡ Shift
      asks_shift is = sym (ap (λ (v : MoveSteps). v.kind) option ∙ option_kind) ∙ is

      pub process_drawn : mv.kind ≡ Shift → (step_at mv.steps 0).process.0 ≡ drawn a x 1
      process_drawn is = ap (λ (v : MoveSteps). (step_at v.steps 0).process.0) option
          ∙ first_drawn (asks_shift is)

    -- its one step
    pub alone : (p : ℕ) (mv : MoveSteps) → mv ≡ option_at a x m d i → kind_of x ≡ Shift → p ≡ drawn a x 1 →
        mv.steps ≡ leaving a p (step_at mv.steps 0).to.0 ∷ []
    unfolding option_at option_of shift_of step_at leaving
    alone p mv option is process = rw (option, is, process) refl

  pub drawn_below : (j : ℕ) → 0 < length a → drawn a x j < length a
  unfolding drawn
  drawn_below j some = omega arith

-- the first place of the least answer is below n, if there is a place
pub least_place_below : (n : ℕ) (f : ℕ → Option ℕ) → 0 < n → least_place n f < n
unfolding least_place
least_place_below zero f some = absurd (omega arith)
least_place_below (suc zero) f some = by_test (is_better (f 0) (least 0 f))
  where
    by_test : (better : Bool) → cond better 0 0 < 1
    by_test true = omega arith
    by_test false = omega arith
least_place_below (suc (suc n)) f some =
    by_test (is_better (f (suc n)) (least (suc n) f)) (least_place_below (suc n) f (omega arith))
  where
    by_test : (better : Bool) → least_place (suc n) f < suc n → cond better (suc n) (least_place (suc n) f) <
        suc (suc n)
    by_test true before = omega arith
    by_test false before = omega arith

module _ (x : List ℕ) (m : ℕ) where
  -- how many machines a window has
  pub window_count : kind_of x ≡ Shift → option_count x m Two ≡ min 64 m
  unfolding option_count count_of
  window_count is = rw is refl

  pub window_target : (n first k : ℕ) → m ≡ n → first ≡ slice_index x 2 % m → (first + k) % n ≡ target Two x m k
  unfolding target
  window_target n first k same is = rw (is, same) refl
