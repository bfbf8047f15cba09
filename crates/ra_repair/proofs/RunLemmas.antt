-- One try after another.
use Rattle.std.proofs.Common.{⊎_elim, ◌≡◌, ◌≢◌, ◌⊎◌, inl, inr, ℕ, zero, suc, ◌+◌, ◌-◌, ◌<◌, ◌≤◌, Bool, true, cond}
use Rattle.std.proofs.Common.{List}
use Rattle.std.proofs.Common.{[], ◌∷◌, ◌++◌, length, Option, Some, None, sym, refl, ap, ◌∙◌, add-one, arith}
use Rattle.std.proofs.Common.{eq-eqb, ne_eqb, length-append}
use Rattle.std.specs.Prelude.{unwrap_or}
use Rattle.std.proofs.lemmas.Bool.{cases_eq, cond-false}
use Rattle.ra_base.specs.Searches.{or_else, least}
use Rattle.ra_base.specs.declared.causes.Cause.{Cause}
use Rattle.ra_base.specs.declared.causes.Drawing.TheVariants.{Two}
use Rattle.ra_base.specs.declared.ids.Machine.{Machine}
use Rattle.ra_base.proofs.Least.{least_means}
use Rattle.ra_draws.specs.Drawn.{Drawn}
use Rattle.ra_draws.specs.declared.sources.Lot.{Lot}
use Rattle.ra_draws.specs.Lots.{lot_at, IsFitting, IsLots}
use Rattle.ra_draws.specs.Words.{proposal_words}
use Rattle.ra_model.specs.declared.raw.Tables.{Tables}
use Rattle.ra_model.specs.Numbers.{machine_count}
use Rattle.ra_model.specs.Limits.{WellFormed}
use Rattle.ra_model.specs.Assignments.{IsAssignment}
use Rattle.ra_moves.specs.MoveSteps.{MoveSteps}
use Rattle.ra_moves.specs.Judging.{repeat_of, same_of}
use Rattle.ra_moves.specs.Replacing.{applied}
use Rattle.ra_moves.specs.Steps.{from_in, to_in, StandsAt}
use Rattle.ra_moves.proofs.OptionLemmas.{option_stands, option_reaches}
use Rattle.ra_repair.specs.declared.tries.Try.{Try}
use Rattle.ra_repair.specs.Following.{AreSteps}
use Rattle.ra_repair.specs.Laws.{UsesItsBudget}
use Rattle.ra_repair.specs.Penalty.{penalty}
use Rattle.ra_repair.specs.Runs.{unless, try_option, penalty_by, option_penalty, least_after, chosen}
use Rattle.ra_repair.specs.Runs.{is_taken, try_with, try_at, after_try, Repaired, next_try, repaired_by, repair_run}
use Rattle.ra_repair.proofs.MoveLemmas.{steps_from}

-- a lot that would be taken alone
pub alone_fits : (lot : Lot) → IsLots (lot ∷ []) → IsFitting lot
unfolding lot_at
alone_fits lot lots = lots.each 0 (omega arith)

-- what isn't left out has no flaw
no_flaw : (flaw : Option Cause) (n v : ℕ) → unless flaw n ≡ Some v → flaw ≡ None
unfolding unless
no_flaw None n v is = refl
no_flaw (Some cause) n v is = absurd (cc)

-- a move is taken only if an option is left
taken_left : (before : ℕ) (after : Option ℕ) → is_taken before after ≡ true → (v : ℕ) × (after ≡ Some v)
unfolding is_taken
taken_left before None is = absurd (cc)
taken_left before (Some v) is = (v, refl)

pub taken_try : (a b c : List Machine) (t : Try) → b ≡ a → c ≡ cond t.taken (applied b t.mv.steps) b → c ≡ after_try a t
unfolding after_try
taken_try a b c t same is = is ∙ ap (λ xs. cond t.taken (applied xs t.mv.steps) xs) same

-- the run

same_repaired : (r s : Repaired) → r.assignment ≡ s.assignment → r.tries ≡ s.tries → r ≡ s
same_repaired r s assignment tries =
    let first : List Machine → Repaired = λ x. record { assignment = x; tries = r.tries } in
    let second : List Try → Repaired = λ y. record { assignment = s.assignment; tries = y } in
    ap first assignment ∙ ap second tries

suc_sum : (k d : ℕ) → k + suc d ≡ suc (k + d)
suc_sum k d = omega arith

-- the words that a call gives are those of the proposal
pub drawn_words : (drawn : Drawn) (lot : Lot) (k : ℕ) (x : List ℕ) → x ≡ proposal_words drawn.lot.source drawn.made →
    drawn.lot ≡ lot → drawn.made ≡ k → x ≡ proposal_words lot.source k
drawn_words drawn lot k x is lot_is made = grind arith

pub one_longer : (ts more : List Try) (t : Try) (n : ℕ) → more ≡ ts ++ t ∷ [] → length ts ≡ n → length more ≡ n + 1
one_longer ts more t n is long = grind (arith, length-append)

longer : (ts : List Try) (t : Try) (n : ℕ) → length ts ≡ n → length (ts ++ t ∷ []) ≡ suc n
longer ts t n is = grind (arith, length-append)

module _ (i : Tables) (a0 : List Machine) where
  module _ (a : List Machine) (x : List ℕ) where
    chosen_left : (v : ℕ) → least_after i a0 a x ≡ Some v →
        or_else (repeat_of (chosen i a0 a x).steps) (same_of (chosen i a0 a x).steps) ≡ None
    unfolding least_after chosen option_penalty penalty_by
    chosen_left v is = grind (arith, no_flaw, least_means)

    chosen_stands : WellFormed i → IsAssignment i a → StandsAt from_in (chosen i a0 a x).steps a
    unfolding chosen try_option
    chosen_stands limits fits =
        option_stands a x _ Two _
        (omega (arith, fits.one_each, limits.some_process)) (omega (arith, limits.some_machine))

    chosen_reaches : WellFormed i → IsAssignment i a → (j : ℕ) → j < length (chosen i a0 a x).steps →
        to_in (chosen i a0 a x).steps j < machine_count i
    unfolding chosen try_option
    chosen_reaches limits fits j within = grind (arith, option_reaches)

    -- if an option is left, the one that is chosen can be made
    chosen_steps : (v : ℕ) → WellFormed i → IsAssignment i a → least_after i a0 a x ≡ Some v →
        AreSteps i a (chosen i a0 a x).steps
    chosen_steps v limits fits is = steps_from i a (chosen i a0 a x).steps (chosen_stands limits fits)
        (chosen_reaches limits fits) (chosen_left v is)

  pub taken_steps : (a b : List Machine) (x : List ℕ) (before : ℕ) (after : Option ℕ) (mv : MoveSteps) → WellFormed i →
      IsAssignment i a → b ≡ a → after ≡ least_after i a0 a x → mv ≡ chosen i a0 a x → is_taken before after ≡ true →
      AreSteps i b mv.steps
  taken_steps a b x before after mv limits fits same after_is mv_is taken =
      let found = taken_left before after taken in
      rw (same, mv_is) (chosen_steps a x found.0 limits fits (sym after_is ∙ found.1))

  -- what is made of it is the try
  pub try_is : (a : List Machine) (x : List ℕ) (k before after : ℕ) (taken : Bool) (least : Option ℕ) (mv : MoveSteps) →
      mv ≡ chosen i a0 a x → least ≡ least_after i a0 a x → before ≡ penalty i a0 a → taken ≡ is_taken before least →
      after ≡ unwrap_or least before → (record {
        k = k;
        mv = mv;
        taken = taken;
        before = before;
        after = after;
      }) ≡ try_with i a0 a x k
  unfolding try_with
  try_is a x k before after taken least mv mv_is least_is before_is taken_is after_is =
      rw (after_is, taken_is, mv_is, least_is, before_is) refl

  pub repaired_none : (lot : Lot) (r : Repaired) → r.assignment ≡ a0 → r.tries ≡ [] → r ≡ repaired_by i a0 lot 0
  unfolding repaired_by
  repaired_none lot r assignment tries = grind (arith, same_repaired)

  module _ (lot : Lot) (k : ℕ) where
    -- once the penalty is 0 no try is made
    next_none : (r : Repaired) → penalty i a0 r.assignment ≡ 0 → next_try i a0 lot k r ≡ r
    unfolding next_try
    next_none r zeros = grind (arith, eq-eqb)

    -- until then one more
    next_one : (r : Repaired) → penalty i a0 r.assignment ≢ 0 → next_try i a0 lot k r ≡ (record {
      assignment = after_try r.assignment (try_at i a0 r.assignment lot k);
      tries = r.tries ++ try_at i a0 r.assignment lot k ∷ [];
    })
    unfolding next_try
    next_one r some =
        cond-false _ r _ (ne_eqb (penalty i a0 r.assignment) 0 some)

    pub repaired_suc : repaired_by i a0 lot (suc k) ≡ next_try i a0 lot k (repaired_by i a0 lot k)
    unfolding repaired_by
    repaired_suc = refl

  pub repaired_more : (b : List Machine) (lot : Lot) (k now : ℕ) (r : Repaired) (t : Try) (ts : List Try) →
      r ≡ repaired_by i a0 lot k → now ≡ penalty i a0 r.assignment → now ≢ 0 →
      t ≡ try_with i a0 r.assignment (proposal_words lot.source k) k → b ≡ after_try r.assignment t →
      ts ≡ r.tries ++ t ∷ [] → (record { assignment = b; tries = ts }) ≡ repaired_by i a0 lot (k + 1)
  unfolding try_at
  repaired_more b lot k now r t ts made now_is some is after pushed =
      same_repaired _ _ (after ∙ ap (after_try r.assignment) is) (pushed ∙ ap (λ u. r.tries ++ u ∷ []) is)
      ∙ sym (next_one lot k r (λ zeros. some (now_is ∙ zeros))) ∙ sym (ap (repaired_by i a0 lot) (add-one k)
      ∙ repaired_suc lot k ∙ ap (next_try i a0 lot k) (sym made))

  module _ (lot : Lot) (k : ℕ) where
    -- so the run ends there
    stays : (d : ℕ) → penalty i a0 (repaired_by i a0 lot k).assignment ≡ 0 →
        repaired_by i a0 lot (k + d) ≡ repaired_by i a0 lot k
    stays zero zeros = ap (repaired_by i a0 lot) (omega arith)
    stays (suc d) zeros =
        ap (repaired_by i a0 lot) (suc_sum k d) ∙ repaired_suc lot (k + d)
        ∙ ap (next_try i a0 lot (k + d)) (stays d zeros)
        ∙ next_none lot (k + d) _ zeros

    pub repaired_early : (now : ℕ) (r : Repaired) → k ≤ lot.budget → r ≡ repaired_by i a0 lot k →
        now ≡ penalty i a0 r.assignment → now ≡ 0 → r ≡ repair_run i a0 lot
    unfolding repair_run
    repaired_early now r few made now_is zeros =
        let rest : k + (lot.budget - k) ≡ lot.budget = omega arith in
        made ∙ sym
        (stays (lot.budget - k) (ap (λ (s : Repaired). penalty i a0 s.assignment) (sym made) ∙ sym now_is ∙ zeros))
        ∙ ap (repaired_by i a0 lot) rest

  module _ (lot : Lot) where
    pub repaired_all : (k : ℕ) (r : Repaired) → k ≡ lot.budget → r ≡ repaired_by i a0 lot k → r ≡ repair_run i a0 lot
    unfolding repair_run
    repaired_all k r all made = made ∙ ap (repaired_by i a0 lot) all

    none_tried : length (repaired_by i a0 lot 0).tries ≡ 0
    unfolding repaired_by
    none_tried = refl

    -- until the penalty is 0 each number has its try
    all_tried : (n : ℕ) → (penalty i a0 (repaired_by i a0 lot n).assignment ≡
        0) ⊎ (length (repaired_by i a0 lot n).tries ≡ n)
    all_tried zero = inr (none_tried)
    all_tried (suc n) = ⊎_elim
        (λ (zeros : penalty i a0 (repaired_by i a0 lot n).assignment ≡ 0).
        let same = repaired_suc lot n ∙ next_none lot n (repaired_by i a0 lot n) zeros in
        inl (ap (λ (s : Repaired). penalty i a0 s.assignment) same ∙ zeros))
        (λ (some : penalty i a0 (repaired_by i a0 lot n).assignment ≢ 0).
        let more = repaired_suc lot n ∙ next_one lot n (repaired_by i a0 lot n) some in
        ⊎_elim
        (λ (zeros : penalty i a0 (repaired_by i a0 lot n).assignment ≡ 0). absurd (some zeros))
        (λ (tried : length (repaired_by i a0 lot n).tries ≡ n).
        inr (ap (λ (s : Repaired). length s.tries) more ∙ longer (repaired_by i a0 lot n).tries _ n tried))
        (all_tried n))
        (cases_eq (penalty i a0 (repaired_by i a0 lot n).assignment) 0)

pub uses_its_budget : UsesItsBudget
unfolding repair_run
uses_its_budget i a0 lot some = grind (arith, all_tried)
