-- A plan that is too dear is refused wherever its guards are untouched.
use Rattle.std.proofs.Common.{Bool, ◌⊎◌, ◌≡◌, ℕ, zero, suc, ◌+◌, ◌*◌, ◌<◌, ◌≤◌, ℤ, pos, negsuc, ◌<ℤ◌, ◌-ℤ◌, true, false, List, length, Option, Some, None, IfSome, sym, ap, ◌∙◌, subst, ⊎_elim, lt-ltb, arith}
use Rattle.std.specs.Bool.{Decides}
use Rattle.ra_model.specs.declared.raw.Tables.{Tables}
use Rattle.std.specs.Prelude.{unsigned_abs}
use Rattle.std.proofs.Math.Nat.{mul-le-mul_left}
use Rattle.std.proofs.lemmas.Bool.{cases_Bool}
use Rattle.std.proofs.lemmas.Int.{ints}
use Rattle.ra_base.specs.Searches.{or_else}
use Rattle.ra_base.specs.Sums.{is_named, greatest}
use Rattle.ra_base.specs.declared.causes.Cause.{Cause}
use Rattle.ra_base.specs.declared.causes.Cause.TheVariants.{Rise}
use Rattle.ra_base.specs.declared.costs.MovedCount.{MovedCount}
use Rattle.ra_base.specs.declared.ids.Machine.{Machine}
use Rattle.ra_base.proofs.Greatest.{greatest_at, greatest_least}
use Rattle.ra_base.proofs.Searches.{left_none}
use Rattle.ra_model.specs.Broken.{cause_if}
use Rattle.ra_model.specs.Costs.{service_cost, objective}
use Rattle.ra_model.specs.Numbers.{service_count, service_weight_of}
use Rattle.ra_model.specs.Services.{moved_of}
use Rattle.ra_model.specs.Situations.{cost_at, Situation, moved_at}
use Rattle.ra_moves.specs.declared.steps.Step.{Step}
use Rattle.ra_moves.specs.declared.verdicts.Plan.{Plan}
use Rattle.ra_moves.specs.declared.verdicts.Weighed.{Weighed}
use Rattle.ra_moves.specs.declared.verdicts.Verdict.TheVariants.{Refused}
use Rattle.ra_moves.specs.Judging.{repeat_of, broken_by, rise_test, verdict_of, judge}
use Rattle.ra_moves.specs.Moving.{IsMove}
use Rattle.ra_moves.specs.Replacing.{applied, after_move}
use Rattle.ra_moves.specs.Touched.{service_in, moves_service}
use Rattle.ra_moves.specs.Weighing.{local_cost, local_change, moved_count, services_moved, changed_count, weighed_of}
use Rattle.ra_moves.proofs.MovedServices.{services_few, services_placed, count_there}
use Rattle.ra_moves.proofs.MovedAfter.{moved_stays}
use Rattle.ra_moves.proofs.Settles.{whole_is}
use Rattle.ra_journal.specs.declared.entries.Entry.{Entry}
use Rattle.ra_journal.specs.Committing.{next_entry, newer_since, IsCommit}
use Rattle.ra_journal.specs.Entries.{allowed}
use Rattle.ra_journal.specs.Keeping.{IsStart}
use Rattle.ra_journal.specs.Legal.{Legal}
use Rattle.ra_journal.specs.Refusing.{FallsBy, IsDear, IsRefused}
use Rattle.ra_journal.specs.Openings.{Opening}
use Rattle.ra_journal.specs.States.{state_at}
use Rattle.ra_journal.proofs.EndLemmas.{planned_at_end, next_entry_is}
use Rattle.ra_journal.proofs.Refusals.{broken_of, broken_is_refused}

pub above : (change : ℤ) (most : ℕ) → pos 0 <ℤ change → most < unsigned_abs change → pos most <ℤ change
above (pos n) most positive more = omega (arith, ints)
above (negsuc n) most positive more = absurd (omega (arith, ints))

-- a move that breaks nothing is too dear if it is so at the least number by which no moved count falls more
pub is_dear_at_least : (i : Tables) (rise weight fall : ℕ) (weighed : Weighed) (r : Bool) →
    weighed.broken ≡ None → weight ≡ service_weight_of i → FallsBy weighed fall →
    ((n : ℕ) → FallsBy weighed n → fall ≤ n) →
    Decides r (pos (rise + weight * fall) <ℤ weighed.local) → Decides r (IsDear i rise weighed)
is_dear_at_least i rise weight fall weighed r none same falls least above = grind (arith, ints, mul-le-mul_left)

-- a count that falls by no more than m falls by no more than n
pub falls_less : (count : Option MovedCount) (m n : ℕ) → m ≤ n →
    IfSome count (λ c. c.before ≤ c.after + m) →
    IfSome count (λ c. c.before ≤ c.after + n)
falls_less (Some c) m n less falls = omega arith
falls_less None m n less falls = tt

-- the count at each place
falls_some : (count : Option MovedCount) (c : MovedCount) (n : ℕ) →
    IfSome count (λ d. d.before ≤ d.after + n) → count ≡ Some c → c.before ≤ c.after + n
falls_some count c n falls is = rw is at falls

falls_at : (st : Situation) (steps : List Step) (fall k : ℕ) (c : MovedCount) → k < 3 →
    IfSome (changed_count st steps 0) (λ d. d.before ≤ d.after + fall) →
    IfSome (changed_count st steps 1) (λ d. d.before ≤ d.after + fall) →
    IfSome (changed_count st steps 2) (λ d. d.before ≤ d.after + fall) →
    changed_count st steps k ≡ Some c → c.before ≤ c.after + fall
falls_at st steps fall zero c few first second third is =
    falls_some (changed_count st steps 0) c fall first is
falls_at st steps fall (suc zero) c few first second third is =
    falls_some (changed_count st steps 1) c fall second is
falls_at st steps fall (suc (suc zero)) c few first second third is =
    falls_some (changed_count st steps 2) c fall third is
falls_at st steps fall (suc (suc (suc k))) c few first second third is = absurd (omega arith)

module _ (st : Situation) (steps : List Step) (fall : ℕ) (move : IsMove st.tables st.here steps)
    (first : IfSome (changed_count st steps 0) (λ d. d.before ≤ d.after + fall))
    (second : IfSome (changed_count st steps 1) (λ d. d.before ≤ d.after + fall))
    (third : IfSome (changed_count st steps 2) (λ d. d.before ≤ d.after + fall)) where
  -- no service's moved count falls by more
  each_falls : (s : ℕ) → moved_at st s ≤ moved_at (after_move st steps) s + fall
  unfolding moves_service changed_count moved_count
  each_falls s = ⊎_elim
      (λ (moves : is_named (length steps) (service_in st.tables steps) s ≡ true).
      let placed = services_placed st.tables steps (length steps) s moves in
      falls_at st steps fall placed.place (moved_count st steps s)
      (omega (arith, placed.within, services_few st.tables steps (length steps), move.few)) first second third
      (count_there st steps (services_moved st.tables steps (length steps)) placed.place placed.within
      ∙ ap (λ (t : ℕ). Some (moved_count st steps t)) placed.here))
      (λ (stays : is_named (length steps) (service_in st.tables steps) s ≡ false).
      omega (arith, moved_stays st steps s move stays))
      (cases_Bool (is_named (length steps) (service_in st.tables steps) s))

  -- so neither does the greatest
  greatest_falls : greatest (service_count st.tables) (moved_at st) ≤
      greatest (service_count st.tables) (moved_at (after_move st steps)) + fall
  greatest_falls =
      greatest_least (service_count st.tables) (greatest (service_count st.tables)
      (moved_at (after_move st steps)) + fall)
      (moved_at st)
      (λ k lt. omega (
        arith,
        each_falls k,
        greatest_at (service_count st.tables) k (moved_at (after_move st steps)) lt,
      ))

-- the cost rises by more than is allowed
cost_rises : (st : Situation) (b : List Machine) (rise fall : ℕ) →
    pos (rise + service_weight_of st.tables * fall)
    <ℤ (pos (local_cost (record st { here = b })) -ℤ pos (local_cost st)) →
    greatest (service_count st.tables) (moved_at st) ≤
    greatest (service_count st.tables) (moved_of st.tables st.start b) + fall →
    cost_at st + rise < objective st.tables st.start b
unfolding objective local_cost service_cost
cost_rises st b rise fall more falls =
    omega (arith, ints, mul-le-mul_left (service_weight_of st.tables) falls)

judged_rise : (st : Situation) (steps : List Step) (rise : ℕ) →
    broken_by st steps ≡ None →
    cost_at st + rise < cost_at (after_move st steps) →
    Refused (Rise rise (cost_at st) (cost_at (after_move st steps))) ≡ judge st steps rise
unfolding judge or_else verdict_of rise_test cause_if
judged_rise st steps rise none more = grind (arith, lt-ltb)

-- a move of an assignment that is too dear
dear_rises : (st : Situation) (steps : List Step) (rise : ℕ) (weighed : Weighed) →
    broken_by st steps ≡ None → IsMove st.tables st.here steps →
    weighed ≡ weighed_of st steps → IsDear st.tables rise weighed →
    cost_at st + rise < cost_at (after_move st steps)
unfolding local_change
dear_rises st steps rise weighed none move is dear =
    let whole = is ∙ whole_is st steps none in
    let falls : FallsBy (record {
      broken = None;
      local = local_change st steps;
      first = changed_count st steps 0;
      second = changed_count st steps 1;
      third = changed_count st steps 2;
    }) dear.fall = subst (λ (x : Weighed). FallsBy x dear.fall) whole dear.falls in
    cost_rises st (applied st.here steps) rise dear.fall
    (subst (λ (x : Weighed). pos (rise + service_weight_of st.tables * dear.fall) <ℤ x.local) whole dear.above)
    (greatest_falls st steps dear.fall move falls.first falls.second falls.third)

pub dear_is_refused : (o : Opening) (h : List Entry) (w : ℕ) (plan : Plan) →
    IsStart o → Legal o h → IsCommit o h w plan → newer_since o.tables h plan.q plan.mv.steps ≡ None →
    IsDear o.tables (allowed o.lots w plan.k) plan.weighed →
    (cause : Cause) × ((next_entry o h w plan.q).verdict ≡ Refused cause)
unfolding broken_by
dear_is_refused o h w plan start legal commit none dear =
    let st = state_at o h (length h) in
    let steps = plan.mv.steps in
    let rise = allowed o.lots w plan.k in
    let end = planned_at_end o h w plan start legal commit none in
    let unbroken : broken_by st steps ≡ None =
    sym (broken_of st steps) ∙ (ap (λ (x : Weighed). x.broken) (sym end.weighed) ∙ dear.unbroken) in
    let move : IsMove o.tables st.here steps = end.offered (left_none (repeat_of steps) _ unbroken) in
    let more = dear_rises st steps rise plan.weighed unbroken move end.weighed dear in
    let cause : Cause = Rise rise (cost_at st) (cost_at (after_move st steps)) in (
      cause,
      sym (ap (λ (e : Entry). e.verdict)
          (next_entry_is o h w plan (Refused cause) commit (judged_rise st steps rise unbroken more))),
    )

-- so is a plan that is known to be refused
pub refused_at_end : (o : Opening) (h : List Entry) (w : ℕ) (plan : Plan) →
    IsStart o → Legal o h → IsCommit o h w plan → newer_since o.tables h plan.q plan.mv.steps ≡ None →
    IsRefused o.tables (allowed o.lots w plan.k) plan →
    (cause : Cause) × ((next_entry o h w plan.q).verdict ≡ Refused cause)
refused_at_end o h w plan start legal commit none refused = ⊎_elim
    (λ broken. (broken.0, broken_is_refused o h w plan broken.0 start legal commit none broken.1))
    (λ dear. dear_is_refused o h w plan start legal commit none dear)
    refused
