-- In a legal journal each move finds its processes where it takes them from, though it was planned at an earlier place:
-- what was made since is apart from it, so it moved none of them.
use Rattle.std.proofs.Common.{◌≡◌, ℕ, zero, suc, ◌<◌, ◌≤◌, List, length, Option, Some, None, sym, refl, ap, ◌∙◌, ⊎_elim, subst, arith}
use Rattle.std.proofs.lemmas.Bool.{cases_lt, or_left, both_ways}
use Rattle.ra_base.specs.Sums.{is_named}
use Rattle.ra_base.specs.declared.causes.Cause.{Cause}
use Rattle.ra_base.specs.declared.causes.Drawing.{Drawing}
use Rattle.ra_base.specs.declared.ids.Guard.TheVariants as guard
use Rattle.ra_base.specs.declared.ids.Machine.{Machine}
use Rattle.ra_base.proofs.Named.{is_named_at}
use Rattle.ra_base.proofs.Searches.{left_none}
use Rattle.ra_model.specs.declared.raw.Tables.{Tables}
use Rattle.ra_model.specs.Numbers.{machine_count, service_of}
use Rattle.ra_model.specs.Limits.{WellFormed}
use Rattle.ra_model.specs.Assignments.{IsAssignment, machine_at}
use Rattle.ra_model.specs.Situations.{Situation}
use Rattle.ra_moves.specs.declared.steps.Step.{Step}
use Rattle.ra_moves.specs.declared.verdicts.Verdict.{Verdict}
use Rattle.ra_moves.specs.declared.verdicts.Verdict.TheVariants.{Done, Refused}
use Rattle.ra_moves.specs.Steps.{process_in, from_in, StandsAt, Distinct}
use Rattle.ra_moves.specs.Replacing.{applied}
use Rattle.ra_moves.specs.Judging.{repeat_of, broken_by, verdict_of, judge}
use Rattle.ra_moves.specs.Options.{plan_of, plan_place}
use Rattle.ra_moves.specs.MoveSteps.{MoveSteps}
use Rattle.ra_moves.proofs.Applying.{after_stayed}
use Rattle.ra_moves.proofs.OptionLemmas.{option_stands}
use Rattle.ra_moves.proofs.Repeats.{distinct_from_none}
use Rattle.ra_moves.specs.Touched.{service_in, moves_service}
use Rattle.ra_guards.specs.Guards.{AreKnown, writes, is_guard}
use Rattle.ra_guards.specs.Versions.{Apart, ApartSince, Untouched}
use Rattle.ra_guards.proofs.TouchLemmas.{apart_from_untouched}
use Rattle.ra_journal.specs.declared.entries.Entry.{Entry}
use Rattle.ra_journal.specs.Entries.{entry_at, steps_made, made_by, made_in, words, allowed}
use Rattle.ra_guards.specs.Made.{after_made}
use Rattle.ra_journal.specs.States.{state, state_at}
use Rattle.ra_journal.specs.Legal.{IsLegal}
use Rattle.ra_journal.specs.Openings.{Opening}
use Rattle.ra_journal.proofs.Places.{made_place}
use Rattle.ra_journal.proofs.SoundLemmas.{Reaches, applied_fits, plan_reaches, plan_known}
use Rattle.plain.specs.Benches.{CanReplay}
use Rattle.plain.specs.Touching.{IsApartFrom}

-- a move that is apart from another keeps its processes where they are, since it would touch the service of one
unmoved : (i : Tables) (steps others : List Step) (a : List Machine) (j : ℕ) → Apart i steps others → j < length steps →
    machine_at (applied a others) (process_in steps j) ≡ machine_at a (process_in steps j)
unfolding applied is_guard writes moves_service service_in
unmoved i steps others a j apart within =
    let s = service_of i (process_in steps j) in
    let free = apart.each (guard.Service (record { 0 = s }))
    (or_left _ _ (is_named_at (length steps) j (service_in i steps) s within refl)) in
    after_stayed a others (length others) (process_in steps j) (λ k there same.
    both_ways (is_named (length others) (service_in i others) s) free
    (is_named_at (length others) k (service_in i others) s there (ap (service_of i) same)))

unmoved_made : (i : Tables) (steps : List Step) (a : List Machine) (j : ℕ) (made : Option (List Step)) →
    IsApartFrom i steps made → j < length steps → machine_at (after_made a made) (process_in steps j) ≡
    machine_at a (process_in steps j)
unfolding after_made
unmoved_made i steps a j None apart within = refl
unmoved_made i steps a j (Some others) apart within = unmoved i steps others a j (apart others refl) within

-- from place q on
unmoved_since : (i : Tables) (a0 : List Machine) (h : List Entry) (q n : ℕ) (steps : List Step) (j : ℕ) →
    ApartSince i (made_in h) q n steps → q ≤ n → j < length steps → machine_at (state a0 h n) (process_in steps j) ≡
    machine_at (state a0 h q) (process_in steps j)
unfolding state
unmoved_since i a0 h q zero steps j apart since within =
    let here : 0 ≡ q = omega arith in ap (λ n. machine_at (state a0 h n) (process_in steps j)) here
unmoved_since i a0 h q (suc n) steps j apart since within = ⊎_elim
    (λ (here : n < q). let same : suc n ≡ q = omega arith in
    ap (λ n. machine_at (state a0 h n) (process_in steps j)) same)
    (λ (before : q ≤ n).
    let fewer : ApartSince i (made_in h) q n steps = record {
      each = λ k others from below is. apart.each k others from (omega arith) is;
    } in
    unmoved_made i steps (state a0 h n) j (made_by (entry_at h n))
    (λ others is. apart.each n others before (omega arith) (made_place h n ∙ is)) within
    ∙ unmoved_since i a0 h q n steps j fewer before within)
    (cases_lt n q)

-- a plan's processes are in their places where it was planned
plan_stands : (st : Situation) (x : List ℕ) (d : Drawing) (rise : ℕ) → WellFormed st.tables →
    IsAssignment st.tables st.here → StandsAt from_in (plan_of st x d rise).steps st.here
unfolding plan_of
plan_stands st x d rise limits fits = option_stands st.here x (machine_count st.tables) d (plan_place st x d rise)
    (omega (arith, fits.one_each, limits.some_process)) (omega (arith, limits.some_machine))

-- what is known of an entry's move: its processes and the machines that it enters exist, and its processes are in their
-- places where it was planned
pub record IsPlanAt (i : Tables) (a : List Machine) (steps : List Step) : Type 0 where
  pub known : AreKnown i steps
  pub reaches : Reaches (machine_count i) steps
  pub stands : StandsAt from_in steps a

pub plan_at : (st : Situation) (x : List ℕ) (d : Drawing) (rise : ℕ) (mv : MoveSteps) → WellFormed st.tables →
    IsAssignment st.tables st.here → mv ≡ plan_of st x d rise → IsPlanAt st.tables st.here mv.steps
plan_at st x d rise mv limits fits is = subst (λ (m : MoveSteps). IsPlanAt st.tables st.here m.steps) (sym is) (record {
  known = plan_known st x d rise limits fits;
  reaches = plan_reaches st x d rise limits fits;
  stands = plan_stands st x d rise limits fits;
})

-- they are still in their places at a later place, if no guard was touched since
pub stands_later : (i : Tables) (a0 : List Machine) (h : List Entry) (q n : ℕ) (steps : List Step) →
    IsAssignment i (state a0 h q) → IsAssignment i (state a0 h n) → ApartSince i (made_in h) q n steps → q ≤ n →
    StandsAt from_in steps (state a0 h q) → StandsAt from_in steps (state a0 h n)
stands_later i a0 h q n steps then_fits fits apart since stood = record {
  known = λ j within. omega (arith, stood.known j within, then_fits.one_each, fits.one_each);
  at = λ j within. unmoved_since i a0 h q n steps j apart since within ∙ stood.at j within;
}

-- the states of a legal journal are assignments

made_fits : (i : Tables) (a : List Machine) (steps : List Step) (verdict : Verdict) → IsAssignment i a →
    Reaches (machine_count i) steps → IsAssignment i (after_made a (steps_made verdict steps))
unfolding steps_made after_made
made_fits i a steps (Done cost) fits reaches = applied_fits i a steps reaches fits
made_fits i a steps (Refused cause) fits reaches = fits

pub legal_fewer : (o : Opening) (h : List Entry) (m n : ℕ) → m ≤ n → IsLegal o h n → IsLegal o h m
legal_fewer o h m n few legal = record { each = λ j before. legal.each j (omega arith) }

pub states_fit : (o : Opening) (h : List Entry) → WellFormed o.tables → IsAssignment o.tables o.start →
    (n : ℕ) → IsLegal o h n → (k : ℕ) → k ≤ n → IsAssignment o.tables (state o.start h k)
unfolding state made_by
states_fit o h limits fits zero legal k below =
    let start : 0 ≡ k = omega arith in subst (λ n. IsAssignment o.tables (state o.start h n)) start fits
states_fit o h limits fits (suc n) legal k below = ⊎_elim
    (λ (before : k < suc n). states_fit o h limits fits n (legal_fewer o h n (suc n) (omega arith) legal) k
    (omega arith))
    (λ (after : suc n ≤ k).
    let here : suc n ≡ k = omega arith in
    let e = entry_at h n in
    let next = legal.each n (omega arith) in
    let earlier = states_fit o h limits fits n (legal_fewer o h n (suc n) (omega arith) legal) in
    let planned = plan_at (state_at o h e.q) (words o.lots e.worker e.k) o.lots.drawing
    (allowed o.lots e.worker e.k) e.mv limits
    (earlier e.q next.placed.place) next.planned in
    subst (λ m. IsAssignment o.tables (state o.start h m)) here
    (made_fits o.tables (state o.start h n) e.mv.steps e.verdict (earlier n (omega arith)) planned.reaches))
    (cases_lt k (suc n))

-- so a replayed state is one
pub replay_fits : (o : Opening) (a : List Machine) (h : List Entry) (n : ℕ) → WellFormed o.tables →
    IsAssignment o.tables o.start → IsLegal o h n → a ≡ state o.start h n → IsAssignment o.tables a
replay_fits o a h n limits fits legal is =
    subst (IsAssignment o.tables) (sym is) (states_fit o h limits fits n legal n (omega arith))

-- what is known of an entry's move at its own place j, by the clauses before its verdict
pub move_at : (o : Opening) (h : List Entry) (j : ℕ) (e : Entry) → WellFormed o.tables →
    IsAssignment o.tables o.start → IsLegal o h j → e.q ≤ j →
    e.mv ≡ plan_of (state_at o h e.q) (words o.lots e.worker e.k) o.lots.drawing (allowed o.lots e.worker e.k) →
    IsPlanAt o.tables (state o.start h e.q) e.mv.steps
move_at o h j e limits fits legal place planned = plan_at (state_at o h e.q) (words o.lots e.worker e.k) o.lots.drawing
    (allowed o.lots e.worker e.k) e.mv limits (states_fit o h limits fits j legal e.q place) planned

pub stands_at : (o : Opening) (h : List Entry) (j : ℕ) (e : Entry) → WellFormed o.tables →
    IsAssignment o.tables o.start → IsLegal o h j → e.q ≤ j → Untouched o.tables (made_in h) e.q j e.mv.steps →
    StandsAt from_in e.mv.steps (state o.start h e.q) → StandsAt from_in e.mv.steps (state o.start h j)
stands_at o h j e limits fits legal place untouched stood =
    let fit = states_fit o h limits fits j legal in
    stands_later o.tables o.start h e.q j e.mv.steps (fit e.q place) (fit j (omega arith))
    (apart_from_untouched o.tables (made_in h) e.q j e.mv.steps untouched) place stood

-- the move of entry j, at the place where it was planned
pub entry_planned : (o : Opening) (h : List Entry) (n j : ℕ) → WellFormed o.tables →
    IsAssignment o.tables o.start → IsLegal o h n → j < n →
    IsPlanAt o.tables (state o.start h (entry_at h j).q) (entry_at h j).mv.steps
entry_planned o h n j limits fits legal before =
    let here = legal.each j before in
    move_at o h j (entry_at h j) limits fits (legal_fewer o h j n (omega arith) legal) here.placed.place
    here.planned

-- a move that is done isn't refused as Repeat
done_none : (found : Option Cause) (x cost : ℕ) → verdict_of found x ≡ Done cost → found ≡ None
unfolding verdict_of
done_none None x cost is = refl
done_none (Some cause) x cost is = absurd (cc)

done_distinct : (st : Situation) (steps : List Step) (rise cost : ℕ) (verdict : Verdict) →
    verdict ≡ judge st steps rise → verdict ≡ Done cost → Distinct steps
unfolding judge broken_by
done_distinct st steps rise cost verdict is done =
    distinct_from_none steps (left_none (repeat_of steps) _ (left_none _ _ (done_none _ _ cost (sym is ∙ done))))

-- so the first n entries can be replayed
pub can_replay : (o : Opening) (h : List Entry) (n : ℕ) → WellFormed o.tables →
    IsAssignment o.tables o.start → IsLegal o h n → CanReplay o.start h n
can_replay o h n limits fits legal = record {
  stands = λ j before.
      let here = legal.each j before in
      stands_at o h j (entry_at h j) limits fits (legal_fewer o h j n (omega arith) legal) here.placed.place
      here.untouched (entry_planned o h n j limits fits legal before).stands;
  distinct = λ j before cost done. done_distinct (state_at o h j) (entry_at h j).mv.steps _ cost
      (entry_at h j).verdict (legal.each j before).judged done;
}
