-- Instances with the same numbers are the same but for the rooms of their lists, and so run alike.
use Rattle.std.proofs.Common.{◌≡◌, ℕ, zero, suc, Bool, List, [], ◌∷◌, ◌++◌, Option, Some, None, refl, sym, ◌∙◌}
use Rattle.ra_base.specs.Listed.{Listed}
use Rattle.ra_base.specs.declared.causes.Drawing.{Drawing}
use Rattle.ra_base.specs.declared.ids.Machine.{Machine}
use Rattle.ra_bounds.specs.Bounds.{required, safety, capacity, overload, load_bound, spare, lack, balance_bound}
use Rattle.ra_bounds.specs.Bounds.{bound_of}
use Rattle.ra_draws.specs.declared.budgets.Lots.{Lots}
use Rattle.ra_draws.specs.declared.sources.Lot.{Lot}
use Rattle.ra_draws.specs.Lots.{budget_of, words_of, allowance_of}
use Rattle.ra_journal.specs.declared.entries.Entry.{Entry}
use Rattle.ra_journal.specs.Best.{best_place, best_of}
use Rattle.ra_journal.specs.Entries.{budget, words, allowed}
use Rattle.ra_journal.specs.Solo.{solo_entry, solo_entries, solo}
use Rattle.ra_journal.specs.States.{state, cost_of_state}
use Rattle.ra_journal.specs.Openings.{Opening, opening}
use Rattle.ra_model.specs.declared.raw.RawInstance.{RawInstance}
use Rattle.ra_model.specs.declared.raw.Tables.{Tables}
use Rattle.ra_model.specs.Situations.{situation}
use Rattle.ra_model_read.specs.Lists.{lists_of}
use Rattle.ra_moves.specs.Judging.{broken_by, judge}
use Rattle.ra_moves.specs.Options.{option_cost, plan_place, plan_of}
use Rattle.ra_report.specs.Summaries.{summary_text}
use Rattle.ra_laws.specs.JobLaws.{flags_of, AreAlike, AreAlikeLots, RunAlike, AlikeRunAlike}
use Rattle.ra_jobs.proofs.RowLemmas.{raw_of, bare_raw, raw_same}
use Rattle.ra_jobs.proofs.BareLemmas.{bare, bare_closed}
use Rattle.ra_jobs.proofs.MeaningLemmas.{broken_same}
use Rattle.ra_jobs.proofs.AlikeLemmas.{opened, whole, along, repaired_same}
use Rattle.ra_run.proofs.AlikeLemmas.{parts_same, pinned_same, planned_same, judged_same, best_same, legal_same}
use Rattle.ra_run.proofs.AlikeLemmas.{report_same, wrong_line_same, is_report_same}

-- rooms don't matter

bound_bare : (raw : RawInstance) (closed : Option (Listed Bool)) → bound_of (bare (whole raw closed)) ≡
    bound_of (whole raw closed)
unfolding opened required safety capacity overload load_bound spare lack balance_bound bound_of
bound_bare raw closed = refl

solo_bare : (raw : RawInstance) (closed : Option (Listed Bool)) (a0 : List Machine) (l : Lots) →
    solo (opening (bare (whole raw closed)) a0 l) ≡ solo (opening (whole raw closed) a0 l)
unfolding opened judge broken_by option_cost plan_place plan_of solo_entry solo_entries solo
solo_bare raw None a0 l = refl
solo_bare raw (Some flags) a0 l = refl

-- what a worker alone looks at of its lots

entry_from : Tables → List Machine → ℕ → Drawing → List Lot → List Entry → ℕ → Entry
entry_from i a0 slack drawing lots h k =
    let a = state a0 h k in
    let mv = plan_of (situation i a0 a) (words_of lots 0 k) drawing (allowance_of slack lots 0 k) in
    record {
      worker = 0;
      k = k;
      q = k;
      mv = mv;
      verdict =
          judge (situation i a0 a) mv.steps (allowance_of slack lots 0 k);
    }

entries_from : Tables → List Machine → ℕ → Drawing → List Lot → ℕ → List Entry
entries_from i a0 slack drawing lots zero = []
entries_from i a0 slack drawing lots (suc n) = entries_from i a0 slack drawing lots n ++ entry_from i a0 slack drawing
    lots (entries_from i a0 slack drawing lots n) n ∷ []

solo_from : Tables → List Machine → ℕ → Drawing → List Lot → List Entry
solo_from i a0 slack drawing lots = entries_from i a0 slack drawing lots (budget_of lots 0)

solo_is : (o : Opening) → solo o ≡ solo_from o.tables o.start o.lots.slack o.lots.drawing o.lots.lots.items
unfolding solo solo_entries solo_entry words allowed budget solo_from entries_from entry_from
solo_is o = refl

lots_alike : (o : Opening) (k : Lots) → AreAlikeLots o.lots k → solo o ≡ solo (record o { lots = k })
lots_alike o k same =
    solo_is o ∙ rw (same.slack, same.drawing, same.lots) refl ∙ sym (solo_is (record o { lots = k }))

-- instances that are alike are one, but for their rooms

flags_alike : (c d : Option (Listed Bool)) → flags_of c ≡ flags_of d → bare_closed c ≡ bare_closed d
unfolding flags_of bare_closed
flags_alike None None e = refl
flags_alike None (Some g) e = absurd (cc)
flags_alike (Some f) None e = absurd (cc)
flags_alike (Some f) (Some g) e = let same : f.items ≡ g.items = cc in rw same refl

bare_alike : (i j : Tables) → AreAlike i j → bare i ≡ bare j
bare_alike i j same = rw (raw_same i.raw j.raw same.lists, flags_alike i.closed j.closed same.flags) refl

summary_same : (i j : Tables) → bare i ≡ bare j → (a0 : List Machine) (l : Lots) (h : List Entry) →
    summary_text (opening i a0 l) h ≡ summary_text (opening j a0 l) h
unfolding summary_text
summary_same i j same a0 l h =
    rw (
      best_same i j same a0 l h,
      parts_same i j same a0 (state a0 h (best_of (opening j a0 l) h)),
      pinned_same i j same a0,
    ) refl

-- the summary looks at no lots
pub summary_lots : (i : Tables) (a0 : List Machine) (l k : Lots) (h : List Entry) →
    summary_text (opening i a0 l) h ≡ summary_text (opening i a0 k) h
unfolding summary_text best_of best_place cost_of_state
summary_lots i a0 l k h = refl

-- instances that are one but for their rooms run alike
run_same : (i j : Tables) → bare i ≡ bare j → RunAlike i j
run_same i j same = record {
  parts = parts_same i j same;
  broken = λ a0 a. broken_same i j a0 a same;
  bound = along bound_of bound_bare i j same;
  pinned_bound = pinned_same i j same;
  planned = planned_same i j same;
  judged = judged_same i j same;
  legal = legal_same i j same;
  report = report_same i j same;
  is_report = is_report_same i j same;
  wrong_line = wrong_line_same i j same;
  alone = λ a0 l k lots. along (λ (t : Tables). solo (opening t a0 l))
      (λ raw closed. solo_bare raw closed a0 l) i j same
      ∙ lots_alike (opening j a0 l) k lots;
  summary = summary_same i j same;
  repaired = repaired_same i j same;
}

pub alike_run_alike : AlikeRunAlike
alike_run_alike i j same = run_same i j (bare_alike i j same)

-- and they are alike

numbers_bare : (raw : RawInstance) (closed : Option (Listed Bool)) → lists_of (bare (whole raw closed)).raw ≡
    lists_of (whole raw closed).raw
unfolding raw_of bare_raw
numbers_bare raw closed = refl

flags_bare : (raw : RawInstance) (closed : Option (Listed Bool)) → flags_of (bare (whole raw closed)).closed ≡
    flags_of (whole raw closed).closed
unfolding flags_of bare_closed
flags_bare raw None = refl
flags_bare raw (Some flags) = refl

pub alike_from_bare : (i j : Tables) → bare i ≡ bare j → AreAlike i j
alike_from_bare i j same = record {
  lists = along (λ (t : Tables). lists_of t.raw) numbers_bare i j same;
  flags = along (λ (t : Tables). flags_of t.closed) flags_bare i j same;
}
