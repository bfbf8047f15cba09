-- Instances that are the same but for the rooms of their lists run alike: no definition looks at a room.
use Rattle.std.proofs.Common.{◌≡◌, ℕ, Bool, List, [], ◌∷◌, ◌++◌, Option, Some, None, refl, sym, ◌∙◌, inl, inr}
use Rattle.ra_base.specs.Listed.{Listed}
use Rattle.ra_base.specs.declared.causes.Drawing.{Drawing}
use Rattle.ra_base.specs.declared.ids.Guard.{Guard}
use Rattle.ra_base.specs.declared.ids.Guard.TheVariants as guard
use Rattle.ra_base.specs.declared.ids.Machine.{Machine}
use Rattle.ra_bounds.specs.Bounds.{required, safety, capacity, overload, spare, lack, balance_bound}
use Rattle.ra_bounds.specs.PinnedBounds.{pinned_excess, pinned_overload, pinned_load_bound, pinned_bound_of}
use Rattle.ra_draws.specs.declared.budgets.Lots.{Lots}
use Rattle.ra_guards.specs.Guards.{writes, reads, is_guard}
use Rattle.ra_guards.specs.Versions.{touches, stamp, version, Untouched}
use Rattle.ra_journal.specs.declared.entries.Entry.{Entry}
use Rattle.ra_journal.specs.Best.{best_place, best_of}
use Rattle.ra_journal.specs.Entries.{entry_at, words, allowed}
use Rattle.ra_journal.specs.Legal.{Legal, IsLegalAt}
use Rattle.ra_journal.specs.States.{state, cost_of_state}
use Rattle.ra_journal.specs.Openings.{opening}
use Rattle.ra_moves.specs.Touched.{service_in, moves_service, reads_service}
use Rattle.ra_model.specs.declared.raw.RawInstance.{RawInstance}
use Rattle.ra_model.specs.declared.raw.Tables.{Tables}
use Rattle.ra_model.specs.Costs.{parts_of}
use Rattle.ra_model.specs.Relations.{depends, are_joined}
use Rattle.ra_model.specs.Situations.{situation}
use Rattle.ra_moves.specs.declared.steps.Step.{Step}
use Rattle.ra_moves.specs.Judging.{broken_by, judge}
use Rattle.ra_moves.specs.Options.{option_cost, plan_place, plan_of}
use Rattle.ra_pins.specs.Pinned.{flagged_share, flagged_use, lacks, lacks_between, holds, flagged_starts_on, blocked}
use Rattle.ra_pins.specs.Pinned.{is_open}
use Rattle.ra_pins.specs.Pinned.{stuck, round, rounds, is_pinned, pinned_load}
use Rattle.ra_report.specs.JournalTexts.{report_text}
use Rattle.ra_verify.specs.WrongLines.{AreRight, AreAllRight, IsWrongEntry, IsCutOff, IsWrongHead, IsWrongLine}
use Rattle.ra_verify.specs.WrongLines.{IsReport}
use Rattle.ra_jobs.proofs.BareLemmas.{bare}
use Rattle.ra_jobs.proofs.AlikeLemmas.{opened, whole, along}

-- rooms don't matter

parts_bare : (raw : RawInstance) (closed : Option (Listed Bool)) (a0 a : List Machine) →
    parts_of (bare (whole raw closed)) a0 a ≡ parts_of (whole raw closed) a0 a
unfolding opened
parts_bare raw closed a0 a = refl

pinned_bound_bare : (raw : RawInstance) (closed : Option (Listed Bool)) (a0 : List Machine) →
    pinned_bound_of (bare (whole raw closed)) a0 ≡ pinned_bound_of (whole raw closed) a0
unfolding opened required safety capacity overload spare lack balance_bound pinned_excess pinned_overload
    pinned_load_bound pinned_bound_of flagged_share flagged_use lacks lacks_between holds flagged_starts_on blocked
    is_open stuck
    round rounds is_pinned pinned_load
pinned_bound_bare raw None a0 = refl
pinned_bound_bare raw (Some flags) a0 = refl

plan_bare : (raw : RawInstance) (closed : Option (Listed Bool)) (a0 a : List Machine) (x : List ℕ) (drawing : Drawing)
    (allowed : ℕ) → plan_of (situation (bare (whole raw closed)) a0 a) x drawing allowed
    ≡ plan_of (situation (whole raw closed) a0 a) x drawing
    allowed
unfolding opened judge broken_by option_cost plan_place plan_of
plan_bare raw None a0 a x drawing allowed = refl
plan_bare raw (Some flags) a0 a x drawing allowed = refl

judge_bare : (raw : RawInstance) (closed : Option (Listed Bool)) (a0 a : List Machine) (steps : List Step)
    (allowed : ℕ) → judge (situation (bare (whole raw closed)) a0 a) steps allowed
    ≡ judge (situation (whole raw closed) a0 a) steps allowed
unfolding opened judge broken_by
judge_bare raw None a0 a steps allowed = refl
judge_bare raw (Some flags) a0 a steps allowed = refl

guards_bare : (raw : RawInstance) (closed : Option (Listed Bool)) (steps : List Step) (g : Guard) →
    is_guard (bare (whole raw closed)) steps g ≡ is_guard (whole raw closed) steps g
unfolding opened depends are_joined service_in moves_service reads_service writes reads is_guard
guards_bare raw closed steps (guard.Machine m) = refl
guards_bare raw closed steps (guard.Service s) = refl

version_bare : (raw : RawInstance) (closed : Option (Listed Bool)) (made : List (Option (List Step))) (n : ℕ)
    (g : Guard) → version (bare (whole raw closed)) made n g ≡ version (whole raw closed) made n g
unfolding opened service_in moves_service writes touches stamp version
version_bare raw closed made n (guard.Machine m) = refl
version_bare raw closed made n (guard.Service s) = refl

best_bare : (raw : RawInstance) (closed : Option (Listed Bool)) (a0 : List Machine) (l : Lots) (h : List Entry) →
    best_of (opening (bare (whole raw closed)) a0 l) h ≡ best_of (opening (whole raw closed) a0 l) h
unfolding opened cost_of_state best_place best_of
best_bare raw closed a0 l h = refl

module _ (i j : Tables) (same : bare i ≡ bare j) where
  pub parts_same : (a0 a : List Machine) → parts_of i a0 a ≡ parts_of j a0 a
  parts_same a0 a = along (λ (t : Tables). parts_of t a0 a) (λ raw closed. parts_bare raw closed a0 a) i j same

  pub pinned_same : (a0 : List Machine) → pinned_bound_of i a0 ≡ pinned_bound_of j a0
  pinned_same a0 = along (λ (t : Tables). pinned_bound_of t a0) (λ raw closed. pinned_bound_bare raw closed a0) i j same

  pub planned_same : (a0 a : List Machine) (x : List ℕ) (drawing : Drawing) (allowed : ℕ) →
      plan_of (situation i a0 a) x drawing allowed ≡ plan_of (situation j a0 a) x drawing allowed
  planned_same a0 a x drawing allowed = along (λ (t : Tables). plan_of (situation t a0 a) x drawing allowed)
      (λ raw closed. plan_bare raw closed a0 a x drawing allowed) i j same

  pub judged_same : (a0 a : List Machine) (steps : List Step) (allowed : ℕ) →
      judge (situation i a0 a) steps allowed ≡ judge (situation j a0 a) steps allowed
  judged_same a0 a steps allowed =
      along (λ (t : Tables). judge (situation t a0 a) steps allowed)
      (λ raw closed. judge_bare raw closed a0 a steps allowed) i j
      same

  pub best_same : (a0 : List Machine) (l : Lots) (h : List Entry) →
      best_of (opening i a0 l) h ≡ best_of (opening j a0 l) h
  best_same a0 l h = along (λ (t : Tables). best_of (opening t a0 l) h)
      (λ raw closed. best_bare raw closed a0 l h) i j same

  guards_same : (steps : List Step) (g : Guard) → is_guard j steps g ≡ is_guard i steps g
  guards_same steps g =
      along (λ (t : Tables). is_guard t steps g) (λ raw closed. guards_bare raw closed steps g) j i (sym same)

  version_same : (made : List (Option (List Step))) (n : ℕ) (g : Guard) → version i made n g ≡ version j made n g
  version_same made n g =
      along (λ (t : Tables). version t made n g) (λ raw closed. version_bare raw closed made n g) i j same

  untouched_same : (made : List (Option (List Step))) (q n : ℕ) (steps : List Step) → Untouched i made q n steps →
      Untouched j made q n steps
  untouched_same made q n steps u = record {
    each = λ g is. rw (version_same made n g) at (u.each g (sym (guards_same steps g) ∙ is));
  }

  legal_at_same : (a0 : List Machine) (l : Lots) (h : List Entry) (n : ℕ) (e : Entry) →
      IsLegalAt (opening i a0 l) h n e →
      IsLegalAt (opening j a0 l) h n e
  legal_at_same a0 l h n e is = record {
    numbered = is.numbered;
    placed = is.placed;
    planned = is.planned ∙ planned_same a0 (state a0 h e.q) (words l e.worker e.k) l.drawing (allowed l e.worker e.k);
    untouched = untouched_same _ e.q n e.mv.steps is.untouched;
    judged = is.judged ∙ judged_same a0 (state a0 h n) e.mv.steps (allowed l e.worker e.k);
  }

  pub legal_same : (a0 : List Machine) (l : Lots) (h : List Entry) → Legal (opening i a0 l) h → Legal (opening j a0 l) h
  legal_same a0 l h is = record { each = λ n within. legal_at_same a0 l h n (entry_at h n) (is.each n within) }

  pub report_same : (a0 : List Machine) (l : Lots) (h : List Entry) →
      report_text (opening i a0 l) h ≡ report_text (opening j a0 l) h
  unfolding report_text
  report_same a0 l h =
      rw (best_same a0 l h, parts_same a0 (state a0 h (best_of (opening j a0 l) h)), pinned_same a0) refl

-- a report's lines are judged the same

module _ (i j : Tables) (same : bare i ≡ bare j) where
  right_same : (a0 : List Machine) (l : Lots) (bytes : List ℕ) (h : List Entry) → AreRight (opening i a0 l) bytes h →
      AreRight (opening j a0 l) bytes h
  right_same a0 l bytes h is = record { legal = legal_same i j same a0 l h is.legal; lines = is.lines }

  all_right_same : (a0 : List Machine) (l : Lots) (bytes : List ℕ) (h : List Entry) →
      AreAllRight (opening i a0 l) bytes h →
      AreAllRight (opening j a0 l) bytes h
  all_right_same a0 l bytes h is = record { right = right_same a0 l bytes h is.right; all = is.all }

  entry_same : (a0 : List Machine) (l : Lots) (bytes : List ℕ) (n : ℕ) → IsWrongEntry (opening i a0 l) bytes n →
      IsWrongEntry (opening j a0 l) bytes n
  entry_same a0 l bytes n is = record {
    short = is.short;
    journal = is.journal;
    right = right_same a0 l bytes is.journal is.right;
    there = is.there;
    wrong = λ e legal. is.wrong e (legal_same j i (sym same) a0 l (is.journal ++ e ∷ []) legal);
    number = is.number;
  }

  cut_off_same : (a0 : List Machine) (l : Lots) (bytes : List ℕ) (n : ℕ) → IsCutOff (opening i a0 l) bytes n →
      IsCutOff (opening j a0 l) bytes n
  cut_off_same a0 l bytes n is = record {
    short = is.short;
    journal = is.journal;
    right = all_right_same a0 l bytes is.journal is.right;
    not_whole = is.not_whole;
    number = is.number;
  }

  head_same : (a0 : List Machine) (l : Lots) (bytes : List ℕ) (n : ℕ) → IsWrongHead (opening i a0 l) bytes n →
      IsWrongHead (opening j a0 l) bytes n
  head_same a0 l bytes n is = record {
    short = is.short;
    journal = is.journal;
    right = all_right_same a0 l bytes is.journal is.right;
    whole = is.whole;
    place = is.place;
    within = is.within;
    unlike = rw (report_same i j same a0 l is.journal) at is.unlike;
    number = is.number;
  }

  pub wrong_line_same : (a0 : List Machine) (l : Lots) (bytes : List ℕ) (line : Option ℕ) →
      IsWrongLine (opening i a0 l) bytes line → IsWrongLine (opening j a0 l) bytes line
  wrong_line_same a0 l bytes None is = record {
    short = is.short;
    journal = is.journal;
    right = all_right_same a0 l bytes is.journal is.right;
    whole = is.whole;
    head = λ n within. rw (report_same i j same a0 l is.journal) at (is.head n within);
  }
  wrong_line_same a0 l bytes (Some n) (inl long) = inl long
  wrong_line_same a0 l bytes (Some n) (inr (inl entry)) = inr (inl (entry_same a0 l bytes n entry))
  wrong_line_same a0 l bytes (Some n) (inr (inr (inl cut_off))) = inr (inr (inl (cut_off_same a0 l bytes n cut_off)))
  wrong_line_same a0 l bytes (Some n) (inr (inr (inr head))) = inr (inr (inr (head_same a0 l bytes n head)))

  pub is_report_same : (a0 : List Machine) (l : Lots) (bytes : List ℕ) (n : ℕ) → IsReport (opening i a0 l) bytes n →
      IsReport (opening j a0 l) bytes n
  is_report_same a0 l bytes n is = record {
    journal = is.journal;
    legal = legal_same i j same a0 l is.journal is.legal;
    whole = is.whole;
    text = is.text ∙ report_same i j same a0 l is.journal;
    number = is.number;
  }
