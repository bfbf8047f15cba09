-- What recording does to a book, as a whole and by its parts.
use Rattle.std.specs.Prelude.{◌≡◌, ℕ, ◌+◌, List, [], ◌∷◌, ◌++◌, length, Option, None, slice_index, slice_set, if◌then◌else◌, nat_lt, IfSome}
use Rattle.ra_base.specs.declared.causes.Cause.{Cause}
use Rattle.ra_base.specs.declared.ids.Guard.{Guard}
use Rattle.ra_base.specs.declared.ids.Machine.{Machine}
use Rattle.ra_model.specs.declared.raw.Tables.{Tables}
use Rattle.ra_model.specs.Situations.{situation}
use Rattle.ra_moves.specs.declared.steps.Step.{Step}
use Rattle.ra_moves.specs.declared.verdicts.Plan.{Plan}
use Rattle.ra_moves.specs.declared.verdicts.Verdict.{Verdict}
use Rattle.ra_moves.specs.declared.verdicts.Verdict.TheVariants.{Done, Refused}
use Rattle.ra_moves.specs.declared.verdicts.Weighed.{Weighed}
use Rattle.ra_moves.specs.Judging.{broken_by}
use Rattle.ra_moves.specs.Replacing.{applied}
use Rattle.ra_cells.specs.MovedCounts.{MovedCounts}
use Rattle.ra_cells.specs.Replaced.{IsChange}
use Rattle.ra_moves.specs.Moving.{IsMove}
use Rattle.ra_moves.specs.Weighing.{weighed_of}
use Rattle.ra_moves.specs.SettledNow.{AreMovedOf}
use Rattle.ra_guards.specs.Kept.{version_in, IsTableOf}
use Rattle.ra_guards.specs.VersionTable.{VersionTable}
use Rattle.ra_guards.specs.Versions.{touches}
use Rattle.ra_journal.specs.declared.entries.Entry.{Entry}
use Rattle.ra_journal.specs.declared.book.Book.{Book}
use Rattle.ra_journal.specs.declared.replies.Reply.{Reply}
use Rattle.ra_journal.specs.declared.replies.Reply.TheVariants.{Recorded}
use Rattle.ra_journal.specs.Committing.{newer_since, next_entry, IsCommit}
use Rattle.ra_journal.specs.Entries.{steps_made}
use Rattle.ra_journal.specs.Keeping.{IsKept}
use Rattle.ra_journal.specs.Quiet.{done_then}
use Rattle.ra_journal.specs.States.{cost_then}
use Rattle.ra_journal.specs.Openings.{Opening}

-- worker w may hand in this plan, and no guard of its move was touched since it was planned
pub record MayRecord (o : Opening) (h : List Entry) (w : ℕ) (plan : Plan) : Type 0 where
  pub commit : IsCommit o h w plan
  pub untouched : newer_since o.tables h plan.q plan.mv.steps ≡ None

-- worker w's next proposal, planned at place q, is the last entry of a book that keeps its journal, and the worker is
-- answered
pub record HasRecorded (o : Opening) (before after : Book) (w q : ℕ) (said : Reply) : Type 0 where
  pub kept : IsKept o after
  pub journal :
      after.entries.items ≡
      before.entries.items ++ next_entry o before.entries.items w q ∷ []
  pub reply :
      said ≡
      Recorded (length before.entries.items) (next_entry o before.entries.items w q).verdict

-- an entry was added at the end, its worker has made one more, and nothing else changed
pub record IsAdded (before after : Book) (e : Entry) : Type 0 where
  pub entries : after.entries.items ≡ before.entries.items ++ e ∷ []
  pub room : after.entries.room ≡ before.entries.room
  pub made : after.made ≡ slice_set before.made e.worker (slice_index before.made e.worker + 1)
  pub versions : after.versions ≡ before.versions
  pub greatest : after.greatest ≡ before.greatest
  pub kept : after.kept ≡ before.kept
  pub best_at : after.best_at ≡ before.best_at
  pub best_cost : after.best_cost ≡ before.best_cost
  pub done : after.done ≡ before.done

-- the moved counts of a weighing are changes of these
pub record AreChangesOf (moved : MovedCounts) (weighed : Weighed) : Type 0 where
  pub first : IfSome weighed.first (λ c. IsChange moved c)
  pub second : IfSome weighed.second (λ c. IsChange moved c)
  pub third : IfSome weighed.third (λ c. IsChange moved c)

-- if these steps break nothing in an assignment that has the moved counts, the weighing's counts after the steps are
-- those of the assignment after them
pub record AreChangedBy (i : Tables) (steps : List Step) (weighed : Weighed)
    (before after : MovedCounts) : Type 0 where
  pub each : (a0 a : List Machine) → IsMove i a steps → broken_by (situation i a0 a) steps ≡ None
      → weighed ≡ weighed_of (situation i a0 a) steps → AreMovedOf (situation i a0 a) before
      → AreMovedOf (situation i a0 (applied a steps)) after

-- each touched guard has this version, and the others keep theirs
pub record AreTouchedVersions (i : Tables) (made : Option (List Step)) (number : ℕ)
    (before after : VersionTable) : Type 0 where
  pub sized : IsTableOf i after
  pub each : (g : Guard)
      → version_in after g ≡ (if touches i made g then number else version_in before g)

-- the last entry of a book, which has these steps and this verdict, is taken into its versions, moved counts, cost and
-- place of what was done last
pub record IsTakenIn (i : Tables) (steps : List Step) (weighed : Weighed) (verdict : Verdict)
    (before after : Book) : Type 0 where
  pub entries : after.entries ≡ before.entries
  pub made : after.made ≡ before.made
  pub versions :
      AreTouchedVersions i (steps_made verdict steps) (length before.entries.items) before.versions
      after.versions
  pub done : (cost : ℕ) → verdict ≡ Done cost
      → AreChangedBy i steps weighed before.greatest after.greatest
  pub refused : (cause : Cause) → verdict ≡ Refused cause → after.greatest ≡ before.greatest
  pub kept : after.kept ≡ cost_then before.kept verdict
  pub best_at : after.best_at ≡ before.best_at
  pub best_cost : after.best_cost ≡ before.best_cost
  pub last : after.done ≡ done_then before.done (length before.entries.items) verdict

-- the state after all entries becomes the best one if it costs less than the best so far
pub record IsBestKept (before after : Book) : Type 0 where
  pub entries : after.entries ≡ before.entries
  pub made : after.made ≡ before.made
  pub versions : after.versions ≡ before.versions
  pub greatest : after.greatest ≡ before.greatest
  pub kept : after.kept ≡ before.kept
  pub best_at :
      after.best_at ≡
      (if nat_lt before.kept before.best_cost then length before.entries.items else before.best_at)
  pub best_cost :
      after.best_cost ≡
      (if nat_lt before.kept before.best_cost then before.kept else before.best_cost)
  pub done : after.done ≡ before.done
