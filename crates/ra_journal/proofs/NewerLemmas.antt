-- The first guard that is newer, by the table of versions, and what a commit answers by it.
use Rattle.std.proofs.Common.{◌≡◌, ℕ, List, [], ◌∷◌, ◌++◌, length, Option, Some, None, sym, ◌∙◌, arith}
use Rattle.ra_model.specs.declared.raw.Tables.{Tables}
use Rattle.ra_moves.specs.declared.steps.Step.{Step}
use Rattle.ra_moves.specs.declared.verdicts.Plan.{Plan}
use Rattle.ra_guards.specs.declared.newest.Newer.{Newer}
use Rattle.ra_guards.specs.VersionTable.{VersionTable}
use Rattle.ra_guards.specs.Kept.{version_in, AreVersions}
use Rattle.ra_guards.specs.Newest.{first_newer, first_newer_read}
use Rattle.ra_guards.specs.Versions.{version}
use Rattle.ra_guards.proofs.NewestLemmas.{newest_is_right}
use Rattle.ra_journal.specs.declared.entries.Entry.{Entry}
use Rattle.ra_journal.specs.declared.replies.Reply.TheVariants.{Recorded, Stale}
use Rattle.ra_journal.specs.Entries.{made_in}
use Rattle.ra_journal.specs.Committing.{next_entry, newer_since, committed_by, committed, AreHeld, IsCommit}
use Rattle.ra_journal.specs.Openings.{Opening}
use Rattle.ra_journal.proofs.EndLemmas.{next_is_planned}

pub newer_same : (i : Tables) (h : List Entry) (q : ℕ) (steps : List Step) (v : VersionTable) →
    AreVersions i (made_in h) (length h) v → first_newer i steps (version_in v) q ≡ newer_since i h q steps
unfolding newer_since
newer_same i h q steps v are = newest_is_right.in_table i (made_in h) (length h) steps v q are

-- if no write guard is newer, by the guards that aren't write guards
pub newer_read_same : (i : Tables) (h : List Entry) (q : ℕ) (steps : List Step) (v : VersionTable) →
    AreVersions i (made_in h) (length h) v → AreHeld i h q steps → first_newer_read i steps (version_in v) q ≡
    newer_since i h q steps
unfolding newer_since
newer_read_same i h q steps v are held = newest_is_right.read_in_table i (made_in h) (length h) steps v q are
    ∙ sym (newest_is_right.held i steps (version i (made_in h) (length h)) q held.each)

module _ (o : Opening) (h : List Entry) (w : ℕ) (plan : Plan) where
  -- a commit by what is newer
  committed_by_newer : (newer : Option Newer) → IsCommit o h w plan → newer_since o.tables h plan.q plan.mv.steps ≡ newer →
      committed o h w plan.q ≡ committed_by newer h (next_entry o h w plan.q)
  unfolding committed
  committed_by_newer newer commit is = grind (arith, next_is_planned)

  pub committed_stale : (newer : Newer) → IsCommit o h w plan → newer_since o.tables h plan.q plan.mv.steps ≡ Some newer →
      committed o h w plan.q ≡ record { journal = h; reply = Stale newer.guard newer.at }
  unfolding committed_by
  committed_stale newer commit is = committed_by_newer (Some newer) commit is

  pub committed_recorded : IsCommit o h w plan → newer_since o.tables h plan.q plan.mv.steps ≡ None → committed o h w plan.q ≡ record {
    journal = h ++ next_entry o h w plan.q ∷ [];
    reply = Recorded (length h) (next_entry o h w plan.q).verdict;
  }
  unfolding committed_by
  committed_recorded commit is = committed_by_newer None commit is
