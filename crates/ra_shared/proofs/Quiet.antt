-- A turn that shows refused entries alone wasn't that of a stale plan.
use Rattle.std.proofs.Common.{◌≡◌, ℕ, ◌+◌, true, List, length, Option, None, ap, arith}
use Rattle.std.proofs.lemmas.List.{length_push}
use Rattle.ra_base.specs.declared.ids.Guard.{Guard}
use Rattle.ra_model.specs.declared.raw.Tables.{Tables}
use Rattle.ra_moves.specs.declared.steps.Step.{Step}
use Rattle.ra_moves.specs.declared.verdicts.Plan.{Plan}
use Rattle.ra_guards.specs.Versions.{touches}
use Rattle.ra_journal.specs.declared.entries.Entry.{Entry}
use Rattle.ra_journal.specs.declared.replies.Reply.{Reply}
use Rattle.ra_journal.specs.declared.replies.Reply.TheVariants.{Recorded, Stale}
use Rattle.ra_journal.specs.Entries.{entry_at}
use Rattle.ra_journal.specs.Quiet.{AreRefused}
use Rattle.ra_shared.specs.declared.books.Opened.{Opened}
use Rattle.ra_shared.specs.Books.{KnowsOwn, IsCommitOf}
use Rattle.ra_shared.specs.Shares.{IsCommitted}
use Rattle.ra_shared.proofs.Handing.{recorded_stands, stale_stands}

-- what makes nothing touches nothing
none_touched : (i : Tables) (made : Option (List Step)) (guard : Guard) → made ≡ None →
    touches i made guard ≡ true → ⊥
unfolding touches
none_touched i made guard is touched = grind arith

-- so the plan was recorded, and its worker has made one entry more
pub made_more : (o : Opened) (w : ℕ) (plan : Plan) (seen mine seen' mine' : List Entry) (reply : Reply) →
    KnowsOwn w seen mine → IsCommitOf o seen w plan → IsCommitted o w plan.q seen mine seen' mine' reply →
    AreRefused seen' plan.q (length seen') → length mine' ≡ length mine + 1
made_more o w plan seen mine seen' mine' (Recorded j verdict) own commit done refused =
    let is = recorded_stands o w plan seen mine seen' mine' j verdict own commit done in
    omega (arith, ap length is.made, length_push mine (entry_at seen' j))
made_more o w plan seen mine seen' mine' (Stale guard at) own commit done refused =
    let is = stale_stands o w plan seen mine seen' mine' guard at own commit done in
    absurd (none_touched o.inst.tables _ guard (refused.each at is.from is.within) is.touched)
