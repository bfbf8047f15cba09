-- The answers to edits.
use Rattle.std.specs.Prelude.{◌≡◌, ℕ, zero, suc, ◌≤◌, [], ◌∷◌, ◌++◌, if◌then◌else◌, ◌==◌, nat_lt, List, length, Option}
use Rattle.std.specs.Prelude.{Some, None}
use Rattle.ra_base.specs.declared.causes.Cause.{Cause}
use Rattle.ra_model.specs.Broken.{first_broken}
use Rattle.ra_model.specs.Costs.{objective}
use Rattle.ra_edit_read.specs.declared.edits.Edit.{Edit}
use Rattle.ra_edit_read.specs.declared.edits.Edit.TheVariants.{Add, Retire, Resize}
use Rattle.ra_edit_read.specs.EditLists.{EditLists, edit_at, row_of}
use Rattle.ra_edit.specs.declared.replies.EditReply.{EditReply}
use Rattle.ra_edit.specs.declared.replies.EditReply.TheVariants.{Done, NoProcess, Full, Last, Broken}
use Rattle.ra_edit.specs.Drafts.{Drafted, instance_of}
use Rattle.ra_edit.specs.Editing.{edited}

-- the first broken constraint of a draft, and its cost
unfoldable pub broken_in : Drafted → Option Cause
broken_in d = first_broken (instance_of d) d.initial d.current

unfoldable pub draft_cost : Drafted → ℕ
draft_cost d = objective (instance_of d) d.initial d.current

-- the answer for what an edit makes
unfoldable pub edit_reply : Option Cause → ℕ → EditReply
edit_reply (Some cause) cost = Broken cause
edit_reply None cost = Done cost

-- why an edit makes nothing at all of this number of processes: its process doesn't exist, there is no room for one
-- more, or it is the last one
unfoldable pub barred : ℕ → Edit → Option EditReply
barred count (Add service machine cost) = if count == 50000 then Some Full else None
barred count (Retire p) =
    if nat_lt p count then (if count == 1 then Some Last else None) else Some (NoProcess p)
barred count (Resize p) = if nat_lt p count then None else Some (NoProcess p)

unfoldable pub answer : Option EditReply → Drafted → EditReply
answer (Some reply) after = reply
answer None after = edit_reply (broken_in after) (draft_cost after)

unfoldable pub edit_answer : Drafted → EditLists → ℕ → EditReply
edit_answer d e k =
    answer (barred (length d.rows) (edit_at e k))
    (edited d (edit_at e k) (row_of e.width e.requirements k))

-- an edit that isn't done changes nothing
unfoldable pub kept : EditReply → Drafted → Drafted → Drafted
kept (Done cost) before after = after
kept (NoProcess p) before after = before
kept Full before after = before
kept Last before after = before
kept (Broken cause) before after = before

unfoldable pub after_edit : Drafted → EditLists → ℕ → Drafted
after_edit d e k =
    kept (edit_answer d e k) d (edited d (edit_at e k) (row_of e.width e.requirements k))

-- the draft after the first n edits, and the reply to edit number k among them
unfoldable pub after_edits : Drafted → EditLists → ℕ → Drafted
after_edits d e zero = d
after_edits d e (suc n) = after_edit (after_edits d e n) e n

unfoldable pub reply_at : Drafted → EditLists → ℕ → EditReply
reply_at d e k = edit_answer (after_edits d e k) e k

-- the replies to the first n edits
unfoldable pub replies_to : Drafted → EditLists → ℕ → List EditReply
replies_to d e zero = []
replies_to d e (suc n) = replies_to d e n ++ reply_at d e n ∷ []

-- a draft has done some of the edits
pub record IsAfterSome (before : Drafted) (e : EditLists) (after : Drafted) : Type 0 where
  pub number : ℕ
  pub few : number ≤ length e.edits
  pub is : after ≡ after_edits before e number
