-- What edits of an instance and its two lists leave, before it is written.
use Rattle.std.specs.Prelude.{◌≡◌, ℕ, List, length}
use Rattle.ra_base.specs.declared.ids.Machine.{Machine}
use Rattle.ra_edit.specs.Drafts.{draft_of, instance_of}
use Rattle.ra_edit.specs.Keeping.{IsSoundDraft}
use Rattle.ra_edit.specs.Leaving.{left_in}
use Rattle.ra_edit.specs.Replies.{replies_to}
use Rattle.ra_edit_read.specs.EditLists.{EditLists}
use Rattle.ra_model.specs.declared.raw.Tables.{Tables}
use Rattle.ra_model.specs.Costs.{parts_of}
use Rattle.ra_model.specs.Feasible.{Feasible}
use Rattle.ra_model.specs.Limits.{Small}
use Rattle.ra_jobs.specs.declared.edit.Outcome.{Outcome}
use Rattle.ra_jobs.specs.EditedTexts.{edited_text}
use Rattle.ra_jobs.specs.Editing.{edited_draft}

-- the processes and lists are those of an instance within the limits, whose current list is feasible and has this cost
pub record IsWritable (i : Tables) (o : Outcome) : Type 0 where
  pub sound : IsSoundDraft (left_in i o.left)
  pub small : Small (instance_of (left_in i o.left))
  pub feasible : Feasible (instance_of (left_in i o.left)) o.left.initial.items o.left.current.items
  pub parts :
      o.parts
      ≡ parts_of (instance_of (left_in i o.left)) o.left.initial.items o.left.current.items

-- a writable outcome that edits leave of feasible lists, with the answers to the edits
pub record IsOutcome (i : Tables) (a0 a : List Machine) (e : EditLists) (o : Outcome) : Type 0 where
  pub start : Feasible i a0 a0
  pub current : Feasible i a0 a
  pub left : left_in i o.left ≡ edited_draft i a0 a e
  pub replies : o.replies.items ≡ replies_to (draft_of i a0 a) e (length e.edits)
  pub writable : IsWritable i o

-- the text of what edits leave
unfoldable pub edited_outcome_text : Tables → Outcome → List ℕ
edited_outcome_text i o =
    edited_text (instance_of (left_in i o.left)) o.left.initial.items o.left.current.items
    o.replies.items
