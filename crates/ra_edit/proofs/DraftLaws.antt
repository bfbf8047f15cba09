-- What the answer to an edit is, and what is left after it.
use Rattle.std.proofs.Common.{arith}
use Rattle.std.proofs.lemmas.Grind.{common_steps}
use Rattle.std.proofs.Common.{◌≡◌, ℕ, ◌<◌, List, length, Some, None, refl, sym, ◌∙◌, subst}
use Rattle.std.proofs.Common.{ap, eqb, ltb, inl, inr}
use Rattle.std.proofs.Math.Nat.{mod-eq_of_lt}
use Rattle.std.proofs.lemmas.Bool.{cases_Bool}
use Rattle.ra_base.specs.declared.causes.Cause.{Cause}
use Rattle.ra_base.specs.declared.costs.Parts.{Parts}
use Rattle.ra_base.specs.declared.ids.Machine.{Machine}
use Rattle.ra_model.specs.declared.raw.ProcessRow.{ProcessRow}
use Rattle.ra_model.specs.declared.raw.Tables.{Tables}
use Rattle.ra_model.specs.Limits.{WellFormed}
use Rattle.ra_model.specs.Assignments.{IsAssignment}
use Rattle.ra_model.specs.Broken.{first_broken}
use Rattle.ra_model.specs.Costs.{parts_of}
use Rattle.ra_model.specs.Feasible.{Feasible}
use Rattle.ra_model.specs.Numbers.{resource_count}
use Rattle.ra_model.proofs.BrokenLemmas.{feasible_from_unbroken, unbroken_from_feasible}
use Rattle.ra_edit_read.specs.declared.edits.Edit.{Edit}
use Rattle.ra_edit_read.specs.declared.edits.Edit.TheVariants.{Add, Retire, Resize}
use Rattle.ra_edit_read.specs.EditLists.{EditLists, edit_at, row_of, AreEditsFor, FitsInstance}
use Rattle.ra_edit.specs.declared.replies.EditReply.{EditReply}
use Rattle.ra_edit.specs.declared.replies.EditReply.TheVariants.{Done, NoProcess, Full, Last, Broken}
use Rattle.ra_edit.specs.Drafts.{Drafted, with_process_rows, instance_of, draft_of}
use Rattle.ra_edit.specs.Editing.{process_of, edited}
use Rattle.ra_edit.specs.Replies.{broken_in, draft_cost, edit_reply, barred, answer, edit_answer, kept, after_edit}
use Rattle.ra_edit.specs.SameLists.{AreSameLists}
use Rattle.ra_edit.specs.Keeping.{IsSoundDraft, IsKeptDraft}
use Rattle.ra_edit.proofs.RowLaws.{process_same}
use Rattle.ra_edit.specs.Kinds.{IsEdited}
use Rattle.ra_edit.proofs.SoundLaws.{edited_sound, few_of, AreFew}
use Rattle.ra_edit.proofs.VerdictLaws.{edited_is}
use Rattle.ra_edit.proofs.SameLaws.{same_well, same_fits, same_broken}

-- a row with a small move cost is a process
pub row_is : (row : ProcessRow) → row ≡ process_of row.service row.move_cost
unfolding process_of
row_is row = process_same row (process_of row.service row.move_cost) refl (sym (mod-eq_of_lt row.small))

-- a new draft
new_kept : {i : Tables} {a0 a : List Machine} {parts : Parts} → WellFormed i → IsAssignment i a0 → IsAssignment i a →
    first_broken i a0 a ≡ None → parts ≡ parts_of i a0 a → IsKeptDraft (draft_of i a0 a) parts
unfolding with_process_rows broken_in
new_kept well fits0 fits unbroken cost = record {
  sound = record { well_formed = well; initial = fits0; current = fits };
  unbroken = unbroken;
  parts_are = cost;
}

pub made_kept : {d : Drafted} {i : Tables} {a0 a : List Machine} {parts : Parts} → d ≡ draft_of i a0 a → WellFormed i →
    IsAssignment i a0 → IsAssignment i a → first_broken i a0 a ≡ None → parts ≡ parts_of i a0 a → IsKeptDraft d parts
made_kept same well fits0 fits unbroken cost = rw (← same) at (new_kept well fits0 fits unbroken cost)

-- whose lists are short
pub few_at_first : {i : Tables} {a0 a : List Machine} → WellFormed i → IsAssignment i a0 → IsAssignment i a →
    AreFew (draft_of i a0 a)
unfolding with_process_rows
few_at_first well fits0 fits = few_of (record { well_formed = well; initial = fits0; current = fits })

-- what bars an edit isn't that it is done
never_done : (count : ℕ) (e : Edit) (cost : ℕ) → barred count e ≡ Some (Done cost) → ⊥
unfolding barred
never_done count (Add s m c) cost h = elim (cases_Bool (eqb count 50000)) [
  | inl full ↦ let f = rw full at h in cc
  | inr room ↦ let f = rw room at h in cc
]
never_done count (Retire p) cost h = elim (cases_Bool (ltb p count)) [
  | inl within ↦ elim (cases_Bool (eqb count 1)) [
    | inl last ↦ let f = rw (within, last) at h in cc
    | inr more ↦ let f = rw (within, more) at h in cc
  ]
  | inr past ↦ let f = rw past at h in cc
]
never_done count (Resize p) cost h = elim (cases_Bool (ltb p count)) [
  | inl within ↦ let f = rw within at h in cc
  | inr past ↦ let f = rw past at h in cc
]

-- a barred edit changes nothing
barred_keeps : (count : ℕ) (e : Edit) (reply : EditReply) (before after : Drafted) → barred count e ≡ Some reply →
    kept reply before after ≡ before
unfolding kept barred
barred_keeps count e (Done cost) before after h = absurd (never_done count e cost h)
barred_keeps count e (NoProcess p) before after h = refl
barred_keeps count e Full before after h = refl
barred_keeps count e Last before after h = refl
barred_keeps count e (Broken cause) before after h = refl

pub answered_barred : (d : Drafted) (e : EditLists) (k : ℕ) (reply : EditReply) → barred (length d.rows) (edit_at e k) ≡
    Some reply → reply ≡ edit_answer d e k
unfolding edit_answer answer
answered_barred d e k reply h = rw h refl

pub kept_barred : (d : Drafted) (e : EditLists) (k : ℕ) (reply : EditReply) → barred (length d.rows) (edit_at e k) ≡
    Some reply → d ≡ after_edit d e k
unfolding after_edit
kept_barred d e k reply h = grind (arith, common_steps, answered_barred, barred_keeps)

-- a broken constraint: what is answered, and what is left
pub broken_edit : (d : Drafted) (e : EditLists) (k : ℕ) (cause : Cause) → barred (length d.rows) (edit_at e k) ≡ None →
    broken_in (edited d (edit_at e k) (row_of e.width e.requirements k)) ≡ Some cause →
    (Broken cause ≡ edit_answer d e k) × (d ≡ after_edit d e k)
unfolding edit_answer answer edit_reply after_edit kept
broken_edit d e k cause free broken = (rw (free, broken) refl, rw (free, broken) refl)

-- an edit that is done
total_is : {parts : Parts} (d : Drafted) → parts ≡ parts_of (instance_of d) d.initial d.current →
    draft_cost d ≡ parts.total
unfolding draft_cost parts_of
total_is d same = cc

pub done_edit : {next : Drafted} {parts : Parts} (d : Drafted) (e : EditLists) (k : ℕ) →
    barred (length d.rows) (edit_at e k) ≡ None → next ≡ edited d (edit_at e k) (row_of e.width e.requirements k) →
    broken_in next ≡ None → parts ≡ parts_of (instance_of next) next.initial next.current →
    (Done parts.total ≡ edit_answer d e k) × (next ≡ after_edit d e k)
unfolding edit_answer answer edit_reply after_edit kept
done_edit {next} d e k free same fine cost =
    (rw (free, ← same, fine, total_is next cost) refl, rw (free, ← same, fine) refl)

-- the current list is feasible
pub kept_feasible : {d : Drafted} {parts : Parts} → IsKeptDraft d parts → Feasible (instance_of d) d.initial d.current
unfolding broken_in
kept_feasible {d} h =
    feasible_from_unbroken (instance_of d) d.initial d.current h.sound.well_formed h.sound.current h.unbroken

-- and in one with the same lists
pub same_feasible : {d : Drafted} {j : Tables} → IsSoundDraft d → Feasible (instance_of d) d.initial d.current →
    AreSameLists (instance_of d) j → Feasible j d.initial d.current
same_feasible {d} {j} sound feasible same =
    grind (arith, common_steps, feasible_from_unbroken, same_well, same_fits, same_broken, unbroken_from_feasible)

-- what an edit makes of a draft is sound
pub next_sound : {d old next : Drafted} {e : EditLists} {asked : List ℕ} (k : ℕ) → d ≡ old → IsSoundDraft d →
    AreEditsFor old.origin e → k < length e.edits → barred (length d.rows) (edit_at e k) ≡ None →
    asked ≡ row_of e.width e.requirements k → length asked ≡ e.width →
    next ≡ edited d (edit_at e k) (row_of e.width e.requirements k) → IsSoundDraft next
unfolding edit_at
next_sound {e} k same sound fits within free asked_is width is =
    let here = rw (← same) at fits in
    subst IsSoundDraft (sym is) (edited_sound (edit_at e k) (row_of e.width e.requirements k) sound free
    (here.each k within) (ap length (sym asked_is) ∙ width ∙ here.width))

-- and it is what the kind of the edit says
pub next_edited : {d old : Drafted} {e : EditLists} {edit : Edit} {asked : List ℕ} (next : Drafted) (k : ℕ) → d ≡ old →
    IsSoundDraft d → AreEditsFor old.origin e → k < length e.edits → edit ≡ edit_at e k →
    asked ≡ row_of e.width e.requirements k → barred (length d.rows) (edit_at e k) ≡ None →
    length asked ≡ e.width → next ≡ edited d (edit_at e k) (row_of e.width e.requirements k) →
    IsEdited d edit asked next
unfolding edit_at
next_edited {d} {e} {asked} next k same sound fits within is asked_is free width made =
    grind (arith, common_steps, edited_is)

-- its service and its machine exist
pub next_fits : {d old : Drafted} {e : EditLists} {edit : Edit} (k : ℕ) → d ≡ old → AreEditsFor old.origin e →
    k < length e.edits → edit ≡ edit_at e k → FitsInstance d.origin edit
unfolding edit_at
next_fits k same fits within is = rw (← is) at ((rw (← same) at fits).each k within)

-- and as many requirements are given as there are resources
pub next_width : {d old : Drafted} {e : EditLists} (asked : List ℕ) → d ≡ old → AreEditsFor old.origin e →
    length asked ≡ e.width → length asked ≡ resource_count d.origin
next_width asked same fits width = width ∙ (rw (← same) at fits).width
