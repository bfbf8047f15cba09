-- The lines of edits, and their output.
use Rattle.std.proofs.Common.{◌≡◌, ℕ, ◌+◌, ◌<◌, List, length, get_or, Option, refl, add-one}
use Rattle.std.proofs.lemmas.List.{get_or_read}
use Rattle.ra_base.specs.declared.costs.Parts.{Parts}
use Rattle.ra_base.specs.declared.ids.Machine.{Machine}
use Rattle.ra_edit.specs.declared.replies.EditReply.{EditReply}
use Rattle.ra_edit.specs.declared.replies.EditReply.TheVariants.{Full}
use Rattle.ra_model.specs.declared.raw.Tables.{Tables}
use Rattle.ra_model.specs.Costs.{parts_of}
use Rattle.ra_report.specs.declared.gathered.Gathered.{Gathered}
use Rattle.ra_jobs.specs.EditedTexts.{edit_line, reply_in, edits_text, edited_lines, edited_text}
use Rattle.ra_report.specs.Gathering.{AddsText}
use Rattle.ra_report.proofs.GatheringLemmas.{adds_more}

-- the answer that was read
pub reply_read : (replies : List EditReply) (k : ℕ) (x : EditReply) → k < length replies → x ≡ get_or replies k x →
    x ≡ reply_in replies k
unfolding reply_in
reply_read replies k x within read = get_or_read replies k x within read Full

-- one more line
pub adds_edit : {O : Type 0} (taken : O → Option (List ℕ)) (faults : O → ℕ) (replies : List EditReply) (n : ℕ)
    (a b c : Gathered O)
    → AddsText taken faults a b (edits_text replies n) → AddsText taken faults b c (edit_line n (reply_in replies n)) →
    AddsText taken faults a c (edits_text replies (n + 1))
unfolding edits_text
adds_edit taken faults replies n a b c first next =
    rw add-one (adds_more taken faults a b c _ _ first next)

-- the lines with the parts of the lists are the output
pub edited_told : (i : Tables) (a0 a : List Machine) (replies : List EditReply) (parts : Parts) →
    parts ≡ parts_of i a0 a → edited_text i a0 a replies ≡ edited_lines parts a0 a replies i
unfolding edited_text
edited_told i a0 a replies parts is = rw is refl
