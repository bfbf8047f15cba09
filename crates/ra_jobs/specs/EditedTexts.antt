-- The output of edits: the parts of the cost of the edited current list, the two edited lists, the answer to each edit,
-- and the text of the edited instance.
use Rattle.std.specs.Prelude.{ℕ, zero, suc, List, [], ◌∷◌, ◌++◌, length, codes, slice_index_or}
use Rattle.ra_base.specs.declared.costs.Parts.{Parts}
use Rattle.ra_base.specs.declared.ids.Machine.{Machine}
use Rattle.ra_model.specs.declared.raw.Tables.{Tables}
use Rattle.ra_model.specs.Costs.{parts_of}
use Rattle.ra_model_text.specs.ModelTexts.{model_text}
use Rattle.ra_edit.specs.declared.replies.EditReply.{EditReply}
use Rattle.ra_edit.specs.declared.replies.EditReply.TheVariants.{Done, NoProcess, Full, Last, Broken}
use Rattle.ra_report.specs.Pieces.{joined}
use Rattle.ra_report.specs.Texts.{space, line_end, number_text, parts_text, cause_text, machines_text, assignment_line}

-- the line of the initial list: the machine of each process, in order
unfoldable pub initial_line : List Machine → List ℕ
initial_line a0 = codes "initial" ++ (machines_text a0 ++ line_end)

-- an answer: `done` and the cost, `no process` and the process, `full`, `last`, or `refused` and the cause
unfoldable pub reply_text : EditReply → List ℕ
reply_text (Done cost) = joined (codes "done " ∷ number_text cost ∷ [])
reply_text (NoProcess process) = joined (codes "no process " ∷ number_text process ∷ [])
reply_text Full = joined (codes "full" ∷ [])
reply_text Last = joined (codes "last" ∷ [])
reply_text (Broken cause) = joined (codes "refused " ∷ []) ++ cause_text cause

-- the line of an edit: its number, and the answer to it
abbrev pub edit_front : ℕ → List ℕ
edit_front k = joined (codes "edit " ∷ number_text k ∷ space ∷ [])

unfoldable pub edit_line : ℕ → EditReply → List ℕ
edit_line k reply = edit_front k ++ (reply_text reply ++ line_end)

-- answer number k
unfoldable pub reply_in : List EditReply → ℕ → EditReply
reply_in replies k = slice_index_or replies k Full

-- the lines of the first n edits, in order
unfoldable pub edits_text : List EditReply → ℕ → List ℕ
edits_text replies zero = []
edits_text replies (suc n) = edits_text replies n ++ edit_line n (reply_in replies n)

-- the line `model`, and the text of the instance
unfoldable pub model_part : Tables → List ℕ
model_part i = joined (codes "model\n" ∷ []) ++ model_text i

-- all lines
unfoldable pub edited_lines : Parts → List Machine → List Machine → List EditReply → Tables → List ℕ
edited_lines parts a0 a replies i =
    parts_text parts
    ++ (initial_line a0
    ++ (assignment_line a ++ (edits_text replies (length replies) ++ model_part i)))

-- the output of edits with these answers that leave this instance and these lists
unfoldable pub edited_text : Tables → List Machine → List Machine → List EditReply → List ℕ
edited_text i a0 a replies = edited_lines (parts_of i a0 a) a0 a replies i
