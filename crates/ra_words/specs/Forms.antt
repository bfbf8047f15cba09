-- The forms of the jobs, and what the parts of a line mean in each form.
use Rattle.std.specs.Prelude.{◌≡◌, ℕ, List, map, drop, codes, true, if◌then◌else◌, Option, Some, None}
use Rattle.clap.specs.Words.{first_value}
use Rattle.clap.specs.declared.parser.matches.Found.{Found}
use Rattle.ra_base.specs.declared.causes.Drawing.TheVariants.{Two}
use Rattle.ra_words.specs.declared.forms.Form.{Form}
use Rattle.ra_words.specs.declared.forms.Form.TheVariants.{Check, Bound, BoundFrom, Solve, Trial, Verify, Repair, Edit}
use Rattle.ra_words.specs.Words.{word_at}
use Rattle.ra_words.specs.Numbers.{is_number, decimal_worth}
use Rattle.ra_words.specs.LotTexts.{lot_says, are_lots}
use Rattle.ra_words.specs.Lines.{plain_of}
use Rattle.ra_words.specs.Jobs.{JobSays, Checks, Bounds, Solves, Trials, Verifies, Repairs, Edits, is_check, is_bound}
use Rattle.ra_words.specs.Jobs.{is_bound_from, is_solve, is_trial, is_verify, is_repair, is_edit, is_slack, slack_says}
use Rattle.ra_words.specs.Jobs.{drawing_says}

-- the form of the words, and none if they are not a job
unfoldable pub form_of : List (List ℕ) → Option Form
form_of words =
    if is_check words then Some Check
    else if is_bound words then Some Bound
    else if is_bound_from words then Some BoundFrom
    else if is_solve words then Some Solve
    else if is_trial words then Some Trial
    else if is_verify words then Some Verify
    else if is_repair words then Some Repair
    else if is_edit words then Some Edit
    else None

abbrev pub found_check : Found → JobSays
found_check found =
    Checks (word_at (plain_of found) 0) (word_at (plain_of found) 1) (word_at (plain_of found) 2)
    (first_value found (codes "closed"))

abbrev pub found_bound : Found → JobSays
found_bound found = Bounds (word_at (plain_of found) 0) None None

abbrev pub found_bound_from : Found → JobSays
found_bound_from found =
    Bounds (word_at (plain_of found) 0) (Some (word_at (plain_of found) 1))
    (first_value found (codes "closed"))

abbrev pub found_solve : Found → JobSays
found_solve found =
    Solves (word_at (plain_of found) 0) (word_at (plain_of found) 1)
    (first_value found (codes "closed")) (slack_says (first_value found (codes "slack")))
    (drawing_says (first_value found (codes "draws"))) (map lot_says (drop 2 (plain_of found)))

abbrev pub found_trial : Found → JobSays
found_trial found = Trials (decimal_worth (word_at (plain_of found) 0))

abbrev pub found_verify : Found → JobSays
found_verify found =
    Verifies (word_at (plain_of found) 0) (word_at (plain_of found) 1) (word_at (plain_of found) 2)
    (first_value found (codes "closed")) (slack_says (first_value found (codes "slack")))
    (drawing_says (first_value found (codes "draws"))) (map lot_says (drop 3 (plain_of found)))

abbrev pub found_repair : Found → JobSays
found_repair found =
    Repairs (word_at (plain_of found) 0) (word_at (plain_of found) 1)
    (first_value found (codes "closed")) 0 Two (map lot_says (drop 2 (plain_of found)))

abbrev pub found_edit : Found → JobSays
found_edit found =
    Edits (word_at (plain_of found) 0) (word_at (plain_of found) 1) (word_at (plain_of found) 2)
    (word_at (plain_of found) 3) (first_value found (codes "closed"))

-- what the parts of a line say, in each form
abbrev pub found_says : Form → Found → JobSays
found_says Check found = found_check found
found_says Bound found = found_bound found
found_says BoundFrom found = found_bound_from found
found_says Solve found = found_solve found
found_says Trial found = found_trial found
found_says Verify found = found_verify found
found_says Repair found = found_repair found
found_says Edit found = found_edit found

-- the parts of a run: a slack, and lots after this number of files
pub record RunFound (found : Found) (files : ℕ) : Type 0 where
  pub slack : is_slack (first_value found (codes "slack")) ≡ true
  pub lots : are_lots (drop files (plain_of found)) ≡ true

-- the parts of a line can be read, in each form
abbrev pub FitsForm : Form → Found → Type 0
FitsForm Solve found = RunFound found 2
FitsForm Trial found = is_number (word_at (plain_of found) 0) ≡ true
FitsForm Verify found = RunFound found 3
FitsForm Repair found = are_lots (drop 2 (plain_of found)) ≡ true
FitsForm form found = Unit {0}
