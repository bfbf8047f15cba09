-- The form of the words tells which job they are, and that what is found in them is what that job says.
use Rattle.std.proofs.Common.{◌≡◌, ℕ, refl, ap, sym, ◌∙◌, if◌then◌else◌, Bool, true, false, List, Option, Some, None}
use Rattle.std.proofs.Common.{subst, drop, map}
use Rattle.clap.specs.declared.parser.matches.Found.{Found}
use Rattle.ra_base.specs.declared.causes.Drawing.TheVariants.{Two}
use Rattle.ra_words.specs.declared.forms.Form.{Form}
use Rattle.ra_words.specs.declared.forms.Form.TheVariants.{Check, Bound, BoundFrom, Solve, Trial, Verify, Repair, Edit}
use Rattle.ra_words.specs.Lines.{Finds, Line, Spells}
use Rattle.ra_words.specs.LotTexts.{are_lots, lot_says}
use Rattle.ra_words.specs.Numbers.{is_number, decimal_worth}
use Rattle.ra_words.specs.Words.{word_at}
use Rattle.ra_words.specs.Jobs.{JobSays, Checks, Bounds, Solves, Trials, Verifies, Repairs, Edits, job_of, is_check}
use Rattle.ra_words.specs.Jobs.{check_says, is_bound, bound_says, is_bound_from, bound_from_says, is_solve, solve_says}
use Rattle.ra_words.specs.Jobs.{is_trial, trial_says, is_verify, verify_says, is_repair, repair_says, is_edit, edit_says}
use Rattle.ra_words.specs.Jobs.{slack_says, drawing_says}
use Rattle.ra_words.specs.Forms.{form_of, found_says, FitsForm}
use Rattle.ra_words.proofs.JobLines.{digits_named, files_of, closing_line, closing_spelled, pair_line, pair_parts, pair_spelled}
use Rattle.ra_words.proofs.JobLines.{running_line, running_spelled, run_fits, repair_line, repair_parts, repair_spelled}

-- the words are a job of the form
abbrev pub IsA : Form → List (List ℕ) → Type 0
IsA Check words = is_check words ≡ true
IsA Bound words = is_bound words ≡ true
IsA BoundFrom words = is_bound_from words ≡ true
IsA Solve words = is_solve words ≡ true
IsA Trial words = is_trial words ≡ true
IsA Verify words = is_verify words ≡ true
IsA Repair words = is_repair words ≡ true
IsA Edit words = is_edit words ≡ true

-- what the words say, read in the form
abbrev pub says : Form → List (List ℕ) → JobSays
says Check words = check_says words
says Bound words = bound_says words
says BoundFrom words = bound_from_says words
says Solve words = solve_says words
says Trial words = trial_says words
says Verify words = verify_says words
says Repair words = repair_says words
says Edit words = edit_says words

pub record IsTold (form : Form) (words : List (List ℕ)) (job : Option JobSays) : Type 0 where
  pub is : IsA form words
  pub told : job ≡ Some (says form words)

-- one test of many: it is this form, or what the later tests tell
one_told : (test : Bool) (here form : Form) (words : List (List ℕ)) (rest : Option Form) (job : Option JobSays) →
    (test ≡ true → IsA here words)
    → (rest ≡ Some form → IsTold form words job) → (if test then Some here else rest) ≡ Some form →
    IsTold form words (if test then Some (says here words) else job)
one_told true here form words rest job is later e =
    let same : here ≡ form = cc in
    subst (λ f. IsTold f words (Some (says here words))) same (record { is = is refl; told = refl })
one_told false here form words rest job is later e = later e

one_untold : (test : Bool) (here : Form) (said : JobSays) (rest : Option Form) (job : Option JobSays) →
    (rest ≡ None → job ≡ None)
    → (if test then Some here else rest) ≡ None → (if test then Some said else job) ≡ None
one_untold true here said rest job later e = absurd (cc)
one_untold false here said rest job later e = later e

-- words of no form are no job
pub no_form : (words : List (List ℕ)) → form_of words ≡ None → job_of words ≡ None
unfolding form_of job_of
no_form words =
    one_untold (is_check words) Check (check_says words) _ _
    (one_untold (is_bound words) Bound (bound_says words) _ _
    (one_untold (is_bound_from words) BoundFrom (bound_from_says words) _ _
    (one_untold (is_solve words) Solve (solve_says words) _ _
    (one_untold (is_trial words) Trial (trial_says words) _ _
    (one_untold (is_verify words) Verify (verify_says words) _ _
    (one_untold (is_repair words) Repair (repair_says words) _ _
    (one_untold (is_edit words) Edit (edit_says words) None None (λ e. refl))))))))

-- the words as a line, in each form
abbrev line_for : Form → List (List ℕ) → Line
line_for Check words = closing_line 3 words
line_for Bound words = pair_line words
line_for BoundFrom words = closing_line 2 words
line_for Solve words = running_line 2 words
line_for Trial words = pair_line words
line_for Verify words = running_line 3 words
line_for Repair words = repair_line words
line_for Edit words = closing_line 4 words

spelled : (form : Form) (words : List (List ℕ)) → IsA form words → Spells (line_for form words) words
unfolding is_check is_bound is_bound_from is_solve is_trial is_verify is_edit
spelled Check words is = closing_spelled 2 words (files_of _ _ words _ is)
spelled Bound words is = let parts = pair_parts words _ _ is in pair_spelled words parts.0 parts.1
spelled BoundFrom words is = closing_spelled 1 words (files_of _ _ words _ is)
spelled Solve words is = running_spelled 1 words (files_of _ _ words _ is)
spelled Trial words is =
    let parts = pair_parts words _ _ is in pair_spelled words parts.0 (digits_named (word_at words 1) parts.1)
spelled Verify words is = running_spelled 2 words (files_of _ _ words _ is)
spelled Repair words is = repair_spelled words is
spelled Edit words is = closing_spelled 3 words (files_of _ _ words _ is)

fits : (form : Form) (words : List (List ℕ)) (found : Found) → IsA form words → Finds (line_for form words) found →
    FitsForm form found
unfolding is_solve is_trial is_verify word_at
fits Check words found is f = tt
fits Bound words found is f = tt
fits BoundFrom words found is f = tt
fits Solve words found is f =
    run_fits 2 words found (files_of _ _ words _ is) f refl
fits Trial words found is f = ap (λ ws. is_number (word_at ws 0)) f.plain ∙ (pair_parts words _ _ is).1
fits Verify words found is f =
    run_fits 3 words found (files_of _ _ words _ is) f refl
fits Repair words found is f = ap (λ ws. are_lots (drop 2 ws)) f.plain ∙ (repair_parts words is).lots
fits Edit words found is f = tt

says_found : (form : Form) (words : List (List ℕ)) (found : Found) → Finds (line_for form words) found →
    found_says form found ≡ says form words
unfolding check_says bound_says bound_from_says solve_says trial_says verify_says repair_says edit_says word_at
says_found Check words found f =
    λ i. Checks (word_at (f.plain i) 0) (word_at (f.plain i) 1) (word_at (f.plain i) 2) (f.closed i)
says_found Bound words found f = λ i. Bounds (word_at (f.plain i) 0) None None
says_found BoundFrom words found f = λ i. Bounds (word_at (f.plain i) 0) (Some (word_at (f.plain i) 1)) (f.closed i)
says_found Solve words found f = λ i. Solves (word_at (f.plain i) 0) (word_at (f.plain i) 1) (f.closed i)
    (slack_says (f.slack i)) (drawing_says (f.draws i)) (map lot_says (drop 2 (f.plain i)))
says_found Trial words found f = ap (λ ws. Trials (decimal_worth (word_at ws 0))) f.plain
says_found Verify words found f = λ i. Verifies (word_at (f.plain i) 0) (word_at (f.plain i) 1) (word_at (f.plain i) 2)
    (f.closed i) (slack_says (f.slack i)) (drawing_says (f.draws i)) (map lot_says (drop 3 (f.plain i)))
says_found Repair words found f = λ i. Repairs (word_at (f.plain i) 0) (word_at (f.plain i) 1) (f.closed i) 0 Two
    (map lot_says (drop 2 (f.plain i)))
says_found Edit words found f = λ i. Edits (word_at (f.plain i) 0) (word_at (f.plain i) 1) (word_at (f.plain i) 2)
    (word_at (f.plain i) 3) (f.closed i)

module _ (words : List (List ℕ)) (form : Form) where
  pub told : form_of words ≡ Some form → IsTold form words (job_of words)
  unfolding form_of job_of
  told =
      one_told (is_check words) Check form words _ _ (λ e. e)
      (one_told (is_bound words) Bound form words _ _ (λ e. e)
      (one_told (is_bound_from words) BoundFrom form words _ _ (λ e. e)
      (one_told (is_solve words) Solve form words _ _ (λ e. e)
      (one_told (is_trial words) Trial form words _ _ (λ e. e)
      (one_told (is_verify words) Verify form words _ _ (λ e. e)
      (one_told (is_repair words) Repair form words _ _ (λ e. e)
      (one_told (is_edit words) Edit form words None None (λ e. e) (λ e. absurd (cc)))))))))

  -- words of a form are a job
  pub is_job : form_of words ≡ Some form → job_of words ≡ None → ⊥
  is_job is none = let job = (told is).told in cc

  -- words of a form are a line
  pub form_line : form_of words ≡ Some form → (line : Line) × Spells line words
  form_line is = (line_for form words, spelled form words (told is).is)

  -- what is found in them can be read
  pub form_fits : (found : Found) → form_of words ≡ Some form → ((line : Line) → Spells line words → Finds line found) →
      FitsForm form found
  form_fits found is finds = let t = (told is).is in
      fits form words found t (finds (line_for form words) (spelled form words t))

  -- and says the job
  pub form_says : (found : Found) (said : JobSays) → form_of words ≡ Some form →
      ((line : Line) → Spells line words → Finds line found) → said ≡ found_says form found → job_of words ≡ Some said
  form_says found said is finds reads =
      let t = told is in
      t.told ∙ sym
      (ap Some (reads ∙ says_found form words found (finds (line_for form words) (spelled form words t.is))))
