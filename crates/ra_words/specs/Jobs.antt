-- Which job a list of words is.
use Rattle.std.specs.Prelude.{◌≡◌, ℕ, ◌+◌, List, map, length, drop, codes, Bool, true, ◌==◌, ◌&&◌, ◌||◌, if◌then◌else◌}
use Rattle.std.specs.Prelude.{Option, Some, None}
use Rattle.std.specs.Str.{bytes_eq}
use Rattle.ra_base.specs.declared.causes.Drawing.{Drawing}
use Rattle.ra_base.specs.declared.causes.Drawing.TheVariants.{One, Two}
use Rattle.ra_words.specs.Words.{word_at, is_name, value_at, behind}
use Rattle.ra_words.specs.Numbers.{is_number, decimal_worth}
use Rattle.ra_words.specs.LotTexts.{LotSays, lot_says, are_lots}

-- what the words of a job say
pub data JobSays : Type 0 where
  Checks : (model initial changed : List ℕ) (closed : Option (List ℕ)) → JobSays
  Bounds : (model : List ℕ) (initial closed : Option (List ℕ)) → JobSays
  Solves :
      (model initial : List ℕ) (closed : Option (List ℕ)) (slack : ℕ) (drawing : Drawing)
      (lots : List LotSays)
      → JobSays
  Trials : (number : ℕ) → JobSays
  Verifies :
      (model initial report : List ℕ) (closed : Option (List ℕ)) (slack : ℕ) (drawing : Drawing)
      (lots : List LotSays)
      → JobSays
  Repairs :
      (model initial : List ℕ) (closed : Option (List ℕ)) (slack : ℕ) (drawing : Drawing)
      (lots : List LotSays)
      → JobSays
  Edits : (model initial current edits : List ℕ) (closed : Option (List ℕ)) → JobSays

-- the value of `--closed`, if it is given, is a file name
abbrev pub is_closed : Option (List ℕ) → Bool
is_closed None = true
is_closed (Some text) = is_name text

-- from a place on: `--closed` and a file name, or nothing, and no more words
unfoldable pub ends_closed : List (List ℕ) → ℕ → Bool
ends_closed words place =
    is_closed (value_at (codes "--closed") words place) && length words == behind (codes "--closed")
    words place

-- the word `check` and three file names, then `--closed` and a file name, or nothing
unfoldable pub is_check : List (List ℕ) → Bool
is_check words =
    bytes_eq (word_at words 0) (codes "check") && is_name (word_at words 1) && is_name
    (word_at words 2) && is_name (word_at words 3)
    && ends_closed words 4

-- what a check says: its files
unfoldable pub check_says : List (List ℕ) → JobSays
check_says words =
    Checks (word_at words 1) (word_at words 2) (word_at words 3)
    (value_at (codes "--closed") words 4)

-- the word `bound` and a file name
unfoldable pub is_bound : List (List ℕ) → Bool
is_bound words =
    length words == 2 && bytes_eq (word_at words 0) (codes "bound") && is_name (word_at words 1)

-- what a bound says: its file
unfoldable pub bound_says : List (List ℕ) → JobSays
bound_says words = Bounds (word_at words 1) None None

-- the word `bound` and two file names, then `--closed` and a file name, or nothing
unfoldable pub is_bound_from : List (List ℕ) → Bool
is_bound_from words =
    bytes_eq (word_at words 0) (codes "bound") && is_name (word_at words 1) && is_name
    (word_at words 2) && ends_closed words 3

-- what a bound from a start says: its files
unfoldable pub bound_from_says : List (List ℕ) → JobSays
bound_from_says words =
    Bounds (word_at words 1) (Some (word_at words 2)) (value_at (codes "--closed") words 3)

-- the value of `--slack`, if it is given, is a number
abbrev pub is_slack : Option (List ℕ) → Bool
is_slack None = true
is_slack (Some text) = is_number text

-- the slack is the value of this number, and 0 if it isn't given
abbrev pub slack_says : Option (List ℕ) → ℕ
slack_says None = 0
slack_says (Some text) = decimal_worth text

-- the value of `--draws`, if it is given, is `1` or `2`
abbrev pub is_drawing : Option (List ℕ) → Bool
is_drawing None = true
is_drawing (Some text) = bytes_eq text (codes "1") || bytes_eq text (codes "2")

-- the drawing is the first for `1`, and the second for `2` and if it isn't given
abbrev pub drawing_says : Option (List ℕ) → Drawing
drawing_says None = Two
drawing_says (Some text) = if bytes_eq text (codes "1") then One else Two

-- from a place on `--slack` may come, and after it `--closed`
unfoldable pub closed_place : List (List ℕ) → ℕ → ℕ
closed_place words place = behind (codes "--slack") words place

-- after these `--draws` may come
unfoldable pub draws_place : List (List ℕ) → ℕ → ℕ
draws_place words place = behind (codes "--closed") words (closed_place words place)

-- after all options the lots begin
unfoldable pub lots_place : List (List ℕ) → ℕ → ℕ
lots_place words place = behind (codes "--draws") words (draws_place words place)

-- the value of `--slack`
unfoldable pub slack_text : List (List ℕ) → ℕ → Option (List ℕ)
slack_text words place = value_at (codes "--slack") words place

-- the value of `--closed`
unfoldable pub closed_text : List (List ℕ) → ℕ → Option (List ℕ)
closed_text words place = value_at (codes "--closed") words (closed_place words place)

-- the value of `--draws`
unfoldable pub draws_text : List (List ℕ) → ℕ → Option (List ℕ)
draws_text words place = value_at (codes "--draws") words (draws_place words place)

-- the words of the lots
unfoldable pub lot_words : List (List ℕ) → ℕ → List (List ℕ)
lot_words words place = drop (lots_place words place) words

-- from a place on: the options in their order, then lots
unfoldable pub ends_in_lots : List (List ℕ) → ℕ → Bool
ends_in_lots words place =
    is_slack (slack_text words place) && is_closed (closed_text words place) && is_drawing
    (draws_text words place) && are_lots (lot_words words place)

-- the word `solve` and two file names, then the options in their order, then lots
unfoldable pub is_solve : List (List ℕ) → Bool
is_solve words =
    bytes_eq (word_at words 0) (codes "solve") && is_name (word_at words 1) && is_name
    (word_at words 2) && ends_in_lots words 3

-- what a run of the solver says: its files, slack, drawing and lots
unfoldable pub solve_says : List (List ℕ) → JobSays
solve_says words =
    Solves (word_at words 1) (word_at words 2) (closed_text words 3)
    (slack_says (slack_text words 3)) (drawing_says (draws_text words 3))
    (map lot_says (lot_words words 3))

-- the word `trial` and a number
unfoldable pub is_trial : List (List ℕ) → Bool
is_trial words =
    length words == 2 && bytes_eq (word_at words 0) (codes "trial") && is_number (word_at words 1)

-- what a trial says: its number
unfoldable pub trial_says : List (List ℕ) → JobSays
trial_says words = Trials (decimal_worth (word_at words 1))

-- the word `verify` and three file names, then the options in their order, then lots
unfoldable pub is_verify : List (List ℕ) → Bool
is_verify words =
    bytes_eq (word_at words 0) (codes "verify") && is_name (word_at words 1) && is_name
    (word_at words 2) && is_name (word_at words 3)
    && ends_in_lots words 4

-- what the checking of a report says: its files, slack, drawing and lots
unfoldable pub verify_says : List (List ℕ) → JobSays
verify_says words =
    Verifies (word_at words 1) (word_at words 2) (word_at words 3) (closed_text words 4)
    (slack_says (slack_text words 4)) (drawing_says (draws_text words 4))
    (map lot_says (lot_words words 4))

-- after `repair` and two file names `--closed` may come, and after it the lot
unfoldable pub lot_place : List (List ℕ) → ℕ
lot_place words = behind (codes "--closed") words 3

-- the word `repair` and two file names, then `--closed` and a file name, or nothing, then one lot
unfoldable pub is_repair : List (List ℕ) → Bool
is_repair words =
    bytes_eq (word_at words 0) (codes "repair") && is_name (word_at words 1) && is_name
    (word_at words 2)
    && is_closed (value_at (codes "--closed") words 3) && length words == lot_place words + 1
    && are_lots (drop (lot_place words) words)

-- what a repair says: its files and its lot, without slack, and with the second drawing
unfoldable pub repair_says : List (List ℕ) → JobSays
repair_says words =
    Repairs (word_at words 1) (word_at words 2) (value_at (codes "--closed") words 3) 0 Two
    (map lot_says (drop (lot_place words) words))

-- a repair has one lot
abbrev pub HasOneLot : JobSays → Type 0
HasOneLot (Repairs model initial closed slack drawing lots) = length lots ≡ 1
HasOneLot says = Unit {0}

-- the word `edit` and four file names, then `--closed` and a file name, or nothing
unfoldable pub is_edit : List (List ℕ) → Bool
is_edit words =
    bytes_eq (word_at words 0) (codes "edit") && is_name (word_at words 1) && is_name
    (word_at words 2) && is_name (word_at words 3)
    && is_name (word_at words 4) && ends_closed words 5

-- what the edits of a model and its lists say: their files
unfoldable pub edit_says : List (List ℕ) → JobSays
edit_says words =
    Edits (word_at words 1) (word_at words 2) (word_at words 3) (word_at words 4)
    (value_at (codes "--closed") words 5)

-- what the words say, and nothing if they are not a job
unfoldable pub job_of : List (List ℕ) → Option JobSays
job_of words =
    if is_check words then Some (check_says words)
    else if is_bound words then Some (bound_says words)
    else if is_bound_from words then Some (bound_from_says words)
    else if is_solve words then Some (solve_says words)
    else if is_trial words then Some (trial_says words)
    else if is_verify words then Some (verify_says words)
    else if is_repair words then Some (repair_says words)
    else if is_edit words then Some (edit_says words)
    else None
