-- What a list of words asks `anneal` for.
use Rattle.std.specs.Prelude.{ℕ, ◌+◌, List, length, codes, Bool, ◌==◌, ◌&&◌, if◌then◌else◌, Option, Some, None}
use Rattle.std.specs.Str.{bytes_eq}
use Rattle.ra_search.specs.declared.schedule.Schedule.{Schedule}
use Rattle.ra_words.specs.Numbers.{decimal_worth}
use Rattle.ra_words.specs.Words.{word_at, is_name}
use Rattle.ra_anneal.specs.Words.{after_colon, before_colon, closed_text, from_text, heat_says, heat_text, is_file}
use Rattle.ra_anneal.specs.Words.{is_heat, is_run, is_workers, run_place, workers_says, workers_text}

-- what the words say: to tell how the program is called, or its version; or to search in a model from an initial list,
-- from which processes move, beginning at the list `from` if it is named
pub data AnnealSays : Type 0 where
  Helps : AnnealSays
  Versions : AnnealSays
  Anneals :
      (model initial : List ℕ) (from closed : Option (List ℕ)) (schedule : Schedule) → AnnealSays

-- the one word `--help`, and the one word `--version`
unfoldable pub is_help : List (List ℕ) → Bool
is_help words = length words == 1 && bytes_eq (word_at words 0) (codes "--help")

unfoldable pub is_version : List (List ℕ) → Bool
is_version words = length words == 1 && bytes_eq (word_at words 0) (codes "--version")

-- two file names, then the options in their order, each or not, then SEED:TRIES
unfoldable pub is_anneal : List (List ℕ) → Bool
is_anneal words =
    is_name (word_at words 0) && is_name (word_at words 1) && is_file (from_text words)
    && is_file (closed_text words)
    && is_heat (heat_text words)
    && is_workers (workers_text words)
    && length words == run_place words + 1
    && is_run (word_at words (run_place words))

-- how the search goes, by the values of `--heat` and `--workers`, and SEED:TRIES
abbrev pub schedule_of : Option (List ℕ) → Option (List ℕ) → List ℕ → Schedule
schedule_of heat workers run = record {
  seed = decimal_worth (before_colon run);
  tries = decimal_worth (after_colon run);
  heat = heat_says heat;
  workers = workers_says workers;
}

-- what a search says: its files, and how it goes
unfoldable pub anneal_says : List (List ℕ) → AnnealSays
anneal_says words =
    Anneals (word_at words 0) (word_at words 1) (from_text words) (closed_text words)
    (schedule_of (heat_text words) (workers_text words) (word_at words (run_place words)))

-- what the words say, and nothing if they ask for none of this
unfoldable pub job_of : List (List ℕ) → Option AnnealSays
job_of words =
    if is_help words then Some Helps
    else if is_version words then Some Versions
    else if is_anneal words then Some (anneal_says words)
    else None
