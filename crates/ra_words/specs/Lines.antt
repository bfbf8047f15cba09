-- The lines of words that one command of `clap` takes apart: a line may be that of any job, of `anneal` too.
use Rattle.std.specs.Prelude.{◌≡◌, ℕ, List, [], ◌∷◌, ◌++◌, true, codes, Option, Some, None, option_map, unwrap_or}
use Rattle.std.specs.List.{list_all}
use Rattle.std.specs.Option.{option_map_or}
use Rattle.clap.specs.Words.{App, Rule, first_value, matched_of, new_app, new_rule, raw_values, with_rule}
use Rattle.clap.specs.declared.builder.action.ArgAction.TheVariants.{Append}
use Rattle.clap.specs.declared.parser.matches.Found.{Found}
use Rattle.ra_words.specs.Words.{is_name}

-- the first word, plain words, the values of the given options, and plain words after them
pub record Line : Type 0 where
  pub command : List ℕ
  pub files : List (List ℕ)
  pub slack : Option (List ℕ)
  pub from : Option (List ℕ)
  pub closed : Option (List ℕ)
  pub draws : Option (List ℕ)
  pub heat : Option (List ℕ)
  pub workers : Option (List ℕ)
  pub behind : List (List ℕ)

-- an option and its value, if it is given
unfoldable pub option_words : List ℕ → Option (List ℕ) → List (List ℕ)
option_words option None = []
option_words option (Some text) = option ∷ text ∷ []

-- the words of a line
unfoldable pub words_of_line : Line → List (List ℕ)
words_of_line line =
    line.command ∷ (line.files ++ (option_words (codes "--slack") line.slack
    ++ (option_words (codes "--from") line.from
    ++ (option_words (codes "--closed") line.closed
    ++ (option_words (codes "--draws") line.draws
    ++ (option_words (codes "--heat") line.heat
    ++ (option_words (codes "--workers") line.workers ++ line.behind)))))))

-- the words are those of the line, and of those after the first no other looks like an option
pub record Spells (line : Line) (words : List (List ℕ)) : Type 0 where
  pub is : words ≡ words_of_line line
  pub files : list_all is_name line.files ≡ true
  pub slack : option_map_or is_name line.slack true ≡ true
  pub from : option_map_or is_name line.from true ≡ true
  pub closed : option_map_or is_name line.closed true ≡ true
  pub draws : option_map_or is_name line.draws true ≡ true
  pub heat : option_map_or is_name line.heat true ≡ true
  pub workers : option_map_or is_name line.workers true ≡ true
  pub behind : list_all is_name line.behind ≡ true

-- an option with a value, written `--NAME VALUE`
abbrev pub option_rule : List ℕ → Rule
option_rule name = record (new_rule name) { long = Some name }

-- any number of plain words
abbrev pub plain_rule : Rule
plain_rule = record (new_rule (codes "plain")) { action = Some Append }

-- the one command of all jobs: six options and plain words
abbrev pub line_app : App
line_app =
    with_rule (with_rule (with_rule (with_rule (with_rule (with_rule (with_rule
    (new_app (codes "reassign")) (option_rule (codes "slack"))) (option_rule (codes "from")))
    (option_rule (codes "closed"))) (option_rule (codes "draws"))) (option_rule (codes "heat")))
    (option_rule (codes "workers"))) plain_rule

-- the plain words that were found
abbrev pub plain_of : Found → List (List ℕ)
plain_of found = unwrap_or (option_map raw_values (matched_of found (codes "plain"))) []

-- what was found is what the line has
pub record Finds (line : Line) (found : Found) : Type 0 where
  pub plain : plain_of found ≡ line.files ++ line.behind
  pub slack : first_value found (codes "slack") ≡ line.slack
  pub from : first_value found (codes "from") ≡ line.from
  pub closed : first_value found (codes "closed") ≡ line.closed
  pub draws : first_value found (codes "draws") ≡ line.draws
  pub heat : first_value found (codes "heat") ≡ line.heat
  pub workers : first_value found (codes "workers") ≡ line.workers
