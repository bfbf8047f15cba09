-- The words of a search are a line, and what is found in it is what the search says.
use Rattle.std.proofs.Common.{◌≡◌, ◌∙◌, ◌+◌, ◌++◌, ◌<◌, ◌&&◌, ℕ, ap, refl, codes, arith, true, false, List}
use Rattle.std.proofs.Common.{[], ◌∷◌, Option, Some, None, length, drop}
use Rattle.std.specs.Prelude.{nat_le}
use Rattle.std.proofs.lemmas.Grind.{common_steps}
use Rattle.std.proofs.lemmas.List.{drop_all}
use Rattle.clap.proofs.WalkLemmas.{both}
use Rattle.clap.specs.Words.{first_value}
use Rattle.clap.specs.declared.parser.matches.Found.{Found}
use Rattle.ra_words.specs.Lines.{Finds, Line, Spells, option_words, plain_of, words_of_line}
use Rattle.ra_words.specs.LotTexts.{seed_text}
use Rattle.ra_words.specs.Numbers.{is_number, decimal_worth}
use Rattle.ra_words.specs.Words.{is_name, word_at}
use Rattle.ra_words.proofs.JobLines.{digits_named, is_named, name_within, option_here, seed_named, word_here, words_from}
use Rattle.ra_words.proofs.JobLines.{words_here}
use Rattle.ra_anneal.specs.Found.{found_says}
use Rattle.ra_anneal.specs.Jobs.{Anneals, Helps, Versions, anneal_says, is_anneal, is_help, is_version, job_of, schedule_of}
use Rattle.ra_anneal.specs.Words.{before_colon, closed_place, closed_text, from_text, heat_place, heat_text, is_file}
use Rattle.ra_anneal.specs.Words.{is_heat, is_pair, is_run, is_workers, run_place, workers_place, workers_text}

-- ---- what is not an option

file_named : (text : Option (List ℕ)) → is_file text ≡ true → is_named text ≡ true
file_named None file = refl
file_named (Some text) file = file

pair_named : (text : List ℕ) → is_pair text ≡ true → is_name text ≡ true
unfolding is_pair before_colon seed_text
pair_named text pair =
    seed_named text (digits_named (seed_text text) (both (is_number (seed_text text)) _ pair).0)

heat_named : (text : Option (List ℕ)) → is_heat text ≡ true → is_named text ≡ true
heat_named None heat = refl
heat_named (Some text) heat = pair_named text heat

workers_named : (text : Option (List ℕ)) → is_workers text ≡ true → is_named text ≡ true
workers_named None workers = refl
workers_named (Some text) workers =
    let some = both (is_number text && nat_le 1 (decimal_worth text)) _ workers in
    digits_named text (both (is_number text) _ some.0).0

run_named : (text : List ℕ) → is_run text ≡ true → is_name text ≡ true
unfolding is_run
run_named text run = pair_named text (both (is_pair text) _ run).0

-- ---- the parts of the words

pub record IsSearch (words : List (List ℕ)) : Type 0 where
  pub model : is_name (word_at words 0) ≡ true
  pub initial : is_name (word_at words 1) ≡ true
  pub from : is_file (from_text words) ≡ true
  pub closed : is_file (closed_text words) ≡ true
  pub heat : is_heat (heat_text words) ≡ true
  pub workers : is_workers (workers_text words) ≡ true
  pub last : length words ≡ run_place words + 1
  pub run : is_run (word_at words (run_place words)) ≡ true

pub parts_of : (words : List (List ℕ)) → is_anneal words ≡ true → IsSearch words
unfolding is_anneal
parts_of words is = record {
  model = grind (arith, common_steps);
  initial = grind (arith, common_steps);
  from = grind (arith, common_steps);
  closed = grind (arith, common_steps);
  heat = grind (arith, common_steps);
  workers = grind (arith, common_steps);
  last = grind (arith, common_steps);
  run = grind (arith, common_steps);
}

-- ---- the line

-- the names of the model and of the initial list, what the options name, and SEED:TRIES
abbrev pub search_line : List (List ℕ) → Line
search_line words = record {
  command = word_at words 0;
  files = word_at words 1 ∷ [];
  slack = None;
  from = from_text words;
  closed = closed_text words;
  draws = None;
  heat = heat_text words;
  workers = workers_text words;
  behind = word_at words (run_place words) ∷ [];
}

-- SEED:TRIES is the last word
last_here : (words : List (List ℕ)) (place : ℕ) → length words ≡ place + 1 →
    drop place words ≡ word_at words place ∷ []
last_here words place last =
    word_here words place (omega (arith, last))
    ∙ ap (λ ws. word_at words place ∷ ws) (drop_all (place + 1) words (omega (arith, last)))

-- after the two names
module _ (words : List (List ℕ)) (is : IsSearch words) where
  options_here : drop 2 words ≡ option_words (codes "--from") (from_text words)
      ++ (option_words (codes "--closed") (closed_text words)
      ++ (option_words (codes "--heat") (heat_text words)
      ++ (option_words (codes "--workers") (workers_text words) ++ (word_at words (run_place words) ∷ []))))
  unfolding from_text closed_text heat_text workers_text closed_place heat_place workers_place run_place
  options_here =
      let first = option_words (codes "--from") (from_text words) in
      let second = option_words (codes "--closed") (closed_text words) in
      let third = option_words (codes "--heat") (heat_text words) in
      let fourth = option_words (codes "--workers") (workers_text words) in
      option_here (codes "--from") words 2 (file_named (from_text words) is.from)
      ∙ ap (λ ws. first ++ ws)
      (option_here (codes "--closed") words (closed_place words) (file_named (closed_text words) is.closed))
      ∙ ap (λ ws. first ++ (second ++ ws))
      (option_here (codes "--heat") words (heat_place words) (heat_named (heat_text words) is.heat))
      ∙ ap (λ ws. first ++ (second ++ (third ++ ws)))
      (option_here (codes "--workers") words (workers_place words) (workers_named (workers_text words) is.workers))
      ∙ ap (λ ws. first ++ (second ++ (third ++ (fourth ++ ws)))) (last_here words (run_place words) is.last)

  spells : Spells (search_line words) words
  unfolding words_of_line option_words
  spells =
      let within : 1 < length words = name_within words 1 is.initial in
      record {
        is = words_here 2 0 words (omega (arith, within)) ∙ ap (λ ws. words_from 0 words 2 ++ ws) options_here;
        files = rw is.initial refl;
        slack = refl;
        from = file_named (from_text words) is.from;
        closed = file_named (closed_text words) is.closed;
        draws = refl;
        heat = heat_named (heat_text words) is.heat;
        workers = workers_named (workers_text words) is.workers;
        behind = rw (run_named (word_at words (run_place words)) is.run) refl;
      }

module _ (words : List (List ℕ)) (search : is_anneal words ≡ true) where
  -- the words are a line
  pub is_line : (line : Line) × Spells line words
  is_line = (search_line words, spells words (parts_of words search))

  module _ (found : Found) (finds : (line : Line) → Spells line words → Finds line found) where
    found_in : Finds (search_line words) found
    found_in = finds (search_line words) (spells words (parts_of words search))

    -- what is found in it can be read
    pub heat_fits : is_heat (first_value found (codes "heat")) ≡ true
    heat_fits = ap is_heat found_in.heat ∙ (parts_of words search).heat

    pub workers_fits : is_workers (first_value found (codes "workers")) ≡ true
    workers_fits = ap is_workers found_in.workers ∙ (parts_of words search).workers

    pub run_fits : is_run (word_at (plain_of found) 1) ≡ true
    unfolding word_at
    run_fits = ap (λ ws. is_run (word_at ws 1)) found_in.plain ∙ (parts_of words search).run

    -- and says the search
    pub search_found : found_says (word_at words 0) found ≡ anneal_says words
    unfolding anneal_says word_at
    search_found =
        λ i. Anneals (word_at words 0) (word_at (found_in.plain i) 0) (found_in.from i) (found_in.closed i)
        (schedule_of (found_in.heat i) (found_in.workers i) (word_at (found_in.plain i) 1))

-- ---- which job the words are

-- the words of a run are two numbers
pub run_is_pair : (text : List ℕ) → is_run text ≡ true → is_pair text ≡ true
unfolding is_run
run_is_pair text run = (both (is_pair text) _ run).0

module _ (words : List (List ℕ)) where
  pub job_help : is_help words ≡ true → job_of words ≡ Some Helps
  unfolding job_of
  job_help help = rw help refl

  module _ (help : is_help words ≡ false) where
    pub job_version : is_version words ≡ true → job_of words ≡ Some Versions
    unfolding job_of
    job_version version = rw (help, version) refl

    module _ (version : is_version words ≡ false) where
      pub job_anneal : is_anneal words ≡ true → job_of words ≡ Some (anneal_says words)
      unfolding job_of
      job_anneal search = rw (help, version, search) refl

      pub job_none : is_anneal words ≡ false → job_of words ≡ None
      unfolding job_of
      job_none search = rw (help, version, search) refl
