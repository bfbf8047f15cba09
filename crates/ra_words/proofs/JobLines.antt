-- The words of each job are a line, and what is found in it is what the job says.
use Rattle.std.proofs.Common.{◌≡◌, ◌∙◌, ◌<◌, ◌≤◌, ◌+◌, ◌++◌, ◌&&◌, ◌||◌, ◌==◌, ℕ, zero, suc, ap, ap₂, sym, refl}
use Rattle.std.proofs.Common.{true≢false, inl, inr, codes, arith, if◌then◌else◌, Bool, true, false, not, List, [], ◌∷◌}
use Rattle.std.proofs.Common.{Option, Some, None, length, drop, take}
use Rattle.std.proofs.Common.{add-one}
use Rattle.std.specs.List.{list_all}
use Rattle.std.specs.Option.{option_map_or}
use Rattle.std.specs.Str.{bytes_eq, all_ascii_digits}
use Rattle.std.proofs.Math.Seq.{drop-cons}
use Rattle.std.proofs.lemmas.Bool.{cases_lt, ne_eqb}
use Rattle.std.proofs.lemmas.Grind.{common_steps}
use Rattle.std.proofs.lemmas.List.{drop_all, get_or_past}
use Rattle.std.proofs.lemmas.Slice.Eq.{bytes_eq-Decides}
use Rattle.std.proofs.lemmas.Str.Parse.{tells_all_ascii_digits}
use Rattle.clap.proofs.WalkLemmas.{both}
use Rattle.clap.specs.declared.parser.matches.Found.{Found}
use Rattle.ra_words.specs.Words.{behind, has_option, is_name, value_at, word_at}
use Rattle.ra_words.specs.Numbers.{has_digits, is_number}
use Rattle.ra_words.specs.LotTexts.{are_lots, first_place, is_lot, is_seed_lot, is_written, is_written_lot}
use Rattle.ra_words.specs.LotTexts.{seed_text}
use Rattle.ra_words.specs.Lines.{Finds, Line, Spells, option_words, words_of_line}
use Rattle.ra_words.specs.Forms.{RunFound}
use Rattle.ra_words.proofs.LotLaws.{lots_told}
use Rattle.ra_words.specs.Jobs.{closed_place, closed_text, draws_place, draws_text, ends_closed, ends_in_lots, is_closed}
use Rattle.ra_words.specs.Jobs.{is_drawing, is_slack, lot_words, lots_place, slack_text, is_repair, lot_place}

-- ---- words that are no option

pub digits_named : (text : List ℕ) → is_number text ≡ true → is_name text ≡ true
unfolding is_number has_digits
digits_named [] number = cc
digits_named (x ∷ xs) number =
    let digits : all_ascii_digits (x ∷ xs) ≡ true = grind (arith, common_steps) in
    let first = tells_all_ascii_digits.parts x xs digits in
    ap not (ne_eqb x 45 (λ e. omega (arith, first.0.0, e)))

-- the value of an option, if it is given, is a name
abbrev pub is_named : Option (List ℕ) → Bool
is_named text = option_map_or is_name text true

slack_named : (text : Option (List ℕ)) → is_slack text ≡ true → is_named text ≡ true
slack_named None slack = refl
slack_named (Some text) slack = digits_named text slack

pub closed_named : (text : Option (List ℕ)) → is_closed text ≡ true → is_named text ≡ true
closed_named None closed = refl
closed_named (Some text) closed = closed

draws_named : (text : Option (List ℕ)) → is_drawing text ≡ true → is_named text ≡ true
draws_named None drawing = refl
draws_named (Some text) drawing = go (bytes_eq text (codes "1")) refl drawing
  where
    go : (b : Bool) → bytes_eq text (codes "1") ≡ b → (b || bytes_eq text (codes "2")) ≡ true → is_name text ≡ true
    go true is e = ap is_name ((bytes_eq-Decides text (codes "1")).0 is)
    go false is e = ap is_name ((bytes_eq-Decides text (codes "2")).0 e)

pub seed_named : (word : List ℕ) → is_name (seed_text word) ≡ true → is_name word ≡ true
unfolding seed_text first_place
seed_named [] named = cc
seed_named (x ∷ xs) named = go (x == 58) named
  where
    go : (b : Bool) → is_name (take (if b then 0 else suc (first_place 58 xs)) (x ∷ xs)) ≡ true →
        is_name (x ∷ xs) ≡ true
    go true e = cc
    go false e = e

take_named : (word : List ℕ) → is_name (take 2 word) ≡ is_name word
take_named [] = refl
take_named (x ∷ xs) = refl

module _ (word : List ℕ) where
  written_named : is_written word ≡ true → is_name word ≡ true
  unfolding is_written
  written_named written =
      sym (take_named word) ∙ ap is_name ((bytes_eq-Decides (take 2 word) (codes "w:")).0 written)

  seed_lot_named : is_seed_lot word ≡ true → is_name word ≡ true
  unfolding is_seed_lot
  seed_lot_named lot = let seed : is_number (seed_text word) ≡ true = grind (arith, common_steps) in
      seed_named word (digits_named (seed_text word) seed)

  lot_named : is_lot word ≡ true → is_name word ≡ true
  unfolding is_lot
  lot_named lot = go (is_written word) refl lot
    where
      go : (b : Bool) → is_written word ≡ b → (if b then is_written_lot word else is_seed_lot word) ≡ true →
          is_name word ≡ true
      go true is e = written_named is
      go false is e = seed_lot_named e

lots_named : (words : List (List ℕ)) → list_all is_lot words ≡ true → list_all is_name words ≡ true
lots_named [] lots = refl
lots_named (word ∷ words) lots =
    let parts = both (is_lot word) (list_all is_lot words) lots in
    ap₂ (λ a b. a && b) (lot_named word parts.0) (lots_named words parts.1)

-- ---- words by their places

pub name_within : (words : List (List ℕ)) (place : ℕ) → is_name (word_at words place) ≡ true → place < length words
unfolding word_at
name_within words place name = elim (cases_lt place (length words)) [
  | inl within ↦ within
  | inr past ↦
      absurd (true≢false (sym name ∙ (ap is_name (get_or_past words place [] past))))
]

-- a number of words from a place on
abbrev pub words_from : ℕ → List (List ℕ) → ℕ → List (List ℕ)
words_from place words zero = []
words_from place words (suc n) = word_at words place ∷ words_from (suc place) words n

pub names_within : (n place : ℕ) (words : List (List ℕ)) → list_all is_name (words_from place words (suc n)) ≡ true →
    n + place < length words
names_within zero place words names =
    let within : place < length words = name_within words place (both (is_name (word_at words place)) true names).0 in
    omega (arith, within)
names_within (suc n) place words names =
    let later = (both (is_name (word_at words place)) (list_all is_name (words_from (suc place) words (suc n)))
    names).1 in
    let within : n + suc place < length words = names_within n (suc place) words later in
    omega (arith, within)

pub word_here : (words : List (List ℕ)) (place : ℕ) → place < length words →
    drop place words ≡ word_at words place ∷ drop (place + 1) words
unfolding word_at
word_here words place within = rw add-one (drop-cons words place [] within)

pub words_here : (n place : ℕ) (words : List (List ℕ)) → n + place ≤ length words →
    drop place words ≡ words_from place words n ++ drop (n + place) words
words_here zero place words within = let none : place ≡ 0 + place = omega arith in ap (λ k. drop k words) none
words_here (suc n) place words within =
    let next : place + 1 ≡ suc place = omega arith in
    let far : n + suc place ≡ suc n + place = omega arith in
    word_here words place (omega (arith, within))
    ∙ ap (λ k. word_at words place ∷ drop k words) next
    ∙ ap (λ ws. word_at words place ∷ ws) (words_here n (suc place) words (omega (arith, within)))
    ∙ ap (λ k. word_at words place ∷ (words_from (suc place) words n ++ drop k words)) far

-- an option and its value, if it is at a place, and the words after them
pub option_here : (option : List ℕ) (words : List (List ℕ)) (place : ℕ) → is_named (value_at option words place) ≡ true
    → drop place words ≡ option_words option (value_at option words place) ++ drop (behind option words place) words
unfolding value_at behind has_option option_words
option_here option words place named = go (bytes_eq (word_at words place) option) refl named
  where
    go : (b : Bool) → bytes_eq (word_at words place) option ≡ b →
        is_named (if b then Some (word_at words (place + 1)) else None) ≡ true
        → drop place words ≡ option_words option (if b then Some (word_at words (place + 1)) else None) ++ drop
        (if b then place + 2 else place) words
    go true is name =
        let within = name_within words (place + 1) name in
        let two : place + 1 + 1 ≡ place + 2 = omega arith in
        word_here words place (omega (arith, within))
        ∙ ap (λ ws. word_at words place ∷ ws) (word_here words (place + 1) within)
        ∙ ap (λ w. w ∷ word_at words (place + 1) ∷ drop (place + 1 + 1) words)
        ((bytes_eq-Decides (word_at words place) option).0 is)
        ∙ ap (λ k. option ∷ word_at words (place + 1) ∷ drop k words) two
    go false is name = refl

-- the options in their order from a place on, and the words after them
options_here : (words : List (List ℕ)) (slack closed draws : ℕ) → closed ≡ behind (codes "--slack") words slack →
    draws ≡ behind (codes "--closed") words closed
    → is_named (value_at (codes "--slack") words slack) ≡ true → is_named (value_at (codes "--closed") words closed) ≡
    true → is_named (value_at (codes "--draws") words draws) ≡ true
    → drop slack words ≡ option_words (codes "--slack") (value_at (codes "--slack") words slack)
    ++ (option_words (codes "--closed") (value_at (codes "--closed") words closed)
    ++ (option_words (codes "--draws") (value_at (codes "--draws") words draws) ++ drop
    (behind (codes "--draws") words draws) words))
options_here words slack closed draws behind_slack behind_closed one two three =
    let first = option_words (codes "--slack") (value_at (codes "--slack") words slack) in
    let second = option_words (codes "--closed") (value_at (codes "--closed") words closed) in
    option_here (codes "--slack") words slack one
    ∙ ap (λ k. first ++ drop k words) (sym behind_slack)
    ∙ ap (λ ws. first ++ ws) (option_here (codes "--closed") words closed two)
    ∙ ap (λ k. first ++ (second ++ drop k words)) (sym behind_closed)
    ∙ ap (λ ws. first ++ (second ++ ws)) (option_here (codes "--draws") words draws three)

-- after this, a number of names from a place on
abbrev pub named : Bool → ℕ → ℕ → List (List ℕ) → Bool
named before zero place words = before
named before (suc n) place words = named (before && is_name (word_at words place)) n (suc place) words

pub names_of : (before : Bool) (n place : ℕ) (words : List (List ℕ)) → named before n place words ≡ true →
    (before ≡ true) × (list_all is_name (words_from place words n) ≡ true)
names_of before zero place words is = (is, refl)
names_of before (suc n) place words is =
    let rest = names_of (before && is_name (word_at words place)) n (suc place) words is in
    let parts = both before (is_name (word_at words place)) rest.0 in
    (parts.0, ap₂ (λ a b. a && b) parts.1 rest.1)

-- a number of names follow the command word, and after them a line ends so
pub record Files (end : List (List ℕ) → ℕ → Bool) (n : ℕ) (words : List (List ℕ)) : Type 0 where
  names : list_all is_name (words_from 1 words n) ≡ true
  ends : end words (suc n) ≡ true

pub files_of : (end : List (List ℕ) → ℕ → Bool) (n : ℕ) (words : List (List ℕ)) (command : Bool) →
    (named command n 1 words && end words (suc n)) ≡ true → Files end n words
files_of end n words command is = let parts = both (named command n 1 words) (end words (suc n)) is in
    record { names = (names_of command n 1 words parts.0).1; ends = parts.1 }

-- ---- files, and then `--closed` or nothing: check, a bound from a start, and edit

-- the command word, a number of names, and what `--closed` names after them
abbrev pub closing_line : ℕ → List (List ℕ) → Line
closing_line n words = record {
  command = word_at words 0;
  files = words_from 1 words n;
  slack = None;
  from = None;
  closed = value_at (codes "--closed") words (suc n);
  draws = None;
  heat = None;
  workers = None;
  behind = [];
}

record EndsClosed (words : List (List ℕ)) (place : ℕ) : Type 0 where
  closed : is_closed (value_at (codes "--closed") words place) ≡ true
  last : length words ≡ behind (codes "--closed") words place

closed_parts : (words : List (List ℕ)) (place : ℕ) → ends_closed words place ≡ true → EndsClosed words place
unfolding ends_closed
closed_parts words place ends = record { closed = grind (arith, common_steps); last = grind (arith, common_steps) }

pub closing_spelled : (k : ℕ) (words : List (List ℕ)) → Files ends_closed (suc k) words →
    Spells (closing_line (suc k) words) words
unfolding words_of_line option_words
closing_spelled k words files =
    let n = suc k in
    let is = closed_parts words (suc n) files.ends in
    let within : k + 1 < length words = names_within k 1 words files.names in
    let named = closed_named (value_at (codes "--closed") words (suc n)) is.closed in
    let here : suc n + 0 ≡ suc n = omega arith in
    record {
      is =
          words_here (suc n) 0 words (omega (arith, within))
          ∙ ap (λ k. words_from 0 words (suc n) ++ drop k words) here
          ∙ ap (λ ws. words_from 0 words (suc n) ++ ws) (option_here (codes "--closed") words (suc n) named)
          ∙ ap (λ ws. words_from 0 words (suc n) ++
          (option_words (codes "--closed") (value_at (codes "--closed") words (suc n)) ++ ws))
          (drop_all (behind (codes "--closed") words (suc n)) words (omega (arith, is.last)));
      files = files.names;
      slack = refl;
      from = refl;
      closed = named;
      draws = refl;
      heat = refl;
      workers = refl;
      behind = refl;
    }

-- ---- bound and trial

-- the command word and one plain word
abbrev pub pair_line : List (List ℕ) → Line
pair_line words = record {
  command = word_at words 0;
  files = words_from 1 words 1;
  slack = None;
  from = None;
  closed = None;
  draws = None;
  heat = None;
  workers = None;
  behind = [];
}

pub pair_parts : (words : List (List ℕ)) (command last : Bool) → ((length words == 2 && command) && last) ≡ true →
    (length words ≡ 2) × (last ≡ true)
pair_parts words command last is = (grind (arith, common_steps), grind (arith, common_steps))

pub pair_spelled : (words : List (List ℕ)) → length words ≡ 2 → is_name (word_at words 1) ≡ true →
    Spells (pair_line words) words
unfolding words_of_line option_words
pair_spelled words two name = record {
  is = words_here 2 0 words (omega (arith, two))
      ∙ ap (λ ws. words_from 0 words 2 ++ ws) (drop_all 2 words (omega (arith, two)));
  files = rw name refl;
  slack = refl;
  from = refl;
  closed = refl;
  draws = refl;
  heat = refl;
  workers = refl;
  behind = refl;
}

-- ---- files, options and lots: solve and verify

-- the command word, a number of names, the options in their order, and lots
abbrev pub running_line : ℕ → List (List ℕ) → Line
running_line n words = record {
  command = word_at words 0;
  files = words_from 1 words n;
  slack = slack_text words (suc n);
  from = None;
  closed = closed_text words (suc n);
  draws = draws_text words (suc n);
  heat = None;
  workers = None;
  behind = lot_words words (suc n);
}

record EndsInLots (words : List (List ℕ)) (place : ℕ) : Type 0 where
  slack : is_slack (slack_text words place) ≡ true
  closed : is_closed (closed_text words place) ≡ true
  draws : is_drawing (draws_text words place) ≡ true
  lots : are_lots (lot_words words place) ≡ true

lots_parts : (words : List (List ℕ)) (place : ℕ) → ends_in_lots words place ≡ true → EndsInLots words place
unfolding ends_in_lots
lots_parts words place ends = record {
  slack = grind (arith, common_steps);
  closed = grind (arith, common_steps);
  draws = grind (arith, common_steps);
  lots = grind (arith, common_steps);
}

pub running_spelled : (k : ℕ) (words : List (List ℕ)) → Files ends_in_lots (suc k) words →
    Spells (running_line (suc k) words) words
unfolding words_of_line slack_text closed_text draws_text lot_words closed_place draws_place lots_place option_words
running_spelled k words files =
    let n = suc k in
    let is = lots_parts words (suc n) files.ends in
    let within : k + 1 < length words = names_within k 1 words files.names in
    let slack = slack_named (slack_text words (suc n)) is.slack in
    let closed = closed_named (closed_text words (suc n)) is.closed in
    let draws = draws_named (draws_text words (suc n)) is.draws in
    let here : suc n + 0 ≡ suc n = omega arith in
    record {
      is =
          words_here (suc n) 0 words (omega (arith, within))
          ∙ ap (λ k. words_from 0 words (suc n) ++ drop k words) here
          ∙ ap (λ ws. words_from 0 words (suc n) ++ ws)
          (options_here words (suc n) (closed_place words (suc n)) (draws_place words (suc n)) refl refl slack
          closed draws);
      files = files.names;
      slack = slack;
      from = refl;
      closed = closed;
      draws = draws;
      heat = refl;
      workers = refl;
      behind = lots_named (lot_words words (suc n)) (lots_told (lot_words words (suc n)) is.lots);
    }

-- what is found of a run after a number of files: its slack and its lots
pub run_fits : (n : ℕ) (words : List (List ℕ)) (found : Found) → Files ends_in_lots n words →
    Finds (running_line n words) found →
    drop n (words_from 1 words n ++ lot_words words (suc n)) ≡ lot_words words (suc n) → RunFound found n
run_fits n words found files f behind =
    let is = lots_parts words (suc n) files.ends in
    record {
      slack = ap is_slack f.slack ∙ is.slack;
      lots = ap (λ ws. are_lots (drop n ws)) f.plain ∙ ap are_lots behind ∙ is.lots;
    }

-- ---- repair

abbrev pub repair_line : List (List ℕ) → Line
repair_line words = record {
  command = word_at words 0;
  files = words_from 1 words 2;
  slack = None;
  from = None;
  closed = value_at (codes "--closed") words 3;
  draws = None;
  heat = None;
  workers = None;
  behind = drop (lot_place words) words;
}

pub record IsRepair (words : List (List ℕ)) : Type 0 where
  pub names : list_all is_name (words_from 1 words 2) ≡ true
  pub closed : is_closed (value_at (codes "--closed") words 3) ≡ true
  pub lots : are_lots (drop (lot_place words) words) ≡ true

module _ (words : List (List ℕ)) (repair : is_repair words ≡ true) where
  pub repair_parts : IsRepair words
  unfolding is_repair
  repair_parts = record {
    names = grind (arith, common_steps);
    closed = grind (arith, common_steps);
    lots = grind (arith, common_steps);
  }

  pub repair_spelled : Spells (repair_line words) words
  unfolding words_of_line option_words lot_place
  repair_spelled =
      let is = repair_parts in
      let named = closed_named (value_at (codes "--closed") words 3) is.closed in
      record {
        is =
            words_here 3 0 words (omega (arith, names_within 1 1 words is.names))
            ∙ ap (λ ws. words_from 0 words 3 ++ ws) (option_here (codes "--closed") words 3 named);
        files = is.names;
        slack = refl;
        from = refl;
        closed = named;
        draws = refl;
        heat = refl;
        workers = refl;
        behind = lots_named (drop (lot_place words) words) (lots_told (drop (lot_place words) words) is.lots);
      }
