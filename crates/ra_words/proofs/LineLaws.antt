-- The one command takes the words of a line, and finds in them what the line has.
use Rattle.std.proofs.Common.{◌≡◌, ◌∙◌, ◌++◌, ◌&&◌, ap, ap₂, subst, refl, codes, Bool, true, false, List, [], ◌∷◌}
use Rattle.std.proofs.Common.{Option, Some, None, option_map, append-nil, if◌then◌else◌}
use Rattle.std.specs.Prelude.{fold, unwrap_or, option_and_then, slice_get}
use Rattle.std.specs.List.{list_all}
use Rattle.clap.specs.Words.{App, HasMatchesOf, all_of, first_of, first_value, found_of, is_simple, matches_of, rows_of}
use Rattle.clap.specs.Words.{takes}
use Rattle.clap.specs.Simple.{argument_words, built}
use Rattle.clap.specs.Takes.{built_takes, settle_passes}
use Rattle.clap.specs.Walk.{Row, Rule, Text, Walk, default_rows, finished, idle, is_empty, nothing_held, reading_by}
use Rattle.clap.specs.Walk.{settled_rows, with_default, has_row}
use Rattle.clap.specs.declared.parser.matches.ArgMatches.{ArgMatches}
use Rattle.clap.proofs.OnLiterals.{clap_on_literals}
use Rattle.clap.proofs.SimpleLemmas.{is_nil}
use Rattle.clap.proofs.TakesLemmas.{leaf_takes}
use Rattle.clap.proofs.WalkLemmas.{both, first_value-rows, raw_values-rows}
use Rattle.ra_words.specs.Lines.{Finds, Line, Spells, line_app, option_words, words_of_line}
use Rattle.ra_words.proofs.RowLaws.{first_all}
use Rattle.ra_words.proofs.LineWalk.{Closed, Draws, From, Given, Goes, Heat, Holds, Reads, Seen, Slack, Workers}
use Rattle.ra_words.proofs.LineWalk.{end_goes, id_of, line_rules, maybe_goes, plains_go, seen_of, some_words}
use Rattle.ra_words.proofs.LineWalk.{standing, with_seen}

-- the words after the first
abbrev behind_command : Line → List Text
behind_command line =
    line.files ++ (option_words (codes "--slack") line.slack
    ++ (option_words (codes "--from") line.from
    ++ (option_words (codes "--closed") line.closed
    ++ (option_words (codes "--draws") line.draws
    ++ (option_words (codes "--heat") line.heat
    ++ (option_words (codes "--workers") line.workers ++ line.behind))))))

-- what is found in them
abbrev seen_in : Line → Seen
seen_in line = record {
  plain = line.files ++ line.behind;
  slack = line.slack;
  from = line.from;
  closed = line.closed;
  draws = line.draws;
  heat = line.heat;
  workers = line.workers;
}

abbrev nothing_seen : Seen
nothing_seen = record {
  plain = [];
  slack = None;
  from = None;
  closed = None;
  draws = None;
  heat = None;
  workers = None;
}

at_start : Holds (standing [] None idle) nothing_seen
at_start = record {
  rows = [];
  pending = None;
  waiting = idle;
  at = refl;
  free = refl;
  settles = refl;
  reads = record { plain = refl; options = options };
}
  where
    options : (given : Given) → all_of (id_of given) [] ≡ option_map (λ text. text ∷ []) (seen_of given nothing_seen)
    options Slack = refl
    options From = refl
    options Closed = refl
    options Draws = refl
    options Heat = refl
    options Workers = refl

line_goes : (line : Line) (words : List Text) → Spells line words →
    Goes (standing [] None idle) (behind_command line) (seen_in line)
line_goes line words is =
    let all = seen_in line in
    let s1 : Seen = record nothing_seen { plain = line.files } in
    let s2 : Seen = with_seen Slack line.slack s1 in
    let s3 : Seen = with_seen From line.from s2 in
    let s4 : Seen = with_seen Closed line.closed s3 in
    let s5 : Seen = with_seen Draws line.draws s4 in
    let s6 : Seen = with_seen Heat line.heat s5 in
    let w7 = line.behind in
    let w6 = option_words (codes "--workers") line.workers ++ w7 in
    let w5 = option_words (codes "--heat") line.heat ++ w6 in
    let w4 = option_words (codes "--draws") line.draws ++ w5 in
    let w3 = option_words (codes "--closed") line.closed ++ w4 in
    let w2 = option_words (codes "--from") line.from ++ w3 in
    plains_go (standing [] None idle) nothing_seen all line.files
    (option_words (codes "--slack") line.slack ++ w2) at_start is.files (λ a ha.
    maybe_goes a s1 all Slack line.slack w2 ha is.slack refl (λ b hb.
    maybe_goes b s2 all From line.from w3 hb is.from refl (λ c hc.
    maybe_goes c s3 all Closed line.closed w4 hc is.closed refl (λ d hd.
    maybe_goes d s4 all Draws line.draws w5 hd is.draws refl (λ e he.
    maybe_goes e s5 all Heat line.heat w6 he is.heat refl (λ f hf.
    maybe_goes f s6 all Workers line.workers w7 hf is.workers refl (λ g hg.
    subst (λ ws. Goes g ws all) (append-nil line.behind)
    (plains_go g (with_seen Workers line.workers s6) all line.behind [] hg is.behind
    (λ h hh. end_goes h all hh)))))))))

-- ---- what is found

none_by_default : (rules : List Rule) (rows : List Row) → list_all (λ a. is_empty a.defaults) rules ≡ true →
    fold with_default rows rules ≡ rows
none_by_default [] rows none = refl
none_by_default (a ∷ rules) rows none =
    let parts = both (is_empty a.defaults) (list_all (λ r. is_empty r.defaults) rules) none in
    ap (λ rs. fold with_default rs rules) (one a parts.0) ∙ none_by_default rules rows parts.1
  where
    same : (b : Bool) → (if b then rows else rows) ≡ rows
    same true = refl
    same false = refl

    one : (r : Rule) → is_empty r.defaults ≡ true → with_default rows r ≡ rows
    one r empty =
        ap (λ rs. if has_row r.id rows then rows else rs)
        (ap (λ texts. default_rows r.id (reading_by r) texts rows) (is_nil r.defaults empty)) ∙ same (has_row r.id rows)

-- the rows at the end of the words
line_rows : (line : Line) (words : List Text) → Spells line words → (rows : List Row)
    × (matches_of line_app words ≡ rows) × Reads rows (seen_in line)
unfolding words_of_line
line_rows line words is =
    let goes = line_goes line words is in
    let h = goes.holds in
    let last = settled_rows line_rules h.pending h.rows in (
      last,
      ap (λ ws. matches_of line_app ws) is.is
          ∙ ap (λ (w : Walk). finished line_rules w.held) h.at
          ∙ none_by_default line_rules last refl,
      h.reads,
    )

words_in : (words : List Text) → unwrap_or (some_words words) [] ≡ words
words_in [] = refl
words_in (word ∷ words) = refl

text_in : (text : Option Text) → option_and_then (λ vs. slice_get vs 0) (option_map (λ t. t ∷ []) text) ≡ text
text_in None = refl
text_in (Some text) = refl

line_simple : is_simple line_app ≡ true
unfolding clap_on_literals
line_simple = refl

pub line_found : (app : App) (m : ArgMatches) (words : List Text) → app ≡ line_app → HasMatchesOf app words m
    → (line : Line) → Spells line words → Finds line (found_of m)
line_found app m words is has line spelled =
    let end = line_rows line words spelled in
    let rows : rows_of (found_of m) ≡ end.0 = (has (ap is_simple is ∙ line_simple)).0 ∙ ap (λ a. matches_of a words) is
    ∙ end.1 in
    let option : (given : Given) → first_value (found_of m) (id_of given) ≡ seen_of given (seen_in line) =
    λ given. first_value-rows (found_of m) (id_of given) ∙ ap (first_of (id_of given)) rows
    ∙ first_all (id_of given) end.0
    ∙ ap (λ o. option_and_then (λ vs. slice_get vs 0) o) (end.2.options given)
    ∙ text_in (seen_of given (seen_in line)) in
    record {
      plain =
          ap (λ o. unwrap_or o []) (raw_values-rows (found_of m) (codes "plain") ∙ ap (all_of (codes "plain")) rows
          ∙ end.2.plain)
          ∙ words_in (line.files ++ line.behind);
      slack = option Slack;
      from = option From;
      closed = option Closed;
      draws = option Draws;
      heat = option Heat;
      workers = option Workers;
    }

-- ---- the words are taken

pub line_taken : (app : App) (words : List Text) → app ≡ line_app → (line : Line) → Spells line words →
    takes app words ≡ true
unfolding words_of_line
line_taken app words is line spelled =
    let goes = line_goes line words spelled in
    let h = goes.holds in
    ap (λ a. takes a words) is
    ∙ ap₂ (λ a b. a && b) line_simple
    (ap (λ ws. built_takes (built line_app) nothing_held (argument_words line_app ws)) spelled.is
    ∙ leaf_takes (built line_app) nothing_held (behind_command line) refl
    (ap₂ (λ a b. a && b) goes.passes
    (ap (λ b. b && true) (ap (λ (w : Walk). settle_passes line_rules false w.held) h.at ∙ h.settles))))
