-- The walk of the one command over the words of a line: any word may come after any.
use Rattle.std.proofs.Common.{◌≡◌, ◌∙◌, ◌++◌, ◌&&◌, ◌||◌, ◌==◌, ap, ap₂, sym, subst, refl, codes, if◌then◌else◌, Bool}
use Rattle.std.proofs.Common.{true, false, List, [], ◌∷◌, Option, Some, None, option_map, is_some, append-nil}
use Rattle.std.proofs.Common.{append_assoc}
use Rattle.std.specs.Prelude.{fold, unwrap_or, option_and_then, nat_lt, not}
use Rattle.clap.proofs.WalkLemmas.{both}
use Rattle.std.specs.Option.{option_map_or}
use Rattle.std.specs.List.{list_all}
use Rattle.std.specs.Str.{bytes_eq}
use Rattle.clap.specs.Lexer.{long_of, long_of_rest, short_of, short_of_rest, strip_byte}
use Rattle.clap.specs.Simple.{Shape, built}
use Rattle.clap.specs.Simple.{filled, with_index}
use Rattle.clap.specs.Takes.{bundle_passes, flag_word_passes, long_passes, other_passes, settle_passes, step_passes}
use Rattle.clap.specs.Takes.{turn_passes, use_passes, walk_passes, word_passes}
use Rattle.clap.specs.Walk.{Held, Row, Rule, Step, Text, Waiting, Walk, after_flag, after_step, all_of, arg_by_id}
use Rattle.clap.specs.Walk.{arg_by_long, idle, is_pending, long_met, long_or_other, next, option, option_word}
use Rattle.clap.specs.Walk.{plain_word, positional, pushed, settled, settled_rows, short_or_plain, subcommand_met}
use Rattle.clap.specs.Walk.{subcommand_or_other, trailing, used_by_id, walked, with_values, word_met}
use Rattle.clap.specs.declared.builder.value_parser.Reading.TheVariants.{AsWritten}
use Rattle.clap.specs.declared.parser.matches.ValueSource.TheVariants.{CommandLine}
use Rattle.ra_words.specs.Words.{is_name}
use Rattle.ra_words.specs.Lines.{line_app, option_rule, option_words, plain_rule}
use Rattle.ra_words.proofs.RowLaws.{has_row_all, none_out, others_kept, same_id, values_added}

-- the one command as it is built, and its arguments
abbrev pub line_shape : Shape
line_shape = (built line_app).top

abbrev pub line_rules : List Rule
line_rules = line_shape.rules

-- ---- a word that is not an option

not_dash : (word : Text) → is_name word ≡ true → strip_byte 45 word ≡ None
not_dash [] name = cc
not_dash (x ∷ xs) name = go (x == 45) refl
  where
    go : (b : Bool) → (x == 45) ≡ b → strip_byte 45 (x ∷ xs) ≡ None
    go true is = cc
    go false is = rw is refl

no_end : (word : Text) → is_name word ≡ true → bytes_eq word (45 ∷ 45 ∷ []) ≡ false
no_end [] name = cc
no_end (x ∷ xs) name = go (x == 45) refl
  where
    go : (b : Bool) → (x == 45) ≡ b → bytes_eq (x ∷ xs) (45 ∷ 45 ∷ []) ≡ false
    go true is = cc
    go false is = rw is refl

module _ (word : Text) (name : is_name word ≡ true) where
  no_long : long_of word ≡ None
  no_long = ap (λ o. option_and_then long_of_rest (option_and_then (strip_byte 45) o)) (not_dash word name)

  no_short : short_of word ≡ None
  no_short = ap (λ o. option_and_then short_of_rest o) (not_dash word name)

no_command : (waiting : Waiting) (word : Text) → subcommand_met [] waiting word ≡ None
no_command idle word = refl
no_command (option id) word = refl
no_command positional word = refl

module _ (s : Shape) (waiting : Waiting) (word : Text) (h : Held) (name : is_name word ≡ true) where
  plain_met : word_met s.rules [] false waiting 1 word h ≡ plain_word s.rules waiting word h
  plain_met =
      ap (λ o. subcommand_or_other s.rules o waiting 1 word h) (no_command waiting word)
      ∙ ap (λ b. if b then (h, trailing 1) else long_or_other s.rules waiting word (long_of word) h) (no_end word name)
      ∙ ap (λ o. long_or_other s.rules waiting word o h) (no_long word name)
      ∙ ap (λ o. short_or_plain s.rules waiting word o h) (no_short word name)

  plain_passes : word_passes s [] false waiting word h ≡ true
  plain_passes =
      ap (λ o. other_passes s o word h) (no_command waiting word)
      ∙ ap (λ b. b || flag_word_passes s.rules s.args_override_self (long_of word) word h) (no_end word name)
      ∙ ap (λ o. flag_word_passes s.rules s.args_override_self o word h) (no_long word name)
      ∙ ap (λ o. option_map_or (λ flags. bundle_passes s.rules s.args_override_self flags h) o true)
      (no_short word name)

-- ---- how far the walk is

abbrev pub held : List Row → Option (Text × List Text) → Held
held rows pending = record { rows = rows; pending = pending; skip = 0 }

abbrev pub standing : List Row → Option (Text × List Text) → Waiting → Walk
standing rows pending waiting = record {
  held = held rows pending;
  waiting = waiting;
  position = 1;
  is_trailing = false;
  stopped = None;
}

-- nothing waits for a value
abbrev pub is_free : Waiting → Bool
is_free (option id) = false
is_free _ = true

and_false : (b : Bool) → (b && false) ≡ false
and_false true = refl
and_false false = refl

or_true : (b : Bool) → (b || true) ≡ true
or_true true = refl
or_true false = refl

module _ (rows : List Row) (pending : Option (Text × List Text)) (waiting : Waiting) (word : Text)
    (free : is_free waiting ≡ true) (name : is_name word ≡ true) where
  -- a plain word goes after the plain words
  plain_walked : walked line_rules [] (standing rows pending waiting) word ≡
      standing (settled_rows line_rules pending rows) (Some (codes "plain", word ∷ [])) positional
  unfolding walked
  plain_walked = met waiting free ∙ settles
    where
      plain : Rule
      plain = with_index 1 (filled plain_rule)

      at : Bool → Walk
      at b = record {
        held = pushed (codes "plain") word (if b then held rows pending else settled line_rules (held rows pending));
        waiting = positional;
        position = 1;
        is_trailing = false;
        stopped = None;
      }

      met : (w : Waiting) → is_free w ≡ true → walked line_rules [] (standing rows pending w) word ≡
          at (is_pending plain pending && false)
      met idle e = ap (λ (m : Held × Step). after_step line_rules word (standing rows pending idle) m.0 m.1)
          (plain_met line_shape idle word (held rows pending) name)
      met (option id) e = cc
      met positional e = ap (λ (m : Held × Step). after_step line_rules word (standing rows pending positional) m.0 m.1)
          (plain_met line_shape positional word (held rows pending) name)

      settles : at (is_pending plain pending && false) ≡ standing (settled_rows line_rules pending rows)
          (Some (codes "plain", word ∷ [])) positional
      settles = ap at (and_false (is_pending plain pending))

  -- the word is taken, if what waited before it is
  plain_turn : settle_passes line_rules false (held rows pending) ≡ true →
      turn_passes line_shape [] (standing rows pending waiting) word ≡ true
  plain_turn settles =
      ap₂ (λ a b. a && b) (plain_passes line_shape waiting word (held rows pending) name)
      (ap (λ (m : Held × Step). step_passes line_shape 1 m.0 m.1)
      (plain_met line_shape waiting word (held rows pending) name) ∙ steps waiting free)
    where
      plain : Rule
      plain = with_index 1 (filled plain_rule)

      here : ((is_pending plain pending && false) || settle_passes line_rules false (held rows pending)) ≡ true
      here = ap (λ b. (is_pending plain pending && false) || b) settles ∙ or_true (is_pending plain pending && false)

      steps : (w : Waiting) → is_free w ≡ true
          → step_passes line_shape 1 (plain_word line_rules w word (held rows pending)).0
          (plain_word line_rules w word (held rows pending)).1 ≡ true
      steps idle e = here
      steps (option id) e = cc
      steps positional e = here

-- ---- an option and its value

-- the id is that of an option with this flag
pub record IsOption (id flag : Text) : Type 0 where
  pub by_id : arg_by_id line_rules id ≡ Some (filled (option_rule id))
  pub by_long : arg_by_long line_rules id ≡ Some (filled (option_rule id))
  pub long : long_of flag ≡ Some (id, None)
  pub no_end : bytes_eq flag (45 ∷ 45 ∷ []) ≡ false

module _ (id flag : Text) (is : IsOption id flag) (rows : List Row) (pending : Option (Text × List Text)) where
  flag_met : (waiting : Waiting) → word_met line_rules [] false waiting 1 flag (held rows pending)
      ≡ (held (settled_rows line_rules pending rows) (Some (id, [])), next (option id))
  flag_met waiting =
      ap (λ o. subcommand_or_other line_rules o waiting 1 flag (held rows pending)) (no_command waiting flag)
      ∙ ap (λ b. if b then (held rows pending, trailing 1) else long_or_other line_rules waiting flag (long_of flag)
      (held rows pending)) is.no_end
      ∙ ap (λ o. long_or_other line_rules waiting flag o (held rows pending)) is.long
      ∙ ap (λ o. after_flag line_rules waiting flag (long_met line_rules o None (held rows pending)).0
      (long_met line_rules o None (held rows pending)).1) is.by_long

  flag_walked : (waiting : Waiting) → walked line_rules [] (standing rows pending waiting) flag
      ≡ standing (settled_rows line_rules pending rows) (Some (id, [])) (option id)
  unfolding walked
  flag_walked waiting =
      ap (λ (m : Held × Step). after_step line_rules flag (standing rows pending waiting) m.0 m.1) (flag_met waiting)

  flag_turn : (waiting : Waiting) → settle_passes line_rules false (held rows pending) ≡ true →
      turn_passes line_shape [] (standing rows pending waiting) flag ≡ true
  flag_turn waiting settles =
      ap₂ (λ a b. a && b) passes (ap (λ (m : Held × Step). step_passes line_shape 1 m.0 m.1) (flag_met waiting))
    where
      passes : word_passes line_shape [] false waiting flag (held rows pending) ≡ true
      passes =
          ap (λ o. other_passes line_shape o flag (held rows pending)) (no_command waiting flag)
          ∙ ap (λ b. b || flag_word_passes line_rules false (long_of flag) flag (held rows pending)) is.no_end
          ∙ ap (λ o. flag_word_passes line_rules false o flag (held rows pending)) is.long
          ∙ ap (λ o. long_passes line_rules false o None (held rows pending)) is.by_long
          ∙ settles

module _ (id flag : Text) (is : IsOption id flag) (rows : List Row) (word : Text) (name : is_name word ≡ true) where
  value_met : word_met line_rules [] false (option id) 1 word (held rows (Some (id, []))) ≡
      (held rows (Some (id, word ∷ [])), next idle)
  value_met =
      plain_met line_shape (option id) word (held rows (Some (id, []))) name
      ∙ ap (λ o. (
        (option_word o id word (held rows (Some (id, [])))).0,
        next (option_word o id word (held rows (Some (id, [])))).1,
      )) is.by_id
      ∙ ap (λ b. (held rows (Some (id, word ∷ [])), next (if nat_lt (if b then 1 else 0) 1 then option id else idle)))
      (same_id id)

  value_walked : walked line_rules [] (standing rows (Some (id, [])) (option id)) word ≡
      standing rows (Some (id, word ∷ [])) idle
  unfolding walked
  value_walked =
      ap (λ (m : Held × Step). after_step line_rules word (standing rows (Some (id, [])) (option id)) m.0 m.1) value_met

  value_turn : turn_passes line_shape [] (standing rows (Some (id, [])) (option id)) word ≡ true
  value_turn =
      ap₂ (λ a b. a && b) (plain_passes line_shape (option id) word (held rows (Some (id, []))) name)
      (ap (λ (m : Held × Step). step_passes line_shape 1 m.0 m.1) value_met)

-- ---- what was found so far

-- the options of the line
pub data Given : Type 0 where
  Slack : Given
  From : Given
  Closed : Given
  Draws : Given
  Heat : Given
  Workers : Given

abbrev pub id_of : Given → Text
id_of Slack = codes "slack"
id_of From = codes "from"
id_of Closed = codes "closed"
id_of Draws = codes "draws"
id_of Heat = codes "heat"
id_of Workers = codes "workers"

abbrev pub flag_of : Given → Text
flag_of Slack = codes "--slack"
flag_of From = codes "--from"
flag_of Closed = codes "--closed"
flag_of Draws = codes "--draws"
flag_of Heat = codes "--heat"
flag_of Workers = codes "--workers"

are_options : (given : Given) → IsOption (id_of given) (flag_of given)
are_options Slack = record { by_id = refl; by_long = refl; long = refl; no_end = refl }
are_options From = record { by_id = refl; by_long = refl; long = refl; no_end = refl }
are_options Closed = record { by_id = refl; by_long = refl; long = refl; no_end = refl }
are_options Draws = record { by_id = refl; by_long = refl; long = refl; no_end = refl }
are_options Heat = record { by_id = refl; by_long = refl; long = refl; no_end = refl }
are_options Workers = record { by_id = refl; by_long = refl; long = refl; no_end = refl }

-- the plain words and the values of the options
pub record Seen : Type 0 where
  pub plain : List Text
  pub slack : Option Text
  pub from : Option Text
  pub closed : Option Text
  pub draws : Option Text
  pub heat : Option Text
  pub workers : Option Text

abbrev pub seen_of : Given → Seen → Option Text
seen_of Slack seen = seen.slack
seen_of From seen = seen.from
seen_of Closed seen = seen.closed
seen_of Draws seen = seen.draws
seen_of Heat seen = seen.heat
seen_of Workers seen = seen.workers

abbrev pub with_seen : Given → Option Text → Seen → Seen
with_seen Slack text seen = record seen { slack = text }
with_seen From text seen = record seen { from = text }
with_seen Closed text seen = record seen { closed = text }
with_seen Draws text seen = record seen { draws = text }
with_seen Heat text seen = record seen { heat = text }
with_seen Workers text seen = record seen { workers = text }

abbrev pub some_words : List Text → Option (List Text)
some_words [] = None
some_words (word ∷ words) = Some (word ∷ words)

-- the rows have just that
pub record Reads (rows : List Row) (seen : Seen) : Type 0 where
  pub plain : all_of (codes "plain") rows ≡ some_words seen.plain
  pub options : (given : Given) → all_of (id_of given) rows ≡ option_map (λ text. text ∷ []) (seen_of given seen)

one_more : (words : List Text) (word : Text) → Some (unwrap_or (some_words words) [] ++ word ∷ []) ≡
    some_words (words ++ word ∷ [])
one_more [] word = refl
one_more (w ∷ words) word = refl

plain_apart : (given : Given) → bytes_eq (codes "plain") (id_of given) ≡ false
plain_apart Slack = refl
plain_apart From = refl
plain_apart Closed = refl
plain_apart Draws = refl
plain_apart Heat = refl
plain_apart Workers = refl

plain_reads : (rows : List Row) (seen : Seen) (word : Text) → Reads rows seen
    → Reads (settled_rows line_rules (Some (codes "plain", word ∷ [])) rows)
    (record seen { plain = seen.plain ++ word ∷ [] })
plain_reads rows seen word reads = record {
  plain =
      values_added (codes "plain") AsWritten CommandLine (word ∷ []) rows
      ∙ ap (λ o. Some (unwrap_or o [] ++ word ∷ [])) reads.plain ∙ one_more seen.plain word;
  options = λ given. others_kept (codes "plain") (id_of given) AsWritten CommandLine (word ∷ []) rows
      (plain_apart given) ∙ options given;
}
  where
    seen_now : Seen
    seen_now = record seen { plain = seen.plain ++ word ∷ [] }

    options : (given : Given) → all_of (id_of given) rows ≡ option_map (λ text. text ∷ []) (seen_of given seen_now)
    options Slack = reads.options Slack
    options From = reads.options From
    options Closed = reads.options Closed
    options Draws = reads.options Draws
    options Heat = reads.options Heat
    options Workers = reads.options Workers

-- the rows after an option that wasn't there before
abbrev option_rows : Given → Text → List Row → List Row
option_rows given text rows = with_values (id_of given) AsWritten CommandLine (text ∷ []) rows

settled_option : (given : Given) (text : Text) (rows : List Row) → all_of (id_of given) rows ≡ None
    → settled_rows line_rules (Some (id_of given, text ∷ [])) rows ≡ option_rows given text rows
settled_option given text rows none =
    ap (λ o. used_by_id o (text ∷ []) rows) (are_options given).by_id
    ∙ ap (λ rs. with_values (id_of given) AsWritten CommandLine (text ∷ []) rs) (none_out (id_of given) rows none)

option_reads : (given : Given) (rows : List Row) (seen : Seen) (text : Text) → Reads rows seen →
    seen_of given seen ≡ None
    → Reads (option_rows given text rows) (with_seen given (Some text) seen)
option_reads given rows seen text reads none = record { plain = plain given; options = options given none }
  where
    plain : (g : Given) → all_of (codes "plain") (option_rows g text rows) ≡
        some_words (with_seen g (Some text) seen).plain
    plain Slack =
        others_kept (codes "slack") (codes "plain") AsWritten CommandLine (text ∷ []) rows refl ∙ reads.plain
    plain From =
        others_kept (codes "from") (codes "plain") AsWritten CommandLine (text ∷ []) rows refl ∙ reads.plain
    plain Closed =
        others_kept (codes "closed") (codes "plain") AsWritten CommandLine (text ∷ []) rows refl ∙ reads.plain
    plain Draws =
        others_kept (codes "draws") (codes "plain") AsWritten CommandLine (text ∷ []) rows refl ∙ reads.plain
    plain Heat =
        others_kept (codes "heat") (codes "plain") AsWritten CommandLine (text ∷ []) rows refl ∙ reads.plain
    plain Workers =
        others_kept (codes "workers") (codes "plain") AsWritten CommandLine (text ∷ []) rows refl ∙ reads.plain

    first : (g : Given) → seen_of g seen ≡ None → all_of (id_of g) (option_rows g text rows) ≡ Some (text ∷ [])
    first g e =
        values_added (id_of g) AsWritten CommandLine (text ∷ []) rows
        ∙ ap (λ o. Some (unwrap_or o [] ++ text ∷ [])) (reads.options g ∙ ap (λ o. option_map (λ t. t ∷ []) o) e)

    other : (g o : Given) → bytes_eq (id_of g) (id_of o) ≡ false → all_of (id_of o) (option_rows g text rows) ≡
        option_map (λ t. t ∷ []) (seen_of o seen)
    other g o apart = others_kept (id_of g) (id_of o) AsWritten CommandLine (text ∷ []) rows apart ∙ reads.options o

    options : (g : Given) → seen_of g seen ≡ None → (o : Given) → all_of (id_of o) (option_rows g text rows) ≡
        option_map (λ t. t ∷ []) (seen_of o (with_seen g (Some text) seen))
    options Slack e Slack = first Slack e
    options Slack e From = other Slack From refl
    options Slack e Closed = other Slack Closed refl
    options Slack e Draws = other Slack Draws refl
    options Slack e Heat = other Slack Heat refl
    options Slack e Workers = other Slack Workers refl
    options From e Slack = other From Slack refl
    options From e From = first From e
    options From e Closed = other From Closed refl
    options From e Draws = other From Draws refl
    options From e Heat = other From Heat refl
    options From e Workers = other From Workers refl
    options Closed e Slack = other Closed Slack refl
    options Closed e From = other Closed From refl
    options Closed e Closed = first Closed e
    options Closed e Draws = other Closed Draws refl
    options Closed e Heat = other Closed Heat refl
    options Closed e Workers = other Closed Workers refl
    options Draws e Slack = other Draws Slack refl
    options Draws e From = other Draws From refl
    options Draws e Closed = other Draws Closed refl
    options Draws e Draws = first Draws e
    options Draws e Heat = other Draws Heat refl
    options Draws e Workers = other Draws Workers refl
    options Heat e Slack = other Heat Slack refl
    options Heat e From = other Heat From refl
    options Heat e Closed = other Heat Closed refl
    options Heat e Draws = other Heat Draws refl
    options Heat e Heat = first Heat e
    options Heat e Workers = other Heat Workers refl
    options Workers e Slack = other Workers Slack refl
    options Workers e From = other Workers From refl
    options Workers e Closed = other Workers Closed refl
    options Workers e Draws = other Workers Draws refl
    options Workers e Heat = other Workers Heat refl
    options Workers e Workers = first Workers e

-- ---- the walk over more words

-- between two words nothing waits, what is held passes, and this was found
pub record Holds (w : Walk) (seen : Seen) : Type 0 where
  pub rows : List Row
  pub pending : Option (Text × List Text)
  pub waiting : Waiting
  pub at : w ≡ standing rows pending waiting
  pub free : is_free waiting ≡ true
  pub settles : settle_passes line_rules false (held rows pending) ≡ true
  pub reads : Reads (settled_rows line_rules pending rows) seen

-- the words pass, and at their end this was found
pub record Goes (w : Walk) (words : List Text) (seen : Seen) : Type 0 where
  pub passes : walk_passes line_shape [] w words ≡ true
  pub holds : Holds (fold (walked line_rules []) w words) seen

-- one word more in front
one_turn : (w v : Walk) (word : Text) (words : List Text) (seen : Seen) → turn_passes line_shape [] w word ≡ true →
    walked line_rules [] w word ≡ v
    → Goes v words seen → Goes w (word ∷ words) seen
unfolding walk_passes
one_turn w v word words seen passes is goes =
    record {
      passes = ap₂ (λ a b. a && b) passes (ap (λ u. walk_passes line_shape [] u words) is ∙ goes.passes);
      holds = subst (λ (u : Walk). Holds (fold (walked line_rules []) u words) seen) (sym is) goes.holds;
    }

module _ (w : Walk) (seen : Seen) where
  pub end_goes : Holds w seen → Goes w [] seen
  unfolding walk_passes
  end_goes holds = record { passes = refl; holds = holds }

  plain_goes : (all : Seen) (word : Text) (words : List Text) → Holds w seen → is_name word ≡ true →
      ((v : Walk) → Holds v (record seen { plain = seen.plain ++ word ∷ [] }) → Goes v words all) →
      Goes w (word ∷ words) all
  plain_goes all word words h name more =
      let v = standing (settled_rows line_rules h.pending h.rows) (Some (codes "plain", word ∷ [])) positional in
      rw h.at
      (one_turn (standing h.rows h.pending h.waiting) v word words all
      (plain_turn h.rows h.pending h.waiting word h.free name h.settles)
      (plain_walked h.rows h.pending h.waiting word h.free name)
      (more v (record {
        rows = settled_rows line_rules h.pending h.rows;
        pending = Some (codes "plain", word ∷ []);
        waiting = positional;
        at = refl;
        free = refl;
        settles = refl;
        reads = plain_reads (settled_rows line_rules h.pending h.rows) seen word h.reads;
      })))

  option_goes : (all : Seen) (given : Given) (text : Text) (words : List Text) → Holds w seen → is_name text ≡ true →
      seen_of given seen ≡ None → ((v : Walk) → Holds v (with_seen given (Some text) seen) → Goes v words all) →
      Goes w (flag_of given ∷ text ∷ words) all
  option_goes all given text words h name none more =
      let rows = settled_rows line_rules h.pending h.rows in
      let id = id_of given in
      let is = are_options given in
      let missing : all_of id rows ≡ None = h.reads.options given ∙ ap (λ o. option_map (λ t. t ∷ []) o) none in
      let settles : settle_passes line_rules false (held rows (Some (id, text ∷ []))) ≡ true =
      ap (λ o. option_map_or (λ a. use_passes false a (text ∷ []) rows) o true) is.by_id
      ∙ ap (λ b. (not b || false) && true) (has_row_all id rows ∙ ap is_some missing) in
      let reads : Reads (settled_rows line_rules (Some (id, text ∷ [])) rows) (with_seen given (Some text) seen) =
      rw (settled_option given text rows missing) (option_reads given rows seen text h.reads none) in
      let last : Walk = standing rows (Some (id, text ∷ [])) idle in
      let between : Walk = standing rows (Some (id, [])) (option id) in
      rw h.at
      (one_turn (standing h.rows h.pending h.waiting) between (flag_of given) (text ∷ words) all
      (flag_turn id (flag_of given) is h.rows h.pending h.waiting h.settles)
      (flag_walked id (flag_of given) is h.rows h.pending h.waiting)
      (one_turn between last text words all
      (value_turn id (flag_of given) is rows text name)
      (value_walked id (flag_of given) is rows text name)
      (more last (record {
        rows = rows;
        pending = Some (id, text ∷ []);
        waiting = idle;
        at = refl;
        free = refl;
        settles = settles;
        reads = reads;
      }))))

-- plain words, one after the other
pub plains_go : (w : Walk) (seen all : Seen) (plain words : List Text) → Holds w seen → list_all is_name plain ≡ true
    → ((v : Walk) → Holds v (record seen { plain = seen.plain ++ plain }) → Goes v words all) →
    Goes w (plain ++ words) all
plains_go w seen all [] words h names more =
    more w (rw (append-nil seen.plain) h)
plains_go w seen all (word ∷ plain) words h names more =
    let parts = both (is_name word) (list_all is_name plain) names in
    plain_goes w seen all word (plain ++ words) h parts.0
    (λ v holds. plains_go v (record seen { plain = seen.plain ++ word ∷ [] }) all plain words holds parts.1
    (λ u last. more u (rw (← append_assoc seen.plain (word ∷ []) plain) last)))

-- an option, if it is given
pub maybe_goes : (w : Walk) (seen all : Seen) (given : Given) (text : Option Text) (words : List Text) → Holds w seen →
    option_map_or is_name text true ≡ true → seen_of given seen ≡ None
    → ((v : Walk) → Holds v (with_seen given text seen) → Goes v words all) →
    Goes w (option_words (flag_of given) text ++ words) all
unfolding option_words
maybe_goes w seen all given None words h named none more = more w (same given none)
  where
    same : (g : Given) → seen_of g seen ≡ None → Holds w (with_seen g None seen)
    same Slack e = subst (λ o. Holds w (record seen { slack = o })) e h
    same From e = subst (λ o. Holds w (record seen { from = o })) e h
    same Closed e = subst (λ o. Holds w (record seen { closed = o })) e h
    same Draws e = subst (λ o. Holds w (record seen { draws = o })) e h
    same Heat e = subst (λ o. Holds w (record seen { heat = o })) e h
    same Workers e = subst (λ o. Holds w (record seen { workers = o })) e h
maybe_goes w seen all given (Some text) words h named none more =
    option_goes w seen all given text words h named none more
