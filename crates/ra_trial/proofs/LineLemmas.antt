-- Texts of lines, one number and one line after another.
use Rattle.std.proofs.Common.{inl, inr, ◌≡◌, ℕ, zero, suc, ◌+◌, ◌*◌, ◌<◌, ◌≤◌, List, [], ◌∷◌, ◌++◌, length, refl, sym}
use Rattle.std.proofs.Common.{ap}
use Rattle.std.proofs.Common.{◌∙◌, get_or, arith, add-one, append_assoc, length-append}
use Rattle.std.proofs.lemmas.List.{drop_all, append-nil, get_or_append_left}
use Rattle.std.proofs.lemmas.Bool.{cases_lt}
use Rattle.std.proofs.Math.Seq.{drop-cons, get_or-append_seam}
use Rattle.std.specs.Prelude.{drop}
use Rattle.std.specs.Fmt.{decimal}
use Rattle.ra_base.specs.Listed.{Listed}
use Rattle.ra_model_text.specs.Lines.{more_text, line_text, lines_text}
use Rattle.ra_model_text.proofs.LineTexts.{lines_append, lines_one}
use Rattle.ra_trial.specs.Lines.{listed, spaced_number_text, AddsAtMost}

-- the text from number k of a line on
unfoldable pub text_from : ℕ → List ℕ → List ℕ
text_from zero ns = line_text ns
text_from (suc k) ns = more_text ns

-- one number and what is after it
text_step : (k n : ℕ) (ns : List ℕ) → text_from k (n ∷ ns) ≡ spaced_number_text k n ++ text_from (suc k) ns
unfolding text_from spaced_number_text line_text more_text
text_step zero n ns = refl
text_step (suc k) n ns = refl

-- nothing of a line written yet
pub none_written : (before ns : List ℕ) → before ++ text_from 0 (drop 0 ns) ≡ before ++ line_text ns
unfolding text_from
none_written before ns = refl

all_written : (k : ℕ) (text whole : List ℕ) → text ++ text_from k [] ≡ whole → text ++ 10 ∷ [] ≡ whole
unfolding text_from line_text more_text
all_written zero text whole e = e
all_written (suc k) text whole e = e

module _ {k : ℕ} (text : List ℕ) {after whole : List ℕ} (ns : List ℕ) where
  -- one more number
  pub more_written : {n : ℕ} (d : ℕ) → k < length ns → text ++ text_from k (drop k ns) ≡ whole → n ≡ get_or ns k d →
      after ≡ text ++ spaced_number_text k n → after ++ text_from (k + 1) (drop (k + 1) ns) ≡ whole
  more_written d within before read e = rw (
    add-one,
    e,
    read,
    append_assoc text _ _,
    ← text_step k _ (drop _ ns),
    ← drop-cons ns k d within,
  ) before

  -- after the last number
  written : length ns ≤ k → text ++ text_from k (drop k ns) ≡ whole → after ≡ text ++ 10 ∷ [] → after ≡ whole
  written past before e =
      e ∙ all_written k text whole (ap (λ r. text ++ text_from k r) (sym (drop_all k ns past)) ∙ before)

-- the whole line, and LF after it
pub line_done : {k : ℕ} {before : Listed ℕ} (text : Listed ℕ) {after : Listed ℕ} (ns : List ℕ) → length ns ≤ k →
    k ≤ length ns → text.items ++ text_from k (drop k ns) ≡ before.items ++ line_text ns →
    length text.items ≤ length before.items + 11 * k → text.room ≡ before.room → after.items ≡ text.items ++ 10 ∷ [] →
    after.room ≡ text.room → AddsAtMost before after (line_text ns) (11 * length ns + 1)
line_done {k} {before} text {after} ns past within so_far short room end end_room = record {
  items = written text.items ns past so_far end;
  short = omega (arith, ap length end, length-append text.items (10 ∷ []));
  room = end_room ∙ room;
}

module _ {X : Type 0} where
  -- lists made by number
  pub listed_none : (f : ℕ → X) → listed 0 f ≡ []
  unfolding listed
  listed_none f = refl

  module _ (n : ℕ) (f : ℕ → X) where
    pub listed_more : listed (n + 1) f ≡ listed n f ++ f n ∷ []
    unfolding listed
    listed_more = rw add-one refl

    -- one more item after a list, and after other items
    pub listed_pushed : {items after : List X} {v : X} → items ≡ listed n f → v ≡ f n → after ≡ items ++ v ∷ [] →
        after ≡ listed (n + 1) f
    listed_pushed before same push = rw (push, before, same, listed_more) refl

  pub length_listed : (n : ℕ) (f : ℕ → X) → length (listed n f) ≡ n
  unfolding listed
  length_listed zero f = refl
  length_listed (suc n) f = omega (arith, length-append (listed n f) (f n ∷ []), length_listed n f)

  -- item i
  pub listed_at : (n : ℕ) (f : ℕ → X) (i : ℕ) (d : X) → i < n → get_or (listed n f) i d ≡ f i
  unfolding listed
  listed_at zero f i d within = absurd (omega arith)
  listed_at (suc n) f i d within = elim (cases_lt i n) [
    | inl before ↦ get_or_append_left (listed n f) (f n ∷ []) d i
        (omega (arith, length_listed n f)) ∙ listed_at n f i d before
    | inr behind ↦ let here : i ≡ n = omega arith in
        ap (λ k. get_or (listed n f ++ f n ∷ []) k d) (here ∙ sym (length_listed n f))
        ∙ (get_or-append_seam (listed n f) _ [] d ∙ ap f (sym here))
  ]

pub listed_behind : {n : ℕ} (f : ℕ → ℕ) (base : List ℕ) {items after : List ℕ} {v : ℕ} → items ≡ base ++ listed n f →
    v ≡ f n → after ≡ items ++ v ∷ [] → after ≡ base ++ listed (n + 1) f
listed_behind {n} f base before same push =
    rw (push, before, same, listed_more n f, append_assoc base (listed n f) _) refl

-- none yet
pub none_behind : (f : ℕ → ℕ) (base : List ℕ) → base ≡ base ++ listed 0 f
unfolding listed
none_behind f base = sym (append-nil base)

-- a count and no line after it, and one more line
counted_none : (x : List ℕ) (f : ℕ → List ℕ) → lines_text (x ∷ listed 0 f) ≡ line_text x
unfolding listed
counted_none x f = lines_one x

counted_more : (n : ℕ) (x : List ℕ) (f : ℕ → List ℕ) → lines_text (x ∷ listed (n + 1) f) ≡
    lines_text (x ∷ listed n f) ++ line_text (f n)
counted_more n x f = rw (listed_more n f, ← lines_one _) (lines_append _ _)

module _ {a b : Listed ℕ} where
  -- one text added after another
  pub adds_then : {c : Listed ℕ} {s t : List ℕ} {m n : ℕ} (o : ℕ) → m + n ≤ o → AddsAtMost a b s m →
      AddsAtMost b c t n → AddsAtMost a c (s ++ t) o
  adds_then {c} {s} {t} {m} {n} o enough first then = record {
    items = rw (then.items, first.items) (append_assoc a.items s t);
    short = omega (arith, first.short, then.short);
    room = then.room ∙ first.room;
  }

  -- what is added may be given by an equal text, and with a greater limit
  pub adds_as : {s t : List ℕ} {m o : ℕ} → s ≡ t → m ≤ o → AddsAtMost a b s m → AddsAtMost a b t o
  adds_as {m} same enough adds = record {
    items = rw (← same) adds.items;
    short = omega (arith, adds.short);
    room = adds.room;
  }

  module _ (x : List ℕ) (f : ℕ → List ℕ) where
    -- the count of a group, which is a line
    pub adds_count : {m : ℕ} → AddsAtMost a b (line_text x) m → AddsAtMost a b (lines_text (x ∷ listed 0 f)) m
    adds_count adds = rw (counted_none x f) adds

    -- the whole group
    pub adds_group : {k n m o : ℕ} → k ≡ n → m ≤ o → AddsAtMost a b (lines_text (x ∷ listed k f)) m →
        AddsAtMost a b (lines_text (x ∷ listed n f)) o
    adds_group all enough adds = rw (← all) (adds_as refl enough adds)

  -- one more line of a group
  pub adds_line : {c : Listed ℕ} (x : List ℕ) (f : ℕ → List ℕ) (k : ℕ) {m n o : ℕ} → m + n ≤ o →
      AddsAtMost a b (lines_text (x ∷ listed k f)) m → AddsAtMost b c (line_text (f k)) n →
      AddsAtMost a c (lines_text (x ∷ listed (k + 1) f)) o
  adds_line {c} x f k {m} {n} {o} enough before adds = rw (counted_more k x f) (adds_then o enough before adds)

-- a number after others, and the first
pub pushed_later : (k n : ℕ) {before between after : Listed ℕ} → 0 < k → between.items ≡ before.items ++ 32 ∷ [] →
    between.room ≡ before.room → AddsAtMost between after (decimal n) 10 →
    AddsAtMost before after (spaced_number_text k n) 11
unfolding spaced_number_text
pushed_later zero n later space same digits = absurd (omega (arith, later))
pushed_later (suc k) n {before} {between} later space same digits = adds_then {b = between} {s = 32 ∷ []} {m =
    1} 11 (omega arith)
    (record {
      items = space;
      short = omega (arith, ap length space, length-append before.items (32 ∷ []));
      room =
          same;
    })
    digits

pub pushed_first : (k n : ℕ) {before between after : Listed ℕ} → k ≤ 0 → between ≡ before →
    AddsAtMost between after (decimal n) 10 → AddsAtMost before after (spaced_number_text k n) 11
unfolding spaced_number_text
pushed_first zero n start same digits = rw (← same) (adds_as refl (omega arith) digits)
pushed_first (suc k) n start same digits = absurd (omega (arith, start))
