-- Bytes have one wrong line, or none.
use Rattle.std.proofs.Common.{◌≡◌, ◌≢◌, ℕ, ◌+◌, ◌<◌, ◌≤◌, ◌⊎◌, inl, inr, List, [], ◌∷◌, ◌++◌, length, Option, Some, None, unwrap_or, refl, sym, ap, ◌∙◌, subst, arith}
use Rattle.std.proofs.lemmas.List.{ext_get_or}
use Rattle.std.proofs.lemmas.Option.{slice_get_past}
use Rattle.ra_draws.specs.declared.budgets.Lots.{Lots}
use Rattle.ra_token.specs.Lines.{lines_of, line_at, FirstUnlike}
use Rattle.ra_journal.specs.declared.entries.Entry.{Entry}
use Rattle.ra_journal.specs.Entries.{entry_at}
use Rattle.ra_journal.specs.Legal.{Legal, Whole}
use Rattle.ra_journal.specs.Openings.{Opening}
use Rattle.ra_journal.proofs.NextLemmas.{carried, next_legal}
use Rattle.ra_journal.proofs.Places.{SameBelow}
use Rattle.ra_report.specs.JournalTexts.{entry_line, report_text}
use Rattle.ra_report.proofs.EntryTexts.{entry_then}
use Rattle.ra_verify.specs.WrongLines.{first_over_long, AreRight, AreAllRight, IsWrongEntry, IsCutOff, IsWrongHead, NoneIsWrong, IsWrongLine}
use Rattle.ra_verify.specs.Laws.{OneWrongLine}
use Rattle.ra_verify.proofs.PlaceLemmas.{is_some}

same_some : (x y : List ℕ) → Some x ≡ Some y → x ≡ y
same_some x y e = ap (λ (o : Option (List ℕ)). unwrap_or o []) e

-- the lines of two journals tell the same entries
both_same : (o : Opening) (bytes : List ℕ) (h g : List Entry) (j : ℕ) →
    AreRight o bytes h → AreRight o bytes g → j < length h → j < length g → entry_at h j ≡ entry_at g j
both_same o bytes h g j one other in_h in_g =
    (entry_then j (entry_at h j) (entry_at g j) [] []
    (ap (λ (t : List ℕ). t ++ []) (same_some _ _ (sym (one.lines j in_h) ∙ other.lines j in_g)))).same

-- right entry lines after which no other line is right
record Stops (o : Opening) (bytes : List ℕ) (h : List Entry) : Type 0 where
  pub right : AreRight o bytes h
  pub stop : (e : Entry) → Legal o (h ++ e ∷ []) → line_at (10 + length h) bytes ≢ Some (entry_line (length h) e)

-- there are no longer ones
not_longer : (o : Opening) (bytes : List ℕ) (h g : List Entry) → Stops o bytes h →
    AreRight o bytes g → length h < length g → ⊥
not_longer o bytes h g stops right less =
    let n = length h in
    let e = entry_at g n in
    let same : SameBelow n g h = record {
      each = λ j before. both_same o bytes g h j right stops.right (omega (arith, before, less)) before;
    } in
    stops.stop e (next_legal o h e stops.right.legal (carried o g h n e same (right.legal.each n less)))
    (right.lines n less)

same_journal : (o : Opening) (bytes : List ℕ) (h g : List Entry) → Stops o bytes h → Stops o bytes g → h ≡ g
unfolding entry_at
same_journal o bytes h g one other =
    let no_less : length h < length g → ⊥ = λ less. not_longer o bytes h g one other.right less in
    let no_more : length g < length h → ⊥ = λ more. not_longer o bytes g h other one.right more in
    let long : length h ≡ length g = omega arith in
    ext_get_or _ h g long
    (λ j within. both_same o bytes h g j one.right other.right within (omega (arith, within, long)))

-- so do all of them, if they are right
all_stop : (o : Opening) (bytes : List ℕ) (h : List Entry) → AreAllRight o bytes h → Stops o bytes h
unfolding line_at
all_stop o bytes h all = record {
  right = all.right;
  stop = λ e legal there. is_some (line_at (10 + length h) bytes) (entry_line (length h) e) there
      (slice_get_past (lines_of bytes) (10 + length h) all.all);
}

-- what is wrong after the right entry lines of journal h
record EntryFirst (bytes : List ℕ) (h : List Entry) (answer : Option ℕ) : Type 0 where
  pub there : 10 + length h < length (lines_of bytes)
  pub is : answer ≡ Some (11 + length h)

record EndFirst (l : Lots) (bytes : List ℕ) (h : List Entry) (answer : Option ℕ) : Type 0 where
  pub all : length (lines_of bytes) ≤ 10 + length h
  pub not_whole : Whole l h → ⊥
  pub is : answer ≡ Some (length (lines_of bytes) + 1)

record HeadFirst (o : Opening) (bytes : List ℕ) (h : List Entry) (answer : Option ℕ) :
    Type 0 where
  pub all : length (lines_of bytes) ≤ 10 + length h
  pub whole : Whole o.lots h
  pub place : ℕ
  pub within : place < 10
  pub unlike : FirstUnlike bytes (report_text o h) place
  pub is : answer ≡ Some (place + 1)

record NoneFirst (o : Opening) (bytes : List ℕ) (h : List Entry) (answer : Option ℕ) :
    Type 0 where
  pub all : length (lines_of bytes) ≤ 10 + length h
  pub whole : Whole o.lots h
  pub head : (n : ℕ) → n < 10 → line_at n bytes ≡ line_at n (report_text o h)
  pub is : answer ≡ None

abbrev Ended : Opening → List ℕ → List Entry → Option ℕ → Type 0
Ended o bytes h answer = EntryFirst bytes h answer
    ⊎ (EndFirst o.lots bytes h answer ⊎ (HeadFirst o bytes h answer ⊎ NoneFirst o bytes h answer))

unlike_once : (a b : List ℕ) (m n : ℕ) → FirstUnlike a b m → FirstUnlike a b n → m ≡ n
unlike_once a b m n one other =
    let no_less : m < n → ⊥ = λ less. one.here (other.before m less) in
    let no_more : n < m → ⊥ = λ more. other.here (one.before n more) in
    omega arith

same_end : (o : Opening) (bytes : List ℕ) (h : List Entry) (one other : Option ℕ) →
    Ended o bytes h one → Ended o bytes h other → one ≡ other
same_end o bytes h one other (inl e) (inl f) = e.is ∙ sym f.is
same_end o bytes h one other (inl e) (inr (inl f)) = absurd (omega (arith, e.there, f.all))
same_end o bytes h one other (inl e) (inr (inr (inl f))) = absurd (omega (arith, e.there, f.all))
same_end o bytes h one other (inl e) (inr (inr (inr f))) = absurd (omega (arith, e.there, f.all))
same_end o bytes h one other (inr (inl e)) (inl f) = absurd (omega (arith, f.there, e.all))
same_end o bytes h one other (inr (inl e)) (inr (inl f)) = e.is ∙ sym f.is
same_end o bytes h one other (inr (inl e)) (inr (inr (inl f))) = absurd (e.not_whole f.whole)
same_end o bytes h one other (inr (inl e)) (inr (inr (inr f))) = absurd (e.not_whole f.whole)
same_end o bytes h one other (inr (inr (inl e))) (inl f) = absurd (omega (arith, f.there, e.all))
same_end o bytes h one other (inr (inr (inl e))) (inr (inl f)) = absurd (f.not_whole e.whole)
same_end o bytes h one other (inr (inr (inl e))) (inr (inr (inl f))) = e.is
    ∙ ap (λ (n : ℕ). Some (n + 1)) (unlike_once bytes (report_text o h) e.place f.place e.unlike f.unlike)
    ∙ sym f.is
same_end o bytes h one other (inr (inr (inl e))) (inr (inr (inr f))) =
    absurd (e.unlike.here (f.head e.place e.within))
same_end o bytes h one other (inr (inr (inr e))) (inl f) = absurd (omega (arith, f.there, e.all))
same_end o bytes h one other (inr (inr (inr e))) (inr (inl f)) = absurd (f.not_whole e.whole)
same_end o bytes h one other (inr (inr (inr e))) (inr (inr (inl f))) =
    absurd (f.unlike.here (e.head f.place f.within))
same_end o bytes h one other (inr (inr (inr e))) (inr (inr (inr f))) = e.is ∙ sym f.is

-- an answer if no line of the first ten is over long
record HasEnded (o : Opening) (bytes : List ℕ) (answer : Option ℕ) : Type 0 where
  pub short : first_over_long bytes ≡ None
  pub journal : List Entry
  pub stops : Stops o bytes journal
  pub ended : Ended o bytes journal answer

record IsLongFirst (bytes : List ℕ) (answer : Option ℕ) : Type 0 where
  pub number : ℕ
  pub long : first_over_long bytes ≡ Some number
  pub is : answer ≡ Some number

abbrev Answered : Opening → List ℕ → Option ℕ → Type 0
Answered o bytes answer = IsLongFirst bytes answer ⊎ HasEnded o bytes answer

entry_ended : (o : Opening) (bytes : List ℕ) (n : ℕ) → IsWrongEntry o bytes n → HasEnded o bytes (Some n)
entry_ended o bytes n is = record {
  short = is.short;
  journal = is.journal;
  stops = record { right = is.right; stop = is.wrong };
  ended = inl (record { there = is.there; is = ap Some is.number });
}

cut_ended : (o : Opening) (bytes : List ℕ) (n : ℕ) → IsCutOff o bytes n → HasEnded o bytes (Some n)
cut_ended o bytes n is = record {
  short = is.short;
  journal = is.journal;
  stops = all_stop o bytes is.journal is.right;
  ended = inr (inl (record { all = is.right.all; not_whole = is.not_whole; is = ap Some is.number }));
}

head_ended : (o : Opening) (bytes : List ℕ) (n : ℕ) → IsWrongHead o bytes n → HasEnded o bytes (Some n)
head_ended o bytes n is = record {
  short = is.short;
  journal = is.journal;
  stops = all_stop o bytes is.journal is.right;
  ended = inr (inr (inl (record {
    all = is.right.all;
    whole = is.whole;
    place = is.place;
    within = is.within;
    unlike = is.unlike;
    is = ap Some is.number;
  })));
}

none_ended : (o : Opening) (bytes : List ℕ) → NoneIsWrong o bytes → HasEnded o bytes None
none_ended o bytes is = record {
  short = is.short;
  journal = is.journal;
  stops = all_stop o bytes is.journal is.right;
  ended = inr (inr (inr (record { all = is.right.all; whole = is.whole; head = is.head; is = refl })));
}

answered : (o : Opening) (bytes : List ℕ) (answer : Option ℕ) → IsWrongLine o bytes answer → Answered o bytes answer
answered o bytes (Some n) (inl long) = inl (record { number = n; long = long; is = refl })
answered o bytes (Some n) (inr (inl is)) = inr (entry_ended o bytes n is)
answered o bytes (Some n) (inr (inr (inl is))) = inr (cut_ended o bytes n is)
answered o bytes (Some n) (inr (inr (inr is))) = inr (head_ended o bytes n is)
answered o bytes None is = inr (none_ended o bytes is)

one_answer : (o : Opening) (bytes : List ℕ) (one other : Option ℕ) →
    Answered o bytes one → Answered o bytes other → one ≡ other
one_answer o bytes one other (inl e) (inl f) = e.is ∙ sym e.long ∙ f.long ∙ sym f.is
one_answer o bytes one other (inl e) (inr f) = absurd (is_some (first_over_long bytes) e.number e.long f.short)
one_answer o bytes one other (inr e) (inl f) = absurd (is_some (first_over_long bytes) f.number f.long e.short)
one_answer o bytes one other (inr e) (inr f) =
    let same = same_journal o bytes e.journal f.journal e.stops f.stops in
    same_end o bytes f.journal one other (subst (λ (h : List Entry). Ended o bytes h one) same e.ended)
    f.ended

pub one_wrong_line : OneWrongLine
one_wrong_line o bytes one other is also =
    one_answer o bytes one other (answered o bytes one is) (answered o bytes other also)
