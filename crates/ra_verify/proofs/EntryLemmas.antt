-- One entry line after another of a report.
use Rattle.std.proofs.Common.{◌≡◌, ℕ, ◌+◌, ◌-◌, ◌<◌, ◌≤◌, ◌⊎◌, Bool, true, false, cond, eqb, unwrap_or, Result, Ok, Err, IsOk, List, [], ◌∷◌, ◌++◌, length, take, drop, Option, Some, None, IfSome, IfErr, refl, sym, ap, ◌∙◌, subst, ⊎_elim, arith, take-append-drop, length-take}
use Rattle.std.proofs.lemmas.Bool.{cases_lt}
use Rattle.std.proofs.lemmas.List.{length_push, take-append-le}
use Rattle.std.proofs.lemmas.Option.{slice_get_within}
use Rattle.ra_token.specs.declared.line_answers.Next.{Next}
use Rattle.ra_token.specs.declared.line_answers.Next.TheVariants.{Line, Last, Long, End}
use Rattle.ra_token.specs.Lines.{lines_of, line_at, joined_lines, ends_line, body_of}
use Rattle.ra_token.specs.Reading.{BeginsOverLong, IsNextLine}
use Rattle.ra_token.proofs.SplitLaws.{joined_back}
use Rattle.ra_journal.specs.declared.entries.Entry.{Entry}
use Rattle.ra_journal.specs.Entries.{entry_at}
use Rattle.ra_journal.specs.Legal.{Legal}
use Rattle.ra_journal.specs.Openings.{Opening}
use Rattle.ra_journal.proofs.Places.{entry_before, entry_added}
use Rattle.ra_report.specs.JournalTexts.{entry_line}
use Rattle.ra_report.proofs.LineEnds.{entry_is_line, line_ends}
use Rattle.ra_verify.specs.declared.faults.VerifyFault.{VerifyFault}
use Rattle.ra_verify.specs.declared.faults.VerifyFault.TheVariants as fault
use Rattle.ra_verify.specs.Reading.{AreLines, AreRead, IsWrongNext}
use Rattle.ra_verify.specs.WrongLines.{AreAllRight}
use Rattle.ra_verify.proofs.ReadingLemmas.{body_less, body_front, piece_is, lines_more, line_next}

-- what is told of bytes
pub told_map : (told : Option (List ℕ)) (P Q : List ℕ → Type 0) → ((bytes : List ℕ) → P bytes → Q bytes) →
    IfSome told P → IfSome told Q
told_map None P Q f p = tt
told_map (Some bytes) P Q f p = f bytes p

-- nothing was read but the head
pub read_head_only : (o : Opening) (bytes : List ℕ) (place : ℕ) (h : List Entry) →
    Legal o h → h ≡ [] → AreLines bytes place 10 → AreRead o bytes place h
read_head_only o bytes place h legal none given = record {
  given = record { lines = given.lines; number = given.number ∙ ap (λ (x : List Entry). 10 + length x) (sym none) };
  right = record {
    legal = legal;
    lines = λ j within. absurd (omega (arith, within, ap (λ (x : List Entry). length x) none));
  };
}

-- the line of an entry more
pub read_more : (o : Opening) (bytes : List ℕ) (place after : ℕ) (h g : List Entry)
    (e : Entry) (line : List ℕ) → place ≤ after → AreRead o bytes place h →
    drop place bytes ≡ line ++ drop after bytes → lines_of (drop place bytes) ≡ line ∷ lines_of (drop after bytes) →
    ends_line line ≡ true → line ≡ entry_line (length h) e → g ≡ h ++ e ∷ [] → Legal o g →
    AreRead o bytes after g
read_more o bytes place after h g e line on read split lines ended text g_is legal =
    let given = lines_more bytes line place after (10 + length h) on read.given split lines ended in
    let long : length g ≡ length h + 1 = ap (λ (x : List Entry). length x) g_is ∙ omega (arith, length_push h e) in
    record {
      given = record { lines = given.lines; number = omega (arith, given.number, long) };
      right = record {
        legal = legal;
        lines = λ j within. ⊎_elim
            (λ (before : j < length h). read.right.lines j before
            ∙ ap (λ (x : Entry). Some (entry_line j x)) (sym (entry_before h e j before)
            ∙ ap (λ (x : List Entry). entry_at x j) (sym g_is)))
            (λ (last : length h ≤ j).
            let here : j ≡ length h = omega (arith, last, within, long) in
            let there : line_at (10 + j) bytes ≡ Some line = ap (λ (k : ℕ). line_at (10 + k) bytes) here
            ∙ line_next bytes line (lines_of (drop after bytes)) place (10 + length h) read.given lines in
            let same : e ≡ entry_at g j = sym (entry_added h e) ∙ ap (λ (k : ℕ). entry_at (h ++ e ∷ []) k) (sym here)
            ∙ ap (λ (x : List Entry). entry_at x j) (sym g_is) in
            there ∙ ap Some text ∙ ap (λ (k : ℕ). Some (entry_line k e)) (sym here)
            ∙ ap (λ (x : Entry). Some (entry_line j x)) same)
            (cases_lt j (length h));
      };
    }

body_within : (x : List ℕ) → length (body_of x) ≤ length x
unfolding body_of
body_within [] = omega arith
body_within (b ∷ x) = either (eqb b 10) (body_within x)
  where
    either : (t : Bool) → length (body_of x) ≤ length x → length (cond t [] (b ∷ body_of x)) ≤ length (b ∷ x)
    either true within = omega arith
    either false within = omega (arith, within)

-- of a line that is too long the first bytes have no LF
long_front : (bytes line : List ℕ) (others : List (List ℕ)) (n : ℕ) → lines_of bytes ≡ line ∷ others →
    n ≤ length (body_of line) → take n bytes ≡ take n line
unfolding joined_lines
long_front bytes line others n lines within =
    let all : bytes ≡ line ++ joined_lines others = sym (joined_back bytes) ∙ ap joined_lines lines in
    ap (take n) all ∙ take-append-le n line (joined_lines others) (omega (arith, within, body_within line))

-- so they are no line of an entry
front_is_no_entry : (bytes front : List ℕ) (room j : ℕ) (e : Entry) → BeginsOverLong room bytes →
    front ≡ take (room + 1) bytes → front ≡ entry_line j e → ⊥
front_is_no_entry bytes front room j e long front_is is =
    let part : front ≡ take (room + 1) long.line = front_is
    ∙ long_front bytes long.line long.others (room + 1) long.lines (omega (arith, long.long)) in
    let no_end : length (body_of front) ≡ room + 1 = ap (λ (x : List ℕ). length (body_of x)) part
    ∙ body_front (room + 1) long.line (omega (arith, long.long)) in
    let ended : ends_line front ≡ true = ap ends_line is ∙ line_ends (entry_line j e) (entry_is_line j e) in
    let few : length front ≤ room + 1 =
    omega (arith, ap (λ (x : List ℕ). length x) front_is, length-take (room + 1) bytes) in
    omega (arith, no_end, few, body_less front ended)

-- and if they are the front of one, it is longer
front_of_long : (bytes front : List ℕ) (room j : ℕ) (e : Entry) → (long : BeginsOverLong room bytes) →
    front ≡ take (room + 1) bytes → long.line ≡ entry_line j e → (front ++ drop (room + 1) long.line ≡ entry_line j e)
    × (room + 1 < length (entry_line j e))
front_of_long bytes front room j e long front_is is =
    let part : front ≡ take (room + 1) long.line = front_is
    ∙ long_front bytes long.line long.others (room + 1) long.lines (omega (arith, long.long)) in
    let ended : ends_line long.line ≡ true = ap ends_line is ∙ line_ends (entry_line j e) (entry_is_line j e) in (
      ap (λ (x : List ℕ). x ++ drop (room + 1) long.line) part ∙ take-append-drop (room + 1) long.line
          ∙ is,
      omega (arith, long.long, body_less long.line ended, ap (λ (x : List ℕ). length x) is),
    )

same_some : (x y : List ℕ) → Some x ≡ Some y → x ≡ y
same_some x y e = ap (λ (o : Option (List ℕ)). unwrap_or o []) e

-- the next line is there, and what it would take to be right doesn't hold
wrong_line : (o : Opening) (bytes line : List ℕ) (others : List (List ℕ)) (place n : ℕ)
    (h : List Entry) → AreRead o bytes place h → lines_of (drop place bytes) ≡ line ∷ others →
    ((e : Entry) → Legal o (h ++ e ∷ []) → line ≡ entry_line (length h) e → ⊥) → n ≡ 11 + length h →
    IsWrongNext o bytes h n
unfolding line_at
wrong_line o bytes line others place n h read lines wrong number =
    let here = line_next bytes line others place (10 + length h) read.given lines in
    record {
      right = read.right;
      there = slice_get_within (lines_of bytes) (10 + length h) line here;
      wrong = λ e legal is. wrong e legal (same_some line (entry_line (length h) e) (sym here ∙ is));
      number = number;
    }

-- the last line has no LF
pub wrong_last : (o : Opening) (bytes : List ℕ) (place n : ℕ) (h : List Entry) →
    AreRead o bytes place h → lines_of (drop place bytes) ≡ drop place bytes ∷ [] →
    ends_line (drop place bytes) ≡ false → n ≡ 11 + length h → IsWrongNext o bytes h n
wrong_last o bytes place n h read lines unended number =
    wrong_line o bytes (drop place bytes) [] place n h read lines
    (λ e legal is. let ended : ends_line (drop place bytes) ≡ true = ap ends_line is
    ∙ line_ends (entry_line (length h) e) (entry_is_line (length h) e) in (cc))
    number

-- all entry lines were read
pub read_all : (o : Opening) (bytes : List ℕ) (place : ℕ) (h : List Entry) →
    AreRead o bytes place h → length (lines_of bytes) ≡ 10 + length h → AreAllRight o bytes h
read_all o bytes place h read long = record { right = read.right; all = omega (arith, long) }

-- a line that was given to the check of entries
pub record WasGiven (bytes : List ℕ) (place after : ℕ) (line : List ℕ) : Type 0 where
  pub on : place ≤ after
  pub text : line ≡ take (after - place) (drop place bytes)

-- and what the check says of it
pub record IsChecked (o : Opening) (h : List Entry) (line : List ℕ) (front longest : ℕ) :
    Type 0 where
  pub wrong : (e : Entry) → Legal o (h ++ e ∷ []) → line ≡ entry_line (length h) e → ⊥
  pub short : (e : Entry) (rest : List ℕ) → Legal o (h ++ e ∷ []) → front ≤ length line →
      line ++ rest ≡ entry_line (length h) e → length (entry_line (length h) e) ≤ longest

pub entry_taken : (o : Opening) (bytes : List ℕ) (place after room : ℕ) (h g : List Entry)
    (e : Entry) (line : List ℕ) (next : Next) → (next ≡ Line) ⊎ (next ≡ Long) → AreRead o bytes place h →
    IsNextLine room (drop place bytes) (drop after bytes) next → WasGiven bytes place after line →
    (next ≡ Long → after ≡ place + room + 1) → line ≡ entry_line (length h) e → g ≡ h ++ e ∷ [] → Legal o g →
    AreRead o bytes after g
entry_taken o bytes place after room h g e line Line which read is given far text g_is legal =
    let same : is.line ≡ entry_line (length h) e = sym (piece_is bytes is.line place after given.on is.split)
    ∙ sym given.text ∙ text in
    read_more o bytes place after h g e is.line given.on read is.split is.lines is.ended same g_is legal
entry_taken o bytes place after room h g e line Long which read is given far text g_is legal =
    absurd (front_is_no_entry (drop place bytes) line room (length h) e is
    (given.text ∙ ap (λ (k : ℕ). take k (drop place bytes)) {x = after - place} {y = room + 1}
    (omega (arith, far refl))) text)
entry_taken o bytes place after room h g e line Last which read is given far text g_is legal =
    absurd (⊎_elim (λ (a : Last ≡ Line). (cc)) (λ (a : Last ≡ Long). (cc)) which)
entry_taken o bytes place after room h g e line End which read is given far text g_is legal =
    absurd (⊎_elim (λ (a : End ≡ Line). (cc)) (λ (a : End ≡ Long). (cc)) which)

pub entry_wrong : (o : Opening) (bytes : List ℕ) (place after room n front : ℕ)
    (h : List Entry) (line : List ℕ) (next : Next) → (next ≡ Line) ⊎ (next ≡ Long) → front ≤ room →
    AreRead o bytes place h → IsNextLine room (drop place bytes) (drop after bytes) next →
    WasGiven bytes place after line → (next ≡ Long → after ≡ place + room + 1) →
    IsChecked o h line front (room + 1) → n ≡ 11 + length h → IsWrongNext o bytes h n
entry_wrong o bytes place after room n front h line Line which few read is given far checked number =
    wrong_line o bytes is.line (lines_of (drop after bytes)) place n h read is.lines
    (λ e legal same. checked.wrong e legal (given.text ∙ piece_is bytes is.line place after given.on is.split ∙ same))
    number
entry_wrong o bytes place after room n front h line Long which few read is given far checked number =
    let text : line ≡ take (room + 1) (drop place bytes) = given.text
    ∙ ap (λ (k : ℕ). take k (drop place bytes)) {x = after - place} {y = room + 1} (omega (arith, far refl)) in
    let long : length line ≡ room + 1 = front_long (drop place bytes) line room is text in
    wrong_line o bytes is.line is.others place n h read is.lines
    (λ e legal same.
    let parts = front_of_long (drop place bytes) line room (length h) e is text same in
    omega (arith, parts.1, checked.short e (drop (room + 1) is.line) legal (omega (arith, long, few)) parts.0)) number
  where
    front_long : (rest part : List ℕ) (most : ℕ) → (b : BeginsOverLong most rest) → part ≡ take (most + 1) rest →
        length part ≡ most + 1
    front_long rest part most b part_is =
        let cut : part ≡ take (most + 1) b.line = part_is
        ∙ long_front rest b.line b.others (most + 1) b.lines (omega (arith, b.long)) in
        omega (arith, ap (λ (x : List ℕ). length x) cut, length-take (most + 1) b.line, body_within b.line, b.long)
entry_wrong o bytes place after room n front h line Last which few read is given far checked number =
    absurd (⊎_elim (λ (a : Last ≡ Line). (cc)) (λ (a : Last ≡ Long). (cc)) which)
entry_wrong o bytes place after room n front h line End which few read is given far checked number =
    absurd (⊎_elim (λ (a : End ≡ Line). (cc)) (λ (a : End ≡ Long). (cc)) which)

-- the line is the text of an entry that may follow, and g has this entry more than h
pub record IsTakenIn (o : Opening) (h g : List Entry) (line : List ℕ) : Type 0 where
  pub entry : Entry
  pub text : line ≡ entry_line (length h) entry
  pub entries : g ≡ h ++ entry ∷ []
  pub legal : Legal o g

abbrev Comes : Option (List ℕ) → ℕ → ℕ → ℕ → Next → Type 0
Comes told place after room next = IfSome told (λ bytes. IsNextLine room (drop place bytes) (drop after bytes) next)

pub told_given : (told : Option (List ℕ)) (place after : ℕ) (before buffer line : List ℕ) → place ≤ after →
    before ≡ [] → line ≡ buffer → IfSome told (λ bytes. buffer ≡ before ++ take (after - place) (drop place bytes)) →
    IfSome told (λ bytes. WasGiven bytes place after line)
told_given None place after before buffer line on empty line_is given = tt
told_given (Some bytes) place after before buffer line on empty line_is given = record {
  on = on;
  text = line_is ∙ given ∙ ap (λ (t : List ℕ). t ++ take (after - place) (drop place bytes)) empty;
}

pub told_taken : {P : Type 0} (told : Option (List ℕ)) (o : Opening)
    (place after room : ℕ) (h g : List Entry) (line : List ℕ) (next : Next) → (next ≡ Line) ⊎ (next ≡ Long) →
    (next ≡ Long → after ≡ place + room + 1) → (P → IsTakenIn o h g line) →
    IfSome told (λ bytes. AreRead o bytes place h) → Comes told place after room next →
    IfSome told (λ bytes. WasGiven bytes place after line) → IfSome told (λ bytes. P → AreRead o bytes after g)
told_taken None o place after room h g line next which far taken read comes given = tt
told_taken (Some bytes) o place after room h g line next which far taken read comes given = λ p.
    let t = taken p in
    entry_taken o bytes place after room h g t.entry line next which read comes given far t.text t.entries t.legal

pub told_wrong : {P : ℕ → Type 0} (told : Option (List ℕ)) (o : Opening)
    (place after room front : ℕ) (h : List Entry) (line : List ℕ) (next : Next) → (next ≡ Line) ⊎ (next ≡ Long) →
    (next ≡ Long → after ≡ place + room + 1) → front ≤ room →
    ((n : ℕ) → P n → (n ≡ 11 + length h) × IsChecked o h line front (room + 1)) →
    IfSome told (λ bytes. AreRead o bytes place h) → Comes told place after room next →
    IfSome told (λ bytes. WasGiven bytes place after line) →
    IfSome told (λ bytes. (n : ℕ) → P n → IsWrongNext o bytes h n)
told_wrong None o place after room front h line next which far few checked read comes given = tt
told_wrong (Some bytes) o place after room front h line next which far few checked read comes given = λ n p.
    let c = checked n p in
    entry_wrong o bytes place after room n front h line next which few read comes given far c.1 c.0

pub told_last : {P : ℕ → Type 0} (told : Option (List ℕ)) (o : Opening)
    (place after room : ℕ) (h : List Entry) (next : Next) → next ≡ Last → ((n : ℕ) → P n → n ≡ 11 + length h) →
    IfSome told (λ bytes. AreRead o bytes place h) → Comes told place after room next →
    IfSome told (λ bytes. (n : ℕ) → P n → IsWrongNext o bytes h n)
told_last None o place after room h next is number read comes = tt
told_last (Some bytes) o place after room h next is number read comes = λ n p.
    let last = subst (IsNextLine room (drop place bytes) (drop after bytes)) is comes in
    wrong_last o bytes place n h read last.lines last.unended (number n p)

-- the number of the line that is told
pub same_wrong : {X : Type 0} (a b : ℕ) → (let r : Result X VerifyFault = Err (fault.Wrong a) in r) ≡
    Err (fault.Wrong b) → a ≡ b
same_wrong a b same = (cc)

pub same_fault : (a b : ℕ) → fault.Wrong a ≡ fault.Wrong b → a ≡ b
same_fault a b same = (cc)

pub ok_is : {X : Type 0} (r : Result X VerifyFault) (x : X) → r ≡ Ok x → IsOk r
ok_is r x is = rw is refl

-- what is answered of a line is a line or that it is wrong
pub not_end : (r : Result Bool VerifyFault) → (IsOk r → r ≡ Ok true) → r ≡ Ok false → ⊥
not_end r line is = let both : Ok true ≡ Ok false = sym (line (ok_is r false is)) ∙ is in cc

pub not_fault : {X : Type 0} (r : Result X VerifyFault) (n : ℕ) (Q : Type 0) →
    IfErr r (λ why. (why ≡ fault.Wrong n) × Q) → r ≡ Err fault.ReadFault → ⊥
not_fault (Ok x) n Q wrong is = cc
not_fault (Err why) n Q wrong is = let at = wrong.0 in cc

pub not_memory : {X : Type 0} (r : Result X VerifyFault) (n : ℕ) (Q : Type 0) →
    IfErr r (λ why. (why ≡ fault.Wrong n) × Q) → r ≡ Err fault.NoMemory → ⊥
not_memory (Ok x) n Q wrong is = cc
not_memory (Err why) n Q wrong is = let at = wrong.0 in cc
