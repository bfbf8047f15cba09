-- What was read of a report, and what is answered.
use Rattle.std.proofs.Common.{◌≡◌, ℕ, ◌+◌, ◌-◌, ◌^◌, ◌<◌, ◌≤◌, inl, inr, ⊎_elim, arith, List, length, Option, Some, None, Result, Ok, Err, IfSome, IfOk, IfErr, OnOk, sym, ap, ◌∙◌, subst}
use Rattle.ra_io.specs.Faults.{Rose}
use Rattle.ra_token.specs.Lines.{lines_of}
use Rattle.ra_journal.specs.declared.entries.Entry.{Entry}
use Rattle.ra_journal.specs.Openings.{Opening}
use Rattle.ra_journal.specs.Journals.{History, opening_in}
use Rattle.ra_verify.specs.declared.faults.VerifyFault.{VerifyFault}
use Rattle.ra_verify.specs.declared.faults.VerifyFault.TheVariants as fault
use Rattle.ra_verify.specs.Judging.{IsAccepted, IsMisjudged}
use Rattle.ra_verify.specs.Reading.{IsHead, AreFirstLines, IsWrongNext}
use Rattle.ra_verify.specs.WrongLines.{first_over_long, AreAllRight, IsWrongLine, IsReport}
use Rattle.ra_verify.proofs.VerdictLemmas.{accepted, reported, wrong_entry, misjudged}

abbrev Told : Option (List ℕ) → (List ℕ → Type 0) → Type 0
Told told P = IfSome told P

pub same_why : {X : Type 0} (a b : VerifyFault) → (let s : Result X VerifyFault = Err a in s) ≡ Err b → a ≡ b
same_why a b same = (cc)

same_line : (a b : ℕ) → fault.Wrong a ≡ fault.Wrong b → a ≡ b
same_line a b same = (cc)

pub first_lines : (told : Option (List ℕ)) (place lines : ℕ) (head : List ℕ) →
    Told told (λ bytes. IsHead bytes place lines head) → Told told (λ bytes. AreFirstLines bytes place lines)
first_lines None place lines head is = tt
first_lines (Some bytes) place lines head is = is.first

pub long_wrong : {X : Type 0} (told : Option (List ℕ)) (o : Opening)
    (r : Result X VerifyFault) (why : VerifyFault) → r ≡ Err why →
    Told told (λ bytes. (n : ℕ) → r ≡ Err (fault.Wrong n) → first_over_long bytes ≡ Some n) →
    Told told (λ bytes. (n : ℕ) → (let s : Result ℕ VerifyFault = Err why in s) ≡ Err (fault.Wrong n) →
    IsWrongLine o bytes (Some n))
long_wrong None o r why is long = tt
long_wrong (Some bytes) o r why is long = λ n same. inl (long n (is ∙ ap Err (same_why why (fault.Wrong n) same)))

pub entry_wrong_first : {X : Type 0} (told : Option (List ℕ)) (o : Opening)
    (place lines : ℕ) (head : List ℕ) (r : Result X VerifyFault) (why : VerifyFault) → r ≡ Err why →
    Told told (λ bytes. IsHead bytes place lines head) →
    Told told (λ bytes. (n : ℕ) → r ≡ Err (fault.Wrong n) → (h : List Entry) × IsWrongNext o bytes h n) →
    Told told (λ bytes. (n : ℕ) → (let s : Result ℕ VerifyFault = Err why in s) ≡ Err (fault.Wrong n) →
    IsWrongLine o bytes (Some n))
entry_wrong_first None o place lines head r why is first wrong = tt
entry_wrong_first (Some bytes) o place lines head r why is first wrong = λ n same.
    let next = wrong n (is ∙ ap Err (same_why why (fault.Wrong n) same)) in
    wrong_entry o bytes head place lines n next.0 first next.1

pub judged_none : {X : Type 0} (told : Option (List ℕ)) (o : Opening) (place lines : ℕ)
    (head : List ℕ) (j : History) (rest : Result X VerifyFault) (x : X) (r : Result ℕ VerifyFault) → rest ≡ Ok x →
    opening_in j ≡ o → Told told (λ bytes. IsHead bytes place lines head) →
    Told told (λ bytes. OnOk rest (AreAllRight o bytes j.entries)) → IfOk r (IsAccepted j head) →
    Told told (λ bytes. IfOk r (λ n. IsWrongLine o bytes None))
judged_none None o place lines head j rest x r ok same first right judged = tt
judged_none (Some bytes) o place lines head j rest x (Ok n) ok same first right judged =
    accepted o bytes head place lines n j same first
    (subst (λ s. OnOk s (AreAllRight o bytes j.entries)) ok right) judged
judged_none (Some bytes) o place lines head j rest x (Err why) ok same first right judged = tt

pub judged_report : {X : Type 0} (told : Option (List ℕ)) (o : Opening) (place lines : ℕ)
    (head : List ℕ) (j : History) (rest : Result X VerifyFault) (x : X) (r : Result ℕ VerifyFault) → rest ≡ Ok x →
    opening_in j ≡ o → Told told (λ bytes. IsHead bytes place lines head) →
    Told told (λ bytes. OnOk rest (AreAllRight o bytes j.entries)) → IfOk r (IsAccepted j head) →
    Told told (λ bytes. IfOk r (λ n. IsReport o bytes n))
judged_report None o place lines head j rest x r ok same first right judged = tt
judged_report (Some bytes) o place lines head j rest x (Ok n) ok same first right judged =
    reported o bytes head place lines n j same first
    (subst (λ s. OnOk s (AreAllRight o bytes j.entries)) ok right) judged
judged_report (Some bytes) o place lines head j rest x (Err why) ok same first right judged = tt

pub judged_wrong : {X : Type 0} (told : Option (List ℕ)) (o : Opening) (place lines : ℕ)
    (head : List ℕ) (j : History) (rest : Result X VerifyFault) (x : X) (r : Result ℕ VerifyFault) → rest ≡ Ok x →
    opening_in j ≡ o → Told told (λ bytes. IsHead bytes place lines head) →
    Told told (λ bytes. OnOk rest (AreAllRight o bytes j.entries)) →
    Told told (λ bytes. OnOk rest (length (lines_of bytes) ≡ lines + length j.entries)) →
    IfErr r (λ why. (n : ℕ) × (why ≡ fault.Wrong n) × IsMisjudged j head lines n) →
    Told told (λ bytes. (n : ℕ) → r ≡ Err (fault.Wrong n) → IsWrongLine o bytes (Some n))
judged_wrong None o place lines head j rest x r ok same first right long judged = tt
judged_wrong (Some bytes) o place lines head j rest x r ok same first right long judged = λ n is.
    let why = subst (λ (s : Result ℕ VerifyFault).
    IfErr s (λ (w : VerifyFault). (m : ℕ) × (w ≡ fault.Wrong m) × IsMisjudged j head lines m)) is judged in
    let number : why.0 ≡ n = same_line why.0 n (sym why.1) in
    misjudged o bytes head place lines n j same first
    (subst (λ s. OnOk s (AreAllRight o bytes j.entries)) ok right)
    (subst (λ s. OnOk s (length (lines_of bytes) ≡ lines + length j.entries)) ok long)
    (subst (IsMisjudged j head lines) number why.2)

-- judging reads nothing
pub no_fault : {P : Type 0} (r : Result ℕ VerifyFault) (j : History) (head : List ℕ) (lines : ℕ) →
    IfErr r (λ why. (n : ℕ) × (why ≡ fault.Wrong n) × IsMisjudged j head lines n) → r ≡ Err fault.ReadFault → P
no_fault r j head lines judged is =
    let why = subst (λ (s : Result ℕ VerifyFault).
    IfErr s (λ (w : VerifyFault). (m : ℕ) × (w ≡ fault.Wrong m) × IsMisjudged j head lines m)) is judged in
    absurd (let no = why.1 in (cc))

-- what is said of a journal's run, of a file by its name
pub moved : (held : List ℕ → Option (List ℕ)) (called name : List ℕ) (j : History) (o : Opening)
    (P : Opening → List ℕ → Type 0) → called ≡ name → opening_in j ≡ o → IfSome (held called) (P (opening_in j)) →
    IfSome (held name) (P o)
moved held called name j o P named same said =
    subst (λ (p : Opening). IfSome (held name) (P p)) same
    (subst (λ (n : List ℕ). IfSome (held n) (P (opening_in j))) named said)

-- what holds of all bytes is said of those that are told
pub over_all : {P : List ℕ → Type 0} (told : Option (List ℕ)) → ((bytes : List ℕ) → P bytes) → IfSome told P
over_all None holds = tt
over_all (Some bytes) holds = holds bytes

-- a count that rose rose since before, if it never falls
pub rose_since : {before between now : ℕ} → before ≤ between → Rose between now → Rose before now
rose_since {before} {between} {now} up rose =
    ⊎_elim (λ (h : between < now). inl (omega arith)) (λ (h : now ≡ 2 ^ 64 - 1). inr h) rose
