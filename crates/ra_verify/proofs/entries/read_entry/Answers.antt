use Rattle.std.proofs.Common.{◌≡◌, ◌+◌, Ok, Err, true, length, IfErr, refl, sym, ap, ◌∙◌, subst, arith}
use Rattle.ra_journal.specs.declared.entries.Entry.{Entry}
use Rattle.ra_journal.specs.Legal.{Legal}
use Rattle.ra_journal.specs.Journals.{opening_in}
use Rattle.ra_report.specs.JournalTexts.{entry_line}
use Rattle.ra_verify.specs.Checking.{checker_entries, MayFollow}
use Rattle.ra_verify.specs.declared.faults.VerifyFault.{VerifyFault}
use Rattle.ra_verify.specs.declared.faults.VerifyFault.TheVariants as fault
use Rattle.ra_verify.proofs.FollowLemmas.{few_entries}
use Rattle.ra_verify.proofs.CheckLemmas.{over_all}
use Rattle.ra_verify.proofs.EntryLemmas.{told_given, told_taken, told_wrong, told_last, same_wrong, same_fault, ok_is}
use Rattle.ra_verify.proofs.EntryLemmas.{not_end, not_fault, not_memory}
use Rattle.ra_verify.proofs.entries.read_entry.Goals as goal

pub next-requires-clause-near : goal.next-requires-clause-near
next-requires-clause-near g c =
    let j = c.args.checker.now.journal in
    omega (
      arith,
      c.requires.near,
      few_entries (opening_in j) j.entries
          c.args.checker.now.sound.legal,
    )

pub returns-in-Line-clause-entry : goal.returns-in-Line-clause-entry
returns-in-Line-clause-entry g c =
    let j = c.args.checker.now.journal in
    let told = g.F.Files.held c.args.files.now c.args.reader.now.name in
    let e = c.in_ok-next.ensures in
    let taken = c.take_entry.ensures in
    let given = told_given told c.args.reader.now.place c.next.new.self.place c.clear.new.self.items
    c.next.new.line.items c.as_slice.result.now e.goes_on c.clear.ensures.items c.as_slice.ensures e.given in
    record {
      reads = e.reads;
      more = λ is. let has = (taken.right (ok_is c.take_entry.result true is)).1 in
          record { entry = has.entry; taken = has.taken };
      read = told_taken told (opening_in j) c.args.reader.now.place c.next.new.self.place
          292 j.entries (checker_entries c.take_entry.new.checker) c.as_slice.result.now c.in_ok-next.field-0
          c.in-Line.is (λ is. e.long (ap Ok is))
          (λ is.
          let has = (taken.right (ok_is c.take_entry.result true is)).1 in
          record {
            entry = has.entry;
            text = has.text;
            entries = has.taken.entries;
            legal = subst (Legal (opening_in j)) (sym has.taken.entries) has.taken.legal;
          })
          c.requires.read e.next given;
      none = λ is. absurd (not_end c.take_entry.result (λ ok. (taken.right ok).0) is);
      end = over_all told (λ bytes is. absurd (not_end c.take_entry.result (λ ok. (taken.right ok).0) is));
      wrong = told_wrong told (opening_in j) c.args.reader.now.place c.next.new.self.place
          292 74 j.entries c.as_slice.result.now c.in_ok-next.field-0 c.in-Line.is (λ is. e.long (ap Ok is))
          (omega arith)
          (λ n is.
          let why = subst (λ r.
          IfErr r (λ (w : VerifyFault). (w ≡ fault.Wrong (11 + length (checker_entries c.args.checker.now)))
          × ((x : Entry) → MayFollow c.args.checker.now x →
          c.as_slice.result.now ≡ entry_line (length (checker_entries c.args.checker.now)) x → ⊥))) is
          taken.wrong in (
            same_fault n (11 + length (checker_entries c.args.checker.now)) why.0,
            record { wrong = why.1; short = taken.short },
          ))
          c.requires.read e.next given;
      fault = λ is. absurd (not_fault c.take_entry.result _ _ taken.wrong is);
      memory = λ is. not_memory c.take_entry.result _ _ taken.wrong is;
      same = taken.same;
      called = e.name;
      leaves = record { kept = e.kept; never_fall = e.never_fall };
    }

pub returns-in-Last-clause-entry : goal.returns-in-Last-clause-entry
returns-in-Last-clause-entry g c =
    let j = c.args.checker.now.journal in
    let told = g.F.Files.held c.args.files.now c.args.reader.now.name in
    let e = c.in_ok-next.ensures in
    record {
      reads = e.reads;
      more = λ is. absurd (cc);
      read = over_all told (λ bytes is. absurd (cc));
      none = λ is. absurd (cc);
      end = over_all told (λ bytes is. absurd (cc));
      wrong = told_last told (opening_in j) c.args.reader.now.place c.next.new.self.place
          292 j.entries c.in_ok-next.field-0 c.in-Last.is
          (λ n is. sym (same_wrong (11 + length (checker_entries c.args.checker.now)) n
          (sym (ap Err c.wrong_entry.ensures)
          ∙ is)))
          c.requires.read e.next;
      fault = λ is. let at = c.wrong_entry.ensures in absurd (cc);
      memory = λ is. let at = c.wrong_entry.ensures in cc;
      same = refl;
      called = e.name;
      leaves = record { kept = e.kept; never_fall = e.never_fall };
    }
