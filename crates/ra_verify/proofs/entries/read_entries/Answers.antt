use Rattle.std.proofs.Common.{Ok, List, length, IfSome, refl, sym, ap, subst, ◌∙◌, le_refl, le_trans, arith}
use Rattle.std.proofs.lemmas.List.{length_push}
use Rattle.ra_journal.specs.declared.entries.Entry.{Entry}
use Rattle.ra_journal.specs.Journals.{opening_in}
use Rattle.ra_journal.specs.Openings.{Opening}
use Rattle.ra_worker.proofs.CoreLemmas.{over_then}
use Rattle.ra_verify.specs.Checking.{checker_entries}
use Rattle.ra_verify.specs.Reading.{AreLines, AreRead}
use Rattle.ra_verify.proofs.EntryLemmas.{told_map, read_head_only}
use Rattle.ra_verify.proofs.CheckerLemmas.{same_run, more_smaller}
use Rattle.ra_verify.proofs.entries.read_entries.Goals as goal

pub loop-smaller : goal.loop-smaller
loop-smaller g c =
    more_smaller c.loop.checker c.read_entry.new.checker
    (c.in_ok-read_entry.ensures.entry.more (ap Ok c.if-branch.true)) c.in_ok-read_entry.ensures.entry.same

pub loop-init : goal.loop-init
loop-init g c =
    let j = c.args.checker.now.journal in
    record {
      reads = c.requires.reads;
      name = refl;
      kept = λ other. refl;
      never_fell = λ other. le_refl _;
      near = omega (arith, c.requires.near);
      room = c.requires.room;
      ready = c.requires.ready;
      same = refl;
      read = told_map (g.F.Files.held c.args.files.now c.args.reader.now.name)
          (λ bytes. AreLines bytes c.args.reader.now.place 10)
          (λ bytes. AreRead (opening_in j) bytes c.args.reader.now.place
          j.entries)
          (λ bytes given. read_head_only (opening_in j) bytes c.args.reader.now.place
          j.entries c.args.checker.now.sound.legal c.requires.none given) c.requires.head;
    }

pub loop-preserved : goal.loop-preserved
loop-preserved g c =
    let l = c.loop in
    let e = c.in_ok-read_entry.ensures.entry in
    let more = e.more (ap Ok c.if-branch.true) in
    let told = ap (g.F.Files.held l.files) l.invariant.name ∙ l.invariant.kept c.args.reader.now.name in
    let run = same_run l.checker c.read_entry.new.checker e.same in
    let j = l.checker.journal in
    record {
      reads = e.reads;
      name = e.called ∙ l.invariant.name;
      kept = λ other. e.leaves.kept other ∙ l.invariant.kept other;
      never_fell = λ other. le_trans (l.invariant.never_fell other) (e.leaves.never_fall other);
      near = omega (
        arith,
        c.in_ok-read_entry.ensures.near,
        l.invariant.near,
        ap (λ (x : List Entry). length x) more.taken.entries,
        length_push (checker_entries l.checker) more.entry,
      );
      room = c.in_ok-read_entry.ensures.room ∙ l.invariant.room;
      ready = more.taken.ready;
      same = over_then c.args.checker.now.journal j c.read_entry.new.checker.journal l.invariant.same e.same;
      read = subst (λ (o : Opening). IfSome (g.F.Files.held c.args.files.now c.args.reader.now.name)
          (λ bytes. AreRead o bytes c.read_entry.new.reader.place (checker_entries c.read_entry.new.checker)))
          (sym run)
          (told_map (g.F.Files.held c.args.files.now c.args.reader.now.name) _
          (λ bytes. AreRead (opening_in j) bytes c.read_entry.new.reader.place
          (checker_entries c.read_entry.new.checker)) (λ bytes said. said (ap Ok c.if-branch.true))
          (rw told at e.read));
    }
