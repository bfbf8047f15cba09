use Rattle.std.proofs.Common.{ℕ, ◌+◌, List, length, refl, ap, ◌∙◌, le_trans, arith}
use Rattle.ra_verify.proofs.CheckLemmas.{over_all}
use Rattle.ra_verify.proofs.HeadLemmas.{told_start, told_line, told_last, told_end, told_long, long_told, early_more}
use Rattle.ra_verify.proofs.HeadLemmas.{late_more}
use Rattle.ra_verify.proofs.head.read_head.Goals as goal

pub loop-n-init : goal.loop-n-init
loop-n-init g c = record {
  reads = c.requires.reads;
  name = refl;
  kept = λ other. refl;
  never_fell = λ other. omega arith;
  place = omega (arith, c.requires.start, ap (λ (x : List ℕ). length x) c.requires.empty);
  early = λ first. omega (arith, ap (λ (x : List ℕ). length x) c.requires.empty);
  late = omega (arith, ap (λ (x : List ℕ). length x) c.requires.empty);
  room = c.requires.room;
  so_far = told_start (g.F.Files.held c.args.files.now c.args.reader.now.name) c.args.reader.now.place
      c.args.head.now.items c.requires.start c.requires.empty;
}

pub loop-n-preserved : goal.loop-n-preserved
loop-n-preserved g c =
    let l = c.loop-n in
    let e = c.in_ok-next.ensures in
    record {
      reads = e.reads;
      name = e.name ∙ l.invariant.name;
      kept = λ other. e.kept other ∙ l.invariant.kept other;
      never_fell = λ other. omega (arith, e.never_fall other, l.invariant.never_fell other);
      place = omega (arith, e.number, l.invariant.place);
      early = λ first. early_more l.n (length l.head.items) (length c.next.new.line.items) l.reader.place
          c.next.new.self.place c.most_bytes.result first l.invariant.early e.number e.most
          c.most_bytes.ensures.assignment;
      late = late_more l.n (length l.head.items) (length c.next.new.line.items) l.reader.place c.next.new.self.place
          c.most_bytes.result l.invariant.early l.invariant.late e.number e.most c.most_bytes.ensures.most
          c.most_bytes.ensures.assignment;
      room = e.room ∙ l.invariant.room;
      so_far = told_line (g.F.Files.held c.args.files.now c.args.reader.now.name) (g.F.Files.held l.files l.reader.name)
          l.reader.place c.next.new.self.place l.n c.most_bytes.result l.head.items c.next.new.line.items
          c.in_ok-next.field-0 (ap (g.F.Files.held l.files) l.invariant.name ∙ l.invariant.kept c.args.reader.now.name)
          e.goes_on c.most_bytes.ensures.value c.in-Line.is l.invariant.so_far e.given e.next;
    }

pub returns-in-Last-clause-head : goal.returns-in-Last-clause-head
returns-in-Last-clause-head g c =
    let l = c.loop-n in
    let e = c.in_ok-next.ensures in
    let told = g.F.Files.held c.args.files.now c.args.reader.now.name in
    let same = ap (g.F.Files.held l.files) l.invariant.name ∙ l.invariant.kept c.args.reader.now.name in
    record {
      reads = e.reads;
      is = told_last told (g.F.Files.held l.files l.reader.name) l.reader.place c.next.new.self.place l.n
          c.most_bytes.result l.head.items c.next.new.line.items c.in_ok-next.field-0 same e.goes_on c.loop-n-test.true
          c.most_bytes.ensures.value c.in-Last.is l.invariant.so_far e.given e.next;
      long = over_all told (λ bytes n is. absurd (cc));
      fault = λ is. absurd (cc);
      memory = λ is. cc;
      few = omega (arith, c.loop-n-test.true);
      called = e.name ∙ l.invariant.name;
      leaves = record {
        kept = λ other. e.kept other ∙ l.invariant.kept other;
        never_fall = λ other. le_trans (l.invariant.never_fell other) (e.never_fall other);
      };
    }

pub returns-in-End-clause-head : goal.returns-in-End-clause-head
returns-in-End-clause-head g c =
    let l = c.loop-n in
    let e = c.in_ok-next.ensures in
    let told = g.F.Files.held c.args.files.now c.args.reader.now.name in
    let same = ap (g.F.Files.held l.files) l.invariant.name ∙ l.invariant.kept c.args.reader.now.name in
    record {
      reads = e.reads;
      is = told_end told (g.F.Files.held l.files l.reader.name) l.reader.place c.next.new.self.place l.n
          c.most_bytes.result l.head.items c.next.new.line.items c.in_ok-next.field-0 same e.goes_on c.loop-n-test.true
          c.in-End.is l.invariant.so_far e.given e.next;
      long = over_all told (λ bytes n is. absurd (cc));
      fault = λ is. absurd (cc);
      memory = λ is. cc;
      few = omega (arith, c.loop-n-test.true);
      called = e.name ∙ l.invariant.name;
      leaves = record {
        kept = λ other. e.kept other ∙ l.invariant.kept other;
        never_fall = λ other. le_trans (l.invariant.never_fell other) (e.never_fall other);
      };
    }

pub returns-in-Long-clause-head : goal.returns-in-Long-clause-head
returns-in-Long-clause-head g c =
    let l = c.loop-n in
    let e = c.in_ok-next.ensures in
    let told = g.F.Files.held c.args.files.now c.args.reader.now.name in
    let same = ap (g.F.Files.held l.files) l.invariant.name ∙ l.invariant.kept c.args.reader.now.name in
    record {
      reads = e.reads;
      is = over_all told (λ bytes. tt);
      long = long_told told (l.n + 1)
          (told_long told (g.F.Files.held l.files l.reader.name) l.reader.place c.next.new.self.place l.n
          c.most_bytes.result l.head.items c.in_ok-next.field-0 same c.loop-n-test.true c.most_bytes.ensures.value
          c.in-Long.is l.invariant.so_far e.next);
      fault = λ is. absurd (cc);
      memory = λ is. cc;
      few = tt;
      called = e.name ∙ l.invariant.name;
      leaves = record {
        kept = λ other. e.kept other ∙ l.invariant.kept other;
        never_fall = λ other. le_trans (l.invariant.never_fell other) (e.never_fall other);
      };
    }
