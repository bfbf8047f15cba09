use Rattle.std.proofs.Common.{◌∙◌, rules, arith}
use Rattle.std.proofs.lemmas.Result.{err_from_is_err_and}
use Rattle.ra_token.proofs.Exits.{rose_later, keeps_on, keeps_still, told_nothing, told_unread, told_run_on, told_run_large}
use Rattle.ra_token.proofs.ToldByte.{byte_told, end_told, told_run_begins, told_long, told_taken, told_taken_end}
use Rattle.ra_token.proofs.buffer.Buffer.run_from.Goals as goal

pub loop-byte-init : goal.loop-byte-init
loop-byte-init g c = (
  record {
    low = omega arith;
    after = omega arith;
    small = omega arith;
    shows = c.requires.shows;
    run = told_run_begins (g.F.Files.held c.args.files.now c.args.name.now) c.args.first c.requires.begins;
  },
  keeps_still (g.F.Files.held c.args.files.now) (g.F.Files.faults c.args.files.now),
)

pub returns-in_err-byte : goal.returns-in_err-byte
returns-in_err-byte g c =
    let why = err_from_is_err_and c.from_residual.result c.from_residual.ensures.1 in
    let told = g.F.Files.held c.args.files.now c.args.name.now in
    let by = c.in_err-byte.ensures in
    let before = c.loop-byte.invariant.1 in
    let keeps = keeps_on before by.kept by.never_fall in
    rw (why.1, why.2) (record {
      shows = by.shows;
      taken = told_nothing told;
      refused = told_unread told c.args.first c.in_err-byte.field-0.0 by.cause;
      place = tt;
      small = tt;
      memory = λ e. cc;
      fault = λ e. rose_later _ _ _ (before.never_fell c.args.name.now) by.fault;
      kept = keeps.kept;
      never_fall = keeps.never_fell;
    })

pub returns-then-end-eq-PLACE_LIMIT : goal.returns-then-end-eq-PLACE_LIMIT
returns-then-end-eq-PLACE_LIMIT g c =
    let told = g.F.Files.held c.args.files.now c.args.name.now in
    let by = c.in_ok-byte.ensures in
    let before = c.loop-byte.invariant.1 in
    let keeps = keeps_on before by.kept by.never_fall in
    record {
      shows = by.shows;
      taken = told_nothing told;
      refused = told_long told c.args.first c.loop-byte.end c.loop-byte.value c.in-Some.byte
          c.if-end-eq-PLACE_LIMIT.true (search rules)
          (byte_told _ _ _ _ _ (before.kept c.args.name.now) c.in-Some.is by.byte)
          c.loop-byte.invariant.0.run;
      place = tt;
      small = tt;
      memory = λ e. cc;
      fault = λ e. absurd cc;
      kept = keeps.kept;
      never_fall = keeps.never_fell;
    }

pub returns-then-run-gt-LARGEST : goal.returns-then-run-gt-LARGEST
returns-then-run-gt-LARGEST g c =
    let told = g.F.Files.held c.args.files.now c.args.name.now in
    let by = c.in_ok-byte.ensures in
    let before = c.loop-byte.invariant.1 in
    let keeps = keeps_on before by.kept by.never_fall in
    record {
      shows = by.shows;
      taken = told_nothing told;
      refused = told_run_large told (g.F.Files.held c.byte.new.files c.args.name.now) c.args.first c.loop-byte.end
          c.loop-byte.value c.more_digits-run.result.value
          (by.kept c.args.name.now ∙ before.kept c.args.name.now) c.loop-byte.invariant.0.run
          (c.more_digits-run.ensures.too_large (g.F.Files.held c.byte.new.files c.args.name.now) by.shows)
          c.if-run-gt-LARGEST.true;
      place = tt;
      small = tt;
      memory = λ e. cc;
      fault = λ e. absurd cc;
      kept = keeps.kept;
      never_fall = keeps.never_fell;
    }

pub loop-byte-preserved : goal.loop-byte-preserved
loop-byte-preserved g c =
    let by = c.in_ok-byte.ensures in
    let before = c.loop-byte.invariant.1 in (
      record {
        low = omega (arith, c.byte.new.self.below, c.more_digits-run.ensures.high);
        after = omega (arith, c.loop-byte.invariant.0.after, c.more_digits-run.ensures.low);
        small = c.if-run-gt-LARGEST.false;
        shows = by.shows;
        run = told_run_on (g.F.Files.held c.args.files.now c.args.name.now)
            (g.F.Files.held c.byte.new.files c.args.name.now) c.args.first c.loop-byte.end c.loop-byte.value
            c.more_digits-run.result.end c.more_digits-run.result.value
            (by.kept c.args.name.now ∙ before.kept c.args.name.now) c.loop-byte.invariant.0.run
            (c.more_digits-run.ensures.goes_on (g.F.Files.held c.byte.new.files c.args.name.now) by.shows)
            c.if-run-gt-LARGEST.false;
      },
      keeps_on before by.kept by.never_fall,
    )

pub returns-then-not-is_ascii_digit : goal.returns-then-not-is_ascii_digit
returns-then-not-is_ascii_digit g c =
    let told = g.F.Files.held c.args.files.now c.args.name.now in
    let by = c.in_ok-byte.ensures in
    let before = c.loop-byte.invariant.1 in
    let keeps = keeps_on before by.kept by.never_fall in
    record {
      shows = by.shows;
      taken = told_taken told c.args.first c.loop-byte.end c.loop-byte.value c.in-Some.byte
          c.loop-byte.invariant.0.after (search rules) c.requires.begins
          (byte_told _ _ _ _ _ (before.kept c.args.name.now) c.in-Some.is by.byte)
          c.loop-byte.invariant.0.run;
      refused = told_nothing told;
      place = c.loop-byte.invariant.0.low;
      small = c.loop-byte.invariant.0.small;
      memory = λ e. cc;
      fault = λ e. absurd cc;
      kept = keeps.kept;
      never_fall = keeps.never_fell;
    }

pub returns-in_default : goal.returns-in_default
returns-in_default g c =
    let told = g.F.Files.held c.args.files.now c.args.name.now in
    let by = c.in_ok-byte.ensures in
    let before = c.loop-byte.invariant.1 in
    let keeps = keeps_on before by.kept by.never_fall in
    record {
      shows = by.shows;
      taken = told_taken_end told c.args.first c.loop-byte.end c.loop-byte.value c.loop-byte.invariant.0.after
          c.requires.begins
          (end_told _ _ _ _ (before.kept c.args.name.now) c.in_default.is by.byte)
          c.loop-byte.invariant.0.run;
      refused = told_nothing told;
      place = c.loop-byte.invariant.0.low;
      small = c.loop-byte.invariant.0.small;
      memory = λ e. cc;
      fault = λ e. absurd cc;
      kept = keeps.kept;
      never_fall = keeps.never_fell;
    }
