use Rattle.std.proofs.lemmas.Result.{err_from_is_err_and}
use Rattle.ra_token.proofs.Exits.{same_err, rose_later, keeps_on, told_first, told_next, told_refused}
use Rattle.ra_token.proofs.buffer.Buffer.fetched_run.Goals as goal

pub returns-in_err-first : goal.returns-in_err-first
returns-in_err-first g c =
    let why = err_from_is_err_and c.from_residual.result c.from_residual.ensures.1 in
    let by = c.in_err-first.ensures in
    rw (why.1, why.2) (record {
      shows = by.shows;
      next = by.begins;
      ended = by.ended;
      refused = by.refused;
      place = tt;
      small = tt;
      memory = λ e. by.memory (same_err _ _ e);
      fault = λ e. by.fault (same_err _ _ e);
      kept = by.kept;
      never_fall = by.never_fall;
    })

pub returns-in_default : goal.returns-in_default
returns-in_default g c =
    let by = c.in_ok-first.ensures in
    record {
      shows = by.shows;
      next = rw c.in_default.is at by.begins;
      ended = rw c.in_default.is at by.ended;
      refused = by.refused;
      place = tt;
      small = tt;
      memory = λ e. cc;
      fault = λ e. absurd cc;
      kept = by.kept;
      never_fall = by.never_fall;
    }

pub run_from-requires : goal.run_from-requires
run_from-requires g c =
    let by = c.in_ok-first.ensures in
    record {
      place = rw c.in-Some.is at by.low;
      shows = by.shows;
      begins = told_first (g.F.Files.held c.args.files.now c.args.name.now)
          (g.F.Files.held c.first_digit.new.files c.args.name.now) c.args.place c.in-Some.first
          (by.kept c.args.name.now) (rw c.in-Some.is at by.begins);
    }

pub returns-in_err-run : goal.returns-in_err-run
returns-in_err-run g c =
    let why = err_from_is_err_and c.from_residual-in_err-run.result c.from_residual-in_err-run.ensures.1 in
    let first = c.in_ok-first.ensures in
    let by = c.in_err-run.ensures in
    let keeps = keeps_on (record { kept = first.kept; never_fell = first.never_fall }) by.kept by.never_fall in
    rw (why.1, why.2) (record {
      shows = by.shows;
      next = first.refused;
      ended = first.refused;
      refused = told_refused (g.F.Files.held c.args.files.now c.args.name.now)
          (g.F.Files.held c.first_digit.new.files c.args.name.now) c.args.place c.in-Some.first c.in_err-run.field-0.0
          (first.kept c.args.name.now) (rw c.in-Some.is at first.begins) by.refused;
      place = tt;
      small = tt;
      memory = λ e. by.memory (same_err _ _ e);
      fault = λ e. rose_later _ _ _ (first.never_fall c.args.name.now) (by.fault (same_err _ _ e));
      kept = keeps.kept;
      never_fall = keeps.never_fell;
    })

pub returns : goal.returns
returns g c =
    let first = c.in_ok-first.ensures in
    let by = c.in_ok-run.ensures in
    let keeps = keeps_on (record { kept = first.kept; never_fell = first.never_fall }) by.kept by.never_fall in
    record {
      shows = by.shows;
      next = told_next (g.F.Files.held c.args.files.now c.args.name.now)
          (g.F.Files.held c.first_digit.new.files c.args.name.now) c.args.place c.in-Some.first _ _
          (first.kept c.args.name.now) (rw c.in-Some.is at first.begins) by.taken;
      ended = first.refused;
      refused = first.refused;
      place = by.place;
      small = by.small;
      memory = λ e. cc;
      fault = λ e. absurd cc;
      kept = keeps.kept;
      never_fall = keeps.never_fell;
    }
