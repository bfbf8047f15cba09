use Rattle.std.proofs.Common.{◌∙◌, rules, arith}
use Rattle.std.proofs.lemmas.Result.{err_from_is_err_and}
use Rattle.ra_token.proofs.Exits.{rose_later, keeps_on, keeps_still, told_nothing, told_unread, told_stands, told_passes}
use Rattle.ra_token.proofs.ToldByte.{byte_told, end_told, told_limit, told_begins, told_bad, told_end}
use Rattle.ra_token.proofs.buffer.Buffer.first_digit.Goals as goal

pub loop-byte-init : goal.loop-byte-init
loop-byte-init g c = (
  record {
    low = c.requires.place;
    shows = c.requires.shows;
    reached = told_stands (g.F.Files.held c.args.files.now c.args.name.now) c.args.place c.requires.between;
  },
  keeps_still (g.F.Files.held c.args.files.now) (g.F.Files.faults c.args.files.now),
)

pub returns-in_err-byte : goal.returns-in_err-byte
returns-in_err-byte g c =
    let told = g.F.Files.held c.args.files.now c.args.name.now in
    let why = err_from_is_err_and c.from_residual.result c.from_residual.ensures.1 in
    let by = c.in_err-byte.ensures in
    let before = c.loop-byte.invariant.1 in
    let keeps = keeps_on before by.kept by.never_fall in
    rw (why.1, why.2) (record {
      shows = by.shows;
      begins = told_nothing told;
      ended = told_nothing told;
      refused = told_unread told c.args.place c.in_err-byte.field-0.0 by.cause;
      low = tt;
      memory = λ e. cc;
      fault = λ e. rose_later _ _ _ (before.never_fell c.args.name.now) by.fault;
      kept = keeps.kept;
      never_fall = keeps.never_fell;
    })

pub returns-then-at-eq-PLACE_LIMIT : goal.returns-then-at-eq-PLACE_LIMIT
returns-then-at-eq-PLACE_LIMIT g c =
    let told = g.F.Files.held c.args.files.now c.args.name.now in
    let by = c.in_ok-byte.ensures in
    let before = c.loop-byte.invariant.1 in
    let keeps = keeps_on before by.kept by.never_fall in
    record {
      shows = by.shows;
      begins = told_nothing told;
      ended = told_nothing told;
      refused = told_limit told c.args.place c.loop-byte.at c.in-Some.byte c.if-at-eq-PLACE_LIMIT.true
          (byte_told _ _ _ _ _ (before.kept c.args.name.now) c.in-Some.is by.byte)
          c.loop-byte.invariant.0.reached;
      low = tt;
      memory = λ e. cc;
      fault = λ e. absurd cc;
      kept = keeps.kept;
      never_fall = keeps.never_fell;
    }

pub returns-then-is_ascii_digit : goal.returns-then-is_ascii_digit
returns-then-is_ascii_digit g c =
    let told = g.F.Files.held c.args.files.now c.args.name.now in
    let by = c.in_ok-byte.ensures in
    let before = c.loop-byte.invariant.1 in
    let keeps = keeps_on before by.kept by.never_fall in
    record {
      shows = by.shows;
      begins = told_begins told c.args.place c.loop-byte.at c.in-Some.byte (search rules)
          (byte_told _ _ _ _ _ (before.kept c.args.name.now) c.in-Some.is by.byte)
          c.loop-byte.invariant.0.reached;
      ended = told_nothing told;
      refused = told_nothing told;
      low = omega arith;
      memory = λ e. cc;
      fault = λ e. absurd cc;
      kept = keeps.kept;
      never_fall = keeps.never_fell;
    }

pub returns-then-not-is_blank : goal.returns-then-not-is_blank
returns-then-not-is_blank g c =
    let told = g.F.Files.held c.args.files.now c.args.name.now in
    let by = c.in_ok-byte.ensures in
    let before = c.loop-byte.invariant.1 in
    let keeps = keeps_on before by.kept by.never_fall in
    record {
      shows = by.shows;
      begins = told_nothing told;
      ended = told_nothing told;
      refused = told_bad told c.args.place c.loop-byte.at c.in-Some.byte (omega arith) (search rules) (search rules)
          (byte_told _ _ _ _ _ (before.kept c.args.name.now) c.in-Some.is by.byte)
          c.loop-byte.invariant.0.reached;
      low = tt;
      memory = λ e. cc;
      fault = λ e. absurd cc;
      kept = keeps.kept;
      never_fall = keeps.never_fell;
    }

pub loop-byte-preserved : goal.loop-byte-preserved
loop-byte-preserved g c =
    let by = c.in_ok-byte.ensures in
    let before = c.loop-byte.invariant.1 in (
      record {
        low = omega (arith, c.byte.new.self.below, c.past_blanks-at.ensures.high);
        shows = by.shows;
        reached = told_passes (g.F.Files.held c.args.files.now c.args.name.now)
            (g.F.Files.held c.byte.new.files c.args.name.now) c.args.place c.loop-byte.at _
            (by.kept c.args.name.now ∙ before.kept c.args.name.now) c.loop-byte.invariant.0.reached
            (c.past_blanks-at.ensures.reached (g.F.Files.held c.byte.new.files c.args.name.now) by.shows);
      },
      keeps_on before by.kept by.never_fall,
    )

pub returns : goal.returns
returns g c =
    let told = g.F.Files.held c.args.files.now c.args.name.now in
    let by = c.in_ok-byte.ensures in
    let before = c.loop-byte.invariant.1 in
    let keeps = keeps_on before by.kept by.never_fall in
    record {
      shows = by.shows;
      begins = told_nothing told;
      ended = told_end told c.args.place c.loop-byte.at
          (end_told _ _ _ _ (before.kept c.args.name.now) c.in_default.is by.byte)
          c.loop-byte.invariant.0.reached;
      refused = told_nothing told;
      low = tt;
      memory = λ e. cc;
      fault = λ e. absurd cc;
      kept = keeps.kept;
      never_fall = keeps.never_fell;
    }
