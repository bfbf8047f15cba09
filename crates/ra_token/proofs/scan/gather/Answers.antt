use Rattle.std.proofs.Common.{rules, ◌+◌, subst, arith}
use Rattle.ra_token.specs.Scan.{InRun}
use Rattle.ra_token.proofs.InPiece.{piece_more, piece_large, digit_first}
use Rattle.ra_token.proofs.scan.gather.Goals as goal

pub returns-then-not-is_ascii_digit-clause-goes_on :
    goal.returns-then-not-is_ascii_digit-clause-goes_on
returns-then-not-is_ascii_digit-clause-goes_on c =
    λ all start first low is run small. c.loop-i.invariant.2 all start first low is run

pub returns-then-value-gt-LARGEST-clause-too_large :
    goal.returns-then-value-gt-LARGEST-clause-too_large
returns-then-value-gt-LARGEST-clause-too_large c = λ all start first low is run large.
    piece_large all c.args.bytes.now start first c.loop-i.i c.loop-i.value low is (omega arith) (search rules) large
    (c.loop-i.invariant.2 all start first low is run)

pub loop-i-preserved : goal.loop-i-preserved
loop-i-preserved c = (
  omega arith,
  digit_first c.args.bytes.now c.args.from c.loop-i.i (search rules) c.loop-i.invariant.1 (search rules),
  λ all start first low is run.
      piece_more all c.args.bytes.now start first c.loop-i.i c.loop-i.value low is (omega arith) (search rules)
      (omega arith) (c.loop-i.invariant.2 all start first low is run),
)

pub returns-clause-goes_on : goal.returns-clause-goes_on
returns-clause-goes_on c = λ all start first low is run small.
    subst (λ i. InRun all first (start + i) c.loop-i.value) (omega arith)
    (c.loop-i.invariant.2 all start first low is run)
