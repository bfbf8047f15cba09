use Rattle.std.proofs.Common.{◌≡◌, ◌+◌, ◌-◌, ◌*◌, true, get_or, rules, subst, arith}
use Rattle.std.specs.Char.{is_ascii_digit}
use Rattle.ra_token.specs.Scan.{InRun}
use Rattle.ra_token.proofs.InPiece.{piece_more, digit_first, near_more, near_small, digit_below}
use Rattle.ra_token.proofs.scan.near_digits.Goals as goal

pub loop-k-preserved : goal.loop-k-preserved
loop-k-preserved c =
    let i = c.args.from + c.loop-k.k in
    let value = c.loop-k.value in
    let byte = get_or c.args.bytes.now i 0 in
    let digit : is_ascii_digit byte ≡ true = search rules in
    let more = near_more value (byte - 48) c.loop-k.k c.loop-k.invariant.0 (digit_below byte digit) in
    let next : i + 1 ≡ c.args.from + (c.loop-k.k + 1) = omega arith in (
      more,
      λ within. digit_first c.args.bytes.now c.args.from i (omega arith) c.loop-k.invariant.1 digit (omega arith),
      λ all start first low is run.
          subst (λ j. InRun all first (start + j) (value * 10 + (byte - 48))) next
          (piece_more all c.args.bytes.now start first i value low is (omega arith) digit
          (near_small (value * 10 + (byte - 48)) (c.loop-k.k + 1) more (omega arith))
          (c.loop-k.invariant.2 all start first low is run)),
    )
