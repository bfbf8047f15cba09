use Rattle.std.proofs.Common.{◌≡◌, sym, ap, ◌∙◌, rules, arith}
use Rattle.std.specs.Int.{bit_at}
use Rattle.ra_token.proofs.BlockBits.{tidy_of}
use Rattle.ra_token.proofs.short.is_tidy.Goals as goal

pub returns-then-are_apart : goal.returns-then-are_apart
returns-then-are_apart c = λ yes.
    let same : c.args.rest ≡ c.spaces.result = search rules in
    tidy_of c.args.bytes.now c.args.from c.args.rest c.requires.tells (omega (arith, c.if-bytes-from-gt57.false))
    (search rules) (λ k l set. c.spaces.ensures k l (ap (λ n. bit_at n k) (sym same) ∙ set))
    (c.are_apart.ensures (search rules)) (c.are_short.ensures yes)
