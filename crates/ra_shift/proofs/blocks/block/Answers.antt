use Rattle.std.proofs.Common.{◌≡◌, ◌+◌, ◌^◌, ◌<◌, get_or, ap, ◌∙◌, arith, inl}
use Rattle.ra_shift.specs.Windows.{lacking}
use Rattle.ra_shift.proofs.blocks.block.Goals as goal
use Rattle.ra_shift.proofs.SumLemmas.{lacking_within, lacking_from, lacking_past, next_sum}

pub loop-i-preserved : goal.loop-i-preserved
loop-i-preserved c k l =
    let rows = c.args.rows.now in
    let terms = c.args.terms.now in
    let term = get_or terms c.loop-i.i (record { row = 0; amount = 0 }) in
    let place : get_or rows (term.row + c.args.at + k) 0 ≡ get_or rows (term.row + (c.args.at + k)) 0 =
    ap (λ n. get_or rows n 0) (omega arith) in
    let whole : lacking rows terms (c.args.at + k) < 2 ^ 32 =
    omega (arith, c.requires.amounts_small, lacking_within rows terms (c.args.at + k)) in
    next_sum _ _ _ _ _ _
    (lacking_from rows terms c.loop-i.i (c.args.at + k) (record { row = 0; amount = 0 }) c.loop-i-test.true)
    (c.loop-i.invariant k l) whole
    (omega (
      arith,
      c.add_lacking-sums.ensures.each k l,
      c.load.ensures.each k l
          ∙ place,
    ))

pub returns : goal.returns
returns c k l =
    inl (omega (
      arith,
      c.loop-i.invariant k l,
      lacking_past c.args.rows.now c.args.terms.now c.loop-i.i (c.args.at + k)
          c.loop-i-test.false,
    ))
