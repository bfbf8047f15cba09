use Rattle.std.proofs.Common.{◌≡◌, ◌+◌, ◌-◌, ◌<◌, ◌≤◌, length, rules, arith}
use Rattle.ra_token.proofs.Taking.{takes_none, takes_one, takes_then, block_begins, block_after, block_other, block_digits, block_goes, block_next}
use Rattle.ra_token.proofs.scan.block_runs.Goals as goal

pub loop-k-init : goal.loop-k-init
loop-k-init c = (
  block_begins c.args.bytes.now c.args.from c.others-rest.result c.others-rest.ensures,
  takes_none c.args.bytes.now c.args.from 0 c.args.values.now (omega arith),
)

pub eight_worth-requires-clause-digits : goal.eight_worth-requires-clause-digits
eight_worth-requires-clause-digits c =
    block_digits c.args.bytes.now c.args.from c.loop-k.at c.loop-k.rest c.lowest-bit.result c.loop-k.invariant.0
    c.lowest-bit.ensures.within c.lowest-bit.ensures.below

pub loop-k-preserved : goal.loop-k-preserved
loop-k-preserved c =
    let bytes = c.args.bytes.now in
    let from = c.args.from in
    let at = c.loop-k.at in
    let bit = c.lowest-bit.result in
    let end = from + 1 + bit in
    let count = from + bit - at in
    let block = c.loop-k.invariant.0 in
    let so_far = c.loop-k.invariant.1 in
    let after = block_after bytes from at c.loop-k.rest bit block c.lowest-bit.ensures.within
    c.lowest-bit.ensures.set in
    let digits = block_digits bytes from at c.loop-k.rest bit block c.lowest-bit.ensures.within
    c.lowest-bit.ensures.below in
    let other = block_other bytes from at c.loop-k.rest bit block c.lowest-bit.ensures.within
    c.lowest-bit.ensures.set in
    let ends : at + 1 + count ≡ end = omega (arith, after, block.low) in
    let some : 0 < count = omega (arith, c.if-count-eq0.false) in
    let few : count ≤ 8 = omega (arith, c.if-count-gt-NEAR.false) in
    let within : end < length bytes = omega (arith, c.requires.within, c.lowest-bit.ensures.within) in
    let one = takes_one bytes at (at + 1) end _ c.loop-k.values c.push.new.self (omega (arith, after)) (omega arith)
    c.push.ensures.items c.push.ensures.room
    (rw c.eight_worth.ensures (block_next bytes at end count ends some few within (search rules) other digits)) in (
      block_goes bytes from at c.loop-k.rest bit c.without-rest.result block c.lowest-bit.ensures.within after
          c.lowest-bit.ensures.below c.without-rest.ensures.gone c.without-rest.ensures.kept,
      takes_then bytes from at end (c.loop-k.k + 1) c.loop-k.k 1 c.args.values.now c.loop-k.values c.push.new.self
          so_far one (omega (arith, so_far.most, one.most)),
    )
