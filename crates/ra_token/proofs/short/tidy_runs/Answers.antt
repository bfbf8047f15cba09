use Rattle.std.proofs.Common.{◌≡◌, ◌+◌, ◌-◌, ◌<◌, length, get_or, sym, ap, ◌∙◌, arith}
use Rattle.ra_token.specs.Scan.{digits_worth}
use Rattle.ra_token.specs.Short.{short_worth}
use Rattle.ra_token.proofs.Taking.{takes_none, takes_one, takes_then, block_begins, block_after, block_other, block_digits, block_goes, block_next}
use Rattle.ra_token.proofs.TidyBlocks.{some_digits, few_digits, short_is, blank_next, digit_last}
use Rattle.ra_token.proofs.short.tidy_runs.Goals as goal

pub loop-rest-init : goal.loop-rest-init
loop-rest-init c = (
  block_begins c.args.bytes.now c.args.from c.args.others c.requires.tells,
  takes_none c.args.bytes.now c.args.from 32 c.args.values.now (omega (arith, c.requires.within)),
  c.requires.tidy.here,
  c.requires.tidy.before,
  omega arith,
)

pub push-requires : goal.push-requires
push-requires c =
    let so_far = c.loop-rest.invariant in
    let after = block_after c.args.bytes.now c.args.from c.loop-rest.at c.loop-rest.rest c.lowest-bit.result so_far.0
    c.lowest-bit.ensures.within c.lowest-bit.ensures.set in
    omega (arith, after, so_far.4, so_far.1.room, c.requires.room, c.lowest-bit.ensures.within)

pub loop-rest-preserved : goal.loop-rest-preserved
loop-rest-preserved c =
    let bytes = c.args.bytes.now in
    let from = c.args.from in
    let at = c.loop-rest.at in
    let bit = c.lowest-bit.result in
    let end = from + 1 + bit in
    let count = from + bit - at in
    let tidy = c.requires.tidy in
    let below : bit < 64 = c.lowest-bit.ensures.within in
    let block = c.loop-rest.invariant.0 in
    let so_far = c.loop-rest.invariant.1 in
    let blank = c.loop-rest.invariant.2 in
    let close = c.loop-rest.invariant.4 in
    let after = block_after bytes from at c.loop-rest.rest bit block below c.lowest-bit.ensures.set in
    let other = block_other bytes from at c.loop-rest.rest bit block below c.lowest-bit.ensures.set in
    let digits = block_digits bytes from at c.loop-rest.rest bit block below c.lowest-bit.ensures.below in
    let some = some_digits bytes from at bit tidy block.low after below blank other in
    let few = few_digits bytes from at bit tidy block.low below digits in
    let there : at + count ≡ from + bit = omega (arith, after, block.low) in
    let ends : at + 1 + count ≡ end = omega (arith, after, block.low) in
    let worth : get_or c.short_values-worth.result bit 0 ≡ digits_worth bytes (at + 1) count =
    c.short_values-worth.ensures.each bit below ∙ ap (short_worth bytes) (sym there)
    ∙ short_is bytes at count some few blank c.loop-rest.invariant.3 digits in
    let within : end < length bytes = omega (arith, c.requires.within, below) in
    let one = takes_one bytes at (at + 1) end _ c.loop-rest.values c.push.new.self (omega (arith, after)) (omega arith)
    c.push.ensures.items c.push.ensures.room
    (rw worth (block_next bytes at end count ends some (omega (arith, few)) within blank other digits)) in (
      block_goes bytes from at c.loop-rest.rest bit c.without-rest.result block below after c.lowest-bit.ensures.below
          c.without-rest.ensures.gone c.without-rest.ensures.kept,
      takes_then bytes from at end 32 32 1 c.args.values.now c.loop-rest.values c.push.new.self so_far one
          (omega (arith, so_far.grows, one.most, close, after, below)),
      blank_next bytes from bit tidy below other,
      digit_last bytes from at bit block.low some digits,
      omega (arith, so_far.grows, one.most, close, ends, some),
    )
