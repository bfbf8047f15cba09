use Rattle.std.proofs.Common.{arith, refl}
use Rattle.ra_words.specs.Numbers.{decimal_worth}
use Rattle.ra_words.proofs.NumberLaws.{one_more}
use Rattle.ra_words.proofs.numbers.worth.Goals as goal

pub loop-byte-init : goal.loop-byte-init
unfolding decimal_worth
loop-byte-init c = refl

pub overflow_mul-value : goal.overflow_mul-value
overflow_mul-value c = let m = one_more c.args.text.now c.loop-byte.byte-index c.loop-byte.value c.requires
    c.loop-byte-test.true c.loop-byte.invariant in omega arith

pub overflow_sub-value : goal.overflow_sub-value
overflow_sub-value c = let m = one_more c.args.text.now c.loop-byte.byte-index c.loop-byte.value c.requires
    c.loop-byte-test.true c.loop-byte.invariant in omega arith

pub overflow_add-value : goal.overflow_add-value
overflow_add-value c = let m = one_more c.args.text.now c.loop-byte.byte-index c.loop-byte.value c.requires
    c.loop-byte-test.true c.loop-byte.invariant in omega arith

pub loop-byte-preserved : goal.loop-byte-preserved
loop-byte-preserved c = let m = one_more c.args.text.now c.loop-byte.byte-index c.loop-byte.value c.requires
    c.loop-byte-test.true c.loop-byte.invariant in omega arith
