use Rattle.std.proofs.Common.{◌≡◌, ◌+◌, ◌-◌, ◌*◌, ◌<◌, get_or, ◌∙◌, ⊎_elim, arith}
use Rattle.std.proofs.lemmas.Bool.{cases_lt}
use Rattle.ra_shift.proofs.SumLemmas.{sum_with_way}
use Rattle.ra_shift.proofs.blocks.add_ways.Goals as goal

pub loop-number-preserved : goal.loop-number-preserved
loop-number-preserved c =
    let n = c.loop-number.number * 16 in
    let so_far = c.loop-number.invariant in
    record {
      added = λ k l. ⊎_elim
          (λ old. c.store.ensures.before k old ∙ so_far.added k old)
          (λ new.
          let j = k - n in
          let low : j < 16 = omega (arith, l) in
          let at : n + j ≡ k = omega arith in
          let with : get_or c.store.new.list (n + j) 0 ≡ get_or c.args.sums.now
          (n + j) 0 + c.args.weight * get_or c.args.ways.now (n + j) 0 =
          c.store.ensures.there j low ∙ c.add-with.ensures.each j low
          ∙ sum_with_way _ _ _ _ _ _ (c.load.ensures.each j low ∙ so_far.rest (n + j) (omega arith))
          (c.weigh.ensures.each j low) (c.load-in-loop-number.ensures.each j low)
          (c.requires.sums_small (n + j) (omega (arith, c.loop-number-test.true)))
          (c.requires.ways_small (n + j) (omega (arith, c.loop-number-test.true))) in
          rw (← at) with)
          (cases_lt k n);
      rest = λ k above. c.store.ensures.after k (omega arith) ∙ so_far.rest k (omega arith);
    }
