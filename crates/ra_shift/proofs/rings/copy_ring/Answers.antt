use Rattle.std.proofs.Common.{◌≡◌, ◌+◌, ◌-◌, ◌%◌, length, get_or, sym, ap, subst, ◌∙◌, ⊎_elim, arith}
use Rattle.std.proofs.lemmas.Bool.{cases_lt}
use Rattle.ra_shift.proofs.RingLemmas.{place_on, place_at_end}
use Rattle.ra_shift.proofs.rings.copy_ring.Goals as goal

pub loop-done-preserved : goal.loop-done-preserved
loop-done-preserved c =
    let ring = c.args.ring.now in
    let done = c.loop-done.done in
    let next = c.loop-done.invariant.next c.loop-done-test.true in
    record {
      within = omega arith;
      place = omega arith;
      next = λ more. ap (λ x. x % length ring) (omega arith)
          ∙ place_at_end (c.args.start + done) c.copy_part-done.result c.loop-done.from
          (length ring) next (omega arith) (omega arith);
      each = λ k l. ⊎_elim
          (λ old. c.copy_part-done.ensures.before k old ∙ c.loop-done.invariant.each k old)
          (λ new.
          let j = k - done in
          let at : done + j ≡ k = omega arith in
          let place : (c.args.start + k) % length ring ≡ c.loop-done.from + j =
          ap (λ x. x % length ring) (omega arith) ∙ place_on (c.args.start + done) j c.loop-done.from (length ring) next
          (omega arith) in
          subst (λ x. get_or c.copy_part-done.new.copy x 0 ≡ get_or ring ((c.args.start + k) % length ring) 0) at
          (c.copy_part-done.ensures.there j (omega arith) ∙ ap (λ x. get_or ring x 0) (sym place)))
          (cases_lt k done);
    }
