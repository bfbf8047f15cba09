use Rattle.std.proofs.Common.{◌≡◌, ℕ, ◌+◌, ◌-◌, ◌*◌, ◌<◌, get_or, sym, subst, ⊎_elim, arith}
use Rattle.std.proofs.lemmas.Bool.{cases_lt}
use Rattle.ra_shift.specs.Windows.{lacking, IsSumOrLarge}
use Rattle.ra_shift.proofs.blocks.add_up.Goals as goal

pub loop-number-preserved : goal.loop-number-preserved
loop-number-preserved c k l =
    let n = c.loop-number.number * 16 in
    let f : ℕ → ℕ = λ j. lacking c.args.rows.now c.args.terms.now (c.args.start + j) in
    ⊎_elim
    (λ old. rw (c.store.ensures.before k old) (c.loop-number.invariant k old))
    (λ new.
    let j = k - n in
    let low : j < 16 = omega (arith, l) in
    let at : n + j ≡ k = omega arith in
    let place : c.args.start + n + j ≡ c.args.start + k = omega arith in
    let found : IsSumOrLarge c.args.limit (get_or c.block.result j 0) (f k) =
    rw (← place) (c.block.ensures j low) in
    subst (λ p. IsSumOrLarge c.args.limit (get_or c.store.new.list p 0) (f k)) at
    (subst (λ x. IsSumOrLarge c.args.limit x (f k)) (sym (c.store.ensures.there j low)) found))
    (cases_lt k n)
