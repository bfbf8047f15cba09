use Rattle.std.proofs.Common.{◌≡◌, ℕ, List, refl, ap, ap₂, ◌∙◌}
use Rattle.ra_draws.specs.Allowance.{allowance}
use Rattle.ra_draws.specs.declared.budgets.Lots.{Lots}
use Rattle.ra_draws.specs.Lots.{lot_at, budget_of, words_of, allowance_of}
use Rattle.ra_draws.specs.Words.{proposal_words}
use Rattle.ra_draws.specs.declared.sources.Lot.{Lot}
use Rattle.ra_moves.specs.Options.{plan_of}
use Rattle.ra_journal.specs.Entries.{words, allowed}
use Rattle.test_workers.proofs.commits.first.first_plan.Goals as goal
use Rattle.ra_model.specs.Situations.{Situation, situation}
use Rattle.ra_moves.specs.Weighing.{weighed_of}

words_same : (l : Lots) (w : ℕ) (lot : Lot) (made : ℕ) (given : List ℕ) → given ≡ proposal_words lot.source made →
    lot ≡ lot_at l.lots.items w → made ≡ 0 → given ≡ words l w 0
unfolding words words_of
words_same l w lot made given is lot_is none = is ∙ ap₂ (λ (x : Lot) k. proposal_words x.source k) lot_is none

allowed_same : (l : Lots) (w slack : ℕ) (lot : Lot) (given : ℕ) → given ≡ allowance slack lot.budget 0 →
    slack ≡ l.slack → lot ≡ lot_at l.lots.items w → given ≡ allowed l w 0
unfolding allowed allowance_of budget_of
allowed_same l w slack lot given is slack_is lot_is = is ∙ ap₂ (λ s (x : Lot). allowance s x.budget 0) slack_is lot_is

pub returns : goal.returns
returns g c =
    let world = c.args.world.now in
    let i = world.tables in
    let a0 = world.start in
    let l = c.args.lots.now in
    let w = c.args.worker in
    let words_is = words_same l w c.make-draws.result.lot c.make-draws.result.made c.words_for_next-words.result
    c.words_for_next-words.ensures.words (c.make-draws.ensures.lot ∙ c.lot-lot.ensures) c.make-draws.ensures.made in
    let allowed_is = allowed_same l w c.slack.result c.lot-lot.result.now c.allow-allowed.result c.allow-allowed.ensures
    c.slack.ensures c.lot-lot.ensures in
    let begun : world ≡ situation i a0 a0 = ap (situation i a0) c.requires.start in
    let same : plan_of world c.words_for_next-words.result c.drawing.result c.allow-allowed.result ≡
    plan_of (situation i a0 a0) (words l w 0) l.drawing (allowed l w 0) =
    ap (λ (st : Situation). plan_of st c.words_for_next-words.result c.drawing.result c.allow-allowed.result) begun
    ∙ rw (words_is, c.drawing.ensures, allowed_is) refl in
    record {
      place = c.plan.ensures.numbers_q;
      number = c.plan.ensures.numbers_k;
      planned = c.plan.ensures.planned ∙ same;
      weighing = c.plan.ensures.weighed ∙ ap (λ (st : Situation). weighed_of st c.plan.result.mv.steps) begun;
    }
