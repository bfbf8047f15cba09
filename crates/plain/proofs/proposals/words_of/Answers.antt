use Rattle.std.proofs.Common.{◌≡◌, refl, sym, ap, ◌∙◌, subst, arith}
use Rattle.ra_draws.specs.declared.sources.Lot.{Lot}
use Rattle.ra_draws.specs.Lots.{IsFitting, budget_of, words_of}
use Rattle.ra_journal.specs.Entries.{worker_count, budget, words}
use Rattle.plain.proofs.proposals.words_of.Goals as goal

pub lot-lot-requires : goal.lot-lot-requires
unfolding worker_count
lot-lot-requires c = c.requires.there

pub make-draws-requires : goal.make-draws-requires
unfolding worker_count
make-draws-requires c =
    subst IsFitting (sym c.lot-lot.ensures) (c.args.lots.now.fitting.each c.args.worker c.requires.there)

pub words_for_next-earlier-requires : goal.words_for_next-earlier-requires
unfolding budget budget_of
words_for_next-earlier-requires c =
    omega (
      arith,
      c.requires.left,
      c.loop-made-test.true,
      c.loop-made.invariant.drawn,
      ap (λ (x : Lot). x.budget) c.loop-made.invariant.lot,
    )

pub words_for_next-requires : goal.words_for_next-requires
unfolding budget budget_of
words_for_next-requires c =
    omega (
      arith,
      c.requires.left,
      c.loop-made-test.false,
      c.loop-made.auto._made-end,
      c.loop-made.invariant.drawn,
      ap (λ (x : Lot). x.budget) c.loop-made.invariant.lot,
    )

pub returns : goal.returns
unfolding words words_of
returns c =
    let all : c.loop-made._made ≡ c.args.k = omega (arith, c.loop-made-test.false, c.loop-made.auto._made-end) in
    c.words_for_next.ensures.words ∙ rw (c.loop-made.invariant.lot, c.loop-made.invariant.drawn, all) refl
