-- One try after another.
use Rattle.std.proofs.Common.{◌+◌, ◌∙◌, refl, ap, length, arith}
use Rattle.ra_draws.specs.Drawn.{Drawn}
use Rattle.ra_repair.specs.Runs.{try_with}
use Rattle.ra_repair.proofs.RunLemmas.{repaired_none, repaired_more, repaired_early, repaired_all, drawn_words}
use Rattle.ra_repair.proofs.RunLemmas.{one_longer}
use Rattle.ra_repair.proofs.trying.make_tries.Goals as goal

pub loop-k-init : goal.loop-k-init
loop-k-init g c = record {
  keeps = c.requires.keeps;
  run = repaired_none c.args.inst.now.tables c.args.start.now.items c.args.lot.now _ c.requires.begins
      c.requires.tries.none;
  number = ap length c.requires.tries.none;
  room = refl;
  lot = c.make-draws.ensures.lot;
  made = c.make-draws.ensures.made;
}

pub returns-then-kept-eq0-clause-run : goal.returns-then-kept-eq0-clause-run
returns-then-kept-eq0-clause-run g c = repaired_early c.args.inst.now.tables c.args.start.now.items c.args.lot.now
    c.loop-k.k c.loop-k.kept.penalty _ (omega (arith, c.loop-k-test.true)) c.loop-k.invariant.run
    c.loop-k.invariant.keeps.penalty_is (omega (arith, c.if-kept-eq0.true))

pub loop-k-preserved : goal.loop-k-preserved
loop-k-preserved g c =
    let i = c.args.inst.now.tables in
    let a0 = c.args.start.now.items in
    let lot = c.args.lot.now in
    let a = c.loop-k.kept.assignment.items in
    record {
      keeps = c.make_try-next.ensures.keeps;
      run = repaired_more i a0 _ lot c.loop-k.k c.loop-k.kept.penalty
          (record { assignment = a; tries = c.loop-k.tries.items }) c.make_try-next.result _ c.loop-k.invariant.run
          c.loop-k.invariant.keeps.penalty_is (λ zeros. absurd (omega (arith, c.if-kept-eq0.false, zeros)))
          (c.make_try-next.ensures.made
          ∙ ap (λ x. try_with i a0 a x c.loop-k.k)
          (drawn_words c.loop-k.draws lot c.loop-k.k _ c.words_for_next-words.ensures.words c.loop-k.invariant.lot
          c.loop-k.invariant.made))
          c.make_try-next.ensures.assignment c.push.ensures.items;
      number = one_longer _ _ _ c.loop-k.k c.push.ensures.items c.loop-k.invariant.number;
      room = c.push.ensures.room ∙ c.loop-k.invariant.room;
      lot = ap (λ (d : Drawn). d.lot) c.words_for_next-words.ensures.made ∙ c.loop-k.invariant.lot;
      made = ap (λ (d : Drawn). d.made) c.words_for_next-words.ensures.made ∙ ap (λ n. n + 1) c.loop-k.invariant.made;
    }

pub returns-clause-run : goal.returns-clause-run
returns-clause-run g c = repaired_all c.args.inst.now.tables c.args.start.now.items c.args.lot.now c.loop-k.k _
    (omega (arith, c.loop-k-test.false, c.loop-k.auto.k-end)) c.loop-k.invariant.run
