use Rattle.std.proofs.Common.{◌≡◌, ◌+◌, ◌<◌, length, sym, ap, ◌∙◌, subst, arith}
use Rattle.ra_draws.specs.declared.budgets.Lots.{Lots}
use Rattle.ra_journal.specs.Entries.{worker_count}
use Rattle.ra_journal.specs.Journals.{opening_in}
use Rattle.test_workers.specs.Rounds.{HaveMade}
use Rattle.test_workers.proofs.PlayedLemmas.{plays_nothing, plays_then}
use Rattle.test_workers.proofs.RoundLemmas.{made_none, made_still, made_more, made_all}
use Rattle.test_workers.proofs.rounds.play_round.Goals as goal

pub take_turn-requires-clause-exists : goal.take_turn-requires-clause-exists
unfolding worker_count
take_turn-requires-clause-exists c =
    omega (
      arith,
      c.loop-w-test.true,
      c.len-w-end.ensures.value,
      ap (λ (l : Lots). length l.lots.items) (c.lots.ensures.value ∙ sym (ap (λ j. j.lots) c.loop-w.invariant.played.over)),
    )

in_loop : goal.loop-w-preserved
unfolding worker_count
in_loop c =
    let k = c.loop-w.journal in
    let o = opening_in k in
    let h = k.entries in
    let g = c.take_turn.new.journal.entries in
    let inv = c.loop-w.invariant in
    let played = c.take_turn.ensures.played in
    let lots = sym (ap (λ j. j.lots) played.over) in
    let there : c.loop-w.w < worker_count o.lots =
    omega (
      arith,
      c.loop-w-test.true,
      c.len-w-end.ensures.value,
      ap (λ (m : Lots). length m.lots.items) (c.lots.ensures.value ∙ sym (ap (λ j. j.lots) inv.played.over)),
    ) in
    record {
      all = λ r made. subst (λ (m : Lots). HaveMade m g (worker_count m) r) lots
          (made_still o h g c.loop-w.w (length h) (worker_count o.lots) r c.take_turn.ensures.journal (inv.all r made));
      first = λ r made. subst (λ (m : Lots). HaveMade m g (c.loop-w.w + 1) (r + 1)) lots
          (made_more o h g (worker_count o.lots) c.loop-w.w r c.take_turn.ensures.journal there (inv.all r made)
          (inv.first r made));
      played = plays_then c.args.journal.now k c.take_turn.new.journal c.args.replicas.now.items c.loop-w.replicas.items
          c.take_turn.new.replicas.items inv.played played;
    }

pub loop-w-preserved : goal.loop-w-preserved
loop-w-preserved c = in_loop c

pub loop-w-init : goal.loop-w-init
loop-w-init c =
    let j = c.args.journal.now in
    record {
      all = λ r made. made;
      first = λ r made. made_none j.lots j.entries (r + 1);
      played = plays_nothing j c.args.replicas.now.items c.requires.at;
    }

pub returns-clause-made : goal.returns-clause-made
unfolding worker_count
returns-clause-made c =
    let l = c.loop-w.journal.lots in
    let all : c.loop-w.w ≡ worker_count l =
    omega (
      arith,
      c.loop-w-test.false,
      c.loop-w.auto.w-end,
      c.len-w-end.ensures.value,
      ap (λ (m : Lots). length m.lots.items) (c.lots.ensures.value ∙ sym (ap (λ j. j.lots) c.loop-w.invariant.played.over)),
    ) in
    λ r made. made_all l c.loop-w.journal.entries (worker_count l) c.loop-w.w (r + 1)
    (c.loop-w.invariant.first r made) all
