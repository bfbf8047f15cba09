use Rattle.std.proofs.Common.{ℕ, ◌<◌, ◌≤◌, sym, ap, ◌∙◌, subst, arith}
use Rattle.ra_draws.specs.declared.budgets.Lots.{Lots}
use Rattle.ra_journal.specs.Entries.{worker_count, budget}
use Rattle.ra_journal.specs.Legal.{Whole}
use Rattle.ra_journal.specs.Journals.{opening_in}
use Rattle.test_workers.proofs.PlayedLemmas.{plays_nothing, plays_then}
use Rattle.test_workers.proofs.RoundLemmas.{none_made, whole_by}
use Rattle.test_workers.proofs.rounds.round_robin.Goals as goal

pub loop-round-init : goal.loop-round-init
loop-round-init c =
    let j = c.args.journal.now in
    record {
      made = none_made j.lots j.entries (worker_count j.lots);
      played = plays_nothing j c.args.replicas.now.items c.requires.at;
    }

pub loop-round-preserved : goal.loop-round-preserved
loop-round-preserved c = record {
  made = c.play_round.ensures.made c.loop-round._round c.loop-round.invariant.made;
  played = plays_then c.args.journal.now c.loop-round.journal c.play_round.new.journal c.args.replicas.now.items
      c.loop-round.replicas.items c.play_round.new.replicas.items c.loop-round.invariant.played
      c.play_round.ensures.played;
}

pub returns-clause-whole : goal.returns-clause-whole
returns-clause-whole c =
    let k = c.loop-round.journal in
    let inv = c.loop-round.invariant in
    let far : (w : ℕ) → w < worker_count k.lots → budget k.lots w ≤ c.longest-rounds.result =
    subst (λ (m : Lots). (w : ℕ) → w < worker_count m → budget m w ≤ c.longest-rounds.result)
    (c.lots.ensures.value ∙ sym (ap (λ j. j.lots) inv.played.over)) c.longest-rounds.ensures in
    let whole = whole_by (opening_in k) k.entries c.loop-round._round
    (inv.played.sound c.lots.ensures.sound).legal inv.made (λ w there. omega (arith, far w there, c.loop-round-test.false)) in
    subst (λ (m : Lots). Whole m k.entries) (ap (λ j. j.lots) inv.played.over) whole
