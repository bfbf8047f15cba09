use Rattle.std.proofs.Common.{length, ap, ◌∙◌}
use Rattle.std.proofs.lemmas.List.{length-map}
use Rattle.ra_worker.specs.declared.worker.Worker.{Worker}
use Rattle.ra_worker.proofs.Runs.{all_last, all_whole}
use Rattle.ra_worker.proofs.crew.Crew.run.Goals as goal

pub run_all-requires-clause-may : goal.run_all-requires-clause-may
run_all-requires-clause-may g c = λ n outlives k d within. (c.args.self.ready.each k d within).may

pub close-requires-clause-count : goal.close-requires-clause-count
close-requires-clause-count g c = ap length c.take_passes-passes.ensures
    ∙ length-map c.run_all.new.workers.items (λ (w : Worker). w.pass) ∙ c.run_all.ensures.one_each

pub close-requires-clause-passes : goal.close-requires-clause-passes
close-requires-clause-passes g c =
    rw c.take_passes-passes.ensures (all_last c.args.self.shared c.run_all.new.workers.items c.run_all.ensures)

pub returns-clause-whole : goal.returns-clause-whole
returns-clause-whole g c = all_whole c.args.self.shared c.run_all.new.workers.items c.close.result
    c.close.ensures.sound c.run_all.ensures
    c.close.ensures.opened (rw c.take_passes-passes.ensures at c.close.ensures.passes)
