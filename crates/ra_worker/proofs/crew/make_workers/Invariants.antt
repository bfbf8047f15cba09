-- The workers so far, and the passes that are left.
use Rattle.std.proofs.Common.{◌≡◌, ◌+◌, ◌<◌, ◌≤◌, ◌++◌, All, length, map, vec_capacity}
use Rattle.ra_journal.specs.Entries.{worker_count}
use Rattle.ra_journal.specs.Openings.{opening}
use Rattle.ra_worker.specs.declared.worker.Worker.{Worker}
use Rattle.ra_worker.specs.Crews.{HasNotBegun}
use Rattle.ra_worker.proofs.crew.make_workers.Given as goal

abbrev pub invariant-passes : goal.invariant-passes
invariant-passes l = record {
  all : map (λ (w : Worker). w.pass) l.workers.items ++ l.passes.items ≡ l.fn.passes.items;
  exist : All (λ pass. pass.number < worker_count l.lots) l.passes.items;
  room : length l.workers.items + length l.passes.items ≤ vec_capacity l.workers;
  kept : length l.workers.items + length l.passes.items ≤ vec_capacity l.passes;
  fresh : All (HasNotBegun (opening l.inst.tables l.a0.items l.lots)) l.workers.items;
}

abbrev pub decreases-passes : goal.decreases-passes
decreases-passes l = length l.passes.items
