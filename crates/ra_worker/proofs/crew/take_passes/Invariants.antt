-- The passes so far, and those of the workers that are left.
use Rattle.std.proofs.Common.{◌≡◌, ◌+◌, ◌≤◌, ◌++◌, length, map, vec_capacity}
use Rattle.std.specs.Vec.Iter.{into_iter_items, into_iter_len}
use Rattle.ra_worker.specs.declared.worker.Worker.{Worker}
use Rattle.ra_worker.proofs.crew.take_passes.Given as goal

abbrev pub invariant-loop-worker : goal.invariant-loop-worker
invariant-loop-worker l = record {
  all : l.passes.items ++ map (λ (w : Worker). w.pass) (into_iter_items l.worker-iterator) ≡
      map (λ (w : Worker). w.pass) (into_iter_items l.initial.worker-iterator);
  left : into_iter_len l.worker-iterator ≡ length (into_iter_items l.worker-iterator);
  room : length l.passes.items + length (into_iter_items l.worker-iterator) ≤ vec_capacity l.passes;
}
