use Rattle.std.proofs.Common.{◌≡◌, ◌∷◌, [], ◌++◌, List, map, length, sym, ap, ◌∙◌, append-nil, arith}
use Rattle.std.specs.Vec.Iter.{into_iter_items}
use Rattle.ra_worker.specs.declared.worker.Worker.{Worker}
use Rattle.ra_worker.proofs.Runs.{nothing_left, moved_over}
use Rattle.ra_worker.proofs.crew.take_passes.Goals as goal

pub push_reserved-requires : goal.push_reserved-requires
push_reserved-requires c =
    let at = c.loop-worker in
    let steps : into_iter_items at.worker-iterator ≡ c.in-Some.worker ∷ into_iter_items c.next.new.self =
    c.in-Some.ensures.steps.0 in
    omega (arith, at.invariant.room, ap (λ (x : List Worker). length x) steps)

pub loop-worker-preserved : goal.loop-worker-preserved
loop-worker-preserved c =
    let at = c.loop-worker in
    let steps : into_iter_items at.worker-iterator ≡ c.in-Some.worker ∷ into_iter_items c.next.new.self =
    c.in-Some.ensures.steps.0 in
    record {
      all = moved_over (λ (w : Worker). w.pass) _ _ _ _ _ c.in-Some.worker c.into_pass.result at.invariant.all steps
          c.into_pass.ensures c.push_reserved.ensures.items;
      left = omega (arith, at.invariant.left, c.in-Some.ensures.steps.1, ap (λ (x : List Worker). length x) steps);
      room = omega (
        arith,
        at.invariant.room,
        ap (λ (x : List Worker). length x) steps,
        ap length c.push_reserved.ensures.items,
        c.push_reserved.ensures.len,
        c.push_reserved.ensures.capacity,
      );
    }

pub returns : goal.returns
returns c =
    let at = c.loop-worker in
    let empty : into_iter_items at.worker-iterator ≡ [] =
    nothing_left _ (sym at.invariant.left ∙ c.in-None.ensures.steps.0) in
    sym (append-nil at.passes.items) ∙ ap (λ (x : List Worker). at.passes.items ++ map (λ (w : Worker). w.pass) x)
    (sym empty) ∙ at.invariant.all
    ∙ ap (λ (x : List Worker). map (λ (w : Worker). w.pass) x) c.into_iter-worker-iterator.ensures.into_iter_gives.0
