use Rattle.std.proofs.Common.{◌≡◌, suc, ◌∷◌, [], ◌++◌, map, length, refl, sym, ap, ◌∙◌, append-nil, arith}
use Rattle.std.proofs.lemmas.List.Elements.{All-push}
use Rattle.ra_journal.specs.Openings.{opening}
use Rattle.ra_worker.specs.declared.worker.Worker.{Worker}
use Rattle.ra_worker.specs.Crews.{HasNotBegun}
use Rattle.ra_worker.proofs.Runs.{nothing_left, passed_over, first_out}
use Rattle.ra_worker.proofs.crew.make_workers.Goals as goal

pub passes-init : goal.passes-init
passes-init c =
    let none = c.in_ok-workers.ensures.items in
    record {
      all = rw none refl;
      exist = c.requires.exist;
      room = omega (arith, ap length none, c.in_ok-workers.ensures.exact, c.len.ensures);
      kept = omega (arith, ap length none, c.args.passes.now.ok.0, c.args.passes.now.ok.1);
      fresh = rw none (λ k d within. absurd (omega (arith, within)));
    }

pub remove-pass-requires : goal.remove-pass-requires
remove-pass-requires c = omega (arith, c.passes-test.true, c.len-in-passes.ensures)

pub make_worker-requires-clause-exists : goal.make_worker-requires-clause-exists
make_worker-requires-clause-exists c =
    let steps : c.passes.passes.items ≡ c.remove-pass.result ∷ c.remove-pass.new.self.items =
    first_out _ _ _ (omega (arith, c.passes-test.true, c.len-in-passes.ensures)) c.remove-pass.ensures.value
    c.remove-pass.ensures.items in
    let long : length c.passes.passes.items ≡ length (c.remove-pass.result ∷ c.remove-pass.new.self.items) =
    ap length steps in
    rw steps at (c.passes.invariant.exist 0 c.remove-pass.result (omega (arith, long)))

pub push_reserved-requires : goal.push_reserved-requires
push_reserved-requires c = omega (arith, c.passes.invariant.room, c.passes-test.true, c.len-in-passes.ensures)

pub passes-smaller : goal.passes-smaller
passes-smaller c = omega (arith, c.remove-pass.ensures.len)

pub passes-preserved : goal.passes-preserved
passes-preserved c =
    let at = c.passes in
    let o = opening c.args.inst.now.tables c.args.a0.now.items c.args.lots.now in
    let steps : at.passes.items ≡ c.remove-pass.result ∷ c.remove-pass.new.self.items =
    first_out _ _ _ (omega (arith, c.passes-test.true, c.len-in-passes.ensures)) c.remove-pass.ensures.value
    c.remove-pass.ensures.items in
    let long : length at.passes.items ≡ length (c.remove-pass.result ∷ c.remove-pass.new.self.items) =
    ap length steps in
    record {
      all = passed_over (λ (w : Worker). w.pass) at.workers.items _ _ _ _ c.in_ok-worker.worker c.remove-pass.result
          at.invariant.all steps c.in_ok-worker.ensures.pass c.push_reserved.ensures.items;
      exist = λ k d within. rw steps at (at.invariant.exist (suc k) d (omega (arith, within, long)));
      room = omega (
        arith,
        at.invariant.room,
        long,
        ap length c.push_reserved.ensures.items,
        c.push_reserved.ensures.len,
        c.push_reserved.ensures.capacity,
      );
      kept = omega (
        arith,
        at.invariant.kept,
        long,
        ap length c.push_reserved.ensures.items,
        c.push_reserved.ensures.len,
        c.remove-pass.ensures.capacity,
      );
      fresh = rw c.push_reserved.ensures.items
          (All-push (HasNotBegun o) at.workers.items c.in_ok-worker.worker at.invariant.fresh c.in_ok-worker.ensures.fresh);
    }

pub returns-clause-passes : goal.returns-clause-passes
returns-clause-passes c =
    let at = c.passes in
    let empty : at.passes.items ≡ [] = nothing_left _ (omega (arith, c.passes-test.false, c.len-in-passes.ensures)) in
    sym (append-nil (map (λ (w : Worker). w.pass) at.workers.items))
    ∙ ap (λ x. map (λ (w : Worker). w.pass) at.workers.items ++ x) (sym empty) ∙ at.invariant.all

pub returns-clause-taken : goal.returns-clause-taken
returns-clause-taken c = nothing_left _ (omega (arith, c.passes-test.false, c.len-in-passes.ensures))

pub returns-clause-room : goal.returns-clause-room
returns-clause-room c = omega (arith, c.passes.invariant.kept)

pub returns-clause-fresh : goal.returns-clause-fresh
returns-clause-fresh c = c.passes.invariant.fresh
