-- One more step.
use Rattle.std.proofs.Common.{◌≡◌, ◌<◌, None, length, sym, refl, ap, subst, arith}
use Rattle.ra_model.specs.Numbers.{neighbourhood_of}
use Rattle.ra_model.specs.Broken.{service_dependency}
use Rattle.ra_weigh.specs.Trials.{tables_of, steps_of, after_of}
use Rattle.ra_weigh.proofs.StepLemmas.{step_process, service_read, to_read, from_read}
use Rattle.ra_weigh.proofs.LandLemmas.{lands_read}
use Rattle.ra_weigh.proofs.NearLemmas.{needs_met}
use Rattle.ra_weigh.proofs.FarLemmas.{spare_more, none_far, far_more, alone_far}
use Rattle.ra_weigh.proofs.trial.Trial.first_far.Goals as goal

pub loop-j-preserved : goal.loop-j-preserved
loop-j-preserved c =
    let t = c.args.self.now in
    let i = tables_of t in
    let steps = steps_of t in
    let j = c.loop-j.j in
    let step = c.step-step.result in
    let s = c.service_of-s.result.0 in
    let to = neighbourhood_of i step.to.0 in
    let from = neighbourhood_of i step.from.0 in
    let next = c.far_dependant-next.result in
    let within : j < length steps = omega (arith, c.loop-j-test.true, c.steps-j-end.ensures.value) in
    record {
      within = omega (
        arith,
        c.loop-j.invariant.within,
        c.far_mover-next.ensures.near,
        c.far_dependant-next.ensures.near,
      );
      spare = spare_more i _ c.loop-j.next next s to from c.loop-j.invariant.spare
          (omega (arith, c.far_mover-next.ensures.near, c.far_dependant-next.ensures.near))
          (service_read i steps j c.step-step.ensures c.service_of-s.ensures)
          (ap (neighbourhood_of i) (to_read steps j c.step-step.ensures))
          (ap (neighbourhood_of i) (from_read steps j c.step-step.ensures))
          (λ before. c.far_mover-next.ensures.finds (omega (arith, before, c.far_dependant-next.ensures.near)))
          c.far_dependant-next.ensures.leaves;
      far = far_more i _ next
          (far_more i _ c.far_mover-next.result c.loop-j.invariant.far c.far_mover-next.ensures.near
          (λ nearer none. c.far_mover-next.ensures.far nearer
          (needs_met i _ s step.process.0 to
          (subst (λ u. service_dependency i (after_of t) u ≡ None) (c.far_mover-next.ensures.service nearer) none)
          (step_process t.moves c.step-step.ensures within) (sym c.service_of-s.ensures)
          (ap (neighbourhood_of i)
          (sym (lands_read j step.process.0 t.moves c.step-step.ensures within refl))))))
          c.far_dependant-next.ensures.near
          (λ nearer. alone_far i _ s from next (c.far_dependant-next.ensures.far nearer));
    }

pub returns-clause-before : goal.returns-clause-before
returns-clause-before c = grind (arith, none_far)
