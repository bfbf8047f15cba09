use Rattle.std.proofs.Common.{refl, ◌∙◌, arith, length-append}
use Rattle.ra_assign.proofs.AssignSteps.{taken_none, in_range_more, all_fit}
use Rattle.ra_assign.proofs.AssignLemmas.{taken_more, refused_now, refused_then, all_taken}
use Rattle.ra_token.proofs.ToldLemmas.{at_exit, went_nowhere, went_on, refuses_next}
use Rattle.ra_assign.proofs.assignments.read_machines.Goals as goal

pub loop-p-init : goal.loop-p-init
loop-p-init g c = record {
  went = went_nowhere _ c.requires.stands (λ bytes. taken_none bytes _ _ _ (c.requires.start bytes) c.requires.empty);
  size = rw c.requires.empty refl;
  room = refl;
  in_range = λ k within. absurd (omega (arith, within));
}

pub returns-in_err-machine-clause-refuses : goal.returns-in_err-machine-clause-refuses
returns-in_err-machine-clause-refuses g c =
    at_exit _ _ _ c.from_residual.ensures
    (refuses_next c.loop-p.invariant.went c.in_err-machine.ensures.refuses
    (λ bytes x y taken stop. refused_now bytes _ y _ _ _ (omega arith) taken stop))

pub loop-p-preserved : goal.loop-p-preserved
loop-p-preserved g c = record {
  went = went_on c.loop-p.invariant.went c.in_ok-machine.ensures.gives
      (λ bytes x y z taken takes. rw c.push.ensures.items (taken_more bytes _ y z _ _ _ taken takes));
  size = grind (arith, length-append);
  room = c.push.ensures.room ∙ c.loop-p.invariant.room;
  in_range = rw c.push.ensures.items
      (in_range_more _ _ _ _ c.loop-p.invariant.size c.loop-p.invariant.in_range c.in_ok-machine.ensures.exists);
}

pub returns-in_err-read_end-clause-refuses : goal.returns-in_err-read_end-clause-refuses
returns-in_err-read_end-clause-refuses g c = at_exit _ _ _ c.from_residual-in_err-read_end.ensures
    (refuses_next c.loop-p.invariant.went c.in_err-read_end.ensures.refuses
    (λ bytes x y taken says. refused_then bytes _ y _ _ _ (omega arith) taken says))

pub returns-clause-gives : goal.returns-clause-gives
returns-clause-gives g c = went_on c.loop-p.invariant.went c.in_ok-read_end.ensures.gives
    (λ bytes x y z taken end. all_taken bytes _ y _ _ (omega arith) taken end)

pub returns-clause-fits : goal.returns-clause-fits
returns-clause-fits g c = all_fit _ _ _ (omega arith) c.loop-p.invariant.size c.loop-p.invariant.in_range
