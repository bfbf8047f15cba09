use Rattle.std.proofs.Common.{arith, length-set}
use Rattle.std.proofs.lemmas.List.{length-replicate}
use Rattle.ra_assign.proofs.ClosedLemmas.{flagged_all}
use Rattle.ra_assign.proofs.ClosedSteps.{first_none, first_more, too_many}
use Rattle.ra_token.proofs.ToldLemmas.{at_exit, went_nowhere, went_on, refuses_next, refuses_standing}
use Rattle.ra_assign.proofs.closed.flag_machines.Goals as goal

pub loop-taken-init : goal.loop-taken-init
loop-taken-init g c = record {
  went = went_nowhere _ c.requires.stands
      (λ bytes. first_none bytes _ _ _ (c.requires.start bytes) c.requires.none_flagged);
  size = rw c.requires.none_flagged (length-replicate _ _);
}

pub returns-in_err-machine-clause-refuses : goal.returns-in_err-machine-clause-refuses
returns-in_err-machine-clause-refuses g c =
    at_exit _ _ _ c.from_residual.ensures
    (refuses_next c.loop-taken.invariant.went c.in_err-machine.ensures.refuses
    (λ bytes x y first stop. stop _ first.flagged))

pub returns-in_default-clause-gives : goal.returns-in_default-clause-gives
returns-in_default-clause-gives g c =
    went_on c.loop-taken.invariant.went (rw c.in_default.is at c.in_ok-machine.ensures.gives)
    (λ bytes x y z first end. flagged_all bytes _ y _ first.flagged c.loop-taken.invariant.size end)

pub loop-taken-preserved : goal.loop-taken-preserved
loop-taken-preserved g c = record {
  went = went_on c.loop-taken.invariant.went (rw c.in-Some.is at c.in_ok-machine.ensures.gives)
      (λ bytes x y z first one. first_more bytes _ y z _ _ _ c.in-Some.machine first one
      (omega (arith, c.loop-taken.invariant.size, rw c.in-Some.is at c.in_ok-machine.ensures.exists))
      c.set.ensures.items);
  size = grind (arith, length-set);
}

pub returns-clause-refuses : goal.returns-clause-refuses
returns-clause-refuses g c = refuses_standing c.loop-taken.invariant.went (λ e. cc)
    (λ bytes x first stands. too_many bytes _ _ _ _ first stands (omega arith))
