-- Each kind of edit is followed by itself.
use Rattle.ra_edit.proofs.SoundLaws.{free_retire, free_resize}
use Rattle.ra_edit.proofs.loads.Loads.follow.Goals as goal

pub add-requires-clause-machine : goal.add-requires-clause-machine
add-requires-clause-machine c = (rw c.in-Add.is at c.requires.fits).1

pub retire-requires-clause-process : goal.retire-requires-clause-process
retire-requires-clause-process c = (free_retire _ _ (rw c.in-Retire.is at c.requires.free)).0

pub resize-requires-clause-process : goal.resize-requires-clause-process
resize-requires-clause-process c = free_resize _ _ (rw c.in-Resize.is at c.requires.free)

pub returns-in-Add : goal.returns-in-Add
returns-in-Add c = rw c.in-Add.is (λ e edited. c.add.ensures e c.in-Add.service.0 edited.0 edited.1)

pub returns-in-Retire : goal.returns-in-Retire
returns-in-Retire c = rw c.in-Retire.is c.retire.ensures

pub returns-in-Resize : goal.returns-in-Resize
returns-in-Resize c = rw c.in-Resize.is (λ e edited. c.resize.ensures e edited.0 edited.1)
