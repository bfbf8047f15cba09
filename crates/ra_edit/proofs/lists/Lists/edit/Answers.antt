use Rattle.std.proofs.Common.{arith}
use Rattle.ra_edit.proofs.SoundLaws.{few_of, free_add, free_retire, free_resize}
use Rattle.ra_edit.proofs.lists.Lists.edit.Goals as goal

pub add-requires-clause-few : goal.add-requires-clause-few
add-requires-clause-few c =
    omega (arith, (few_of c.requires.sound).rows, free_add _ _ _ _ (rw c.in-Add.is at c.requires.free))

pub retire-requires-clause-process : goal.retire-requires-clause-process
retire-requires-clause-process c = (free_retire _ _ (rw c.in-Retire.is at c.requires.free)).0

pub resize-requires-clause-process : goal.resize-requires-clause-process
resize-requires-clause-process c = free_resize _ _ (rw c.in-Resize.is at c.requires.free)
