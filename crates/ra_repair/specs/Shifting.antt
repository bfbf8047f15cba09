-- Words of a proposal whose options are shifts of one process.
use Rattle.std.specs.Prelude.{◌≡◌, ℕ, List}
use Rattle.ra_base.specs.declared.ids.Machine.{Machine}
use Rattle.ra_model.specs.Assignments.{machine_at}
use Rattle.ra_moves.specs.declared.steps.MoveKind.TheVariants.{Shift}
use Rattle.ra_moves.specs.Options.{kind_of, drawn}

-- the words x ask for shifts of process p, which assignment a has on machine `home`
pub record AskForShifts (x : List ℕ) (a : List Machine) (p home : ℕ) : Type 0 where
  pub kind : kind_of x ≡ Shift
  pub process : drawn a x 1 ≡ p
  pub at_home : machine_at a p ≡ home
