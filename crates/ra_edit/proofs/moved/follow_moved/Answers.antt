-- Each kind of edit by itself.
use Rattle.std.proofs.Common.{arith}
use Rattle.std.proofs.lemmas.Grind.{common_steps}
use Rattle.std.proofs.Common.{◌≡◌, ℕ, ⊎_elim}
use Rattle.ra_base.specs.declared.ids.Machine.{Machine}
use Rattle.ra_base.specs.declared.ids.Service.{Service}
use Rattle.ra_edit_read.specs.declared.edits.Edit.TheVariants.{Add, Resize}
use Rattle.ra_edit.proofs.MovedLaws.{followed_come, followed_other}
use Rattle.ra_edit.proofs.SoundLaws.{free_retire}
use Rattle.ra_edit.proofs.moved.follow_moved.Goals as goal

pub returns-in-Add : goal.returns-in-Add
returns-in-Add c = λ e asked edited.
    ⊎_elim
    (λ (added : (s : Service) × (m : Machine) × (x : ℕ) × (c.args.edit ≡ Add s m x)).
    followed_come c.requires.moved (rw added.3 at edited).0)
    (λ (resized : (p : ℕ) × (c.args.edit ≡ Resize p)).
    followed_other c.requires.moved (rw resized.1 at edited).0) c.in-Add.is

pub follow_retired-requires : goal.follow_retired-requires
follow_retired-requires c = grind (arith, common_steps, free_retire)

pub returns-in-Retire : goal.returns-in-Retire
returns-in-Retire c = rw c.in-Retire.is (λ e asked gone. c.follow_retired.ensures e gone)
