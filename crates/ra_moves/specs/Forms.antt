-- The value of a `Move` from its form, and back.
use Rattle.std.specs.Prelude.{◌≡◌, [], ◌∷◌, List, refl}
use Rattle.ra_moves.specs.MoveSteps.{MoveSteps}
use Rattle.ra_moves.specs.Steps.{step_at}
use Rattle.ra_moves.specs.declared.steps.MoveKind.{MoveKind}
use Rattle.ra_moves.specs.declared.steps.MoveKind.TheVariants.{Shift, Swap, Chain}
use Rattle.ra_moves.specs.declared.steps.Step.{Step}
use Rattle.ra_moves.specs.declared.moves.Form.{Form}
use Rattle.ra_moves.specs.declared.moves.Form.TheVariants.{One, Two, Three}
use Rattle.ra_moves.specs.declared.moves.Move.TheInside.{Inside}

abbrev pub value_of_form : Form → MoveSteps
value_of_form (One a) = record { kind = Shift; steps = a ∷ [] }
value_of_form (Two a b) = record { kind = Swap; steps = a ∷ b ∷ [] }
value_of_form (Three a b c) = record { kind = Chain; steps = a ∷ b ∷ c ∷ [] }

abbrev pub form_of_kind : MoveKind → List Step → Form
form_of_kind Shift steps = One (step_at steps 0)
form_of_kind Swap steps = Two (step_at steps 0) (step_at steps 1)
form_of_kind Chain steps = Three (step_at steps 0) (step_at steps 1) (step_at steps 2)

abbrev pub form_of_value : MoveSteps → Form
form_of_value v = form_of_kind v.kind v.steps

pub form_back : (f : Form) → form_of_value (value_of_form f) ≡ f
unfolding step_at
form_back (One a) = refl
form_back (Two a b) = refl
form_back (Three a b c) = refl

abbrev pub inside_of : Form → Inside
inside_of f = record { form = f }
