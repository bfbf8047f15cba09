use Rattle.std.proofs.Common.{◌≡◌, sym, ap, ap₂, ◌∙◌}
use Rattle.ra_moves.specs.MoveSteps.{MoveSteps}
use Rattle.ra_moves.specs.Forms.{value_of_form, form_of_value, form_back}
use Rattle.ra_moves.specs.declared.moves.Form.{Form}
use Rattle.ra_moves.specs.contracts.moves.FormPartialEq.TheImpl.{ghosts}
use Rattle.ra_moves.proofs.moves.MovePartialEq.eq.Goals as goal

-- the form that the value of a move gives back
given_back : (f : Form) (v : MoveSteps) → value_of_form f ≡ v → f ≡ form_of_value v
given_back f v is = sym (form_back f) ∙ ap form_of_value is

pub returns : goal.returns
returns c = c.eq.ensures ∙ ap₂ (λ (a : Form) (b : Form). ghosts.eq a b) (given_back _ _ c.t1-1.view_is)
    (given_back _ _ c.t2-1.view_is)
