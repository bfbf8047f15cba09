-- A journal as the list of what its entries make: it has the same states, and its moves are moves of these.
use Rattle.std.proofs.Common.{◌≡◌, ℕ, zero, suc, List, sym, refl, ap₂, ◌∙◌, subst}
use Rattle.ra_base.specs.declared.ids.Machine.{Machine}
use Rattle.ra_model.specs.declared.raw.Tables.{Tables}
use Rattle.ra_moves.specs.declared.steps.Step.{Step}
use Rattle.ra_moves.specs.Moving.{IsMove}
use Rattle.ra_guards.specs.Made.{after_made, made_state, StandsHere, MadeStand}
use Rattle.ra_journal.specs.declared.entries.Entry.{Entry}
use Rattle.ra_journal.specs.Entries.{made_in}
use Rattle.ra_journal.specs.States.{state}
use Rattle.ra_journal.specs.Laws.{MakesMoves}
use Rattle.ra_journal.specs.Openings.{Opening}
use Rattle.ra_journal.proofs.Places.{made_place}

pub state_is_made : (a0 : List Machine) (h : List Entry) (j : ℕ) → state a0 h j ≡ made_state a0 (made_in h) j
unfolding state made_state
state_is_made a0 h zero = refl
state_is_made a0 h (suc j) = ap₂ after_made (state_is_made a0 h j) (sym (made_place h j))

stands_here : (i : Tables) (a : List Machine) (steps : List Step) → IsMove i a steps → StandsHere i a steps
stands_here i a steps is = record { distinct = is.distinct; stands = is.stands; reaches = is.reaches }

pub made_stand : (o : Opening) (h : List Entry) (n : ℕ) → MakesMoves o h n → MadeStand o.tables o.start (made_in h) n
made_stand o h n moves = record {
  each = λ j steps before is. subst (λ a. StandsHere o.tables a steps) (state_is_made o.start h j)
      (stands_here o.tables (state o.start h j) steps (moves.each j steps before (sym (made_place h j) ∙ is)));
}
