-- The initial list is judged first.
use Rattle.ra_token.proofs.ToldLemmas.{at_exit}
use Rattle.ra_run.proofs.SolveLemmas.{start_more}
use Rattle.ra_run.proofs.solve.run_from.Goals as goal

pub returns-in_err-scratch-clause-refused : goal.returns-in_err-scratch-clause-refused
returns-in_err-scratch-clause-refused g c =
    at_exit _ _ _ c.from_residual.ensures
    (start_more c.args.start.now.inst.tables c.args.start.now.initial.items ⊥ _ (λ none. absurd none) _
    c.in_err-scratch.ensures.refused)
