-- What is known of a run is what its report and its summary ask for.
use Rattle.std.proofs.Common.{◌≡◌, sym, ap, ◌∙◌}
use Rattle.ra_bounds.specs.declared.costs.Bound.{Bound}
use Rattle.ra_bounds.specs.PinnedBounds.{pinned_bound_of}
use Rattle.ra_worker.specs.declared.solved.Solved.{Solved}
use Rattle.ra_worker.specs.Runs.{IsRun}
use Rattle.ra_report.specs.JournalTexts.{best_state}
use Rattle.ra_journal.specs.Best.{best_of}
use Rattle.ra_journal.specs.Openings.{Opening}
use Rattle.ra_journal.specs.States.{state}

-- its best state is that of its journal
pub best_told : (o : Opening) (run : Solved) → IsRun o run → run.best.items ≡ best_state run.journal
unfolding best_state
best_told o run is = is.best
    ∙ ap (λ (p : Opening). let h = run.journal.entries in state p.start h (best_of p h)) (sym is.opening)

-- the bound of the instance and the start is that of its journal
pub bound_told : (o : Opening) (run : Solved) (bound : Bound) → IsRun o run →
    bound ≡ pinned_bound_of o.tables o.start → bound ≡ pinned_bound_of run.journal.instance.tables run.journal.initial.items
bound_told o run bound is told = told ∙ ap (λ (p : Opening). pinned_bound_of p.tables p.start) (sym is.opening)
