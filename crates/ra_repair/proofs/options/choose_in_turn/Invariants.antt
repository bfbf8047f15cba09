-- The first option of least penalty among those so far.
use Rattle.std.proofs.Common.{◌≡◌}
use Rattle.ra_repair.specs.Keeping.{KeepsPenalty}
use Rattle.ra_repair.specs.Runs.{try_option, option_penalty}
use Rattle.ra_repair.proofs.OptionLemmas.{IsChosen}
use Rattle.ra_repair.proofs.options.choose_in_turn.Given as goal

abbrev pub invariant-loop-option : goal.invariant-loop-option
invariant-loop-option g l = record {
  chosen : IsChosen l.option (option_penalty l.inst.tables l.start.items l.fn.kept.assignment.items l.words)
      (try_option l.inst.tables l.fn.kept.assignment.items l.words) l.best;
  keeps : KeepsPenalty l.kept l.inst.tables l.start.items;
  same : l.kept.assignment.items ≡ l.fn.kept.assignment.items;
}
