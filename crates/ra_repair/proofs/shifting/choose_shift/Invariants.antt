-- The first option of least penalty among those so far; the assignment is the one before, but for where the process is.
use Rattle.std.proofs.Common.{◌≡◌, set}
use Rattle.ra_repair.specs.Keeping.{KeepsPenalty}
use Rattle.ra_repair.specs.Runs.{try_option, option_penalty}
use Rattle.ra_repair.proofs.OptionLemmas.{IsChosen}
use Rattle.ra_repair.proofs.shifting.choose_shift.Given as goal

abbrev pub invariant-loop-option : goal.invariant-loop-option
invariant-loop-option g l = record {
  chosen : IsChosen l.option (option_penalty l.inst.tables l.start.items l.fn.kept.assignment.items l.words)
      (try_option l.inst.tables l.fn.kept.assignment.items l.words) l.best;
  keeps : KeepsPenalty l.kept l.inst.tables l.start.items;
  home : set l.kept.assignment.items l.process.0 l.home ≡ l.fn.kept.assignment.items;
}
