use Rattle.std.proofs.Common.{Ok, ap, ◌∙◌}
use Rattle.ra_cases.specs.declared.trying.TheConstants.{CUTS}
use Rattle.ra_cases.proofs.RunLemmas.{one_more}
use Rattle.ra_cases.proofs.trying.try_cuts.Goals as goal

pub loop-each-preserved : goal.loop-each-preserved
loop-each-preserved g c = record {
  same = c.in_ok-try_cut.ensures.no_line (ap Ok c.if-not-branch.false) ∙ c.loop-each.invariant.same;
  ran =
      one_more c.args.asked.now CUTS c.loop-each.each-index c.loop-each.invariant.ran
      (c.in_ok-try_cut.ensures.ran (ap Ok c.if-not-branch.false));
}
