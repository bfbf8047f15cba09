use Rattle.std.proofs.Common.{ℕ, Option, sym, subst}
use Rattle.ra_cases.specs.Runs.{RunsAtEach, cuts_of}
use Rattle.ra_cases.proofs.RunLemmas.{one_cut}
use Rattle.ra_cases.proofs.trying.ends_so.Goals as goal

pub returns-in-Some-clause-ran : goal.returns-in-Some-clause-ran
returns-in-Some-clause-ran g c = λ is.
    subst (λ (gives : Option ℕ). RunsAtEach c.args.asked.now (cuts_of gives)) (sym c.in-Some.is)
    (one_cut c.args.asked.now c.in-Some.each (c.try_cut.ensures.ran is))

pub returns-in-None-clause-ran : goal.returns-in-None-clause-ran
returns-in-None-clause-ran g c = λ is.
    subst (λ (gives : Option ℕ). RunsAtEach c.args.asked.now (cuts_of gives)) (sym c.in-None.is)
    (c.try_cuts.ensures.ran is)
