use Rattle.ra_cases.proofs.trying.try_case.Goals as goal

pub returns-clause-ran : goal.returns-clause-ran
returns-clause-ran g c = λ is. (_, c.tell_case.ensures.ran is)
