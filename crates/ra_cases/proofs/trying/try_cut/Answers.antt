use Rattle.ra_cases.proofs.trying.try_cut.Goals as goal

pub returns-clause-ran : goal.returns-clause-ran
returns-clause-ran g c = λ is. record {
  old = c.in_ok-stage.stage;
  new = c.try_stage-tried.new.stage;
  ready = c.in_ok-stage.ensures;
  ends = c.try_stage-tried.ensures.ends is;
}
