-- A transient resource by its transient use, another by its use.
use Rattle.std.proofs.Common.{◌<◌, ◌≤◌, sym, ◌∙◌}
use Rattle.ra_weigh.specs.Trials.{initial_of}
use Rattle.ra_weigh.proofs.HoldLemmas.{told_le}
use Rattle.ra_weigh.proofs.FitLemmas.{fits_twice, fits_once, over_twice, over_once}
use Rattle.ra_weigh.proofs.trial.Trial.fits_flowing.Goals as goal

pub returns-then-transient : goal.returns-then-transient
returns-then-transient c = told_le c.transient_flowing-most.result c.from-cap.result
    (λ (within : c.transient_flowing-most.result ≤ c.from-cap.result). fits_twice _
    _ _ c.args.m.0 c.args.r.0
    c.from-cap.result c.transient_flowing-most.ensures (c.from-cap.ensures ∙ c.capacity.ensures) within)
    (λ (over : c.from-cap.result < c.transient_flowing-most.result). over_twice _
    _ _ c.args.m.0 c.args.r.0
    c.from-cap.result (sym c.transient.ensures ∙ c.if-transient.true) c.transient_flowing-most.ensures
    (c.from-cap.ensures ∙ c.capacity.ensures) over)

pub returns : goal.returns
returns c = told_le c.use_flowing-most.result c.from-cap.result
    (λ (within : c.use_flowing-most.result ≤ c.from-cap.result). fits_once _
    _ _ c.args.m.0 c.args.r.0
    c.from-cap.result (sym c.transient.ensures ∙ c.if-transient.false) c.use_flowing-most.ensures
    (c.from-cap.ensures ∙ c.capacity.ensures) within)
    (λ (over : c.from-cap.result < c.use_flowing-most.result). over_once _
    (initial_of c.args.self.now) _ c.args.m.0 c.args.r.0
    c.from-cap.result c.use_flowing-most.ensures (c.from-cap.ensures ∙ c.capacity.ensures) over)
