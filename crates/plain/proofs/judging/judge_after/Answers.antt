use Rattle.std.proofs.Common.{◌≡◌, sym, ap, ◌∙◌}
use Rattle.ra_base.specs.declared.costs.Parts.{Parts}
use Rattle.ra_model.specs.Costs.{objective, parts_of}
use Rattle.ra_moves.specs.Judging.{rise_test, verdict_of}
use Rattle.ra_moves.proofs.Settled.{settled_broken, settled_whole}
use Rattle.plain.proofs.judging.judge_after.Goals as goal

pub returns-in-Some-clause-verdict : goal.returns-in-Some-clause-verdict
returns-in-Some-clause-verdict c = settled_broken _ _ _ _ (sym c.first_broken.ensures.first ∙ c.in-Some.is)

pub returns-clause-verdict : goal.returns-clause-verdict
unfolding parts_of
returns-clause-verdict c =
    let cost : c.parts.result.total ≡ objective c.args.inst.now.tables c.args.a0.now.items c.args.after.now.items =
    ap (λ (p : Parts). p.total) c.parts.ensures.value in
    c.by_rise.ensures ∙ ap (λ n. verdict_of (rise_test c.args.before n c.args.allowed) n) cost
    ∙ settled_whole _ _ _ (sym c.first_broken.ensures.first ∙ c.in_default.is)
