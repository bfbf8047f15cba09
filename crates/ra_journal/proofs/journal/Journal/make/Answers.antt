use Rattle.std.proofs.Common.{refl, ap, ◌∙◌, subst}
use Rattle.ra_base.specs.declared.costs.Parts.{Parts}
use Rattle.ra_model.specs.Costs.{parts_of}
use Rattle.ra_model.specs.Numbers.{service_count}
use Rattle.ra_guards.specs.Kept.{AreZero}
use Rattle.ra_journal.specs.Journals.{history}
use Rattle.ra_journal.specs.Openings.{opening}
use Rattle.ra_journal.proofs.StartLemmas.{kept_start}
use Rattle.ra_journal.proofs.journal.Journal.make.Goals as goal

pub invariant_of-result : goal.invariant_of-result
unfolding parts_of
invariant_of-result c =
    let i = c.args.inst.now.tables in
    let v = c.in_ok-versions.versions in
    let cost = ap (λ (p : Parts). p.total) c.requires.parts in
    let zero_versions = subst (λ n. AreZero n (service_count i) v) c.machines.ensures
    (subst (λ n. AreZero c.machines.result n v) c.services.ensures c.in_ok-versions.ensures) in
    record {
      topology = c.requires.topology;
      start = record { limits = c.args.inst.now.well_formed; fits = c.requires.fits; unbroken = c.requires.unbroken };
      kept = kept_start (opening i c.args.a0.now.items c.args.lots.now) _ c.in_ok-entries.ensures.items
          (c.in_ok-entries.ensures.room ∙ c.proposals.ensures.value) zero_versions c.in_ok-greatest.ensures.counts
          c.in_ok-greatest.ensures.limit refl cost refl cost refl;
    }

pub returns : goal.returns
returns c =
    ap (history c.args.inst.now c.args.topo.now c.args.a0.now c.args.lots.now) c.in_ok-entries.ensures.items
