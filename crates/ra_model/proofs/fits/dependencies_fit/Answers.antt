-- Each service's dependencies begin where those of the service before it end.
use Rattle.std.proofs.Common.{◌≡◌, ◌<◌, length, sym, ◌∙◌, arith, below_more}
use Rattle.std.proofs.lemmas.Bool.{eqb-true}
use Rattle.std.proofs.lemmas.Bool.Decides.{Decides-eqb}
use Rattle.ra_model.specs.Numbers.{all_open, service_count}
use Rattle.ra_model.proofs.InstanceLemmas.{start_first}
use Rattle.ra_model.proofs.RawLemmas.{start_more, end_read}
use Rattle.ra_model.proofs.fits.dependencies_fit.Goals as goal
use Rattle.ra_model.proofs.fits.dependencies_fit.Goals.{then-end-start-via-then-end-start}
use Rattle.ra_model.proofs.fits.dependencies_fit.Goals.{then-end-start-via-else-end-start+then-end-count}

pub loop-s-init : goal.loop-s-init
loop-s-init c = record {
  start = sym (start_first (all_open c.args.raw.now));
  ordered = λ s h. absurd (omega arith);
  within = λ s h. absurd (omega arith);
}

pub loop-s-preserved : goal.loop-s-preserved
loop-s-preserved c =
    let raw = c.args.raw.now in
    let at : c.loop-s.s < length raw.services.items = omega arith in
    let end = end_read raw c.loop-s.s c.get-end.result at c.get-end.ensures in
    record {
      start = sym (start_more raw c.loop-s.s c.get-end.result at c.get-end.ensures);
      ordered = below_more _ _ c.loop-s.invariant.ordered (omega (arith, end, c.loop-s.invariant.start));
      within = below_more _ _ c.loop-s.invariant.within (omega (arith, end));
    }

pub returns-clause-ordered : goal.returns-clause-ordered
unfolding service_count
returns-clause-ordered c = λ _ s h. c.loop-s.invariant.ordered s (omega arith)

pub returns-clause-within : goal.returns-clause-within
unfolding service_count
returns-clause-within c = λ _ s h. c.loop-s.invariant.within s (omega arith)

pub returns-clause-all : goal.returns-clause-all
unfolding service_count
returns-clause-all c = λ same.
    let raw = c.args.raw.now in
    let all : c.loop-s.s ≡ length raw.services.items = omega arith in
    rw (← all) (sym c.loop-s.invariant.start ∙ eqb-true c.loop-s.start c.len-count.result same
    ∙ c.len-count.ensures.value)

pub returns-then-end-start-clause-only : goal.returns-then-end-start-clause-only
unfolding service_count
returns-then-end-start-clause-only c = λ w.
    let raw = c.args.raw.now in
    let at : c.loop-s.s < length raw.services.items = omega arith in
    let end = end_read raw c.loop-s.s c.get-end.result at c.get-end.ensures in
    elim c.then-end-start.branch [
      | then-end-start-via-then-end-start via ↦
          absurd (omega (arith, via.if-end-start, w.in_order c.loop-s.s at, end, c.loop-s.invariant.start))
      | then-end-start-via-else-end-start+then-end-count via ↦
          absurd (omega (arith, via.if-end-count, w.within c.loop-s.s at, end, c.len-count.ensures.value))
    ]

pub returns-clause-only : goal.returns-clause-only
unfolding service_count
returns-clause-only c = λ w.
    let raw = c.args.raw.now in
    let all : c.loop-s.s ≡ length raw.services.items = omega arith in
    (Decides-eqb c.loop-s.start c.len-count.result).1 (c.loop-s.invariant.start ∙ rw all w.all_owned
    ∙ sym c.len-count.ensures.value)
