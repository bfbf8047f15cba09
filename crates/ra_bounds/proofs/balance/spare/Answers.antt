-- The two sums of the resource, which are small.
use Rattle.std.proofs.Common.{◌∙◌}
use Rattle.ra_bounds.proofs.SignLemmas.{difference_read, difference_near}
use Rattle.ra_bounds.proofs.ReadLemmas.{spare_from, required_small, capacity_small}
use Rattle.ra_bounds.proofs.balance.spare.Goals as goal

pub returns-clause-value : goal.returns-clause-value
returns-clause-value c =
    let i = c.args.inst.now.tables in
    let capacity = capacity_small i c.args.r.0 c.args.capacity.now c.args.inst.now.well_formed c.args.inst.now.small
    c.requires.capacity c.requires.resource in
    let required = required_small i c.args.r.0 c.args.required.now c.args.inst.now.well_formed c.args.inst.now.small
    c.requires.required c.requires.resource in
    difference_read _ _ _ _ c.from.ensures c.from-2.ensures capacity required
    ∙ spare_from i c.args.r.0 c.args.required.now c.args.capacity.now c.requires.required c.requires.capacity
    c.requires.resource

pub returns-clause-near : goal.returns-clause-near
returns-clause-near c =
    let i = c.args.inst.now.tables in
    let capacity = capacity_small i c.args.r.0 c.args.capacity.now c.args.inst.now.well_formed c.args.inst.now.small
    c.requires.capacity c.requires.resource in
    let required = required_small i c.args.r.0 c.args.required.now c.args.inst.now.well_formed c.args.inst.now.small
    c.requires.required c.requires.resource in
    rw (difference_read _ _ _ _ c.from.ensures c.from-2.ensures capacity required)
    (difference_near _ _ capacity required)
