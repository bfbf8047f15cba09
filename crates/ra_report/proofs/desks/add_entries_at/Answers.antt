use Rattle.std.proofs.Common.{◌≡◌, length, arith, sym, ◌∙◌, rules}
use Rattle.ra_report.specs.Pieces.{joined}
use Rattle.ra_report.specs.JournalTexts.{entries_text}
use Rattle.ra_report.proofs.GatheringLemmas.{adds_none, adds_more, adds_failed}
use Rattle.ra_report.proofs.ShareLaws.{rest_after}
use Rattle.ra_report.proofs.desks.add_entries_at.Goals as goal

pub loop-next-init : goal.loop-next-init
unfolding entries_text
loop-next-init g c = record {
  within = omega arith;
  added = adds_none g.O.Sink.taken g.O.Sink.faults c.args.text.now;
}

pub loop-next-preserved : goal.loop-next-preserved
loop-next-preserved g c =
    let part = joined c.write_shares-next.new.self.desks.items in
    let same : c.as_slice.result.now ≡ c.write_shares-next.new.self.desks.items = search rules in
    record {
      within = c.write_shares-next.ensures.within;
      added = rw c.write_shares-next.ensures.lines
          (adds_more g.O.Sink.taken g.O.Sink.faults c.args.text.now c.loop-next.text c.add_desks.new.text
          (entries_text c.args.entries.now.items c.loop-next.next) part c.loop-next.invariant.added
          (rw same at c.add_desks.ensures));
    }

-- once a put has failed, what is left changes nothing
pub returns-then-has_failed : goal.returns-then-has_failed
returns-then-has_failed g c =
    let h = c.args.entries.now.items in
    let rest = rest_after h c.loop-next.next (length h) c.loop-next.invariant.within in
    rw rest.1
    (adds_more g.O.Sink.taken g.O.Sink.faults c.args.text.now c.loop-next.text c.loop-next.text
    (entries_text h c.loop-next.next) rest.0 c.loop-next.invariant.added
    (adds_failed g.O.Sink.taken g.O.Sink.faults c.loop-next.text rest.0
    (sym c.has_failed.ensures ∙ c.if-has_failed.true)))

pub returns : goal.returns
returns g c =
    let all : c.loop-next.next ≡ length c.args.entries.now.items = omega (arith, c.loop-next.invariant.within) in
    rw all at c.loop-next.invariant.added
