-- One count less, and one more.
use Rattle.ra_cells.proofs.GreatestLemmas.{retallied}
use Rattle.ra_cells.proofs.greatest.retally.Goals as goal

pub returns : goal.returns
returns c = retallied c.args.tallies.now.items c.set.new.self.items c.set-2.new.self.items c.args.left c.args.come
    c.get.result c.get-2.result c.requires.left c.requires.come c.get.ensures c.requires.some c.set.ensures.items
    c.get-2.ensures c.set-2.ensures.items
