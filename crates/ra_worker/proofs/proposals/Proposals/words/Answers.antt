use Rattle.ra_worker.proofs.proposals.Proposals.words.Goals as goal

pub returns : goal.returns
returns c = c.args.self.now.drawn.words c.args.number c.requires.from c.requires.near c.requires.left
