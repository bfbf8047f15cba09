use Rattle.std.proofs.Common.{rules, refl}
use Rattle.std.proofs.lemmas.List.{take_rest}
use Rattle.ra_token.proofs.ExpectedLaws.{taken_same, taken_other}
use Rattle.ra_token.proofs.expected.ExpectedSink.put.Goals as goal

pub returns-then-same-piece-clause-grows : goal.returns-then-same-piece-clause-grows
returns-then-same-piece-clause-grows c =
    taken_same c.args.self.now.expected.now c.args.piece.now c.args.self.now.agreed c.same_length-same.result
    c.args.self.now.other (search rules) (rw take_rest at c.same_length-same.ensures.same)

pub returns-clause-grows : goal.returns-clause-grows
returns-clause-grows c =
    taken_other c.args.self.now.expected.now c.args.piece.now c.args.self.now.agreed c.same_length-same.result _
    c.args.self.now.other (search rules) (search rules) refl (rw take_rest at c.same_length-same.ensures.same)
