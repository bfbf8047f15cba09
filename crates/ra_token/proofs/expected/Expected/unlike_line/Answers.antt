use Rattle.std.proofs.Common.{sym, ◌∙◌, subst, take}
use Rattle.std.proofs.lemmas.Bool.{false≢true}
use Rattle.ra_token.specs.Lines.{FirstUnlike, line_end_count}
use Rattle.ra_token.proofs.ExpectedLaws.{given_to, unlike_behind, unlike_sym}
use Rattle.ra_token.proofs.expected.Expected.unlike_line.Goals as goal

pub returns-then-is_same-clause-same : goal.returns-then-is_same-clause-same
returns-then-is_same-clause-same c = λ expected text given. (c.is_same.ensures expected text given).0 c.if-is_same.true

pub returns-clause-unlike : goal.returns-clause-unlike
returns-clause-unlike c = λ expected text given.
    let s = c.args.self.now in
    let to = given_to s.expected.now expected s.agreed s.faults s.other text given in
    subst (FirstUnlike expected text) (sym c.count_ends.ensures)
    (subst (λ e. FirstUnlike e text (line_end_count (take s.agreed s.expected.now))) to.same
    (unlike_sym text s.expected.now (line_end_count (take s.agreed s.expected.now))
    (unlike_behind s.expected.now text s.agreed s.faults s.other s.within s.differs s.sound to.was_put
    (λ same. false≢true (sym c.if-is_same.false ∙ (c.is_same.ensures expected text given).1 (same ∙ to.same))))))
