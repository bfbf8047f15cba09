use Rattle.std.proofs.Common.{rules, sym, ◌∙◌, eqb-true, eq-eqb, length}
use Rattle.std.proofs.lemmas.Bool.{false≢true}
use Rattle.std.proofs.lemmas.Option.{none-some}
use Rattle.ra_token.proofs.ExpectedLaws.{given_to, same_agrees, agrees_same}
use Rattle.ra_token.proofs.expected.Expected.is_same.Goals as goal

pub returns-in-None : goal.returns-in-None
returns-in-None c = λ expected text given.
    let s = c.args.self.now in
    let to = given_to s.expected.now expected s.agreed s.faults s.other text given in (
      λ yes. agrees_same s.expected.now text s.agreed s.faults s.other s.sound to.was_put (search rules)
          (eqb-true s.agreed (length s.expected.now) yes) ∙ to.same,
      λ same. eq-eqb s.agreed (length s.expected.now)
          (same_agrees s.expected.now text s.agreed s.faults s.other s.within s.differs s.sound to.was_put
          (same ∙ sym to.same)).1,
    )

pub returns-in-Some : goal.returns-in-Some
returns-in-Some c = λ expected text given.
    let s = c.args.self.now in
    let to = given_to s.expected.now expected s.agreed s.faults s.other text given in (
      λ yes. absurd (false≢true yes),
      λ same. absurd
          (none-some _
          (sym (same_agrees s.expected.now text s.agreed s.faults s.other s.within s.differs s.sound to.was_put
          (same ∙ sym to.same)).0 ∙ c.in-Some.is)),
    )
