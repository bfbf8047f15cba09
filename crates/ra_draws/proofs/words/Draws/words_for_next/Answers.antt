use Rattle.std.proofs.Common.{◌≡◌, ◌<◌, arith, ap}
use Rattle.ra_draws.specs.Drawn.{Drawn}
use Rattle.ra_draws.proofs.Reading.{Handed, handed_generator, handed_list, list_reaches}
use Rattle.ra_draws.proofs.words.Draws.words_for_next.Goals as goal
use Rattle.ra_draws.proofs.words.Draws.words_for_next.Goals.{in-Generator, in-List}

pub words_at-words-requires : goal.words_at-words-requires
words_at-words-requires c =
    let inside : c.self.inside.made < c.self.inside.lot.now.budget =
    rw (ap (λ (d : Drawn). d.made) c.self.view_is, ap (λ (d : Drawn). d.lot) c.self.view_is) c.requires in
    list_reaches _ _ _ _ c.self.invariant.1 c.in-List.is inside

handed : (c : goal.After-self-2-1) → (c.match-self.self-inside.made ≡ c.self.inside.made)
    × (c.match-self.self-inside.lot ≡ c.self.inside.lot)
    × Handed c.match-self.self-inside.reader c.self.inside.lot.now c.self.inside.made c.match-self.words
handed c = elim c.match-self.branch [
  | in-Generator w ↦ (
    ap (λ i. i.made) w.self-inside-is,
    ap (λ i. i.lot) w.self-inside-is,
    rw (w.self-inside-is, w.words-is)
        (handed_generator _ _ _ _ _ (rw w.in-Generator.is at c.self.invariant.1) w.words_of-words.ensures.words
        w.words_of-words.ensures.left),
  )
  | in-List w ↦ (
    ap (λ i. i.made) w.self-inside-is,
    ap (λ i. i.lot) w.self-inside-is,
    rw (w.self-inside-is, w.words-is)
        (handed_list _ _ _ _ (rw w.in-List.is at c.self.invariant.1) w.words_at-words.ensures),
  )
]

pub invariant_of-self : goal.invariant_of-self
invariant_of-self c =
    let step = handed c in
    let inside : c.self.inside.made < c.self.inside.lot.now.budget =
    rw (ap (λ (d : Drawn). d.made) c.self.view_is, ap (λ (d : Drawn). d.lot) c.self.view_is) c.requires in
    rw (step.0, step.1) (omega arith, step.2.reads)

pub returns-clause-words : goal.returns-clause-words
returns-clause-words c = rw (← c.self.view_is) (handed c).2.words_are
