use Rattle.std.proofs.Common.{◌≡◌, ◌⊎◌, ℕ, ◌+◌, ◌==◌, ◌≤◌, Bool, true, false, List, [], ◌∷◌, ◌++◌, length, Contains, MatchBool, inl, inr, refl, ap, sym, subst, ◌∙◌, arith, length-append}
use Rattle.std.proofs.lemmas.Bool.Decides.{nat_tests}
use mathlib.Core.List.{IsPrefix}
use Rattle.ra_turn.specs.declared.sight.Grip.{Grip}
use Rattle.test_workers.specs.declared.turns.pad.Line.{Line}
use Rattle.ra_turn.specs.Notes.{grip}
use Rattle.test_workers.proofs.turns.pad.write_and_release.Goals as goal

-- the one guard that the line touches is held
only_one : (line : Line) (guard v : ℕ) (held : List Grip) → line.touched ≡ guard + 1 → held ≡ grip guard v ∷ [] →
    (g : ℕ) → (line.touched == g + 1) ≡ true → (w : ℕ) × Contains held (grip g w)
only_one line guard v held touched one g t =
    let same : guard ≡ g = grind (arith, nat_tests) in
    let here : Contains (grip guard v ∷ []) (grip guard v) = (0, omega arith, refl) in (
      v,
      subst (λ (x : ℕ). Contains held (grip x v)) same
          (subst (λ (ks : List Grip). Contains ks (grip guard v)) (sym one) here),
    )

follows : (b : Bool) (seen old new : List Line) (line : Line) (number guard v : ℕ) (held : List Grip) →
    MatchBool b (new ≡ old ++ line ∷ []) (new ≡ old) → seen ≡ old
    → line.by ≡ number → line.touched ≡ guard + 1 → held ≡ grip guard v ∷ []
    → (new ≡ seen)
    ⊎ ((n : Line) × (new ≡ seen ++ n ∷ []) × (n.by ≡ number)
    × ((g : ℕ) → (n.touched == g + 1) ≡ true → (w : ℕ) × Contains held (grip g w)))
follows true seen old new line number guard v held e s by touched one =
    inr (line, e ∙ ap (λ (xs : List Line). xs ++ line ∷ []) (sym s), by, only_one line guard v held touched one)
follows false seen old new line number guard v held e s by touched one = inl (e ∙ sym s)

grown : (b : Bool) (old new : List Line) (line : Line) → MatchBool b (new ≡ old ++ line ∷ []) (new ≡ old) →
    length old ≤ length new
grown true old new line e = omega (arith, ap length e ∙ length-append old (line ∷ []))
grown false old new line e = omega (arith, ap length e)

begins : (xs ys : List Line) → IsPrefix xs ys → length xs ≤ length ys
begins xs ys p = omega (arith, sym (ap length p.1) ∙ length-append xs p.0)

pub give-requires-clause-notes : goal.give-requires-clause-notes
give-requires-clause-notes g c = let took = c.take-held.ensures in let old = c.requires.held in
    follows c.write.result c.take-held.new.pass.seat.me.0.own.seen c.take-held.result.value.lines.items
    c.write.new.pad.lines.items c.args.line c.take-held.new.pass.number c.args.guard old.0
    c.take-held.new.pass.seat.me.0.grips
    c.write.ensures took.seen.0 (c.requires.line.0 ∙ sym took.pass.1.2) c.requires.line.1 (took.guards.0.0 ∙ old.1)

pub release-requires-clause-grip : goal.release-requires-clause-grip
release-requires-clause-grip g c = let took = c.take-held.ensures in let old = c.requires.held in
    let held : c.give.new.pass.seat.me.0.grips ≡ grip c.args.guard old.0 ∷ [] = c.give.ensures.guards.0.0
    ∙ (took.guards.0.0 ∙ old.1) in
    let here : Contains (grip c.args.guard old.0 ∷ []) (grip c.args.guard old.0) = (0, omega arith, refl) in
    let first = old.2 in
    let second = begins c.args.pass.now.seat.me.0.own.seen c.take-held.new.pass.seat.me.0.own.seen took.seen.1 in
    let third = ap length took.seen.0 in
    let fourth = grown c.write.result c.take-held.result.value.lines.items c.write.new.pad.lines.items c.args.line
    c.write.ensures in
    let fifth = ap length c.give.ensures.seen in
    (old.0, subst (λ (ks : List Grip). Contains ks (grip c.args.guard old.0)) (sym held) here, omega arith)
