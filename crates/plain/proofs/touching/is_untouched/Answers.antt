use Rattle.std.proofs.Common.{◌≡◌, refl, subst, arith}
use Rattle.ra_guards.specs.Versions.{ApartSince}
use Rattle.ra_guards.proofs.TouchLemmas.{untouched_from_apart}
use Rattle.ra_journal.specs.Entries.{made_in}
use Rattle.plain.proofs.Clauses.{apart_there, apart_more}
use Rattle.plain.proofs.touching.is_untouched.Goals as goal

pub returns-then-not-is_apart : goal.returns-then-not-is_apart
returns-then-not-is_apart c = (
  λ yes. absurd (cc yes),
  λ untouched.
      absurd (cc (
        c.if-not-is_apart.true,
        c.is_apart.ensures.1
            (apart_there _ _ _ _ c.loop-p.p _ _ c.loop-p.auto.p c.loop-p-test.true c.entry.ensures untouched),
      )),
)

pub loop-p-preserved : goal.loop-p-preserved
loop-p-preserved c =
    apart_more _ _ _ _ _ _ c.entry.ensures (c.is_apart.ensures.0 c.if-not-is_apart.false) c.loop-p.invariant

pub returns : goal.returns
returns c =
    let i = c.args.inst.now.tables in
    let made = made_in c.args.entries.now in
    let steps = c.args.e.now.mv.steps in
    let all : c.loop-p.p ≡ c.args.j = omega (arith, c.loop-p-test.false, c.loop-p.auto.p-end, c.requires.place) in (
      λ yes. untouched_from_apart i made c.args.e.now.q c.args.j steps
          (subst (λ n. ApartSince i made c.args.e.now.q n steps) all c.loop-p.invariant),
      λ untouched. refl,
    )
