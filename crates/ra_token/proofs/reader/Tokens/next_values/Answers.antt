use Rattle.std.proofs.Common.{refl, ap, ◌∙◌, sym, subst, arith, length}
use Rattle.std.proofs.lemmas.List.{length_push}
use Rattle.ra_token.specs.Reads.{Reads}
use Rattle.ra_token.proofs.ValueLaws.{told_none, told_more}
use Rattle.ra_token.proofs.reader.Tokens.next_values.Goals as goal

pub loop-taken-init : goal.loop-taken-init
loop-taken-init g c = (
  c.requires.reads,
  refl,
  omega arith,
  omega arith,
  refl,
  told_none (g.F.Files.held c.args.files.now c.args.self.now.name) c.args.self.now c.args.values.now.items
      c.requires.reads,
  record { kept = λ other. refl; never_fell = λ other. omega arith },
)

pub loop-taken-preserved : goal.loop-taken-preserved
loop-taken-preserved g c =
    let kept = c.loop-taken.invariant.6 in
    let pushed = ap length c.push.ensures.items ∙ length_push c.loop-taken.values.items c.in-Some.token.value in (
      subst (λ n. Reads (g.F.Files.held c.next.new.files n) c.take_ready.new.self) (sym c.take_ready.ensures.name)
          (c.take_ready.ensures.reads (g.F.Files.held c.next.new.files c.next.new.self.name) c.next.ensures.reads),
      c.take_ready.ensures.name ∙ (c.next.ensures.name ∙ c.loop-taken.invariant.1),
      omega (arith, c.take_ready.ensures.grows, pushed),
      omega (arith, c.take_ready.ensures.most, pushed),
      c.take_ready.ensures.room ∙ c.push.ensures.room ∙ c.loop-taken.invariant.4,
      told_more (g.F.Files.held c.args.files.now c.args.self.now.name)
          (g.F.Files.held c.loop-taken.files c.loop-taken.self.name)
          (g.F.Files.held c.next.new.files c.next.new.self.name)
          c.args.self.now c.loop-taken.self c.next.new.self c.take_ready.new.self c.in-Some.token c.loop-taken.taken _ _
          _ _ _ _
          (ap (g.F.Files.held c.loop-taken.files) c.loop-taken.invariant.1 ∙ kept.kept c.args.self.now.name)
          (ap (g.F.Files.held c.next.new.files) c.next.ensures.name ∙ c.next.ensures.kept c.loop-taken.self.name)
          (omega (arith, c.take_ready.ensures.grows, pushed)) c.push.ensures.items c.next.ensures.reads
          c.loop-taken.invariant.5
          (rw c.in-Some.is at c.in_ok-token.ensures.answer) (rw c.in-Some.is at c.in_ok-token.ensures.one_more)
          (c.take_ready.ensures.adds (g.F.Files.held c.next.new.files c.next.new.self.name) c.next.ensures.reads),
      record {
        kept = λ other. c.next.ensures.kept other ∙ kept.kept other;
        never_fell = λ other. omega (arith, c.next.ensures.never_fall other, kept.never_fell other);
      },
    )
