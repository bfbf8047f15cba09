use Rattle.std.proofs.Common.{◌-◌, rules, refl, arith, ◌∙◌, length}
use Rattle.ra_token.proofs.ReadingLaws.{told_none, told_ready, told_gave, told_line, told_more, told_long, told_ended_at, not_long}
use Rattle.ra_token.proofs.line_buffer.Buffer.next_line.Goals as goal

pub loop-given-init : goal.loop-given-init
loop-given-init g c = (
  omega arith,
  refl,
  omega arith,
  told_none _ _ _ _ c.requires.ready,
  record { kept = λ other. refl; never_fell = λ other. omega arith },
)

pub returns-then-not-branch : goal.returns-then-not-branch
returns-then-not-branch g c =
    let l = c.loop-given in
    record {
      gave = search rules;
      next = told_ended_at _ _ _ l.given _ _ _ _ _ _
          (l.invariant.4.kept c.args.name.now) (omega (arith, l.invariant.0)) (search rules) l.invariant.0
          c.at_end.ensures.none c.at_end.ensures.some l.invariant.3 (c.has_ready.ensures.ended (search rules));
      grows = search rules;
      most = search rules;
      long = λ long.
          absurd (not_long c.loop-given.given _ c.at_end.ensures.none c.at_end.ensures.some (let e = long in (cc)));
      room = search rules;
      fault = search rules;
      kept = search rules;
      never_fall = search rules;
    }

pub returns-then-ended : goal.returns-then-ended
returns-then-ended g c =
    let l = c.loop-given in
    let told = g.F.Files.held c.args.files.now c.args.name.now in
    record {
      gave = told_gave told _ _ _ _ _ _ _ _ _
          (omega (arith, l.invariant.0, c.give-ended.ensures.grows)) (omega (arith, c.give-ended.ensures.within))
          c.give-ended.ensures.given c.give-ended.ensures.left
          (told_ready _ _ _ _ _ _ _ _ _
          (l.invariant.4.kept c.args.name.now) refl l.invariant.3 c.has_ready.ensures.fetched);
      next = told_line told _ _ (length c.give-ended.new.line.items - length c.args.line.now.items) _ _ _ _ _ _
          (omega (arith, l.invariant.0, c.give-ended.ensures.grows)) (omega (arith, c.give-ended.ensures.within)) refl
          (omega (arith, l.invariant.0, l.invariant.2, c.give-ended.ensures.most))
          (c.give-ended.ensures.ended c.if-ended.true)
          (told_ready _ _ _ _ _ _ _ _ _
          (l.invariant.4.kept c.args.name.now) refl l.invariant.3 c.has_ready.ensures.fetched);
      grows = search rules;
      most = search rules;
      long = search rules;
      room = search rules;
      fault = search rules;
      kept = search rules;
      never_fall = search rules;
    }

pub loop-given-preserved : goal.loop-given-preserved
loop-given-preserved g c =
    let l = c.loop-given in (
      omega (arith, l.invariant.0, c.give-ended.ensures.grows, c.len.ensures.value, c.len-before.ensures.value),
      c.give-ended.ensures.room ∙ l.invariant.1,
      omega (
        arith,
        l.invariant.0,
        l.invariant.2,
        c.give-ended.ensures.most,
        c.len.ensures.value,
        c.len-before.ensures.value,
      ),
      told_more (g.F.Files.held c.args.files.now c.args.name.now) _ _ _ _ _ _ _ _ _
          (omega (arith, l.invariant.0, c.give-ended.ensures.grows, c.len.ensures.value, c.len-before.ensures.value))
          (omega (arith, c.give-ended.ensures.within)) c.give-ended.ensures.given c.give-ended.ensures.left
          (c.give-ended.ensures.unended c.if-ended.false)
          (told_ready _ _ _ _ _ _ _ _ _
          (l.invariant.4.kept c.args.name.now) refl l.invariant.3 c.has_ready.ensures.fetched),
      record {
        kept = λ other. c.has_ready.ensures.kept other ∙ l.invariant.4.kept other;
        never_fell = λ other. omega (arith, c.has_ready.ensures.never_fall other, l.invariant.4.never_fell other);
      },
    )

pub returns : goal.returns
returns g c =
    let l = c.loop-given in
    record {
      gave = search rules;
      next = told_long _ _ l.given _ _ _ _ (search rules) l.invariant.0 l.invariant.3;
      grows = search rules;
      most = search rules;
      long = search rules;
      room = search rules;
      fault = search rules;
      kept = search rules;
      never_fall = search rules;
    }
