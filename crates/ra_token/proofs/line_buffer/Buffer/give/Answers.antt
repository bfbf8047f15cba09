use Rattle.std.proofs.Common.{◌≡◌, ◌+◌, ◌-◌, ◌≤◌, arith, ap, sym, ◌∙◌, length, take, drop, length-append, length-take, length-drop}
use Rattle.std.proofs.lemmas.Grind.{common_steps}
use Rattle.ra_token.specs.Buffers.{ready_of}
use Rattle.ra_token.proofs.ReadingLaws.{left_behind}
use Rattle.ra_token.proofs.line_buffer.Buffer.give.Goals as goal

pub returns : goal.returns
returns c =
    let w = c.args.self.now in
    let n = c.line_front-number.result.0 in
    let within : n ≤ w.filled - w.at =
    omega (
      arith,
      c.line_front-number.ensures.within,
      length-take (w.filled - w.at) (drop w.at c.deref.result.now),
    ) in
    let number : length c.extend_from_slice.new.self.items - length c.args.line.now.items ≡ n =
    omega (
      arith,
      ap length c.extend_from_slice.ensures.items,
      length-append c.args.line.now.items (take (w.at + n - w.at) (drop w.at c.deref-2.result.now)),
      length-take (w.at + n - w.at) (drop w.at c.deref-2.result.now),
      length-drop w.at c.deref-2.result.now,
      ap length c.deref-2.ensures.value,
      w.whole,
      w.within,
      w.behind,
    ) in
    record {
      given = grind (arith, common_steps);
      left = left_behind w.bytes.items w.at w.filled n within ∙ ap (λ k. drop k (ready_of w)) (sym number);
      ended = grind (arith, common_steps);
      unended = grind (arith, common_steps);
      most = grind (arith, common_steps);
      some = grind (arith, common_steps);
      grows = grind (arith, common_steps);
      within = grind (arith, common_steps);
      room = grind (arith, common_steps);
    }
