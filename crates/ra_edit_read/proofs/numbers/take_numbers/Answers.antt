use Rattle.std.proofs.Common.{◌≡◌, ◌+◌, ◌-◌, length, ap, sym, ◌∙◌, ◌<◌, Err, Ok, Some, None, arith}
use Rattle.ra_token.specs.TokenList.{tokens_before, IsAnswer}
use Rattle.ra_edit_read.specs.declared.faults.EditsFault.TheVariants.{Missing}
use Rattle.ra_edit_read.specs.EditTexts.{any_from}
use Rattle.ra_token.proofs.ToldLemmas.{told_then, told_both}
use Rattle.ra_edit_read.proofs.NumberLaws.{fault_read, takes_values, values_missing, values_stopped}
use Rattle.ra_edit_read.proofs.numbers.take_numbers.Goals as goal

pub returns-then-taken-count-clause-refuses : goal.returns-then-taken-count-clause-refuses
returns-then-taken-count-clause-refuses g c = record {
  goes = record {
    name = c.next_values.ensures.name;
    stands = c.next_values.ensures.reads;
    kept = c.next_values.ensures.kept;
    never_fall = c.next_values.ensures.never_fall;
  };
  rose = λ e. cc;
  told = told_both {Q = λ bytes. c.in-Ok.taken < c.args.count →
      IsAnswer bytes (tokens_before bytes c.next_values.new.self.place) (Ok None)}
      {R = λ bytes. any_from bytes c.args.k (tokens_before bytes c.args.tokens.now.place) c.args.count ≡
      Some (Missing c.args.k)} _ c.next_values.ensures.adds c.in-Ok.ensures.ended
      (λ bytes a end.
      values_missing _
      c.args.count a (omega (arith, c.in-Ok.ensures.number, c.if-taken-count.true))
      (end c.if-taken-count.true));
}

pub returns-else-taken-count-clause-gives : goal.returns-else-taken-count-clause-gives
returns-else-taken-count-clause-gives g c =
    let all : length c.next_values.new.values.items ≡ length c.args.values.now.items + c.args.count =
    omega (arith, c.in-Ok.ensures.number, c.next_values.ensures.most, c.if-taken-count.false) in
    let same : length c.next_values.new.values.items - length c.args.values.now.items ≡ c.args.count =
    omega (arith, all) in
    record {
      goes = record {
        name = c.next_values.ensures.name;
        stands = c.next_values.ensures.reads;
        kept = c.next_values.ensures.kept;
        never_fall = c.next_values.ensures.never_fall;
      };
      told = told_then _ c.next_values.ensures.adds
          (λ bytes a. takes_values
          (rw same at a) all c.requires.some);
    }

pub returns-in-Err-clause-refuses : goal.returns-in-Err-clause-refuses
returns-in-Err-clause-refuses g c = record {
  goes = record {
    name = c.next_values.ensures.name;
    stands = c.next_values.ensures.reads;
    kept = c.next_values.ensures.kept;
    never_fall = c.next_values.ensures.never_fall;
  };
  rose = λ e. c.in-Err.ensures.fault (ap Err (fault_read c.in-Err.fault (sym c.fault_of.ensures ∙ e)));
  told = told_both _ c.next_values.ensures.adds c.in-Err.ensures.refused
      (λ bytes a answer.
      values_stopped {n =
      length c.next_values.new.values.items - length c.args.values.now.items} _ c.args.count c.in-Err.fault a
      (omega (arith, c.in-Err.ensures.short, c.requires.some)) answer
      c.fault_of.ensures);
}
