use Rattle.std.proofs.Common.{◌≡◌, ◌+◌, [], ◌∷◌, length, refl, ap, sym, ◌∙◌, arith, length-append, zero-mul}
use Rattle.ra_model.specs.Numbers.{resource_count}
use Rattle.ra_token.proofs.ToldLemmas.{at_exit, went_nowhere, went_on, refuses_next}
use Rattle.ra_edit_read.proofs.FileLaws.{has_none, has_more, has_all, has_ended, last_stop, next_row, fit_none}
use Rattle.ra_edit_read.proofs.FileLaws.{fit_more}
use Rattle.ra_edit_read.proofs.reading.read_all.Goals as goal

pub loop-k-init : goal.loop-k-init
loop-k-init g c = record {
  went = went_nowhere _ c.requires.stands
      (λ bytes. has_none (c.requires.start bytes) c.requires.empty.no_edits
      c.requires.empty.no_requirements);
  size = ap length c.requires.empty.no_edits;
  rows = ap length c.requires.empty.no_requirements ∙ sym (zero-mul _);
  edits_room = refl;
  room = refl;
  fits = fit_none _ c.requires.empty.no_edits;
}

pub returns-in_err-edit-clause-refuses : goal.returns-in_err-edit-clause-refuses
returns-in_err-edit-clause-refuses g c =
    at_exit _ _ _ c.from_residual.ensures
    (refuses_next c.loop-k.invariant.went c.in_err-edit.ensures.refuses
    (λ bytes x y has stop. stop has.given has.sound))

pub returns-in_default-clause-gives : goal.returns-in_default-clause-gives
returns-in_default-clause-gives g c = went_on c.loop-k.invariant.went (rw c.in_default.is at c.in_ok-edit.ensures.gives)
    (λ bytes x y z has end. has_ended (omega arith) has end)

pub loop-k-preserved : goal.loop-k-preserved
loop-k-preserved g c =
    let number : length c.next_edit.new.requirements.items ≡ length c.loop-k.requirements.items
    + resource_count c.args.inst.now.tables = rw c.in-Some.is at c.in_ok-edit.ensures.row.number in
    record {
      went = went_on c.loop-k.invariant.went (rw c.in-Some.is at c.in_ok-edit.ensures.gives)
          (λ bytes x y z has one. has_more has one c.push.ensures.items);
      size = cc (
        c.push.ensures.items,
        length-append c.loop-k.edits.items
            (c.in-Some.edit ∷ []),
        c.loop-k.invariant.size,
      );
      rows = cc (c.loop-k.invariant.rows, next_row c.loop-k.k (resource_count c.args.inst.now.tables));
      edits_room = c.push.ensures.room ∙ c.loop-k.invariant.edits_room;
      room = c.in_ok-edit.ensures.row.room ∙ c.loop-k.invariant.room;
      fits = fit_more _ _ _ c.in-Some.edit c.loop-k.invariant.fits (rw c.in-Some.is at c.in_ok-edit.ensures.row.fits)
          c.push.ensures.items;
    }

pub returns-in_err-read_end-clause-refuses : goal.returns-in_err-read_end-clause-refuses
returns-in_err-read_end-clause-refuses g c = at_exit _ _ _ c.from_residual-in_err-read_end.ensures
    (refuses_next c.loop-k.invariant.went c.in_err-read_end.ensures.refuses
    (λ bytes x y has stop. last_stop _ (omega arith) has stop))

pub returns-clause-gives : goal.returns-clause-gives
returns-clause-gives g c = went_on c.loop-k.invariant.went c.in_ok-read_end.ensures.gives
    (λ bytes x y z has end. has_all (omega arith) has end.answer)
