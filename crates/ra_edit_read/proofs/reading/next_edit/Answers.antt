use Rattle.std.proofs.Common.{arith}
use Rattle.ra_token.proofs.ToldLemmas.{at_exit, went_on, refuses_as, refuses_here, refuses_next}
use Rattle.ra_edit_read.proofs.EditLaws.{no_kind, has_edit}
use Rattle.ra_edit_read.proofs.FileLaws.{stop_file, stop_kind, stop_behind}
use Rattle.ra_edit_read.proofs.reading.next_edit.Goals as goal

pub returns-in_err-token-clause-refuses : goal.returns-in_err-token-clause-refuses
returns-in_err-token-clause-refuses g c =
    at_exit _ _ _ c.from_residual.ensures
    (refuses_as c.in_err-token.ensures.refuses (λ bytes x h. stop_file _ _ h (omega arith)))

pub returns-then-token-eq0-clause-refuses : goal.returns-then-token-eq0-clause-refuses
returns-then-token-eq0-clause-refuses g c = refuses_here (rw c.in-Some.is at c.in_ok-token.ensures.gives) (λ e. cc)
    (λ bytes x y h. stop_kind _ _ c.in-Some.token h c.requires.few
    (λ some few. no_kind _ c.then-token-eq0.either some few))

pub returns-in_err-edit-clause-refuses : goal.returns-in_err-edit-clause-refuses
returns-in_err-edit-clause-refuses g c =
    at_exit _ _ _ c.from_residual-in_err-edit.ensures
    (refuses_next (rw c.in-Some.is at c.in_ok-token.ensures.gives) c.in_err-edit.ensures.refuses
    (λ bytes x y h says. stop_behind _ _ c.in-Some.token _ h c.requires.few (omega arith) (omega arith)
    says))

pub returns-clause-gives : goal.returns-clause-gives
returns-clause-gives g c = went_on (rw c.in-Some.is at c.in_ok-token.ensures.gives) c.in_ok-edit.ensures.gives
    (λ bytes x y z h takes. has_edit c.in-Some.token h.answer h.one_more
    c.requires.few (omega arith) (omega arith) takes)
