use Rattle.ra_token.proofs.ToldLemmas.{at_exit, went_as}
use Rattle.ra_edit_read.proofs.reading.read_lists.Goals as goal

pub returns-in_err-read_all-clause-refuses : goal.returns-in_err-read_all-clause-refuses
returns-in_err-read_all-clause-refuses g c = at_exit _ _ _ c.from_residual.ensures c.in_err-read_all.ensures.refuses

pub returns-clause-gives : goal.returns-clause-gives
returns-clause-gives g c =
    went_as c.in_ok-read_all.ensures.gives (λ bytes x y whole. rw c.resources-width.ensures whole.lists)

pub returns-clause-fits : goal.returns-clause-fits
returns-clause-fits g c = record {
  width = c.resources-width.ensures;
  rows = c.in_ok-read_all.ensures.are.rows;
  each = c.in_ok-read_all.ensures.are.fits;
}
