-- If an initial list is named, what is said of it is said of both.
use Rattle.std.proofs.Common.{refl}
use Rattle.ra_jobs.proofs.ResultLemmas.{if_err_then}
use Rattle.ra_jobs.proofs.bound.bound_over.Goals as goal

pub bound_with-requires : goal.bound_with-requires
bound_with-requires g c = record { initial = rw c.in-Some.is refl }

pub returns-in-Some-clause-refused : goal.returns-in-Some-clause-refused
returns-in-Some-clause-refused g c =
    if_err_then c.bound_with.result _ _ (λ refusal reason. (rw c.in-Some.is refl, reason)) c.bound_with.ensures.refused
