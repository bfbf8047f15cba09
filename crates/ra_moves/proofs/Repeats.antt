-- No process is named twice exactly if the move isn't refused as Repeat.
use Rattle.std.proofs.Common.{◌≡◌, Bool, true, false, List, None, refl}
use Rattle.std.proofs.lemmas.Bool.{both_ways}
use Rattle.ra_base.specs.Sums.{is_named}
use Rattle.ra_base.specs.declared.causes.Cause.{Cause}
use Rattle.ra_base.proofs.Searches.{first_none_at}
use Rattle.ra_base.proofs.Named.{is_named_at}
use Rattle.ra_model.specs.Broken.{cause_if}
use Rattle.ra_moves.specs.declared.steps.Step.{Step}
use Rattle.ra_moves.specs.Steps.{process_in, Distinct}
use Rattle.ra_moves.specs.Judging.{repeat_test, repeat_of}

no_cause : (failed : Bool) (cause : Cause) → cause_if failed cause ≡ None → failed ≡ false
unfolding cause_if
no_cause true cause none = absurd (cc)
no_cause false cause none = refl

pub distinct_from_none : (steps : List Step) → repeat_of steps ≡ None → Distinct steps
unfolding repeat_of repeat_test
distinct_from_none steps none = record {
  apart = λ i j before within same.
      let unnamed : is_named j (process_in steps) (process_in steps j) ≡ false =
      no_cause _ _ (first_none_at j _ _ within none) in
      both_ways _ unnamed (is_named_at j i _ _ before same);
}
