use Rattle.std.proofs.Common.{◌≡◌, sym, subst, refl, Err, Result}
use Rattle.std.specs.Result.{IsErrAnd}
use Rattle.ra_words.specs.declared.jobs.Job.{Job}
use Rattle.ra_words.specs.declared.jobs.WordsFault.{WordsFault}
use Rattle.ra_words.specs.declared.jobs.WordsFault.TheVariants.{NoMemory, Usage}
use Rattle.ra_words.specs.Words.{texts}
use Rattle.ra_words.proofs.FormLaws.{no_form, is_job}
use Rattle.ra_words.proofs.jobs.read_words.Goals as goal

other_fault : (r : Result Job WordsFault) → IsErrAnd r (λ e. e ≡ NoMemory) → r ≡ Err Usage → ⊥
other_fault r memory usage =
    let h : Usage ≡ NoMemory = subst (λ (r : Result Job WordsFault). IsErrAnd r (λ e. e ≡ NoMemory)) usage memory in cc

pub returns-in_err-read_job-clause-usage : goal.returns-in_err-read_job-clause-usage
returns-in_err-read_job-clause-usage c = (
  λ usage. absurd (other_fault c.from_residual.result c.from_residual.ensures.1 usage),
  λ none. absurd (is_job (texts c.args.words.now) c.in-Some.form (sym c.in-Some.ensures) none),
)

pub returns-clause-usage : goal.returns-clause-usage
returns-clause-usage c = (λ usage. no_form (texts c.args.words.now) (sym c.in_default.ensures), λ none. refl)
