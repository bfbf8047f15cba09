-- The files of each command.
use Rattle.std.proofs.Common.{List, ℕ, Option, refl}
use Rattle.ra_jobs.specs.declared.refusals.File.TheVariants as file
use Rattle.ra_jobs.specs.Files.{EndsAt, bound_names, edit_names}

pub bound_ends : (model : List ℕ) (initial closed : Option (List ℕ)) →
    EndsAt (bound_names model initial closed) file.Initial
bound_ends model initial closed file.Model named = refl
bound_ends model initial closed file.Closed named = refl
bound_ends model initial closed file.Initial named = refl
bound_ends model initial closed f named = cc named

pub edit_ends : (model initial current edits : List ℕ) (closed : Option (List ℕ)) →
    EndsAt (edit_names model initial current edits closed) file.Edits
edit_ends model initial current edits closed file.Report named = cc named
edit_ends model initial current edits closed f named = refl
