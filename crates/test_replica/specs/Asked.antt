-- The move that a proposal asks for on both sides.
use Rattle.std.specs.Prelude.{ℕ, ◌%◌, List, slice_index}
use Rattle.ra_base.specs.declared.ids.Machine.{Machine}
use Rattle.ra_base.specs.declared.causes.Drawing.TheVariants.{Two}
use Rattle.ra_model.specs.declared.raw.Tables.{Tables}
use Rattle.ra_model.specs.Numbers.{machine_count}
use Rattle.ra_moves.specs.declared.steps.Step.{Step}
use Rattle.ra_moves.specs.Options.{option_count, option_at}

-- the steps of the option that the last of the words x picks among those that they name
unfoldable pub asked : Tables → List Machine → List ℕ → List Step
asked i a x =
    (option_at a x (machine_count i) Two
    (slice_index x 7 % option_count x (machine_count i) Two)).steps
