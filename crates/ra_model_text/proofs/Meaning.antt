-- The text of an instance means the instance with no machine closed.
use Rattle.std.proofs.Common.{◌≡◌, ◌↔◌, None, Ok, Result, refl, sym, ap, ◌∙◌, arith}
use Rattle.std.specs.Result.{result_err}
use Rattle.ra_model.specs.declared.raw.Tables.{Tables}
use Rattle.ra_model.specs.Limits.{WellFormed, Small}
use Rattle.ra_model.specs.Numbers.{all_open, resource_row, machine_row, service_row, process_row, balance_row}
use Rattle.ra_model.specs.Numbers.{resource_count, machine_count, service_count, process_count, balance_count}
use Rattle.ra_model.specs.Numbers.{transient_at, load_weight_of, neighbourhood_of, location_of, capacity_of, safety_of}
use Rattle.ra_model.specs.Numbers.{way_cost_of, spread_of, dependency_start, dependency_end, dependency_count, need_at}
use Rattle.ra_model.specs.Numbers.{need_of, service_of, requirement_of, process_cost_of, first_of, second_of, target_of}
use Rattle.ra_model.specs.Numbers.{balance_weight_of, process_weight_of, service_weight_of, machine_weight_of}
use Rattle.ra_model.proofs.InstanceLemmas.{well_formed_with}
use Rattle.ra_model_read.specs.declared.faults.ModelFault.{ModelFault}
use Rattle.ra_model_read.specs.FieldOrder.{resource_numbers, machine_numbers, service_numbers, process_numbers}
use Rattle.ra_model_read.specs.FieldOrder.{balance_numbers, all_numbers_of}
use Rattle.ra_model_read.specs.Lists.{Lists, lists_of}
use Rattle.ra_model_read.specs.ModelText.{model_of, IsModel, model_refusal}
use Rattle.ra_model_read.proofs.TextAccepted.{text_accepted}
use Rattle.ra_model_text.specs.ModelTexts.{IsOpenToAll}
use Rattle.ra_model_text.specs.ModelTexts.{model_text}
use Rattle.ra_model_text.proofs.Counts.{numbers_few}
use Rattle.ra_model_text.proofs.SmallNumbers.{model_told}
use Rattle.ra_model_text.proofs.Telling.{tells_whole}

-- flags of closed machines don't matter for the limits and the numbers

fits_open : (i : Tables) → WellFormed i → WellFormed (all_open i.raw)
unfolding process_count service_of process_row
fits_open i h = well_formed_with i (all_open i.raw) h h.some_process h.few_processes h.requirements h.services

numbers_open : (i : Tables) → all_numbers_of i ≡ all_numbers_of (all_open i.raw)
unfolding all_numbers_of resource_numbers machine_numbers service_numbers process_numbers balance_numbers resource_count
    machine_count service_count process_count balance_count resource_row machine_row service_row process_row balance_row
    transient_at load_weight_of neighbourhood_of location_of capacity_of safety_of way_cost_of spread_of
    dependency_start dependency_end dependency_count need_at need_of service_of requirement_of process_cost_of first_of
    second_of target_of balance_weight_of process_weight_of service_weight_of machine_weight_of
numbers_open i = refl

text_means : (i : Tables) → WellFormed i → Small i → model_of (model_text i) ≡ Ok (lists_of i.raw)
text_means i fits small =
    let told = tells_whole (model_text i) (all_numbers_of i) (model_told i fits small)
    (omega (arith, numbers_few i fits)) in
    text_accepted i.raw (model_text i) (fits_open i fits) (record { sound = told.0; numbers = told.1 ∙ numbers_open i })

same_lists : (answer : Result Lists ModelFault) (a b : Lists) → answer ≡ Ok a → answer ≡ Ok b → a ≡ b
same_lists answer a b one other = cc

pub text_is_model : (i opened : Tables) → WellFormed i → Small i → IsModel (model_text i) opened ↔ IsOpenToAll i opened
text_is_model i opened fits small = (
  λ model. record {
    lists = same_lists (model_of (model_text i)) (lists_of opened.raw) (lists_of i.raw) model.lists
        (text_means i fits small);
    open_to_all = model.open_to_all;
  },
  λ same. record {
    lists = text_means i fits small ∙ ap (λ (l : Lists). Ok l) (sym same.lists);
    open_to_all = same.open_to_all;
  },
)

pub text_accepted_whole : (i : Tables) → WellFormed i → Small i → model_refusal (model_text i) ≡ None
unfolding model_refusal
text_accepted_whole i fits small = ap result_err (text_means i fits small)
