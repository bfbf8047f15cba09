-- The start's text means the start.
use Rattle.std.proofs.Common.{◌≡◌, ◌↔◌, ℕ, ◌<◌, List, [], ◌∷◌, ◌++◌, length, map, get_or, None, refl, sym, ap, ap₂, ◌∙◌}
use Rattle.std.proofs.Common.{arith}
use Rattle.std.proofs.lemmas.List.{append-nil, get_or-map, length-map}
use Rattle.std.proofs.lemmas.List.Elements.{All-map}
use Rattle.std.specs.Fmt.{decimal}
use Rattle.std.specs.List.{All}
use Rattle.ra_base.specs.declared.ids.Machine.{Machine}
use Rattle.ra_token.specs.declared.answers.Token.{Token}
use Rattle.ra_token.specs.Faults.{first_fault}
use Rattle.ra_token.specs.TokenList.{tokens}
use Rattle.ra_token.specs.Values.{value_of}
use Rattle.ra_model.specs.declared.raw.Tables.{Tables}
use Rattle.ra_model.specs.Numbers.{machine_count, process_count}
use Rattle.ra_assign.specs.Lists.{assignment_bytes, machine_of, IsAssignmentFile, IsAssignmentOf}
use Rattle.ra_assign.specs.Lists as assign
use Rattle.ra_model_text.specs.Lines.{more_text, line_text, lines_text}
use Rattle.ra_trial.specs.Lines.{listed}
use Rattle.ra_trial.specs.Numbers.{trial_start_of}
use Rattle.ra_trial.specs.Trials.{start_machine, start_text}
use Rattle.ra_trial.specs.Instances.{start_list, IsTrial}
use Rattle.ra_model_text.proofs.LineTexts.{IsSmall}
use Rattle.ra_trial.proofs.LineBounds.{IsShort, listed_all, one_short}
use Rattle.ra_model_text.proofs.LineTexts.{lines_one}
use Rattle.ra_model_text.proofs.LineTokens.{lines_told}
use Rattle.ra_trial.proofs.StartFeasible.{start_many}
use Rattle.ra_trial.proofs.TrialNumbers.{has_numbers}

number : Machine → ℕ
number m = m.0

-- an assignment's text is a line of its machines' numbers
more_is_line : (ms : List Machine) → assign.more_machines_text ms ≡ more_text (map number ms)
unfolding assign.more_machines_text more_text number
more_is_line [] = refl
more_is_line (m ∷ ms) = rw (more_is_line ms)

text_is_line : (ms : List Machine) → assignment_bytes ms ≡ line_text (map number ms)
unfolding assignment_bytes line_text number
text_is_line [] = refl
text_is_line (m ∷ ms) = rw (more_is_line ms)

start_is_lines : start_text ≡ lines_text (map number start_list ∷ [])
unfolding start_text start_list
start_is_lines = text_is_line (listed 1000 start_machine) ∙ sym (lines_one (map number (listed 1000 start_machine)))

machines_low : All (λ m. m.0 < 100) start_list
unfolding start_list start_machine trial_start_of
machines_low = listed_all (λ m. m.0 < 100) 1000 start_machine (λ p within. omega arith)

start_short : IsShort 1000 (map number start_list)
unfolding number
start_short = record {
  small = All-map IsSmall number start_list
      (λ k d within. let low = machines_low k d within in omega arith);
  short = omega (arith, length-map start_list number, start_many);
}

start_told : (first_fault start_text ≡ None) × (map value_of (tokens start_text) ≡ map number start_list)
start_told =
    let short = one_short start_short in
    let told = lines_told _ short.small (omega (arith, short.short)) in (
      ap first_fault start_is_lines ∙ told.0,
      ap (λ bytes. map value_of (tokens bytes)) start_is_lines ∙ told.1 ∙ append-nil _,
    )

-- the tokens' machines are the start
token_machines : (ts : List Token) (ms : List Machine) → map value_of ts ≡ map number ms → map machine_of ts ≡ ms
unfolding number
token_machines [] [] same = refl
token_machines [] (m ∷ ms) same = cc
token_machines (t ∷ ts) [] same = cc
token_machines (t ∷ ts) (m ∷ ms) same =
    let here : t.value ≡ m.0 = cc in
    let behind : map value_of ts ≡ map number ms = cc in
    ap₂ (λ (n : ℕ) (rest : List Machine). record { 0 = n } ∷ rest) here (token_machines ts ms behind)

tokens_many : length (tokens start_text) ≡ 1000
tokens_many =
    sym (length-map _ value_of) ∙ ap length start_told.1 ∙ length-map start_list number ∙ start_many

-- there is a token for each process, and each is the number of a machine
module _ (g : ℕ → ℕ) (i : Tables) (is : IsTrial g i) where
  token_low : (p : ℕ) (d : Token) → p < 1000 → (get_or (tokens start_text) p d).value < machine_count i
  unfolding number
  token_low p d within =
      let has = has_numbers g i is in
      let t = get_or (tokens start_text) p d in
      let value : t.value ≡ get_or (map number start_list) p 0 =
      sym (get_or-map value_of (tokens start_text) p d 0 (omega (arith, tokens_many)))
      ∙ ap (λ ns. get_or ns p 0) start_told.1 in
      let machine : get_or (map number start_list) p 0 ≡ (get_or start_list p (record { 0 = 0 })).0 =
      get_or-map number start_list p (record { 0 = 0 }) 0 (omega (arith, start_many)) in
      let low : (get_or start_list p (record { 0 = 0 })).0 < 100 =
      machines_low p (record { 0 = 0 }) (omega (arith, start_many)) in
      omega (arith, has.machines, value, machine, low)

  start_file : IsAssignmentFile start_text i
  start_file = record {
    sound = start_told.0;
    one_each = tokens_many ∙ sym (has_numbers g i is).processes;
    exist = λ p d within. token_low p d (omega (arith, tokens_many, within));
  }

  pub start_text_is_start : (a : List Machine) → IsAssignmentOf start_text i a ↔ (a ≡ start_list)
  start_text_is_start a = (
    λ told. told.machines ∙ token_machines _ start_list start_told.1,
    λ same. record {
      file = start_file;
      machines = same ∙ sym (token_machines _ start_list start_told.1);
    },
  )
