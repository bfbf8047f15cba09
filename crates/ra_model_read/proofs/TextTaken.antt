-- The tokens that were taken for an instance are its numbers, in field order: the lists that a model's format reads can
-- come from one text only, and the numbers of the instance are accepted as the same lists.
use Rattle.std.proofs.Common.{◌≡◌, ℕ, refl, ap, ◌∙◌, sym, List, [], ◌∷◌, ◌++◌, length, map, None, Ok}
use Rattle.std.proofs.lemmas.List.{append-nil}
use Rattle.ra_model.specs.declared.raw.RawInstance.{RawInstance}
use Rattle.ra_model.specs.Limits.{WellFormed}
use Rattle.ra_model.specs.Numbers.{all_open}
use Rattle.ra_token.specs.declared.answers.Token.{Token}
use Rattle.ra_token.specs.Values.{value_of}
use Rattle.ra_model_read.specs.Formats.{Left, Outcome, Read, Refused}
use Rattle.ra_model_read.specs.Lists.{Rest, Lists, lists_of}
use Rattle.ra_model_read.specs.ModelText.{resources, machines, services, processes, balances, weights, rest, model}
use Rattle.ra_model_read.specs.ModelText.{all_of, answer_of, model_of}
use Rattle.ra_model_read.specs.FieldOrder.{all_numbers_of, IsTextOf}
use Rattle.ra_model_read.proofs.Inversion.{Yields, yields_pure, yields_bind, one_then, yields_any, yields_ends}
use Rattle.ra_model_read.proofs.Inversion.{Counting, yields_counting, counting_same, Ends, ends_end, ends_bind, ends_then}
use Rattle.ra_model_read.proofs.ModelSteps.{ResourceStep, resource_step, resource_law, MachineStep, machine_step}
use Rattle.ra_model_read.proofs.ModelSteps.{machine_law, ServiceStep, service_step, service_law, ProcessStep, process_step}
use Rattle.ra_model_read.proofs.ModelSteps.{process_law, BalanceStep, balance_step, balance_law}
use Rattle.ra_model_read.proofs.TextAccepted.{all_accepted}

-- what follows S services, for R resources, and the numbers of its parts
pub record RestRead (S R : ℕ) (z : Rest) (u : List ℕ) : Type 0 where
  pub p : List ℕ
  pub b : List ℕ
  pub processes : Counting 1 50000 (λ c k. ProcessStep S R) (record { rows = []; requirements = [] }) z.processes p
  pub balances : Counting 0 10 (λ c k. BalanceStep R) [] z.balances b
  pub text : u ≡ p ++ (b ++ z.weights.process ∷ z.weights.service ∷ z.weights.machine ∷ [])

-- all lists, and the numbers of their parts
pub record ModelRead (z : Lists) (u : List ℕ) : Type 0 where
  pub r : List ℕ
  pub m : List ℕ
  pub s : List ℕ
  pub o : List ℕ
  pub resources : Counting 1 20 (λ c k. ResourceStep) [] z.resources r
  pub machines : Counting 1 5000 (λ M k. MachineStep (length z.resources) M)
      (record { rows = []; capacities = []; safeties = []; move_costs = [] }) z.machines m
  pub services : Counting 1 50000 (λ S k. ServiceStep S) (record { rows = []; dependencies = [] }) z.services s
  pub others : RestRead (length z.services.rows) (length z.resources)
      (record { processes = z.processes; balances = z.balances; weights = z.weights }) o
  pub text : u ≡ r ++ (m ++ (s ++ (o ++ [])))

rest_read : (S R : ℕ) → Yields (rest S R) (RestRead S R)
unfolding rest processes balances weights
rest_read S R = yields_bind (yields_counting _ (process_step S R)) (λ ps p processes.
    yields_bind (yields_counting _ (balance_step R)) (λ bs b balances.
    yields_bind {First = λ w u. u ≡ w.process ∷ w.service ∷ w.machine ∷ []}
    (one_then (yields_any _ _)
    (λ process any. one_then (yields_any _ _)
    (λ service any. one_then (yields_any _ _) (λ machine any. yields_pure _ refl))))
    (λ ws w weights.
    yields_bind yields_ends (λ nothing none ended. yields_pure _ (record {
      p = p;
      b = b;
      processes = processes;
      balances = balances;
      text = rw (ended, weights) refl;
    })))))

model_read : Yields model ModelRead
unfolding model resources machines services
model_read = yields_bind (yields_counting _ resource_step) (λ rs r resources.
    yields_bind (yields_counting _ (machine_step (length rs))) (λ ms m machines.
    yields_bind (yields_counting _ service_step) (λ ss s services.
    yields_bind (rest_read (length ss.rows) (length rs)) (λ os o others. yields_pure _ (record {
      r = r;
      m = m;
      s = s;
      o = o;
      resources = resources;
      machines = machines;
      services = services;
      others = others;
      text = refl;
    })))))

model_ends : Ends model
unfolding model rest
model_ends =
    ends_bind _
    (λ rs. ends_bind _ (λ ms. ends_bind _ (λ ss. ends_then _ (ends_bind _ (λ ps. ends_bind _ (λ bs. ends_bind _ (λ ws.
    ends_then _ ends_end)))))))

model_same : (z : Lists) (u v : List ℕ) → ModelRead z u → ModelRead z v → u ≡ v
model_same z u v one two =
    let r = counting_same resource_law one.resources two.resources in
    let m = counting_same (machine_law (length z.resources)) one.machines two.machines in
    let s = counting_same service_law one.services two.services in
    let p = counting_same
    (process_law (length z.services.rows) (length z.resources)) one.others.processes two.others.processes in
    let b = counting_same (balance_law (length z.resources)) one.others.balances two.others.balances in
    rw (one.text, two.text, one.others.text, two.others.text, r, m, s, p, b) refl

-- the lists of all tokens, with their numbers
pub record ReadWhole (l : Left) (z : Lists) : Type 0 where
  pub text : List ℕ
  pub read : ModelRead z text
  pub values : map value_of l.tokens ≡ text
  pub sound : l.fault ≡ None

read_whole : (l m : Left) (z : Lists) → model l ≡ Read z m → ReadWhole l z
read_whole l m z e =
    let taking = model_read.taking l m z e in
    let end = model_ends.nothing l m z e in
    record {
      text = taking.text;
      read = taking.known;
      values = taking.took.values ∙ ap (λ rest. taking.text ++ map value_of rest) end.0 ∙ append-nil taking.text;
      sound = sym taking.took.fault ∙ end.1;
    }

pub all_read : (bytes : List ℕ) (z : Lists) → model_of bytes ≡ Ok z → ReadWhole (all_of bytes) z
unfolding model_of answer_of
all_read bytes z e = cases (model (all_of bytes)) refl e
  where
    cases : (o : Outcome Lists) → model (all_of bytes) ≡ o → answer_of o ≡ Ok z → ReadWhole (all_of bytes) z
    cases (Read x m) d e = let same : x ≡ z = cc in read_whole (all_of bytes) m z (d ∙ ap (λ y. Read y m) same)
    cases (Refused fault) d e = cc

-- tokens of these values
unfoldable tokens_of : List ℕ → List Token
tokens_of [] = []
tokens_of (v ∷ vs) = record { value = v; at = 0 } ∷ tokens_of vs

their_values : (vs : List ℕ) → map value_of (tokens_of vs) ≡ vs
unfolding tokens_of
their_values [] = refl
their_values (v ∷ vs) = ap (λ ws. v ∷ ws) (their_values vs)

pub text_taken : (raw : RawInstance) (bytes : List ℕ) → WellFormed (all_open raw) →
    model_of bytes ≡ Ok (lists_of raw) → IsTextOf bytes (all_open raw)
unfolding all_of
text_taken raw bytes h e =
    let all = all_numbers_of (all_open raw) in
    let read = all_read bytes (lists_of raw) e in
    let accepted = read_whole _ _ _ ((all_accepted raw h).takes (tokens_of all) (their_values all)) in
    record {
      sound = read.sound;
      numbers = read.values ∙ model_same (lists_of raw) read.text accepted.text read.read accepted.read
          ∙ sym accepted.values ∙ ap (map value_of) (append-nil (tokens_of all)) ∙ their_values all;
    }
