-- What each part of a model's format reads: what it adds to the lists, and the numbers of its tokens.
use Rattle.std.proofs.Common.{◌≡◌, ℕ, suc, ◌+◌, ◌-◌, ◌*◌, ◌<◌, ◌≤◌, refl, ap, ◌∙◌, sym, subst, List, [], ◌∷◌, ◌++◌, length}
use Rattle.std.proofs.Common.{map, arith, append_assoc, append-nil, length-append}
use Rattle.std.specs.List.{All}
use Rattle.std.proofs.lemmas.List.{length_push, map-append}
use Rattle.std.proofs.lemmas.List.Elements.{All-nil, All-push}
use Rattle.ra_base.specs.Sums.{one_if}
use Rattle.ra_base.specs.declared.ids.Service.{Service}
use Rattle.ra_model_read.specs.Formats.{along}
use Rattle.ra_model_read.specs.Lists.{ResourceNumbers, MachineNumbers, ServiceNumbers, ProcessNumbers, BalanceNumbers}
use Rattle.ra_model_read.specs.Lists.{MachineLists, ServiceLists, ProcessLists}
use Rattle.ra_model_read.specs.ModelText.{resource, machine, dependency, service, process, balance}
use Rattle.ra_model_read.proofs.Inversion.{Yields, yields_pure, yields_bind, one_then, yields_any, Within, yields_field}
use Rattle.ra_model_read.proofs.Inversion.{yields_flag, yields_along, StepLaw, yields_numbers, cut_same}

below_count : (v S : ℕ) → 1 ≤ S → Within 0 (S - 1) v → v < S
below_count v S some within = omega (arith, within.high)

one_more : {X : Type 0} (xs : List X) (x : X) (k : ℕ) → length xs ≡ k → length (xs ++ x ∷ []) ≡ suc k
one_more xs x k known = omega (arith, length_push xs x, known)

-- resources

pub record ResourceStep (y z : List ResourceNumbers) (u : List ℕ) : Type 0 where
  pub row : ResourceNumbers
  pub made : y ++ row ∷ [] ≡ z
  pub text : u ≡ one_if row.transient ∷ row.load_weight ∷ []

pub resource_step : (c k : ℕ) (y : List ResourceNumbers) → Yields (resource k y) (ResourceStep y)
unfolding resource
resource_step c k y =
    one_then (yields_flag _) (λ transient told. one_then (yields_any _ _) (λ weight any. yields_pure _ (record {
      row = record { transient = transient; load_weight = weight };
      made = refl;
      text = refl;
    })))

pub resource_law : StepLaw 1 (λ c k. ResourceStep) [] length (λ c k y. length y ≡ k)
resource_law = record {
  none = λ c. refl;
  more = λ c k y z u some known step. subst (λ t. length t ≡ suc k) step.made (one_more _ _ _ known);
  sized = λ c k z known. known;
  same = λ c k y y2 z u u2 known known2 one two.
      let rows = cut_same y y2 _ _ (one.made ∙ sym two.made) refl in
      let row : one.row ≡ two.row = cc in
      (rows.0, one.text ∙ ap (λ r. one_if r.transient ∷ r.load_weight ∷ []) row ∙ sym two.text);
}

-- machines

pub record MachineStep (R M : ℕ) (y z : MachineLists) (u : List ℕ) : Type 0 where
  pub row : MachineNumbers
  pub capacities : List ℕ
  pub safeties : List ℕ
  pub ways : List ℕ
  pub made : record {
    rows = y.rows ++ row ∷ [];
    capacities = y.capacities ++ capacities;
    safeties = y.safeties ++ safeties;
    move_costs = y.move_costs ++ ways;
  } ≡ z
  pub each_capacity : length capacities ≡ R
  pub each_safety : length safeties ≡ R
  pub each_way : length ways ≡ M
  pub text : u ≡ row.neighbourhood ∷ row.location ∷ (capacities ++ (safeties ++ (ways ++ [])))

pub machine_step : (R M k : ℕ) (y : MachineLists) → Yields (machine R M k y) (MachineStep R M y)
unfolding machine
machine_step R M k y = one_then (yields_any _ _) (λ neighbourhood any. one_then (yields_any _ _) (λ location any.
    yields_bind (yields_numbers _ _ _ _) (λ cs capacities more_capacities.
    yields_bind (yields_numbers _ _ _ _) (λ ss safeties more_safeties.
    yields_bind (yields_numbers _ _ _ _) (λ ws ways more_ways.
    yields_pure _ (record {
      row = record { neighbourhood = neighbourhood; location = location };
      capacities = capacities;
      safeties = safeties;
      ways = ways;
      made = rw (more_capacities.made, more_safeties.made, more_ways.made) refl;
      each_capacity = more_capacities.size;
      each_safety = more_safeties.size;
      each_way = more_ways.size;
      text = refl;
    }))))))

pub record KnownMachines (R M k : ℕ) (t : MachineLists) : Type 0 where
  pub rows : length t.rows ≡ k
  pub capacities : length t.capacities ≡ k * R
  pub safeties : length t.safeties ≡ k * R
  pub move_costs : length t.move_costs ≡ k * M

row_more : (k w : ℕ) (xs u : List ℕ) → length xs ≡ k * w → length u ≡ w → length (xs ++ u) ≡ suc k * w
row_more k w xs u before more = omega (arith, before, more, length-append xs u)

pub machine_law : (R : ℕ) → StepLaw 1 (λ M k. MachineStep R M)
    (record { rows = []; capacities = []; safeties = []; move_costs = [] }) (λ y. length y.rows) (KnownMachines R)
machine_law R = record {
  none = λ M. record { rows = refl; capacities = omega arith; safeties = omega arith; move_costs = omega arith };
  more = λ M k y z u some known step. subst (KnownMachines R M (suc k)) step.made (record {
    rows = one_more _ _ _ known.rows;
    capacities = row_more k _ _ _ known.capacities step.each_capacity;
    safeties = row_more k _ _ _ known.safeties step.each_safety;
    move_costs = row_more k _ _ _ known.move_costs step.each_way;
  });
  sized = λ M k z known. known.rows;
  same = λ M k y y2 z u u2 known known2 one two.
      let both = one.made ∙ sym two.made in
      let rows = cut_same y.rows y2.rows _ _ (ap (λ t. t.rows) both) refl in
      let capacities =
      cut_same y.capacities y2.capacities _ _ (ap (λ t. t.capacities) both)
      (one.each_capacity ∙ sym two.each_capacity) in
      let safeties =
      cut_same y.safeties y2.safeties _ _ (ap (λ t. t.safeties) both) (one.each_safety ∙ sym two.each_safety) in
      let ways = cut_same y.move_costs y2.move_costs _ _ (ap (λ t. t.move_costs) both)
      (one.each_way ∙ sym two.each_way) in
      let row : one.row ≡ two.row = cc in (
        λ i. record
            { rows = rows.0 i; capacities = capacities.0 i; safeties = safeties.0 i; move_costs = ways.0 i },
        cc,
      );
}

-- services

-- these dependencies on S services more
record MoreNeeds (S n : ℕ) (y z : List Service) (u : List ℕ) : Type 0 where
  pub needed : List Service
  pub made : y ++ needed ≡ z
  pub size : length needed ≡ n
  pub text : u ≡ map (λ s. s.0) needed
  pub needs : 1 ≤ S → All (λ (s : Service). s.0 < S) y → All (λ (s : Service). s.0 < S) z

yields_needs : (S first n : ℕ) (y : List Service) → Yields (along n (dependency S first) y) (MoreNeeds S n y)
unfolding dependency
yields_needs S first n y =
    yields_along {Known = λ k z u. MoreNeeds S k y z u}
    (λ k z u known. one_then (yields_field _ _) (λ v within. yields_pure _ (record {
      needed = known.needed ++ record { 0 = v } ∷ [];
      made = sym (append_assoc y known.needed _) ∙ ap (λ t. t ++ record { 0 = v } ∷ []) known.made;
      size = one_more _ _ _ known.size;
      text = rw (known.text, map-append) refl;
      needs = λ some all. All-push (λ (s : Service). s.0 < S) z _ (known.needs some all) (below_count _ _ some within);
    }))) n y (record { needed = []; made = append-nil y; size = refl; text = refl; needs = λ some all. all })

pub record ServiceStep (S : ℕ) (y z : ServiceLists) (u : List ℕ) : Type 0 where
  pub row : ServiceNumbers
  pub needed : List Service
  pub made : record { rows = y.rows ++ row ∷ []; dependencies = y.dependencies ++ needed } ≡ z
  pub row_end : row.dependency_end ≡ length y.dependencies + length needed
  pub few : length needed ≤ 100000 - length y.dependencies
  pub needs : 1 ≤ S → All (λ (s : Service). s.0 < S) y.dependencies → All (λ (s : Service). s.0 < S) z.dependencies
  pub text : u ≡ row.spread_min ∷ length needed ∷ (map (λ s. s.0) needed ++ [])

pub service_step : (S k : ℕ) (y : ServiceLists) → Yields (service S k y) (ServiceStep S y)
unfolding service
service_step S k y = one_then (yields_any _ _) (λ spread any. one_then (yields_field _ _) (λ count within.
    yields_bind (yields_needs S (length y.dependencies) count y.dependencies) (λ all u more. yields_pure _ (record {
      row = record { spread_min = spread; dependency_end = length all };
      needed = more.needed;
      made = rw more.made refl;
      row_end = omega (arith, ap length more.made, length-append y.dependencies more.needed);
      few = omega (arith, more.size, within.high);
      needs = more.needs;
      text = rw (more.text, more.size) refl;
    }))))

-- the ends of the dependencies of services, in order from one place to another
unfoldable pub Ascends : ℕ → List ServiceNumbers → ℕ → Type 0
Ascends from [] to = from ≡ to
Ascends from (row ∷ rows) to = (from ≤ row.dependency_end) × Ascends row.dependency_end rows to

ascends_more : (from : ℕ) (rows : List ServiceNumbers) (to : ℕ) (row : ServiceNumbers) → Ascends from rows to →
    to ≤ row.dependency_end → Ascends from (rows ++ row ∷ []) row.dependency_end
unfolding Ascends
ascends_more from [] to row known more = (omega (arith, known, more), refl)
ascends_more from (first ∷ rows) to row known more =
    (known.0, ascends_more first.dependency_end rows to row known.1 more)

ascends_same : (from : ℕ) (rows : List ServiceNumbers) (to to2 : ℕ) → Ascends from rows to → Ascends from rows to2 →
    to ≡ to2
unfolding Ascends
ascends_same from [] to to2 one two = sym one ∙ two
ascends_same from (row ∷ rows) to to2 one two = ascends_same row.dependency_end rows to to2 one.1 two.1

pub record KnownServices (S k : ℕ) (t : ServiceLists) : Type 0 where
  pub rows : length t.rows ≡ k
  pub few : length t.dependencies ≤ 100000
  pub in_order : Ascends 0 t.rows (length t.dependencies)
  pub needs : All (λ (s : Service). s.0 < S) t.dependencies

pub service_law : StepLaw 1 (λ S k. ServiceStep S) (record { rows = []; dependencies = [] }) (λ y. length y.rows)
    KnownServices
unfolding Ascends
service_law = record {
  none = λ S. record { rows = refl; few = omega arith; in_order = refl; needs = All-nil _ };
  more = λ S k y z u some known step.
      let grown : length z.dependencies ≡ step.row.dependency_end =
      omega (
        arith,
        step.row_end,
        ap
            (λ t. length t.dependencies) step.made,
        length-append y.dependencies step.needed,
      ) in
      record {
        rows = subst (λ t. length t.rows ≡ suc k) step.made (one_more _ _ _ known.rows);
        few = omega (arith, grown, step.row_end, step.few, known.few);
        in_order = rw (← ap (λ t. t.rows) step.made, grown)
            (ascends_more 0 y.rows (length y.dependencies) step.row known.in_order (omega (arith, step.row_end)));
        needs = step.needs some known.needs;
      };
  sized = λ S k z known. known.rows;
  same = λ S k y y2 z u u2 known known2 one two.
      let both = one.made ∙ sym two.made in
      let rows = cut_same y.rows y2.rows _ _ (ap (λ t. t.rows) both) refl in
      let row : one.row ≡ two.row = cc in
      let begun : length y.dependencies ≡ length y2.dependencies =
      ascends_same 0 y.rows _ _ known.in_order (rw rows.0 known2.in_order) in
      let dependencies = cut_same y.dependencies y2.dependencies _ _ (ap (λ t. t.dependencies) both)
      (omega (arith, begun, one.row_end, two.row_end, ap (λ r. r.dependency_end) row)) in
      (λ i. record { rows = rows.0 i; dependencies = dependencies.0 i }, cc);
}

-- processes

pub record ProcessStep (S R : ℕ) (y z : ProcessLists) (u : List ℕ) : Type 0 where
  pub row : ProcessNumbers
  pub requirements : List ℕ
  pub made : record { rows = y.rows ++ row ∷ []; requirements = y.requirements ++ requirements } ≡ z
  pub each : length requirements ≡ R
  pub served : 1 ≤ S → row.service.0 < S
  pub text : u ≡ row.service.0 ∷ (requirements ++ row.move_cost ∷ [])

pub process_step : (S R c k : ℕ) (y : ProcessLists) → Yields (process S R k y) (ProcessStep S R y)
unfolding process
process_step S R c k y =
    one_then (yields_field _ _)
    (λ its_service within. yields_bind (yields_numbers _ _ _ _)
    (λ rs requirements more. one_then (yields_any _ _) (λ cost any.
    yields_pure _ (record {
      row = record { service = record { 0 = its_service }; move_cost = cost };
      requirements = requirements;
      made = rw more.made refl;
      each = more.size;
      served = λ some. below_count _ _ some within;
      text = refl;
    }))))

pub record KnownProcesses (S R k : ℕ) (t : ProcessLists) : Type 0 where
  pub rows : length t.rows ≡ k
  pub requirements : length t.requirements ≡ k * R
  pub services : 1 ≤ S → All (λ (row : ProcessNumbers). row.service.0 < S) t.rows

pub process_law : (S R : ℕ) →
    StepLaw 1 (λ c k. ProcessStep S R) (record { rows = []; requirements = [] }) (λ y. length y.rows) (λ c.
    KnownProcesses S R)
process_law S R = record {
  none = λ c. record { rows = refl; requirements = omega arith; services = λ some. All-nil _ };
  more = λ c k y z u some known step. subst (KnownProcesses S R (suc k)) step.made (record {
    rows = one_more _ _ _ known.rows;
    requirements = row_more k _ _ _ known.requirements step.each;
    services = λ some. All-push (λ (row : ProcessNumbers). row.service.0 < S) y.rows _ (known.services some)
        (step.served some);
  });
  sized = λ c k z known. known.rows;
  same = λ c k y y2 z u u2 known known2 one two.
      let both = one.made ∙ sym two.made in
      let rows = cut_same y.rows y2.rows _ _ (ap (λ t. t.rows) both) refl in
      let requirements =
      cut_same y.requirements y2.requirements _ _ (ap (λ t. t.requirements) both) (one.each ∙ sym two.each) in
      let row : one.row ≡ two.row = cc in
      (λ i. record { rows = rows.0 i; requirements = requirements.0 i }, cc);
}

-- balance objectives

pub record BalanceStep (R : ℕ) (y z : List BalanceNumbers) (u : List ℕ) : Type 0 where
  pub row : BalanceNumbers
  pub made : y ++ row ∷ [] ≡ z
  pub first : 1 ≤ R → row.first.0 < R
  pub second : 1 ≤ R → row.second.0 < R
  pub text : u ≡ row.first.0 ∷ row.second.0 ∷ row.target ∷ row.weight ∷ []

pub balance_step : (R c k : ℕ) (y : List BalanceNumbers) → Yields (balance R k y) (BalanceStep R y)
unfolding balance
balance_step R c k y =
    one_then (yields_field _ _)
    (λ first low. one_then (yields_field _ _) (λ second high. one_then (yields_any _ _) (λ target any.
    one_then (yields_any _ _) (λ weight any. yields_pure _ (record {
      row = record { first = record { 0 = first }; second = record { 0 = second }; target = target; weight = weight };
      made = refl;
      first = λ some. below_count _ _ some low;
      second = λ some. below_count _ _ some high;
      text = refl;
    })))))

pub record KnownBalances (R k : ℕ) (rows : List BalanceNumbers) : Type 0 where
  pub size : length rows ≡ k
  pub firsts : 1 ≤ R → All (λ (row : BalanceNumbers). row.first.0 < R) rows
  pub seconds : 1 ≤ R → All (λ (row : BalanceNumbers). row.second.0 < R) rows

pub balance_law : (R : ℕ) → StepLaw 0 (λ c k. BalanceStep R) [] length (λ c. KnownBalances R)
balance_law R = record {
  none = λ c. record { size = refl; firsts = λ some. All-nil _; seconds = λ some. All-nil _ };
  more = λ c k y z u any known step. subst (KnownBalances R (suc k)) step.made (record {
    size = one_more _ _ _ known.size;
    firsts = λ some. All-push (λ (row : BalanceNumbers). row.first.0 < R) y _ (known.firsts some) (step.first some);
    seconds = λ some. All-push (λ (row : BalanceNumbers). row.second.0 < R) y _ (known.seconds some) (step.second some);
  });
  sized = λ c k z known. known.size;
  same = λ c k y y2 z u u2 known known2 one two.
      let rows = cut_same y y2 _ _ (one.made ∙ sym two.made) refl in
      let row : one.row ≡ two.row = cc in
      (rows.0, one.text ∙ ap (λ r. r.first.0 ∷ r.second.0 ∷ r.target ∷ r.weight ∷ []) row ∙ sym two.text);
}
