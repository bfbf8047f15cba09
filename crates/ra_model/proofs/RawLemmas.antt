-- What the reads of the lists of a model file give.
use Rattle.std.proofs.Common.{◌≡◌, ℕ, ◌+◌, ◌<◌, length, get_or, sym, ap, add-one}
use Rattle.std.proofs.lemmas.List.{get_or_read}
use Rattle.ra_base.specs.declared.ids.Service.{Service}
use Rattle.ra_model.specs.declared.raw.RawInstance.{RawInstance}
use Rattle.ra_model.specs.declared.raw.ServiceRow.{ServiceRow}
use Rattle.ra_model.specs.declared.raw.ProcessRow.{ProcessRow}
use Rattle.ra_model.specs.declared.raw.BalanceRow.{BalanceRow}
use Rattle.ra_model.specs.Numbers.{all_open, service_row, process_row, balance_row, dependency_start, dependency_end}
use Rattle.ra_model.specs.Numbers.{need_at, service_of, first_of, second_of}

module _ (raw : RawInstance) where
  module _ (s : ℕ) (row : ServiceRow) (within : s < length raw.services.items)
      (read : row ≡ get_or raw.services.items s row) where
    pub start_more : dependency_start (all_open raw) (s + 1) ≡ row.dependency_end
    unfolding dependency_start dependency_end service_row
    start_more =
        rw add-one (sym (ap (λ (x : ServiceRow). x.dependency_end)
        (get_or_read raw.services.items s row within read _)))

    pub end_read : dependency_end (all_open raw) s ≡ row.dependency_end
    unfolding dependency_end service_row
    end_read =
        sym (ap (λ (x : ServiceRow). x.dependency_end) (get_or_read raw.services.items s row within read _))

  pub need_read : (place : ℕ) (item : Service) → place < length raw.dependencies.items →
      item ≡ get_or raw.dependencies.items place item → need_at (all_open raw) place ≡ item.0
  unfolding need_at
  need_read place item within read =
      sym (ap (λ (x : Service). x.0) (get_or_read raw.dependencies.items place item within read _))

  pub service_read : (p : ℕ) (row : ProcessRow) → p < length raw.processes.items →
      row ≡ get_or raw.processes.items p row → service_of (all_open raw) p ≡ row.service.0
  unfolding service_of process_row
  service_read p row within read =
      sym (ap (λ (x : ProcessRow). x.service.0) (get_or_read raw.processes.items p row within read _))

  module _ (b : ℕ) (row : BalanceRow) (within : b < length raw.balances.items)
      (read : row ≡ get_or raw.balances.items b row) where
    pub first_at : first_of (all_open raw) b ≡ row.first.0
    unfolding first_of balance_row
    first_at =
        sym (ap (λ (x : BalanceRow). x.first.0) (get_or_read raw.balances.items b row within read _))

    pub second_at : second_of (all_open raw) b ≡ row.second.0
    unfolding second_of balance_row
    second_at =
        sym (ap (λ (x : BalanceRow). x.second.0) (get_or_read raw.balances.items b row within read _))
