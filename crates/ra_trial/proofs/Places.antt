-- Where the processes of a trial start, by arithmetic alone.
use Rattle.std.proofs.Common.{◌≡◌, ◌≢◌, ℕ, ◌+◌, ◌*◌, ◌/◌, ◌%◌, ◌<◌, ◌≤◌, Bool, true, sym, ap, ◌∙◌, arith}
use Rattle.ra_base.specs.Sums.{total, count, is_named, fresh}
use Rattle.ra_base.proofs.Sums.{total_same, total_constant}
use Rattle.ra_base.proofs.Counts.{count_order}
use Rattle.ra_base.proofs.Named.{is_named_from, is_named_not, count_named, fresh_new}

-- two processes of one service start on two machines
pub apart_in_service : (p q : ℕ) → p ≢ q → p / 4 ≡ q / 4 → p % 100 ≢ q % 100
apart_in_service p q apart one same = absurd (apart (omega arith))

-- the first three processes of a service start in three locations
pub location_of_start : (p : ℕ) → p % 100 % 10 ≡ p % 10
location_of_start p = omega arith

pub locations_apart : (s i j : ℕ) → i < 3 → j < 3 → i ≢ j → (4 * s + i) % 10 ≢ (4 * s + j) % 10
locations_apart s i j i_in j_in apart same = absurd (apart (omega arith))

-- the process 100 numbers on is of the service 25 numbers on, and starts on the same machine
pub service_later : (p : ℕ) → p < 1000 → (p + 100) % 1000 / 4 ≡ (p / 4 + 25) % 250
service_later p within = omega arith

pub machine_later : (p : ℕ) → p < 1000 → (p + 100) % 1000 % 100 ≡ p % 100
machine_later p within = omega arith

-- as many numbers pass as are named, if they differ
pub count_distinct : (n k : ℕ) (test : ℕ → Bool) (e : ℕ → ℕ) → ((j : ℕ) → j < k → e j < n) →
    ((j : ℕ) → j < k → test (e j) ≡ true) → ((i j : ℕ) → i < k → j < k → i ≢ j → e i ≢ e j) → k ≤ count n test
count_distinct n k test e within passes apart =
    let each : total k (fresh e (λ m. 1)) ≡ total k (λ j. 1) =
    total_same k (fresh e (λ m. 1)) (λ j. 1)
    (λ j h. fresh_new e (λ m. 1) j
    (is_named_not j e (e j) (λ i before. apart i j (omega arith) h (λ same. omega arith)))) in
    let order = count_order n (is_named k e) test (λ m h named. let found = is_named_from k e m named in
    ap test (sym found.2) ∙ passes found.0 found.1) in
    omega (arith, count_named n k e within, each, total_constant k 1, order)
