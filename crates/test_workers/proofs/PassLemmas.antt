-- The first plan of a worker may be handed in by a pass that is new.
use Rattle.std.proofs.Common.{◌≡◌, ℕ, ◌<◌, List, [], refl}
use Rattle.ra_base.specs.Sums.{total}
use Rattle.ra_moves.specs.declared.verdicts.Plan.{Plan}
use Rattle.ra_journal.specs.declared.entries.Entry.{Entry}
use Rattle.ra_journal.specs.Entries.{entries_of, worker_count, budget}
use Rattle.ra_shared.specs.declared.books.Opened.{Opened}
use Rattle.ra_shared.specs.Books.{IsCommitOf, opening_by}
use Rattle.test_workers.specs.FirstPlans.{IsFirstPlan}
use Rattle.test_workers.proofs.FirstLemmas.{first_commit}

pub new_commit : (o : Opened) (seen : List Entry) (number w : ℕ) (plan : Plan) → seen ≡ [] → number ≡ w →
    w < worker_count o.lots → 0 < budget o.lots w → IsFirstPlan (opening_by o) w plan →
    IsCommitOf o seen number plan
unfolding entries_of total
new_commit o seen number w plan none is exists some first =
    rw (none, is) (first_commit (opening_by o) [] w plan first exists some refl)
