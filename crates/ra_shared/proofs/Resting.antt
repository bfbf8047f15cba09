-- Passes between two calls.
use Rattle.std.proofs.Common.{ℕ, [], arith}
use Rattle.ra_journal.specs.declared.entries.Entry.{Entry}
use Rattle.ra_turn.specs.declared.pass.Pass.{Pass}
use Rattle.ra_turn.specs.declared.story.Story.{Ghosts}
use Rattle.ra_turn.specs.Passes.{IsNewPass}
use Rattle.ra_shared.specs.declared.books.Book.{Book}
use Rattle.ra_shared.specs.declared.books.Opened.{Opened}
use Rattle.ra_shared.specs.declared.shared.Shared.{Shared}
use Rattle.ra_shared.specs.Books.{IsLegalSeen}
use Rattle.ra_shared.specs.Shares.{IsNew}

legal_none : (o : Opened) → IsLegalSeen o []
legal_none o = record { each = λ j lt. absurd (omega arith) }

module _ {g : Ghosts Book Entry Opened} where
  pub new_pass : (s : Shared) (n : ℕ) (p : Pass Book Entry Opened g) → IsNewPass s.turn 4000000 n p → IsNew s n p
  new_pass s n p fresh = grind (arith, legal_none)
