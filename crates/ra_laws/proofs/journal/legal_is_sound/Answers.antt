use Rattle.ra_journal.proofs.SoundLemmas.{sound}
use Rattle.ra_laws.proofs.journal.legal_is_sound.Goals as goal

pub returns : goal.returns
returns c = sound
