use Rattle.std.proofs.Common.{arith}
use Rattle.std.proofs.lemmas.Map.Text.{text_keys}
use Rattle.ra_io.proofs.texts.set_text.Goals as goal

pub returns-clause-set : goal.returns-clause-set
returns-clause-set c = record { named = grind (arith, text_keys); others = λ other differs. grind (arith, text_keys) }
