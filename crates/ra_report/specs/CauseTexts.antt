-- The words of a cause.
use Rattle.std.specs.Prelude.{List, ℕ, codes}
use Rattle.ra_report.specs.declared.texts.CauseWords.{CauseWords}
use Rattle.ra_report.specs.declared.texts.CauseWords.TheVariants.{One, Two, Three, Four, Rise}
use Rattle.ra_report.specs.Texts.{with_one, with_two, with_three, with_four}

-- a name and its numbers
unfoldable pub words_text : CauseWords → List ℕ
words_text (One name a) = with_one name.now a
words_text (Two name a b) = with_two name.now a b
words_text (Three name a b c) = with_three name.now a b c
words_text (Four name a b c d) = with_four name.now a b c d
words_text (Rise before after allowed) = with_three (codes "rise") before after allowed

abbrev pub cause_name : CauseWords → List ℕ
cause_name (One name a) = name.now
cause_name (Two name a b) = name.now
cause_name (Three name a b c) = name.now
cause_name (Four name a b c d) = name.now
cause_name (Rise before after allowed) = codes "rise"
