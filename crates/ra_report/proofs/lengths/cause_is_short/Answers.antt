use Rattle.ra_report.specs.CauseTexts.{words_text}
use Rattle.ra_report.proofs.LengthLaws.{one_short, two_short, three_short, four_short, rise_short}
use Rattle.ra_report.proofs.lengths.cause_is_short.Goals as goal

pub returns-in-One : goal.returns-in-One
unfolding words_text
returns-in-One c =
    rw (← c.in-One.ensures.text)
    (one_short c.in-One.field-0.now c.in-One.a c.in-One.ensures.short c.label_is_short.ensures)

pub returns-in-Two : goal.returns-in-Two
unfolding words_text
returns-in-Two c =
    rw (← c.in-Two.ensures.text)
    (two_short c.in-Two.field-0.now c.in-Two.a c.in-Two.b c.in-Two.ensures.short c.label_is_short-in-Two.ensures
    c.label_is_short-in-Two-2.ensures)

pub returns-in-Three : goal.returns-in-Three
unfolding words_text
returns-in-Three c =
    rw (← c.in-Three.ensures.text)
    (three_short c.in-Three.field-0.now c.in-Three.a c.in-Three.b c.in-Three.c c.in-Three.ensures.short
    c.label_is_short-in-Three.ensures c.label_is_short-in-Three-2.ensures c.label_is_short-in-Three-3.ensures)

pub returns-in-Four : goal.returns-in-Four
unfolding words_text
returns-in-Four c =
    rw (← c.in-Four.ensures.text)
    (four_short c.in-Four.field-0.now c.in-Four.a c.in-Four.b c.in-Four.c c.in-Four.d c.in-Four.ensures.short
    c.label_is_short-in-Four.ensures c.label_is_short-in-Four-2.ensures c.number_is_short.ensures
    c.label_is_short-in-Four-3.ensures)

pub returns-in-Rise : goal.returns-in-Rise
unfolding words_text
returns-in-Rise c =
    rw (← c.in-Rise.ensures.text)
    (rise_short c.in-Rise.before c.in-Rise.after c.in-Rise.allowed c.cost_is_short.ensures
    c.cost_is_short-in-Rise.ensures c.number_is_short-in-Rise.ensures)
