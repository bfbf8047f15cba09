-- The words one after another, up to how `++` groups.
use Rattle.std.proofs.Common.{append_assoc, arith}
use Rattle.ra_report.specs.CauseTexts.{words_text}
use Rattle.ra_report.proofs.LineLemmas.{in_front, at_most}
use Rattle.ra_report.proofs.texts.prepend_cause.Goals as goal

pub returns-in-One : goal.returns-in-One
unfolding words_text
returns-in-One c =
    rw (← c.in-One.ensures.text)
    (simp append_assoc
    (at_most 105 (omega (arith, c.in-One.ensures.short))
    (in_front c.prepend_marked.ensures (rw c.as_bytes.ensures.value at c.prepend.ensures))))

pub returns-in-Two : goal.returns-in-Two
unfolding words_text
returns-in-Two c =
    rw (← c.in-Two.ensures.text)
    (simp append_assoc
    (at_most 105 (omega (arith, c.in-Two.ensures.short))
    (in_front (in_front c.prepend_marked-in-Two.ensures c.prepend_marked-in-Two-2.ensures)
    (rw c.as_bytes-in-Two.ensures.value at c.prepend-in-Two.ensures))))

pub returns-in-Three : goal.returns-in-Three
unfolding words_text
returns-in-Three c =
    rw (← c.in-Three.ensures.text)
    (simp append_assoc
    (at_most 105 (omega (arith, c.in-Three.ensures.short))
    (in_front (in_front (in_front c.prepend_marked-in-Three.ensures c.prepend_marked-in-Three-2.ensures)
    c.prepend_marked-in-Three-3.ensures) (rw c.as_bytes-in-Three.ensures.value at c.prepend-in-Three.ensures))))

pub returns-in-Four : goal.returns-in-Four
unfolding words_text
returns-in-Four c =
    rw (← c.in-Four.ensures.text)
    (simp append_assoc
    (at_most 105 (omega (arith, c.in-Four.ensures.short))
    (in_front (in_front
    (in_front (in_front c.prepend_marked-in-Four.ensures c.prepend_marked-in-Four-2.ensures)
    c.prepend_marked-in-Four-3.ensures) c.prepend_marked-in-Four-4.ensures)
    (rw c.as_bytes-in-Four.ensures.value at c.prepend-in-Four.ensures))))

pub returns-in-Rise : goal.returns-in-Rise
unfolding words_text
returns-in-Rise c =
    rw (← c.in-Rise.ensures.text)
    (simp append_assoc
    (at_most 105 (omega arith)
    (in_front (in_front
    (in_front (in_front c.prepend_marked-in-Rise.ensures c.prepend_wide.ensures) c.prepend_byte.ensures)
    c.prepend_wide-in-Rise.ensures) c.prepend-in-Rise.ensures)))
