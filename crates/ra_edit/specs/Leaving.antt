-- What a draft leaves when it gives its instance back.
use Rattle.ra_model.specs.declared.raw.Tables.{Tables}
use Rattle.ra_edit.specs.declared.edited.Left.{Left}
use Rattle.ra_edit.specs.Drafts.{Drafted}

-- the draft of an instance that left these lists
abbrev pub left_in : Tables → Left → Drafted
left_in i l =
    record {
      origin = i;
      rows = l.rows.items;
      requirements = l.requirements.items;
      initial = l.initial.items;
      current = l.current.items;
    }
