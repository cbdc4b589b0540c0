-- The order of a box list's records, and what settings and classes may be.
use Rattle.std.specs.Prelude.{ℕ, ◌+◌, ◌-◌, min, Bool, true, cond, ◌&&◌, Some, None, Option, ◌==◌, nat_le}
use Rattle.items.specs.declared.Item.{Item}
use Rattle.items.specs.declared.Item.TheVariants as item
use Rattle.items.specs.Limits.{settings_within, class_within}
use Rattle.boxlist.specs.declared.order.Stage.{Stage}
use Rattle.boxlist.specs.declared.order.Stage.TheVariants.{Start, Classes, Entries, Content, Ended}
use Rattle.boxlist.specs.declared.records.Record.{Record}
use Rattle.boxlist.specs.declared.records.Record.TheVariants.{Settings, Class, Box, Glue, Kern, Penalty, Note, End}

-- n items of a note's content are still to come
abbrev pub owing : ℕ → Stage
owing n = cond (n == 0) Entries (Content n)

-- how many items of a note's content are to come
abbrev pub to_come : Stage → ℕ
to_come Start = 0
to_come (Classes above) = 0
to_come Entries = 0
to_come (Content left) = left
to_come Ended = 0

abbrev pub after_start : Record → Option Stage
after_start (Settings size depth top bound policy) = Some (Classes 0)
after_start (Class class limit skip floating depth) = None
after_start (Box height depth) = None
after_start (Glue width stretch order shrink) = None
after_start (Kern width) = None
after_start (Penalty value) = None
after_start (Note class count) = None
after_start End = None

abbrev pub after_entries : Record → Option Stage
after_entries (Settings size depth top bound policy) = None
after_entries (Class class limit skip floating depth) = None
after_entries (Box height depth) = Some Entries
after_entries (Glue width stretch order shrink) = Some Entries
after_entries (Kern width) = Some Entries
after_entries (Penalty value) = Some Entries
after_entries (Note class count) = Some (owing count)
after_entries End = Some Ended

-- classes rise: the next is at least `above`
abbrev pub after_classes : ℕ → Record → Option Stage
after_classes above (Settings size depth top bound policy) = None
after_classes above (Class class limit skip floating depth) = cond (nat_le above class) (Some (Classes (class + 1))) None
after_classes above (Box height depth) = Some Entries
after_classes above (Glue width stretch order shrink) = Some Entries
after_classes above (Kern width) = Some Entries
after_classes above (Penalty value) = Some Entries
after_classes above (Note class count) = Some (owing count)
after_classes above End = Some Ended

-- a note in content is one item of it, whatever its count
abbrev pub after_content : ℕ → Record → Option Stage
after_content left (Settings size depth top bound policy) = None
after_content left (Class class limit skip floating depth) = None
after_content left (Box height depth) = Some (owing (left - 1))
after_content left (Glue width stretch order shrink) = Some (owing (left - 1))
after_content left (Kern width) = Some (owing (left - 1))
after_content left (Penalty value) = Some (owing (left - 1))
after_content left (Note class count) = Some (owing (left - 1))
after_content left End = None

-- the stage after one more record, or none where the record is out of its place
abbrev pub stage_after : Stage → Record → Option Stage
stage_after Start r = after_start r
stage_after (Classes above) r = after_classes above r
stage_after Entries r = after_entries r
stage_after (Content left) r = after_content left r
stage_after Ended r = None

abbrev pub head_within : Record → Bool
head_within (Settings size depth top bound policy) = settings_within (record { size = size; depth = depth; top = top }) && nat_le 1 bound && nat_le bound 100 && nat_le policy 2
head_within (Class class limit skip floating depth) =
    nat_le class 7 && class_within (record { floating = floating; limit = limit; skip = skip; depth = depth })
head_within (Box height depth) = true
head_within (Glue width stretch order shrink) = true
head_within (Kern width) = true
head_within (Penalty value) = true
head_within (Note class count) = true
head_within End = true

-- the item that an entry stands for; orders above 255 are told as 255, which is outside the limits too
abbrev pub item_of : Record → Option Item
item_of (Settings size depth top bound policy) = None
item_of (Class class limit skip floating depth) = None
item_of (Box height depth) = Some (item.Box height depth)
item_of (Glue width stretch order shrink) = Some (item.Glue width stretch (min order 255) shrink)
item_of (Kern width) = Some (item.Kern width)
item_of (Penalty value) = Some (item.Penalty value)
item_of (Note class count) = Some (item.Note class count)
item_of End = None
