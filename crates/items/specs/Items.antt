-- Items of text: their kinds, their limits and their sizes.
use Rattle.std.specs.Prelude.{ℕ, ◌+◌, Bool, true, false, not, ◌&&◌, List, map, ℤ, pos, None, Option, nat_le, unsigned_abs}
use Rattle.items.specs.declared.Item.{Item}
use Rattle.items.specs.declared.Item.TheVariants.{Box, Glue, Kern, Penalty, Note}
use Rattle.items.specs.declared.Row.{Row}
use Rattle.items.specs.declared.Place.TheVariants.{Owed}

-- the largest length in scaled points; as a cost it is one that no break may have
abbrev pub most : ℕ
most = 1073741823

abbrev pub is_box : Item → Bool
is_box (Box h d) = true
is_box (Glue w st o sh) = false
is_box (Kern w) = false
is_box (Penalty v) = false
is_box (Note c n) = false

abbrev pub is_glue : Item → Bool
is_glue (Box h d) = false
is_glue (Glue w st o sh) = true
is_glue (Kern w) = false
is_glue (Penalty v) = false
is_glue (Note c n) = false

abbrev pub is_note : Item → Bool
is_note (Box h d) = false
is_note (Glue w st o sh) = false
is_note (Kern w) = false
is_note (Penalty v) = false
is_note (Note c n) = true

-- glue, kerns and penalties: what a break may drop
abbrev pub is_discardable : Item → Bool
is_discardable x = not (is_box x) && not (is_note x)

abbrev pub within_limits : Item → Bool
within_limits (Box h d) = nat_le h most && nat_le d most
within_limits (Glue w st o sh) = nat_le (unsigned_abs w) most && nat_le st most && nat_le o 3 && nat_le sh most
within_limits (Kern w) = nat_le (unsigned_abs w) most
within_limits (Penalty v) = nat_le (unsigned_abs v) 10000
within_limits (Note c n) = true

abbrev pub size_of : Item → ℤ
size_of (Box h d) = pos (h + d)
size_of (Glue w st o sh) = w
size_of (Kern w) = w
size_of (Penalty v) = pos 0
size_of (Note c n) = pos 0

abbrev pub items_of : List Row → List Item
items_of rows = map (λ r. r.item) rows

-- the row of an item as it is fed, which a note's content or the body owes
abbrev pub fed_row : Item → Option ℕ → Row
fed_row x note = record { item = x; note = note; spent = 0; place = Owed; stamp = None }

-- what a read past the table would give
abbrev pub blank : Row
blank = fed_row (Box 0 0) None
