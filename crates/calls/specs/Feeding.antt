-- Feeding a book and closing it, and the place of an item.
use Rattle.std.specs.Prelude.{ℕ, ◌+◌, Bool, true, cond, not, ◌&&◌, List, [], ◌∷◌, ◌++◌, map, length, Some, None, Option, ◌==◌, nat_le, nat_lt, slice_index_or}
use Rattle.std.specs.Option.{is_some, option_or}
use Rattle.items.specs.declared.Item.{Item}
use Rattle.items.specs.declared.Item.TheVariants.{Box, Glue, Kern, Penalty, Note}
use Rattle.items.specs.declared.Row.{Row}
use Rattle.items.specs.declared.Place.{Place}
use Rattle.items.specs.declared.Class.{Class}
use Rattle.items.specs.declared.refusals.Refusal.{Refusal}
use Rattle.items.specs.declared.refusals.Cause.{Cause}
use Rattle.items.specs.declared.refusals.Cause.TheVariants.{Closed, NoContent, Undeclared, Value, Full}
use Rattle.items.specs.Items.{is_note, within_limits, fed_row}
use Rattle.items.specs.Refusals.{content_refusal}
use Rattle.items.specs.Table.{row_at, item_at}
use Rattle.calls.specs.Book.{Book}

-- only a note has content
abbrev pub content_for : Item → List Item → List Item
content_for x content = cond (is_note x) content []

-- a note's row says how much content it has
abbrev pub counted : Item → List Item → Item
counted (Box h d) content = Box h d
counted (Glue w st o sh) content = Glue w st o sh
counted (Kern w) content = Kern w
counted (Penalty v) content = Penalty v
counted (Note c n) content = Note c (length content)

-- a refusal of an item or a note as a whole
abbrev pub refused_if : Bool → Cause → Option Refusal
refused_if test cause = cond test (Some (record { cause = cause; offset = 0 })) None

abbrev pub note_refusal : List (Option Class) → ℕ → List Item → Option Refusal
note_refusal classes c content =
    option_or (refused_if (length content == 0) NoContent) (option_or (refused_if (not (is_some (slice_index_or classes c None))) Undeclared) (content_refusal content))

abbrev pub item_refusal : List (Option Class) → Item → List Item → Option Refusal
item_refusal classes (Box h d) content = refused_if (not (within_limits (Box h d))) Value
item_refusal classes (Glue w st o sh) content = refused_if (not (within_limits (Glue w st o sh))) Value
item_refusal classes (Kern w) content = refused_if (not (within_limits (Kern w))) Value
item_refusal classes (Penalty v) content = refused_if (not (within_limits (Penalty v))) Value
item_refusal classes (Note c n) content = note_refusal classes c content

-- the refusal of a feed: the first that applies, where so many rows are in use of a table's
abbrev pub refusal_of : ℕ → Bool → List (Option Class) → ℕ → Item → List Item → Option Refusal
refusal_of capacity closed classes used x content =
    option_or (refused_if closed Closed) (option_or (item_refusal classes x content) (refused_if (nat_lt capacity (used + 1 + length (content_for x content))) Full))

abbrev pub refusal : ℕ → Book → Item → List Item → Option Refusal
refusal capacity b x content = refusal_of capacity b.closed b.classes (length b.rows) x content

-- the rows of an item, or of a note and its content, as number n is fed
abbrev pub fed_rows : ℕ → Item → List Item → List Row
fed_rows n x content = fed_row (counted x content) None ∷ map (λ y. fed_row y (Some n)) (content_for x content)

-- a feed that is not refused
abbrev pub fed_book : Book → Item → List Item → Book
fed_book b x content = let n = length b.rows + 1 in record b { rows = b.rows ++ fed_rows n x content; contributions = b.contributions ++ n ∷ [] }

abbrev pub closing_refusal : Bool → Option Refusal
closing_refusal closed = refused_if closed Closed

abbrev pub closed_book : Book → Book
closed_book b = record b { closed = true }

-- where an item lies: none where no item has that number; a note has no place of its own
abbrev pub place_in : List Row → ℕ → Option Place
place_in rows x = cond (nat_le 1 x && nat_le x (length rows)) (cond (is_note (item_at rows x)) None (Some (row_at rows x).place)) None
