-- What the current page comes to, from its list of items and notes alone.
use Rattle.std.specs.Prelude.{ℕ, ◌-◌, Bool, true, false, cond, ◌&&◌, ◌||◌, List, [], ◌∷◌, replicate, ℤ, pos, ◌+ℤ◌, ◌-ℤ◌, Some, None, fold, Option, int_le, slice_index_or, slice_set, unwrap_or}
use Rattle.std.specs.Int.{int_min}
use Rattle.std.specs.Option.{is_some, option_map}
use Rattle.items.specs.declared.Item.{Item}
use Rattle.items.specs.declared.Item.TheVariants.{Box, Glue, Kern, Penalty, Note}
use Rattle.items.specs.declared.Row.{Row}
use Rattle.items.specs.declared.Settings.{Settings}
use Rattle.items.specs.declared.Class.{Class}
use Rattle.items.specs.Items.{size_of}
use Rattle.items.specs.Limits.{undeclared}
use Rattle.items.specs.Table.{item_at, items_at, remaining}
use Rattle.cost.specs.declared.sums.Sums.{Sums}
use Rattle.cost.specs.Sums.{none, weighed}
use Rattle.notes.specs.declared.NoteBreak.{NoteBreak}
use Rattle.notes.specs.Break.{break_of}
use Rattle.page.specs.declared.Ground.{Ground}
use Rattle.page.specs.declared.ClassSoFar.{ClassSoFar}
use Rattle.page.specs.declared.PageSoFar.{PageSoFar}
use Rattle.page.specs.declared.Taken.{Taken}

abbrev pub sizes : List Item → ℤ
sizes [] = pos 0
sizes (x ∷ xs) = size_of x +ℤ sizes xs

abbrev pub fresh : Ground → PageSoFar
fresh g = record { goal = pos g.settings.size; sums = none; notes = pos 0; boxes = false; classes = replicate 8 None }

abbrev pub with_sums : PageSoFar → Sums → PageSoFar
with_sums m s = record { goal = m.goal; sums = s; notes = m.notes; boxes = m.boxes; classes = m.classes }

abbrev pub with_class : PageSoFar → ℕ → ClassSoFar → PageSoFar
with_class m c k = record { goal = m.goal; sums = m.sums; notes = m.notes; boxes = m.boxes; classes = slice_set m.classes c (Some k) }

-- a height goes off the goal
abbrev pub lowered : PageSoFar → ℤ → PageSoFar
lowered m height = record { goal = m.goal -ℤ height; sums = m.sums; notes = m.notes; boxes = m.boxes; classes = m.classes }

-- something joins what notes add to the cost of a break
abbrev pub dearer : PageSoFar → ℤ → PageSoFar
dearer m extra = record { goal = m.goal; sums = m.sums; notes = m.notes +ℤ extra; boxes = m.boxes; classes = m.classes }

abbrev pub led : Sums → ℕ → Sums
led s n = record { total = s.total +ℤ pos n; depth = s.depth; stretch = s.stretch; shrink = s.shrink }

-- a page's first box stands at least `top` below the page's edge
abbrev pub with_lead : Settings → PageSoFar → ℕ → Sums
with_lead s m h = cond m.boxes m.sums (led m.sums (s.top - h))

abbrev pub with_box : Settings → PageSoFar → ℕ → ℕ → PageSoFar
with_box s m h d = record { goal = m.goal; sums = weighed s.depth (with_lead s m h) (Box h d); notes = m.notes; boxes = true; classes = m.classes }

-- a class on the page, from its first note on
abbrev pub class_of : PageSoFar → ℕ → Option ClassSoFar
class_of m c = slice_index_or m.classes c None

-- what counts for a class, declared or not
abbrev pub rules_of : Ground → ℕ → Class
rules_of g c = unwrap_or (slice_index_or g.classes c None) undeclared

abbrev pub shelf_size : Ground → ℕ → ℤ
shelf_size g c = slice_index_or g.shelved c (pos 0)

-- how high a class is so far: before its first note, what lies on its shelf
abbrev pub height_of : Ground → PageSoFar → ℕ → ℤ
height_of g m c = unwrap_or (option_map (λ k. k.height) (class_of m c)) (shelf_size g c)

-- a class's first note makes room for what is on the shelf, and for the skip
abbrev pub begins : Ground → PageSoFar → ℕ → PageSoFar
begins g m c = lowered m (shelf_size g c +ℤ pos (rules_of g c).skip)

abbrev pub begin : Ground → PageSoFar → ℕ → PageSoFar
begin g m c = cond (is_some (class_of m c)) m (begins g m c)

-- what is left of a note
abbrev pub items_left : List Row → ℕ → List Item
items_left rows x = items_at rows (remaining rows x)

-- a class so high with one more note, its last
abbrev pub joined_by : ℤ → ℕ → Taken → ClassSoFar
joined_by height x t = record { height = height +ℤ t.height; last = x; broken = t.broken }

-- what goes on the page of a note: all of its items, or those before its break
abbrev pub all_of : List Item → Taken
all_of items = record { height = sizes items; adds = pos 0; broken = None }

abbrev pub part_of : NoteBreak → Taken
part_of k = record { height = k.height; adds = k.penalty; broken = Some k.place }

-- a note becomes the last of its class: its height goes off the goal
abbrev pub takes : Ground → PageSoFar → ℕ → ℕ → Taken → PageSoFar
takes g m c x t = with_class (dearer (lowered m t.height) t.adds) c (joined_by (height_of g m c) x t)

abbrev pub broken : Ground → PageSoFar → ℕ → ℕ → Option NoteBreak → PageSoFar
broken g m c x None = m
broken g m c x (Some k) = takes g m c x (part_of k)

-- a note floats: it only costs
abbrev pub floats : Ground → PageSoFar → ℕ → PageSoFar
floats g m c = dearer m (pos (rules_of g c).floating)

-- the room between what the page has and its goal, and what a class has left of its limit
abbrev pub room_on : PageSoFar → ℤ
room_on m = m.goal -ℤ m.sums.total -ℤ pos m.sums.depth

abbrev pub room_in : Class → ℤ → ℤ
room_in rules height = pos rules.limit -ℤ height

-- whether the page has room for all of a note of a size, if need be by shrinking, and whether its class has
abbrev pub fits_page : PageSoFar → ℤ → Bool
fits_page m size = int_le size (pos 0) || int_le size (room_on m +ℤ pos m.sums.shrink)

abbrev pub fits_class : Class → ℤ → ℤ → Bool
fits_class rules height size = int_le (height +ℤ size) (pos rules.limit)

abbrev pub stays_whole : Ground → PageSoFar → ℕ → ℤ → Bool
stays_whole g m c size = fits_page m size && fits_class (rules_of g c) (height_of g m c) size

-- how high the part of a note before its break is to be
abbrev pub wanted : Ground → PageSoFar → ℕ → ℤ
wanted g m c = int_min (room_on m) (room_in (rules_of g c) (height_of g m c))

abbrev pub break_for : Ground → PageSoFar → ℕ → List Item → Option NoteBreak
break_for g m c items = break_of items (wanted g m c) (rules_of g c).depth

-- a class whose last note the page splits
abbrev pub is_split : Option ClassSoFar → Bool
is_split None = false
is_split (Some k) = is_some k.broken

-- a note arrives: it floats where its class is split, stays whole where there is room, and is broken otherwise
abbrev pub with_note : Ground → PageSoFar → ℕ → ℕ → List Item → PageSoFar
with_note g m x c items =
    cond (is_split (class_of m c)) (floats g m c)
    (cond (stays_whole g m c (sizes items)) (takes g m c x (all_of items)) (broken g m c x (break_for g m c items)))

-- an item that is neither a box nor a note
abbrev pub with_text : Settings → PageSoFar → Item → PageSoFar
with_text s m x = with_sums m (weighed s.depth m.sums x)

abbrev pub with_item : Ground → List Row → PageSoFar → ℕ → Item → PageSoFar
with_item g rows m x (Box h d) = with_box g.settings m h d
with_item g rows m x (Glue w st o sh) = with_text g.settings m (Glue w st o sh)
with_item g rows m x (Kern w) = with_text g.settings m (Kern w)
with_item g rows m x (Penalty v) = with_text g.settings m (Penalty v)
with_item g rows m x (Note c n) = with_note g (begin g m c) x c (items_left rows x)

-- one more number on the page
abbrev pub next : Ground → List Row → PageSoFar → ℕ → PageSoFar
next g rows m x = with_item g rows m x (item_at rows x)

-- the page of a list of items and notes
abbrev pub so_far : Ground → List Row → List ℕ → PageSoFar
so_far g rows xs = fold (next g rows) (fresh g) xs
