-- What the current page of a book comes to, and its best break.
use Rattle.std.specs.Prelude.{Bool, map, length, ℤ, Option}
use Rattle.items.specs.Table.{items_at, shelf_items}
use Rattle.page.specs.declared.Ground.{Ground}
use Rattle.page.specs.declared.PageSoFar.{PageSoFar}
use Rattle.page.specs.declared.breaks.PageBreak.{PageBreak}
use Rattle.page.specs.PageSoFar.{sizes, so_far}
use Rattle.page.specs.Breaks.{penalty_at, best_with, fires_with}
use Rattle.calls.specs.Book.{Book}

abbrev pub ground_of : Book → Ground
ground_of b = record { settings = b.settings; classes = b.classes; shelved = map (λ s. sizes (items_at b.rows (shelf_items s))) b.shelves }

abbrev pub on_page : Book → PageSoFar
on_page b = so_far (ground_of b) b.rows b.page

-- the place between the page and the contributions: its penalty, where a break may be there, the best break once
-- it has been looked at, and whether the page fires then
abbrev pub penalty_here : Book → Option ℤ
penalty_here b = penalty_at b.closed (on_page b) (items_at b.rows b.page) (items_at b.rows b.contributions)

abbrev pub best_here : Book → Option PageBreak
best_here b = best_with (on_page b) (length b.page) b.best (penalty_here b)

abbrev pub fires_here : Book → Bool
fires_here b = fires_with (on_page b) (length b.page) (penalty_here b)
