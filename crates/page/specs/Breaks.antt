-- Where the current page may break, and its best break.
use Rattle.std.specs.Prelude.{ℕ, Bool, true, false, cond, not, ◌&&◌, ◌||◌, List, [], ◌∷◌, map, ℤ, Some, None, Option}
use Rattle.std.specs.Option.{option_map}
use Rattle.items.specs.declared.Item.{Item}
use Rattle.items.specs.declared.Row.{Row}
use Rattle.items.specs.Items.{is_box, is_glue, is_note}
use Rattle.items.specs.Table.{items_at}
use Rattle.cost.specs.Cost.{break_cost, stops, forced}
use Rattle.cost.specs.Sums.{fit_of}
use Rattle.cost.specs.Least.{least}
use Rattle.notes.specs.Break.{last_is, first_is, free, penalty_before}
use Rattle.page.specs.declared.ClassSoFar.{ClassSoFar}
use Rattle.page.specs.declared.PageSoFar.{PageSoFar}
use Rattle.page.specs.declared.breaks.PageBreak.{PageBreak}
use Rattle.page.specs.declared.breaks.Ahead.{Ahead}
use Rattle.page.specs.declared.breaks.Ahead.TheVariants.{Items, Waiting, End}

abbrev pub empty : {A : Type 0} → List A → Bool
empty [] = true
empty (x ∷ xs) = false

-- the penalty of the place between the page and what follows it, where a break may be there: before a page's
-- first box where notes are on it, and once it has a box as in a note, but at glue after a note too; at a closed
-- book's end the page breaks
abbrev pub penalty_at : Bool → PageSoFar → List Item → List Item → Option ℤ
penalty_at closed m page [] = cond (closed && not (empty page)) (Some forced) None
penalty_at closed m page (x ∷ rest) =
    cond m.boxes (penalty_before (last_is (λ y. is_box y || is_note y) page) x (first_is is_glue rest)) (free (is_box x && not (empty page)))

-- a class's last note on the page
abbrev pub last_note : Option ClassSoFar → Option ℕ
last_note k = option_map (λ k. k.last) k

-- the break at a place, after that many of the page's items
abbrev pub break_here : PageSoFar → ℕ → ℤ → PageBreak
break_here m place p =
    record { place = place; cost = break_cost (fit_of m.goal m.sums) p m.notes; goal = m.goal; last = map last_note m.classes }

-- the best break, once the place after the page has been looked at
abbrev pub best_with : PageSoFar → ℕ → Option PageBreak → Option ℤ → Option PageBreak
best_with m place best None = best
best_with m place best (Some p) = least (λ b. b.cost) best (break_here m place p)

abbrev pub fires_with : PageSoFar → ℕ → Option ℤ → Bool
fires_with m place None = false
fires_with m place (Some p) = stops (break_here m place p).cost p

abbrev pub listed : Option Item → List Item
listed None = []
listed (Some x) = x ∷ []

-- what follows the page, as far as a place looks
abbrev pub items_ahead : Ahead → List Item
items_ahead (Items x after) = x ∷ listed after
items_ahead Waiting = []
items_ahead End = []

-- whether a closed book ends there
abbrev pub closes : Ahead → Bool
closes (Items x after) = false
closes Waiting = false
closes End = true

-- the penalty of the place after the page of a list
abbrev pub penalty_here : PageSoFar → List Row → List ℕ → Ahead → Option ℤ
penalty_here m rows page ahead = penalty_at (closes ahead) m (items_at rows page) (items_ahead ahead)
