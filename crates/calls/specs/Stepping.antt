-- One step of a book: what it answers and leaves, or that it fires.
use Rattle.std.specs.Prelude.{ℕ, Bool, true, false, cond, not, ◌&&◌, List, [], ◌∷◌, ◌++◌, Some, None, Option}
use Rattle.items.specs.declared.Item.{Item}
use Rattle.items.specs.declared.Item.TheVariants.{Box, Glue, Kern, Penalty, Note}
use Rattle.items.specs.declared.Place.TheVariants.{Dropped}
use Rattle.items.specs.Items.{is_discardable}
use Rattle.items.specs.Table.{item_at, change_all, put}
use Rattle.cost.specs.Cost.{forced}
use Rattle.page.specs.declared.breaks.PageBreak.{PageBreak}
use Rattle.page.specs.Breaks.{empty}
use Rattle.calls.specs.Book.{Book, Output}
use Rattle.calls.specs.OnPage.{on_page, best_here, fires_here}
use Rattle.calls.specs.Firing.{fired_book, fired_output}

pub data Answer : Type 0 where
  waiting : Answer
  moved : ℕ → Answer
  dropped : ℕ → Answer
  done : Answer

-- the book stays open with an answer, or it is fired
pub data Step : Type 0 where
  stays : Answer → Book → Step
  fires : Book → Output → Step

-- the first contribution is dropped, and the rest of them are left
abbrev pub without : Book → ℕ → List ℕ → Book
without b x rest = record b { rows = change_all (put Dropped) b.rows (x ∷ []); contributions = rest }

-- or it goes onto the page, after a look at the place before it
abbrev pub onto : Book → ℕ → List ℕ → Book
onto b x rest = record b { contributions = rest; page = b.page ++ x ∷ []; best = best_here b }

abbrev pub fire_at : Book → Option PageBreak → Step
fire_at b None = stays waiting b
fire_at b (Some at) = fires (fired_book b at) (fired_output b at)

-- a kern is looked at only when it is known what follows it
abbrev pub lone_kern : Item → List ℕ → Bool
lone_kern (Box h d) rest = false
lone_kern (Glue w st o sh) rest = false
lone_kern (Kern w) rest = empty rest
lone_kern (Penalty v) rest = false
lone_kern (Note c n) rest = false

-- before a page's first box, glue, kerns and penalties are dropped
abbrev pub next : Book → ℕ → List ℕ → Step
next b x rest =
    let boxes = (on_page b).boxes in
    cond (not b.closed && boxes && lone_kern (item_at b.rows x) rest) (stays waiting b)
    (cond (is_discardable (item_at b.rows x) && not boxes) (stays (dropped x) (without b x rest))
    (cond (fires_here b) (fire_at b (best_here b)) (stays (moved x) (onto b x rest))))

-- the last firing is that of an empty page
abbrev pub last_output : Output
last_output = record { body = []; waiting = []; penalty = forced; final = true }

abbrev pub at_end : Book → Step
at_end b = cond (empty b.page) (fires b last_output) (fire_at b (best_here b))

abbrev pub contributed : Book → List ℕ → Step
contributed b [] = cond b.closed (at_end b) (stays waiting b)
contributed b (x ∷ rest) = next b x rest

abbrev pub stepped : Book → Step
stepped b = cond b.done (stays done b) (contributed b b.contributions)
