-- A walk over a note's content that looks for its best break.
use Rattle.std.specs.Prelude.{◌≡◌, ℕ, ◌+◌, ◌≤◌, List, length, take, drop, Some, Option}
use Rattle.std.specs.declared.ops.ControlFlow.{ControlFlow}
use Rattle.std.specs.declared.ops.ControlFlow.TheVariants.{Continue, Break}
use Rattle.items.specs.declared.Item.{Item}
use Rattle.items.specs.declared.Row.{Row}
use Rattle.items.specs.Items.{items_of}
use Rattle.cost.specs.declared.sums.Sums.{Sums}
use Rattle.notes.specs.declared.column.Column.{Column}
use Rattle.notes.specs.declared.NoteBreak.{NoteBreak}
use Rattle.notes.specs.Break.{sums_of, candidates, best_of, break_of}

-- the sums of the items before a place
abbrev pub Summed : List Item → Column → ℕ → Sums → Type 0
Summed items c k s = s ≡ sums_of c.depth (take k items)

-- the best so far, and the candidates from a place on, give the note's break
abbrev pub Walked : List Item → Column → ℕ → Option NoteBreak → Type 0
Walked items c k best = break_of items c.height c.depth ≡ best_of best (candidates c.height c.depth (take k items) (drop k items))

-- the note's break
pub record Found (rows : List Row) (c : Column) (b : NoteBreak) : Type 0 where
  pub best : Some b ≡ break_of (items_of rows) c.height c.depth
  pub place : b.place ≤ length rows

-- what a look at one place leaves: the note's break, or the walk one place on
abbrev pub LookedAt : List Row → Column → ℕ → ControlFlow NoteBreak (Option NoteBreak) → Type 0
LookedAt rows c k (Break b) = Found rows c b
LookedAt rows c k (Continue best) = Walked (items_of rows) c (k + 1) best
