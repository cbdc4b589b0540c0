-- What is left of the search after one more candidate is as the walk has it.
use Rattle.std.proofs.Common.{◌≡◌, ℕ, ◌<◌, List, length, take, drop, ℤ, Some, Option, arith}
use Rattle.std.specs.declared.ops.ControlFlow.{ControlFlow}
use Rattle.std.specs.declared.ops.ControlFlow.TheVariants.{Continue, Break}
use Rattle.std.proofs.lemmas.List.{length-map}
use Rattle.items.specs.declared.Row.{Row}
use Rattle.items.specs.Items.{items_of, blank}
use Rattle.cost.specs.declared.sums.Sums.{Sums}
use Rattle.cost.specs.Least.{least, is_over}
use Rattle.cost.specs.Least as search
use Rattle.notes.specs.declared.column.Column.{Column}
use Rattle.notes.specs.declared.NoteBreak.{NoteBreak}
use Rattle.notes.specs.Break.{note_penalty, break_with, ends}
use Rattle.notes.specs.Walk.{Summed, Walked, LookedAt}
use Rattle.notes.proofs.Ends.{items_of_take, items_of_drop}
use Rattle.notes.proofs.Places.{break_within}
use Rattle.notes.proofs.Walk.{price, walk_looks, walk_stops}

module _ (rows : List Row) (c : Column) (k : ℕ) (l : k < length rows) (s : Sums) (best : Option NoteBreak) (summed : Summed (items_of rows) c k s) (walked : Walked (items_of rows) c k best) (p : ℤ) (q : Some p ≡ note_penalty (take k (items_of rows)) (drop k (items_of rows))) where
  pub looked_at : (r : ControlFlow NoteBreak (Option NoteBreak)) → search.best_of r ≡ least price best (break_with c.height k s p) → is_over r ≡ ends (break_with c.height k s p) → LookedAt rows c k r
  looked_at (Continue now) is over =
      walk_looks (items_of rows) c k (simp length-map (omega arith)) s best summed walked _ (items_of_take rows k blank l) (items_of_drop rows k blank l) p now q is over
  looked_at (Break now) is over =
      let found = walk_stops (items_of rows) c k (simp length-map (omega arith)) s best summed walked _ (items_of_take rows k blank l) (items_of_drop rows k blank l) p (Some now) q is over in
      let place = break_within (items_of rows) c.height c.depth now found in
      record { best = found; place = simp length-map at place }
