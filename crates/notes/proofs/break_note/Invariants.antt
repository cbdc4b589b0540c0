use Rattle.items.specs.Items.{items_of}
use Rattle.notes.specs.Walk.{Summed, Walked}
use Rattle.notes.proofs.break_note.Given as goal

abbrev pub invariant-loop-place : goal.invariant-loop-place
invariant-loop-place l = Summed (items_of l.content.rows.now) l.column l.place l.sums × Walked (items_of l.content.rows.now) l.column l.place l.best
