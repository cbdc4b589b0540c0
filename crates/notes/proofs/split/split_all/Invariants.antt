use Rattle.items.specs.Items.{items_of}
use Rattle.notes.proofs.Splitting.{Splitting}
use Rattle.notes.proofs.split.split_all.Given as goal

abbrev pub invariant-loop-count : goal.invariant-loop-count
invariant-loop-count l = Splitting (items_of l.content.rows.now) l.wanted l.depth l.initial.parts l.parts (record { count = l.count; rest = l.rest })
