use Rattle.boxlist.proofs.Fields.{Read}
use Rattle.boxlist.proofs.cursor.Cursor.fields.Given as goal

abbrev pub invariant-loop-number : goal.invariant-loop-number
invariant-loop-number g l = Read g.row.N l.initial.self l.self l.number-index l.number-items
