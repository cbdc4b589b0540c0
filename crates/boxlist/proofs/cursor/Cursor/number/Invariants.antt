use Rattle.std.proofs.Common.{length}
use Rattle.boxlist.specs.Parts.{small}
use Rattle.boxlist.proofs.Numbers.{Sofar}
use Rattle.boxlist.proofs.cursor.Cursor.number.Given as goal

abbrev pub invariant-loop-digit : goal.invariant-loop-digit
invariant-loop-digit l = Sofar l.initial.self l.self l.n × small l.n

abbrev pub decreases-loop-digit : goal.decreases-loop-digit
decreases-loop-digit l = length l.self.rest.now
