use Rattle.std.proofs.Common.{◌≡◌, ◌-◌, ◌<◌, ◌≤◌}
use Rattle.boxlist.specs.Order.{owing}
use Rattle.boxlist.specs.Reading.{Gathered}
use Rattle.boxlist.proofs.list.BoxList.gather.Given as goal

abbrev pub invariant-loop-i : goal.invariant-loop-i
invariant-loop-i l =
    Gathered l.initial.self l.self l.initial.table l.table l.i × (l.i < l.count → l.self.stage ≡ owing (l.count - l.i)) × (l.i ≤ l.self.reader.pos) ×
    (l.self.reader.text ≡ l.initial.self.reader.text)
