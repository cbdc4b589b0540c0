use Rattle.std.proofs.Common.{◌-◌, length}
use Rattle.boxlist_tests.proofs.reads.read.Given as goal

abbrev pub decreases-loop : goal.decreases-loop
decreases-loop l = length l.list.reader.text.now - l.list.reader.pos
