use Rattle.std.proofs.Common.{◌-◌, length}
use Rattle.notesplit.proofs.galley.Head.of.Given as goal

-- what is left of the text
abbrev pub decreases-loop-read : goal.decreases-loop-read
decreases-loop-read l = length l.list.reader.text.now - l.list.reader.pos
