use Rattle.std.proofs.Common.{◌-◌, length}
use Rattle.book.specs.View.{contents_of, Kept}
use Rattle.notesplit.proofs.galley.feed_text.Given as goal

-- the tables keep the book
abbrev pub invariant-loop-read : goal.invariant-loop-read
invariant-loop-read l = Kept l.book (contents_of l.tables l.shelves)

-- what is left of the text
abbrev pub decreases-loop-read : goal.decreases-loop-read
decreases-loop-read l = length l.list.reader.text.now - l.list.reader.pos
