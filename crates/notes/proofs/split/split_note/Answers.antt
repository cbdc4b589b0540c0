use Rattle.notes.proofs.Accepted.{split_drops_discardable}
use Rattle.notes.proofs.split.split_note.Goals as goal

pub returns-clause-only_discardable_dropped : goal.returns-clause-only_discardable_dropped
returns-clause-only_discardable_dropped c =
    split_drops_discardable c.args.rows.now c.args.wanted.now c.args.depth c.args.parts.now c.split_all.new.parts c.split_all.result c.split_all.ensures.split
