-- The cell written is that of the next entry at the back.
use Rattle.std.proofs.Common.{◌+◌, set, ap, ◌∙◌}
use Rattle.queue.specs.Queues.{list_of}
use Rattle.queue.proofs.Rings.{pushed_back}
use Rattle.queue.proofs.write_behind.Goals as goal

pub returns : goal.returns
returns g c =
    let q = c.args.queue in
    let cells = c.args.cells.now in
    ap (λ p. list_of (record { head = q.head; len = q.len + 1 }) (set cells p c.args.x)) c.cell-at.ensures.place ∙ pushed_back q cells c.args.x c.requires.within c.requires.room
