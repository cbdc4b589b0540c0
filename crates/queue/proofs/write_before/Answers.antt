-- The cell written is the one before the front.
use Rattle.std.proofs.Common.{◌+◌, set, ap, ◌∙◌}
use Rattle.queue.specs.Queues.{list_of}
use Rattle.queue.proofs.Rings.{pushed_front}
use Rattle.queue.proofs.write_before.Goals as goal

pub returns : goal.returns
returns g c =
    let q = c.args.queue in
    let cells = c.args.cells.now in
    record {
      list =
          ap (λ p. list_of (record { head = p; len = q.len + 1 }) (set cells p c.args.x)) c.cell_before-at.ensures.place ∙
          pushed_front q cells c.args.x c.requires.within c.requires.room;
      within = c.cell_before-at.ensures.within;
    }
