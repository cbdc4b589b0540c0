-- The numbers of a page have room for one more item.
use Rattle.page.proofs.Bounds.{standing_ready}
use Rattle.page.proofs.PageSoFar.add.Goals as goal

pub put-requires-clause-ready : goal.put-requires-clause-ready
put-requires-clause-ready c =
    standing_ready c.args.basis.now c.args.rows.now c.requires.standing.0 c.args.self.now c.requires.standing.1 c.args.x c.requires.arriving.inside.first
