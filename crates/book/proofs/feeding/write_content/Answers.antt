use Rattle.std.proofs.Common.{◌+◌, Some, arith}
use Rattle.items.specs.Items.{fed_row}
use Rattle.book.proofs.Writing.{written_more, written_rest}
use Rattle.book.proofs.feeding.write_content.Goals as goal

pub loop-i-preserved : goal.loop-i-preserved
loop-i-preserved c =
    let at = c.args.at in
    let i = c.loop-i.i in
    let was = c.args.rows.now in
    let rows = c.loop-i.rows in
    record {
      written = written_more (λ y. fed_row y (Some c.args.note)) was rows c.args.content.now at i _ c.fed.result (omega (arith, c.loop-i.auto.rows, c.requires.room)) (omega arith) c.loop-i.invariant.written c.fed.ensures;
      rest = written_rest was rows (at + i) (at + (i + 1)) c.fed.result (omega arith) c.loop-i.invariant.rest;
    }
