-- Each turn reads one field more, and a field that is not there ends the reading.
use Rattle.boxlist.proofs.Fields.{fails, another}
use Rattle.boxlist.proofs.cursor.Cursor.fields.Goals as goal

pub loop-number-preserved : goal.loop-number-preserved
loop-number-preserved g c = another c.field.new.self c.loop-number.invariant c.loop-number-test.true _ c.in_ok-number.ensures

pub returns-in_err-number : goal.returns-in_err-number
returns-in_err-number g c =
    rw c.from_residual.ensures (fails c.field.new.self c.loop-number.invariant c.loop-number-test.true c.in_err-number.ensures)
