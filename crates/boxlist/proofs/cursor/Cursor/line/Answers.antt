-- What stands there is a record and the byte 10, or one of them is missing.
use Rattle.std.proofs.Common.{Some, ap}
use Rattle.std.proofs.lemmas.Bool.{false≢true}
use Rattle.boxlist.proofs.Lines.{no_body, same, ends}
use Rattle.boxlist.proofs.cursor.Cursor.line.Goals as goal

pub returns-in_err-record-clause-finds : goal.returns-in_err-record-clause-finds
returns-in_err-record-clause-finds c = λ q fits e. absurd (no_body c.args.self.now c.body.new.self c.in_err-record.ensures q fits e)

pub returns-in_err-end-clause-finds : goal.returns-in_err-end-clause-finds
returns-in_err-end-clause-finds c = λ q fits e.
    let r = ends c.args.self.now c.body.new.self c.in_ok-record.record c.in_ok-record.ensures q fits e in
    absurd (false≢true (c.in_err-end.ensures.finds r.0 r.1))

pub returns-clause-finds : goal.returns-clause-finds
returns-clause-finds c = λ q fits e. ap Some (same c.args.self.now c.body.new.self c.in_ok-record.record c.in_ok-record.ensures q fits e)
