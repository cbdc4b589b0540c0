-- Behind a minus stands a number that is not 0.
use Rattle.std.proofs.Common.{Some, None, subst}
use Rattle.boxlist.specs.Parts.{Exactly}
use Rattle.boxlist.specs.Texts.{field}
use Rattle.boxlist.proofs.Fields.{minus, negative_is}
use Rattle.boxlist.proofs.Passes.{passed_both}
use Rattle.boxlist.proofs.cursor.Cursor.signed_field.Goals as goal

pub returns-in_err-number-in-Some : goal.returns-in_err-number-in-Some
returns-in_err-number-in-Some c =
    let p = passed_both c.in_ok-skip.ensures.cases c.in-Some.ensures.cases in
    rw c.from_residual-in_err-number-in-Some.ensures (minus c.args.self.now c.skip-2.new.self c.number.new.self p None c.in_err-number-in-Some.ensures)

pub returns-in_ok-number-in-Some : goal.returns-in_ok-number-in-Some
returns-in_ok-number-in-Some c =
    let p = passed_both c.in_ok-skip.ensures.cases c.in-Some.ensures.cases in
    let n = c.in_ok-number-in-Some.field-0 in
    subst (Exactly field _ c.args.self.now c.number.new.self) (negative_is n c.negative.result c.negative.ensures)
    (minus c.args.self.now c.skip-2.new.self c.number.new.self p (Some n) c.in_ok-number-in-Some.ensures)
