-- A signed value and three numbers behind the mark are the record's.
use Rattle.std.proofs.Common.{Some, None, refl, w32, SFits, rules}
use Rattle.std.proofs.lemmas.Int.{to_z-of_z}
use Rattle.boxlist.specs.declared.marks.Mark.TheVariants.{Gl}
use Rattle.boxlist.proofs.Bodies.{led}
use Rattle.boxlist.proofs.cursor.Cursor.glue.Goals as goal

pub returns-in_err-stretch : goal.returns-in_err-stretch
returns-in_err-stretch c =
    rw c.from_residual-in_err-stretch.ensures
    (led Gl c.args.self.now refl c.signed_field.new.self c.fields.new.self c.in_ok-width.width c.in_ok-width.ensures None c.in_err-stretch.ensures)

pub returns : goal.returns
returns c =
    let f : SFits w32 c.in_ok-width.width = search rules in
    simp to_z-of_z
    (led Gl c.args.self.now refl c.signed_field.new.self c.fields.new.self c.in_ok-width.width c.in_ok-width.ensures (Some c.in_ok-stretch.field-0) c.in_ok-stretch.ensures)
