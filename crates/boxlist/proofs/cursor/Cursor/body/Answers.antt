-- Behind these marks stand numbers alone.
use Rattle.std.proofs.Common.{refl}
use Rattle.boxlist.specs.declared.marks.Mark.TheVariants.{St, Cl, Bx, Nt}
use Rattle.boxlist.proofs.Bodies.{numbers_behind}
use Rattle.boxlist.proofs.cursor.Cursor.body.Goals as goal

pub returns-in-St : goal.returns-in-St
returns-in-St c = numbers_behind St c.in-St.is refl c.in_ok-mark.ensures c.settings.ensures

pub returns-in-Cl : goal.returns-in-Cl
returns-in-Cl c = numbers_behind Cl c.in-Cl.is refl c.in_ok-mark.ensures c.class.ensures

pub returns-in-Bx : goal.returns-in-Bx
returns-in-Bx c = numbers_behind Bx c.in-Bx.is refl c.in_ok-mark.ensures c.plain_box.ensures

pub returns-in-Nt : goal.returns-in-Nt
returns-in-Nt c = numbers_behind Nt c.in-Nt.is refl c.in_ok-mark.ensures c.note.ensures
