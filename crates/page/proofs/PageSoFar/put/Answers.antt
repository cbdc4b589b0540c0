-- A note's class is begun, and then the note arrives on low numbers.
use Rattle.std.proofs.Common.{sym, subst}
use Rattle.page.specs.Low.{Low}
use Rattle.page.proofs.PageSoFar.put.Goals as goal

pub begin-requires : goal.begin-requires
begin-requires c = c.requires.ready.arrived c.in-Note.class c.in-Note.count c.in-Note.is

pub arrive-requires : goal.arrive-requires
arrive-requires c = subst (λ m. Low c.args.basis.now m c.in-Note.class) (sym c.begin.ensures) (c.requires.ready.begun c.in-Note.class c.in-Note.count c.in-Note.is)
