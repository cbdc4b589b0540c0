-- The column is the definition's, and a break is never high.
use Rattle.std.proofs.Common.{ap, ◌∙◌, arith}
use Rattle.std.proofs.lemmas.List.{length-map}
use Rattle.items.specs.Items.{items_of}
use Rattle.notes.specs.Break.{break_of}
use Rattle.page.specs.PageSoFar.{wanted}
use Rattle.page.proofs.Heights.{break_modest}
use Rattle.page.proofs.PageSoFar.break_for.Goals as goal

pub returns : goal.returns
returns c =
    let items = items_of c.args.content.rows.now in
    let found = c.break_note.ensures.best in
    let modest = break_modest items c.column.result.height c.column.result.depth c.break_note.result c.args.content.within (simp length-map c.args.content.short) found in
    record {
      best = found ∙ ap (λ w. break_of items w c.column.result.depth) c.column.ensures.height ∙ ap (break_of items (wanted c.args.basis.now c.args.self.now c.args.class)) c.column.ensures.depth;
      height = omega (arith, modest.height);
      penalty = modest.penalty;
    }
