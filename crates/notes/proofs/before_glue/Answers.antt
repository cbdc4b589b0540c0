use Rattle.std.proofs.Common.{length, sym, ap, ◌∙◌, arith}
use Rattle.std.proofs.lemmas.List.{length-map, drop_all}
use Rattle.std.proofs.lemmas.Bool.{le-ltb}
use Rattle.items.specs.Items.{is_glue, items_of}
use Rattle.notes.specs.Break.{first_is}
use Rattle.notes.proofs.Ends.{first_is_at}
use Rattle.notes.proofs.before_glue.Goals as goal

pub returns-then-place-content : goal.returns-then-place-content
returns-then-place-content c = c.is_glue.ensures ∙ sym (first_is_at c.args.content.rows.now c.args.place _ c.if-place-content.true is_glue)

pub returns-else-place-content : goal.returns-else-place-content
returns-else-place-content c =
    let rows = c.args.content.rows.now in
    le-ltb c.args.place (length rows) c.if-place-content.false ∙ sym (ap (first_is is_glue) (drop_all c.args.place (items_of rows) (simp length-map (omega arith))))
