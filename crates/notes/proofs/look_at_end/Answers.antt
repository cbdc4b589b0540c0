-- The end is the walk's last place.
use Rattle.std.proofs.Common.{length, Some, ap, ◌∙◌, arith}
use Rattle.std.proofs.lemmas.List.{length-map}
use Rattle.items.specs.Items.{items_of}
use Rattle.cost.specs.Least.{least}
use Rattle.notes.proofs.Places.{break_within}
use Rattle.notes.proofs.Walk.{price, summed_roomy, walk_ends}
use Rattle.notes.proofs.look_at_end.Goals as goal

pub at-requires-clause-total : goal.at-requires-clause-total
at-requires-clause-total c =
    let rows = c.args.content.rows.now in
    (summed_roomy (items_of rows) c.args.column (length rows) (simp length-map (omega arith)) c.args.before.now c.args.content.within (simp length-map c.args.content.short) c.requires.summed).total

pub returns : goal.returns
returns c =
    let rows = c.args.content.rows.now in
    let best =
    walk_ends (items_of rows) c.args.column (length rows) (simp length-map (omega arith)) c.args.before.now c.args.best c.requires.summed c.requires.walked
    (Some c.least.result) (simp length-map (omega arith)) (c.least.ensures.last_of_the_least ∙ ap (least price c.args.best) c.at.ensures.break_there) in
    let place = break_within (items_of rows) c.args.column.height c.args.column.depth c.least.result best in
    record { best = best; place = simp length-map at place }
