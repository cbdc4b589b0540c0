-- The place is a step of the walk.
use Rattle.std.proofs.Common.{ap, ◌∙◌, arith, w32, SFits, to_z, of_z, rules}
use Rattle.std.proofs.lemmas.List.{length-map}
use Rattle.std.proofs.lemmas.Int.{to_z-of_z}
use Rattle.items.specs.Items.{items_of, blank}
use Rattle.notes.proofs.Ends.{items_of_take, items_of_drop}
use Rattle.cost.specs.Cost.{stops}
use Rattle.cost.specs.Least.{least}
use Rattle.notes.specs.declared.NoteBreak.{NoteBreak}
use Rattle.notes.proofs.Looks.{looked_at}
use Rattle.notes.proofs.Walk.{price, summed_roomy, walk_passes}
use Rattle.notes.proofs.look.Goals as goal

pub at-requires-clause-total : goal.at-requires-clause-total
at-requires-clause-total c =
    let items = items_of c.args.content.rows.now in
    (summed_roomy items c.args.column c.args.place (simp length-map (omega arith)) c.args.before.now c.args.content.within (simp length-map c.args.content.short) c.requires.summed).total

pub returns-in-Some : goal.returns-in-Some
returns-in-Some c =
    let rows = c.args.content.rows.now in
    let g : SFits w32 c.in-Some.penalty = search rules in
    let best = simp to_z-of_z at (c.weigh.ensures.best ∙ ap (least price c.args.best) c.at.ensures.break_there) in
    let over = simp to_z-of_z at (c.weigh.ensures.over ∙ ap (λ (b : NoteBreak). stops b.cost (to_z w32 (of_z w32 c.in-Some.penalty))) c.at.ensures.break_there) in
    looked_at rows c.args.column c.args.place c.requires.place c.args.before.now c.args.best c.requires.summed c.requires.walked c.in-Some.penalty c.in-Some.ensures c.weigh.result best over

pub returns-in-None : goal.returns-in-None
returns-in-None c =
    let rows = c.args.content.rows.now in
    let k = c.args.place in
    walk_passes (items_of rows) c.args.column k (simp length-map (omega arith)) c.args.before.now c.args.best c.requires.summed c.requires.walked _
    (items_of_take rows k blank c.requires.place) (items_of_drop rows k blank c.requires.place) c.in-None.ensures
