-- The item passed is within its limits, and is the next of the sums.
use Rattle.std.proofs.Common.{get_or, take, sym, ap, ◌∙◌, arith}
use Rattle.std.proofs.lemmas.List.{length-map}
use Rattle.std.proofs.lemmas.List.Sums.{fold_push}
use Rattle.items.specs.Items.{items_of, blank}
use Rattle.cost.specs.Sums.{none, weighed}
use Rattle.notes.specs.Break.{sums_of}
use Rattle.notes.proofs.Ends.{items_of_take, row_within}
use Rattle.notes.proofs.Walk.{summed_roomy}
use Rattle.notes.proofs.pass.Goals as goal

pub add-requires : goal.add-requires
add-requires c =
    let rows = c.args.content.rows.now in
    record {
      within = row_within rows c.args.place blank c.requires.place c.args.content.within;
      roomy = summed_roomy (items_of rows) c.args.column c.args.place (simp length-map (omega arith)) c.args.sums.now c.args.content.within (simp length-map c.args.content.short) c.requires.summed;
    }

pub returns : goal.returns
returns c =
    let rows = c.args.content.rows.now in
    let d = c.args.column.depth in
    let x = (get_or rows c.args.place blank).item in
    c.add.ensures ∙ ap (λ s. weighed d s x) c.requires.summed ∙ sym (fold_push (weighed d) none (take c.args.place (items_of rows)) x) ∙
    sym (ap (sums_of d) (items_of_take rows c.args.place blank c.requires.place))
