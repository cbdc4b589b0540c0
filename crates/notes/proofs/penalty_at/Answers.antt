-- The three that are asked are those around the place.
use Rattle.std.proofs.Common.{◌≡◌, ℕ, ◌+◌, ◌<◌, Bool, List, length, get_or, take, drop, ℤ, Option, sym, ap, ◌∙◌}
use Rattle.items.specs.declared.Row.{Row}
use Rattle.items.specs.Items.{is_box, is_glue, items_of, blank}
use Rattle.notes.specs.Break.{note_penalty, penalty_before, last_is, first_is}
use Rattle.notes.proofs.Ends.{items_of_drop}
use Rattle.notes.proofs.penalty_at.Goals as goal

asked : (rows : List Row) (k : ℕ) (r : Option ℤ) (a b : Bool) → k < length rows → a ≡ last_is is_box (take k (items_of rows)) → b ≡ first_is is_glue (drop (k + 1) (items_of rows)) →
    r ≡ penalty_before a (get_or rows k blank).item b → r ≡ note_penalty (take k (items_of rows)) (drop k (items_of rows))
asked rows k r a b l p q e =
    let x = (get_or rows k blank).item in
    e ∙ ap (λ t. penalty_before t x b) p ∙ ap (penalty_before (last_is is_box (take k (items_of rows))) x) q ∙ sym (ap (note_penalty (take k (items_of rows))) (items_of_drop rows k blank l))

pub returns : goal.returns
returns c =
    asked c.args.content.rows.now c.args.place c.penalty_before.result c.after_box.result c.before_glue.result c.requires
    c.after_box.ensures c.before_glue.ensures c.penalty_before.ensures
