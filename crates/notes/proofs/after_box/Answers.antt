use Rattle.std.proofs.Common.{◌≡◌, ◌+◌, ◌-◌, ◌<◌, length, take, sym, ap, ◌∙◌, arith}
use Rattle.items.specs.Items.{is_box, items_of}
use Rattle.notes.specs.Break.{last_is}
use Rattle.notes.proofs.Ends.{last_is_at}
use Rattle.notes.proofs.after_box.Goals as goal

pub returns-then-place-gt0 : goal.returns-then-place-gt0
returns-then-place-gt0 c =
    let rows = c.args.content.rows.now in
    let k = c.args.place in
    let l : k - 1 < length rows = omega arith in
    let e : k - 1 + 1 ≡ k = omega arith in
    c.is_box.ensures ∙ sym (last_is_at rows (k - 1) _ l is_box) ∙ ap (λ n. last_is is_box (take n (items_of rows))) e
