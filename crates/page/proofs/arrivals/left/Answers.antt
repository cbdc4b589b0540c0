-- A note's content lies in the table.
use Rattle.std.proofs.Common.{◌≡◌, ◌≤◌, List, length, sym, refl, ap, subst, arith}
use Rattle.std.proofs.lemmas.List.{length-map}
use Rattle.items.specs.declared.Item.{Item}
use Rattle.items.specs.declared.Row.{Row}
use Rattle.items.specs.Items.{items_of}
use Rattle.items.specs.Table.{row_at}
use Rattle.notes.specs.Break.{Within}
use Rattle.page.proofs.Contents.{left_rows, left_within, left_short}
use Rattle.page.proofs.arrivals.left.Goals as goal

short_rows : (rows : List Row) (items : List Item) → items_of rows ≡ items → length items ≤ 16384 → length rows ≤ 16384
short_rows rows items e l = omega (arith, length-map rows (λ (r : Row). r.item), ap length e)

pub slice_bounds-result-end-2 : goal.slice_bounds-result-end-2
slice_bounds-result-end-2 c = (c.requires.table.content c.args.x c.in-Note.class c.in-Note.count c.requires.arriving.inside.first c.in-Note.is).within

pub invariant_of-result-2 : goal.invariant_of-result-2
invariant_of-result-2 c =
    let rows = c.args.rows.now in
    let x = c.args.x in
    let first = c.requires.arriving.inside.first in
    let items = left_rows rows c.requires.table x first c.in-Note.class c.in-Note.count (row_at rows x).spent c.in-Note.is refl (c.requires.arriving.spent c.in-Note.class c.in-Note.count c.in-Note.is) in
    record { within = subst Within (sym items) (left_within rows c.requires.table x first); short = short_rows _ _ items (left_short rows c.requires.table x first c.requires.short) }

pub returns : goal.returns
returns c =
    let rows = c.args.rows.now in
    left_rows rows c.requires.table c.args.x c.requires.arriving.inside.first c.in-Note.class c.in-Note.count (row_at rows c.args.x).spent c.in-Note.is refl
    (c.requires.arriving.spent c.in-Note.class c.in-Note.count c.in-Note.is)
