use Rattle.std.proofs.Common.{arith}
use Rattle.std.proofs.lemmas.List.{length-map}
use Rattle.std.proofs.lemmas.List.Sums.{prefix_len-le-length}
use Rattle.items.specs.declared.Row.{Row}
use Rattle.items.specs.Items.{items_of, is_discardable}
use Rattle.notes.proofs.split.discardable.Goals as goal

pub returns-clause-bound : goal.returns-clause-bound
returns-clause-bound c =
    let rows = c.args.content.rows.now in
    omega (arith, c.leading.ensures, prefix_len-le-length is_discardable (items_of rows), length-map rows (λ (r : Row). r.item))
