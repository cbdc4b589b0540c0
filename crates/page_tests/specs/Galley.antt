-- The galley of the tests.
use Rattle.std.specs.Prelude.{List, [], ◌∷◌, pos, Some, None}
use Rattle.items.specs.declared.Item.TheVariants.{Box, Glue, Kern, Penalty, Note}
use Rattle.items.specs.declared.Row.{Row}
use Rattle.items.specs.Items.{fed_row}

abbrev pub galley : List Row
galley =
    fed_row (Box 8 2) None ∷
    fed_row (Note 0 2) None ∷
    fed_row (Box 8 2) (Some 2) ∷
    fed_row (Box 8 2) (Some 2) ∷
    fed_row (Glue (pos 10) 0 0 4) None ∷
    fed_row (Box 40 2) None ∷
    fed_row (Kern (pos 3)) None ∷
    fed_row (Penalty (pos 50)) None ∷
    fed_row (Note 1 3) None ∷
    fed_row (Box 12 0) (Some 9) ∷
    fed_row (Penalty (pos 7)) (Some 9) ∷
    fed_row (Box 15 0) (Some 9) ∷
    fed_row (Note 1 1) None ∷
    fed_row (Box 5 0) (Some 13) ∷
    []
