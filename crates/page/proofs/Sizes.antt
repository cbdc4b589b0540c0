-- The size of a list of items is small.
use Rattle.std.proofs.Common.{◌≡◌, ◌*◌, ◌^◌, ◌≤◌, true, List, [], ◌∷◌, length, nat_abs, arith}
use borrow.Author.Differences.{ints}
use Rattle.items.specs.declared.Item.{Item}
use Rattle.items.specs.declared.Item.TheVariants.{Box, Glue, Kern, Penalty, Note}
use Rattle.items.specs.Items.{within_limits, size_of}
use Rattle.cost.proofs.Within.{box_within, glue_within, kern_within}
use Rattle.notes.specs.Break.{Within}
use Rattle.page.specs.PageSoFar.{sizes}

pub size_small : (x : Item) → within_limits x ≡ true → nat_abs (size_of x) ≤ 2 ^ 31
size_small (Box h d) w = omega (arith, box_within h d w)
size_small (Glue g st o sh) w = omega (arith, (glue_within g st o sh w).0)
size_small (Kern g) w = omega (arith, kern_within g w)
size_small (Penalty v) w = omega arith
size_small (Note c n) w = omega arith

pub sizes_small : (xs : List Item) → Within xs → nat_abs (sizes xs) ≤ length xs * 2 ^ 31
sizes_small [] h = omega arith
sizes_small (x ∷ xs) h = omega (arith, ints, size_small x h.0, sizes_small xs h.1)
