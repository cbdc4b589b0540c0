-- What the limits say of an item, case by case.
use Rattle.std.proofs.Common.{◌≡◌, ℕ, ◌≤◌, true, ℤ, nat_abs, arith}
use Rattle.std.proofs.lemmas.Bool.Decides.{nat_tests}
use Rattle.items.specs.declared.Item.TheVariants.{Box, Glue, Kern}
use Rattle.items.specs.Items.{most, within_limits}

pub box_within : (h d : ℕ) → within_limits (Box h d) ≡ true → (h ≤ most) × (d ≤ most)
box_within h d e = grind (arith, nat_tests)

pub glue_within : (w : ℤ) (st o sh : ℕ) → within_limits (Glue w st o sh) ≡ true → (nat_abs w ≤ most) × (st ≤ most) × (o ≤ 3) × (sh ≤ most)
glue_within w st o sh e = grind (arith, nat_tests)

pub kern_within : (w : ℤ) → within_limits (Kern w) ≡ true → nat_abs w ≤ most
kern_within w e = grind (arith, nat_tests)
