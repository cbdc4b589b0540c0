-- Numbers so low that one more item wraps none of them.
use Rattle.std.specs.Prelude.{◌≡◌, ℕ, ◌*◌, ◌^◌, ◌<◌, ◌≤◌, true, List, unsigned_abs}
use Rattle.items.specs.declared.Item.TheVariants.{Note}
use Rattle.items.specs.declared.Row.{Row}
use Rattle.items.specs.Items.{within_limits}
use Rattle.items.specs.Table.{item_at}
use Rattle.cost.specs.Sums.{Roomy}
use Rattle.page.specs.declared.Ground.{Ground}
use Rattle.page.specs.declared.PageSoFar.{PageSoFar}
use Rattle.page.specs.PageSoFar.{rules_of, shelf_size, height_of, begin}

-- for a note of a class
pub record Low (g : Ground) (m : PageSoFar) (c : ℕ) : Type 0 where
  pub class : c < 8
  pub floating : (rules_of g c).floating ≤ 10000
  pub shelved : unsigned_abs (shelf_size g c) < 2 ^ 46
  pub goal : unsigned_abs m.goal < 3 * 2 ^ 60
  pub total : unsigned_abs m.sums.total < 2 ^ 59
  pub shrink : m.sums.shrink < 2 ^ 62
  pub notes : unsigned_abs m.notes < 2 ^ 30
  pub height : unsigned_abs (height_of g m c) < 3 * 2 ^ 60

-- for the item of a number, and, if it is a note's, also once its class is begun
pub record Ready (g : Ground) (rows : List Row) (m : PageSoFar) (x : ℕ) : Type 0 where
  pub total : unsigned_abs m.sums.total < 2 ^ 59
  pub roomy : Roomy m.sums
  pub within : within_limits (item_at rows x) ≡ true
  pub arrived : (c n : ℕ) → item_at rows x ≡ Note c n → Low g m c
  pub begun : (c n : ℕ) → item_at rows x ≡ Note c n → Low g (begin g m c) c
