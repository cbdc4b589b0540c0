-- What is asked of a page and of an item that arrives on it.
use Rattle.std.specs.Prelude.{◌≡◌, ℕ, ◌^◌, ◌≤◌, true, List, length, unsigned_abs}
use Rattle.std.specs.List.{AllByRecursion}
use Rattle.items.specs.declared.Item.TheVariants.{Note}
use Rattle.items.specs.declared.Row.{Row}
use Rattle.items.specs.Limits.{settings_within, declared_within}
use Rattle.items.specs.Table.{row_at, item_at, WellFormed}
use Rattle.page.specs.declared.Ground.{Ground}
use Rattle.page.specs.declared.PageSoFar.{PageSoFar}
use Rattle.page.specs.PageSoFar.{so_far}

-- settings and declared classes are within their limits, and no shelf has more than the items of a table
pub record Grounded (g : Ground) : Type 0 where
  pub settings : settings_within g.settings ≡ true
  pub classes : AllByRecursion (λ c. declared_within c ≡ true) g.classes
  pub shelved : AllByRecursion (λ z. unsigned_abs z ≤ 2 ^ 45) g.shelved

pub record Inside (rows : List Row) (x : ℕ) : Type 0 where
  pub first : 1 ≤ x
  pub last : x ≤ length rows

-- m is what a page of a well formed table gives
pub record Standing (g : Ground) (rows : List Row) (page : List ℕ) (m : PageSoFar) : Type 0 where
  pub basis : Grounded g
  pub table : WellFormed rows
  pub short : length rows ≤ 16384
  pub numbers : AllByRecursion (Inside rows) page
  pub few : length page ≤ 16384
  pub is : m ≡ so_far g rows page

-- a number that may arrive: what is spent of a note is of its content
pub record Arriving (rows : List Row) (x : ℕ) : Type 0 where
  pub inside : Inside rows x
  pub spent : (c n : ℕ) → item_at rows x ≡ Note c n → (row_at rows x).spent ≤ n
