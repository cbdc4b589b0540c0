-- The book as its reader sees it: lists and marks, and no running sums.
use Rattle.std.specs.Prelude.{ℕ, Bool, List, ℤ, Option}
use Rattle.items.specs.declared.Row.{Row}
use Rattle.items.specs.declared.Piece.{Piece}
use Rattle.items.specs.declared.Settings.{Settings}
use Rattle.items.specs.declared.Class.{Class}
use Rattle.page.specs.declared.breaks.PageBreak.{PageBreak}
use Rattle.calls.specs.declared.Page.{Page}

pub record Book : Type 0 where
  pub settings : Settings
  pub classes : List (Option Class)
  pub rows : List Row
  pub contributions : List ℕ  -- items and notes that wait for a page
  pub page : List ℕ  -- items and notes on the current page
  pub best : Option PageBreak
  pub shelves : List (List Piece)  -- for each class, pieces of notes placed and not shipped
  pub shipped : List ℕ  -- item numbers, in the order in which they shipped
  pub pages : List Page
  pub firings : ℕ
  pub closed : Bool
  pub done : Bool

-- what a firing leaves for its settling
pub record Output : Type 0 where
  pub body : List ℕ
  pub waiting : List ℕ  -- notes that wait for the next page
  pub penalty : ℤ
  pub final : Bool  -- the last firing, of an empty page on a closed book
