-- A book over the tables that are lent to its calls.
use Rattle.std.specs.Prelude.{◌≡◌, ℕ, ◌+◌, ◌≤◌, Bool, true, false, List, [], ◌∷◌, map, length, take}
use Rattle.std.specs.Borrow.{MutBor}
use Rattle.std.specs.List.{AllByRecursion, list_all}
use Rattle.items.specs.declared.Row.{Row}
use Rattle.items.specs.declared.Piece.{Piece}
use Rattle.items.specs.Limits.{settings_within, declared_within}
use Rattle.queue.specs.declared.Queue.{Queue}
use Rattle.queue.specs.Queues.{Within, list_of}
use Rattle.calls.specs.declared.Page.{Page}
use Rattle.calls.specs.Book.{Book}
use Rattle.calls.specs.Runs.{Reached}
use Rattle.book.specs.declared.Open.{Open}
use Rattle.book.specs.declared.Phase.{Phase}
use Rattle.book.specs.declared.Phase.TheVariants.{Feeding, Closed, Done}
use Rattle.book.specs.declared.Tables.{Tables}

-- what stands in the lent tables and on the lent shelves, cell by cell
pub record Contents : Type 0 where
  pub rows : List Row
  pub contributions : List ℕ
  pub page : List ℕ
  pub waiting : List ℕ
  pub shipped : List ℕ
  pub pages : List Page
  pub shelves : List (List Piece)

abbrev pub lent : List Row → List ℕ → List ℕ → List ℕ → List ℕ → List Page → List (List Piece) → Contents
lent rows contributions page waiting shipped pages shelves =
    record { rows = rows; contributions = contributions; page = page; waiting = waiting; shipped = shipped; pages = pages; shelves = shelves }

abbrev pub contents_of : Tables → List (MutBor (List Piece)) → Contents
contents_of t shelves = lent t.rows.now t.contributions.now t.page.now t.waiting.now t.shipped.now t.pages.now (map (λ s. s.now) shelves)

-- the same slices are lent, whatever stands in them
pub record StillLent (old new : Tables) : Type 0 where
  pub rows : new.rows.ghost_name ≡ old.rows.ghost_name
  pub contributions : new.contributions.ghost_name ≡ old.contributions.ghost_name
  pub page : new.page.ghost_name ≡ old.page.ghost_name
  pub waiting : new.waiting.ghost_name ≡ old.waiting.ghost_name
  pub shipped : new.shipped.ghost_name ≡ old.shipped.ghost_name
  pub pages : new.pages.ghost_name ≡ old.pages.ghost_name

-- each table is as long as it was
pub record LengthsKept (old new : Tables) : Type 0 where
  pub rows : length new.rows.now ≡ length old.rows.now
  pub contributions : length new.contributions.now ≡ length old.contributions.now
  pub page : length new.page.now ≡ length old.page.now
  pub waiting : length new.waiting.now ≡ length old.waiting.now
  pub shipped : length new.shipped.now ≡ length old.shipped.now
  pub pages : length new.pages.now ≡ length old.pages.now

-- of the tables only rows and contributions may have changed
pub record OthersUntouched (old new : Tables) : Type 0 where
  pub page : new.page.now ≡ old.page.now
  pub waiting : new.waiting.now ≡ old.waiting.now
  pub shipped : new.shipped.now ≡ old.shipped.now
  pub pages : new.pages.now ≡ old.pages.now

-- how long the tables beside the rows are
abbrev pub lengths_of : Contents → List ℕ
lengths_of t = length t.contributions ∷ length t.page ∷ length t.waiting ∷ length t.shipped ∷ length t.pages ∷ map length t.shelves

-- what is on the shelves
abbrev pub shelves_of : List Queue → List (List Piece) → List (List Piece)
shelves_of [] cells = []
shelves_of (q ∷ qs) [] = [] ∷ shelves_of qs []
shelves_of (q ∷ qs) (c ∷ cs) = list_of q c ∷ shelves_of qs cs

abbrev pub ShelvesWithin : List Queue → List (List Piece) → Type 0
ShelvesWithin [] [] = Unit {0}
ShelvesWithin [] (c ∷ cs) = ⊥
ShelvesWithin (q ∷ qs) [] = ⊥
ShelvesWithin (q ∷ qs) (c ∷ cs) = Within q c × ShelvesWithin qs cs

abbrev pub is_closed : Phase → Bool
is_closed Feeding = false
is_closed Closed = true
is_closed Done = true

abbrev pub is_done : Phase → Bool
is_done Feeding = false
is_done Closed = false
is_done Done = true

abbrev pub book_of : Open → Contents → Book
book_of o t = record {
  settings = o.settings;
  classes = o.classes;
  rows = take o.rows t.rows;
  contributions = list_of o.contributions t.contributions;
  page = take o.page t.page;
  best = o.best;
  shelves = shelves_of o.shelves t.shelves;
  shipped = take o.shipped t.shipped;
  pages = take o.pages t.pages;
  firings = o.firings;
  closed = is_closed o.phase;
  done = is_done o.phase;
}

-- 1 to 16,384 rows, and no other table shorter than they are
pub record Fit (t : Contents) : Type 0 where
  pub some : 1 ≤ length t.rows
  pub few : length t.rows ≤ 16384
  pub contributions : length t.rows ≤ length t.contributions
  pub page : length t.rows ≤ length t.page
  pub waiting : length t.rows ≤ length t.waiting
  pub shipped : length t.rows ≤ length t.shipped
  pub pages : length t.rows ≤ length t.pages
  pub shelves : AllByRecursion (λ s. length t.rows ≤ length s) t.shelves
  pub eight : length t.shelves ≡ 8

-- the tables are those that the book was made over, as a list of calls left them; what is in use lies within them
pub record Kept (o : Open) (t : Contents) : Type 0 where
  pub tables : Fit t
  pub settings : settings_within o.settings ≡ true
  pub classes : list_all declared_within o.classes ≡ true
  pub eight : length o.classes ≡ 8
  pub used : o.rows ≤ length t.rows
  pub waits : Within o.contributions t.contributions
  pub owed : o.contributions.len + o.page ≤ o.rows
  pub shipped : o.shipped ≤ o.rows
  pub pages : o.pages ≤ o.shipped
  pub shelved : ShelvesWithin o.shelves t.shelves
  pub reached : Reached (length t.rows) (book_of o t)
