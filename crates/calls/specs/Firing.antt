-- What a firing leaves: the body, the shelves, and the notes that wait.
use Rattle.std.specs.Prelude.{ℕ, zero, suc, ◌+◌, min, Bool, false, cond, not, ◌&&◌, ◌||◌, List, [], ◌∷◌, ◌++◌, length, take, drop, replicate, ℤ, None, fold, filter, Option, ◌==◌, slice_index_or, slice_set, unwrap_or}
use Rattle.std.specs.List.{prefix_len}
use Rattle.std.specs.Option.{is_some, is_none, option_map, option_and_then}
use Rattle.items.specs.declared.Item.{Item}
use Rattle.items.specs.declared.Item.TheVariants.{Box, Glue, Kern, Penalty, Note}
use Rattle.items.specs.declared.Row.{Row}
use Rattle.items.specs.declared.Place.TheVariants.{Shelved, Dropped}
use Rattle.items.specs.declared.Piece.{Piece}
use Rattle.items.specs.Items.{most, is_note, is_discardable}
use Rattle.items.specs.Table.{row_at, item_at, items_at, remaining, change_all, put, stamped, spending}
use Rattle.cost.specs.Cost.{forced, forbidden}
use Rattle.page.specs.declared.PageSoFar.{PageSoFar}
use Rattle.page.specs.declared.breaks.PageBreak.{PageBreak}
use Rattle.page.specs.PageSoFar.{class_of}
use Rattle.page.specs.Breaks.{empty}
use Rattle.calls.specs.Book.{Book, Output}
use Rattle.calls.specs.OnPage.{on_page}

abbrev pub note_class : Item → ℕ
note_class (Box h d) = 0
note_class (Glue w st o sh) = 0
note_class (Kern w) = 0
note_class (Penalty v) = 0
note_class (Note c n) = c

-- the notes before the break, taken in order: the rows and shelves so far, the classes whose last note
-- is through, and the notes that wait
pub record Sorting : Type 0 where
  pub rows : List Row
  pub shelves : List (List Piece)
  pub through : List Bool
  pub waiting : List ℕ

-- n items of the note x go to its class's shelf, where there are any
abbrev pub shelve : List (List Piece) → ℕ → ℕ → ℕ → ℕ → List (List Piece)
shelve shelves c x first zero = shelves
shelve shelves c x first (suc n) = slice_set shelves c (slice_index_or shelves c [] ++ (record { note = x; first = first; count = suc n }) ∷ [])

abbrev pub waits : Sorting → ℕ → Sorting
waits s x = record { rows = s.rows; shelves = s.shelves; through = s.through; waiting = s.waiting ++ x ∷ [] }

-- n of the note's remaining items go to its shelf, d after them are dropped, and the rest waits
abbrev pub goes : Sorting → ℕ → ℕ → ℕ → ℕ → Bool → Sorting
goes s x c n d is_last =
    let left = remaining s.rows x in
    let shelved = change_all (put Shelved) s.rows (take n left) in
    let dropped = change_all (put Dropped) shelved (take d (drop n left)) in
    record {
      rows = change_all (spending (n + d)) dropped (x ∷ []);
      shelves = shelve s.shelves c x (x + 1 + (row_at s.rows x).spent) n;
      through = slice_set s.through c is_last;
      waiting = cond (empty (drop (n + d) left)) s.waiting (s.waiting ++ x ∷ []);
    }

-- the last note of its class before the break
abbrev pub is_last_note : List (Option ℕ) → Sorting → ℕ → Bool
is_last_note last s x = unwrap_or (option_map (λ y. x == y) (slice_index_or last (note_class (item_at s.rows x)) None)) false

-- and, of one that the page splits, how many of its remaining items stand before its break
abbrev pub split_at : PageSoFar → List (Option ℕ) → Sorting → ℕ → Option ℕ
split_at m last s x = option_and_then (λ here. cond (is_last_note last s x && x == here.last) here.broken None) (class_of m (note_class (item_at s.rows x)))

abbrev pub is_split_note : PageSoFar → List (Option ℕ) → Sorting → ℕ → Bool
is_split_note m last s x = is_some (split_at m last s x)

-- how many of its remaining items go to the shelf: those before its break where it is split, all otherwise
abbrev pub amount : PageSoFar → List (Option ℕ) → Sorting → ℕ → ℕ
amount m last s x = unwrap_or (split_at m last s x) (length (remaining s.rows x))

-- and how many after them are dropped: those of a split note before the next box
abbrev pub dropping : PageSoFar → List (Option ℕ) → Sorting → ℕ → ℕ
dropping m last s x =
    cond (is_split_note m last s x) (prefix_len is_discardable (items_at s.rows (drop (amount m last s x) (remaining s.rows x)))) 0

-- none of a class goes once its last note is through, or where it has none
abbrev pub is_shut : List (Option ℕ) → List Bool → ℕ → Bool
is_shut last through c = slice_index_or through c false || is_none (slice_index_or last c None)

abbrev pub sorts : PageSoFar → List (Option ℕ) → Sorting → ℕ → Sorting
sorts m last s x =
    let c = note_class (item_at s.rows x) in
    cond (is_shut last s.through c) (waits s x) (goes s x c (amount m last s x) (dropping m last s x) (is_last_note last s x))

abbrev pub unsorted : Book → Sorting
unsorted b = record { rows = b.rows; shelves = b.shelves; through = replicate 8 false; waiting = [] }

abbrev pub sorted : Book → PageBreak → List ℕ → Sorting
sorted b at notes = fold (sorts (on_page b) at.last) (unsorted b) notes

-- a penalty right after the break is the output's
abbrev pub output_penalty : List Item → ℤ
output_penalty [] = forced
output_penalty (Box h d ∷ xs) = forbidden
output_penalty (Glue w st o sh ∷ xs) = forbidden
output_penalty (Kern w ∷ xs) = forbidden
output_penalty (Penalty v ∷ xs) = v
output_penalty (Note c n ∷ xs) = forbidden

abbrev pub body_before : Book → PageBreak → List ℕ
body_before b at = filter (λ x. not (is_note (item_at b.rows x))) (take at.place b.page)

abbrev pub notes_before : Book → PageBreak → List ℕ
notes_before b at = filter (λ x. is_note (item_at b.rows x)) (take at.place b.page)

-- the book after a firing at a break
abbrev pub fired_book : Book → PageBreak → Book
fired_book b at =
    let s = sorted b at (notes_before b at) in
    let n = min most (b.firings + 1) in
    record b {
      rows = change_all (stamped n at.goal) s.rows (body_before b at);
      contributions = drop at.place b.page ++ b.contributions;
      page = [];
      best = None;
      shelves = s.shelves;
      firings = n;
    }

-- and what it leaves for its settling
abbrev pub fired_output : Book → PageBreak → Output
fired_output b at =
    record {
      body = body_before b at;
      waiting = (sorted b at (notes_before b at)).waiting;
      penalty = output_penalty (items_at b.rows (drop at.place b.page ++ b.contributions));
      final = false;
    }
