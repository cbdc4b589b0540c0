-- The item table by the numbers of its rows, what is left of its notes, and changes of its rows.
use Rattle.std.specs.Prelude.{◌≡◌, ℕ, ◌+◌, ◌-◌, ◌<◌, ◌≤◌, true, false, List, [], map, length, ℤ, Some, fold, slice_index_or, unwrap_or, slice_set}
use Rattle.std.specs.List.{flat_map}
use Rattle.items.specs.declared.Item.{Item}
use Rattle.items.specs.declared.Item.TheVariants.{Box, Glue, Kern, Penalty, Note}
use Rattle.items.specs.declared.Row.{Row}
use Rattle.items.specs.declared.Place.{Place}
use Rattle.items.specs.declared.Piece.{Piece}
use Rattle.items.specs.Lists.{span}
use Rattle.items.specs.Items.{is_note, within_limits, blank}

-- rows are numbered from 1
abbrev pub row_at : List Row → ℕ → Row
row_at rows x = slice_index_or rows (x - 1) blank

abbrev pub item_at : List Row → ℕ → Item
item_at rows x = (row_at rows x).item

-- the note whose content a row is, or 0: numbers of items count from 1
abbrev pub owner : Row → ℕ
owner r = unwrap_or r.note 0

abbrev pub note_at : List Row → ℕ → ℕ
note_at rows x = owner (row_at rows x)

abbrev pub items_at : List Row → List ℕ → List Item
items_at rows xs = map (λ x. item_at rows x) xs

abbrev pub content : Item → ℕ → ℕ → List ℕ
content (Box h d) x spent = []
content (Glue w st o sh) x spent = []
content (Kern w) x spent = []
content (Penalty v) x spent = []
content (Note c n) x spent = span (x + 1 + spent) (n - spent)

-- the numbers of a note's content that is neither shelved nor dropped yet
abbrev pub remaining : List Row → ℕ → List ℕ
remaining rows x = content (item_at rows x) x (row_at rows x).spent

abbrev pub piece_items : Piece → List ℕ
piece_items p = span p.first p.count

abbrev pub shelf_items : List Piece → List ℕ
shelf_items ps = flat_map piece_items ps

-- the k items after a note x are its content: they are in the table of n rows, and no notes
pub record Content (it : ℕ → Item) (nt : ℕ → ℕ) (n x k : ℕ) : Type 0 where
  pub within : x + k ≤ n
  pub owner : (i : ℕ) → x < i → i ≤ x + k → nt i ≡ x
  pub text : (i : ℕ) → x < i → i ≤ x + k → is_note (it i) ≡ false

-- a table by its items and the notes that they belong to
pub record Formed (it : ℕ → Item) (nt : ℕ → ℕ) (n : ℕ) : Type 0 where
  pub content : (x c k : ℕ) → 1 ≤ x → it x ≡ Note c k → Content it nt n x k
  pub classes : (x c k : ℕ) → 1 ≤ x → it x ≡ Note c k → c < 8
  pub owners : (x : ℕ) → 1 ≤ x → nt x ≤ n
  pub values : (x : ℕ) → 1 ≤ x → within_limits (it x) ≡ true

-- notes are followed by their content, and values are within their limits
abbrev pub WellFormed : List Row → Type 0
WellFormed rows = Formed (λ x. item_at rows x) (λ x. note_at rows x) (length rows)

-- changes of rows, one by one
abbrev pub change : (Row → Row) → List Row → ℕ → List Row
change f rows x = slice_set rows (x - 1) (f (row_at rows x))

abbrev pub change_all : (Row → Row) → List Row → List ℕ → List Row
change_all f rows xs = fold (change f) rows xs

abbrev pub put : Place → Row → Row
put p r = record { item = r.item; note = r.note; spent = r.spent; place = p; stamp = r.stamp }

abbrev pub stamped : ℕ → ℤ → Row → Row
stamped n g r = record { item = r.item; note = r.note; spent = r.spent; place = r.place; stamp = Some (record { firing = n; goal = g }) }

abbrev pub spending : ℕ → Row → Row
spending n r = record { item = r.item; note = r.note; spent = r.spent + n; place = r.place; stamp = r.stamp }
