-- What is found wherever a list of calls stops.
use Rattle.std.specs.Prelude.{◌≡◌, ℕ, suc, ◌+◌, ◌-◌, ◌*◌, ◌<◌, ◌≤◌, Bool, true, false, cond, not, ◌&&◌, List, [], ◌∷◌, ◌++◌, length, take, drop, filter, ◌==◌, nat_eq, slice_index_or}
use Rattle.std.specs.List.{flat_map}
use Rattle.items.specs.declared.Item.{Item}
use Rattle.items.specs.declared.Row.{Row}
use Rattle.items.specs.declared.Place.{Place}
use Rattle.items.specs.declared.Place.TheVariants.{Owed, Shelved, Held, Shipped, Dropped}
use Rattle.items.specs.Lists.{span}
use Rattle.items.specs.Items.{is_note, is_discardable, items_of}
use Rattle.items.specs.Table.{row_at, item_at, note_at, remaining, shelf_items}
use Rattle.policies.specs.declared.limited.Limited.{Limited}
use Rattle.policies.specs.Policies.{Rule, held_by_limited, LimitedRule}
use Rattle.calls.specs.declared.Page.{Page}
use Rattle.calls.specs.Book.{Book}
use Rattle.calls.specs.Feeding.{counted, content_for}
use Rattle.calls.specs.Firing.{note_class}
use Rattle.calls.specs.Stepping.{done}
use Rattle.calls.specs.Runs.{Call, fed, feed_refused, closed, close_refused, answered, fired, settled, State, is_open, is_fired, Onward, Run}

-- how often a number stands in a list
abbrev pub times : ℕ → List ℕ → ℕ
times x [] = 0
times x (y ∷ ys) = cond (x == y) (suc (times x ys)) (times x ys)

abbrev pub book_of : State → Book
book_of (is_open b) = b
book_of (is_fired b out) = b

abbrev pub owed_for : List Row → ℕ → List ℕ
owed_for rows x = cond (is_note (item_at rows x)) (remaining rows x) (x ∷ [])

abbrev pub waiting_in : State → List ℕ
waiting_in (is_open b) = b.page ++ b.contributions
waiting_in (is_fired b out) = out.body ++ (out.waiting ++ (b.page ++ b.contributions))

-- what is owed, in order, a note by its remaining content
abbrev pub owed : State → List ℕ
owed s = flat_map (owed_for (book_of s).rows) (waiting_in s)

-- the numbers of the items of text, in feeding order
abbrev pub texts : List Row → List ℕ
texts rows = filter (λ x. not (is_note (item_at rows x))) (span 1 (length rows))

abbrev pub is_dropped : Place → Bool
is_dropped Owed = false
is_dropped Shelved = false
is_dropped Held = false
is_dropped (Shipped p) = false
is_dropped Dropped = true

abbrev pub dropped_in : List Row → List ℕ
dropped_in rows = filter (λ x. is_dropped (row_at rows x).place) (texts rows)

abbrev pub kept_in : List Row → List ℕ
kept_in rows = filter (λ x. not (is_dropped (row_at rows x).place)) (texts rows)

abbrev pub shelved : Book → List ℕ
shelved b = flat_map shelf_items b.shelves

-- body text is fed alone; other text belongs to its note's class
abbrev pub body : List Row → List ℕ → List ℕ
body rows xs = filter (λ x. nat_eq (note_at rows x) 0) xs

abbrev pub text_of : List Row → ℕ → List ℕ → List ℕ
text_of rows c xs = filter (λ x. not (note_at rows x == 0) && note_class (item_at rows (note_at rows x)) == c) xs

-- the items of one shipped page; pages are numbered from 1
abbrev pub page_after : List ℕ → List Page → ℕ → List ℕ
page_after shipped [] n = []
page_after shipped (p ∷ []) n = cond (n == 0) (drop p.from shipped) []
page_after shipped (p ∷ q ∷ ps) n = cond (n == 0) (take (q.from - p.from) (drop p.from shipped)) (page_after shipped (q ∷ ps) (n - 1))

abbrev pub shipped_on : Book → ℕ → List ℕ
shipped_on b n = page_after b.shipped b.pages (n - 1)

-- a recorded place is where the item lies
abbrev pub lies : State → List ℕ → Place → List ℕ
lies s held Owed = owed s
lies s held Shelved = shelved (book_of s)
lies s held Held = held
lies s held (Shipped n) = shipped_on (book_of s) n
lies s held Dropped = dropped_in (book_of s).rows

-- the items that the calls fed, each note before its content
abbrev pub fed_by : Call → List Item
fed_by (fed x content) = counted x content ∷ content_for x content
fed_by (feed_refused r) = []
fed_by closed = []
fed_by close_refused = []
fed_by (answered a) = []
fed_by fired = []
fed_by (settled r) = []

pub record Found (h : List Call) (s : State) (held : List ℕ) : Type 0 where
  -- the item table lists what was fed, in feeding order
  pub listed : items_of (book_of s).rows ≡ flat_map fed_by h
  -- each item fed lies exactly once: shipped, dropped, held, shelved or owed
  pub once : (x : ℕ) →
      times x ((book_of s).shipped ++ (dropped_in (book_of s).rows ++ (held ++ (shelved (book_of s) ++ owed s)))) ≡ times x (texts (book_of s).rows)
  -- only glue, kerns and penalties are dropped
  pub discarded : (x : ℕ) → 0 < times x (dropped_in (book_of s).rows) → is_discardable (item_at (book_of s).rows x) ≡ true
  -- the place that the table records is where the item lies
  pub placed : (x : ℕ) → 0 < times x (texts (book_of s).rows) → 0 < times x (lies s held (row_at (book_of s).rows x).place)
  -- body text shipped, then held, then owed is the body text fed, the dropped left out, in feeding order
  pub body_in_order :
      body (book_of s).rows (book_of s).shipped ++ (held ++ body (book_of s).rows (owed s)) ≡ body (book_of s).rows (kept_in (book_of s).rows)
  -- and so is each class's text shipped, then shelved, then owed
  pub notes_in_order : (c : ℕ) →
      text_of (book_of s).rows c (book_of s).shipped ++ (shelf_items (slice_index_or (book_of s).shelves c []) ++ text_of (book_of s).rows c (owed s)) ≡
      text_of (book_of s).rows c (kept_in (book_of s).rows)

abbrev pub steps_in : List Call → ℕ
steps_in [] = 0
steps_in (fed x content ∷ h) = steps_in h
steps_in (feed_refused r ∷ h) = steps_in h
steps_in (closed ∷ h) = steps_in h
steps_in (close_refused ∷ h) = steps_in h
steps_in (answered a ∷ h) = suc (steps_in h)
steps_in (fired ∷ h) = suc (steps_in h)
steps_in (settled r ∷ h) = steps_in h

-- some step of the calls answered done
abbrev pub Ends : List Call → Type 0
Ends h = (g : List Call) × (k : List Call) × (h ≡ g ++ answered done ∷ k)

module _ (capacity : ℕ) {P : Type 0} (held : P → List ℕ) (rule : Rule P) where
  -- over every policy
  abbrev pub NothingLost : Type 0
  NothingLost = (h : List Call) (s : State) (p : P) → Run capacity held rule h s p → Found h s (held p)

  -- with the limiter uppermost
  abbrev pub Under : List Call → State → Limited P → Type 0
  Under h s p = Run capacity (held_by_limited held rule) (LimitedRule held rule) h s p

  -- the calls that lead on from one state, with the limiter uppermost
  abbrev pub UnderOnward : State → Limited P → List Call → State → Limited P → Type 0
  UnderOnward s p h t q = Onward capacity (held_by_limited held rule) (LimitedRule held rule) s p h t q

  -- after the close, done comes within the bound, counted from the state that the close left
  abbrev pub DoneInTime : Type 0
  DoneInTime = (g h : List Call) (s t : State) (p q : Limited P) →
      Under (g ++ closed ∷ []) s p → UnderOnward s p h t q →
      (let n = length (texts (book_of s).rows) in (p.bound + 1) * (n + 1) * (n + 1) ≤ steps_in h → Ends h)

  -- and from the first done on, nothing is held, shelved or owed
  abbrev pub NothingLeft : Type 0
  NothingLeft = (h : List Call) (s : State) (p : Limited P) → Under h s p → Ends h →
      (held p.below ≡ []) × (shelved (book_of s) ≡ []) × (owed s ≡ [])
