-- The invariant of every state that calls lead to, and what leaves its parts alone.
use Rattle.std.proofs.Common.{◌≡◌, ℕ, ◌<◌, ◌≤◌, Bool, true, false, cond, not, eqb, List, [], ◌∷◌, ◌++◌, length, get_or, filter, sym, ap, subst, ap₂}
use mathlib.Core.Path.{fun_ext}
use Rattle.std.specs.List.{flat_map, AllByRecursion}
use Rattle.std.proofs.ByRecursion.{All-weaker}
use Rattle.items.specs.declared.Item.{Item}
use Rattle.items.specs.declared.Row.{Row}
use Rattle.items.specs.declared.Place.{Place}
use Rattle.items.specs.declared.Place.TheVariants.{Owed, Shelved, Held, Shipped, Dropped}
use Rattle.items.specs.Items.{is_note, is_discardable, items_of}
use Rattle.items.specs.Table.{item_at, content, remaining, shelf_items, note_at, Formed, WellFormed}
use Rattle.calls.specs.Book.{Book, Output}
use Rattle.calls.specs.Firing.{note_class}
use Rattle.calls.specs.Runs.{State, is_open, is_fired}
use Rattle.calls.specs.Findings.{times, book_of, owed_for, owed, shelved, waiting_in, texts, dropped_in, kept_in, body, text_of, shipped_on, lies}
use Rattle.calls.proofs.ListLaws.{all_left, all_right, kept_by_all, kept_by_none, joined_append}
use Rattle.calls.proofs.Table.{spent_at, place_at, gone, Inside, Alike}

-- a table of the same items is as well formed
pub formed_alike : {R Q : List Row} → Alike R Q → WellFormed R → WellFormed Q
formed_alike {R} {Q} a w =
    subst (λ n. Formed (λ x. item_at Q x) (λ x. note_at Q x) n) (sym a.size)
    (subst (λ nt. Formed (λ x. item_at Q x) nt (length R)) (sym a.note)
    (subst (λ it. Formed it (λ x. note_at R x) (length R)) (sym a.item) w))

-- an entry that waits is a note or a word, that is an item of text
abbrev pub is_word : List Row → ℕ → Bool
is_word R x = not (is_note (item_at R x))

pub all_words : (R : List Row) (xs : List ℕ) → AllByRecursion (λ x. is_note (item_at R x) ≡ false) xs → filter (is_word R) xs ≡ xs
all_words R xs h = kept_by_all (is_word R) xs (All-weaker (λ x. is_note (item_at R x) ≡ false) (λ x. is_word R x ≡ true) (λ x e. ap not e) xs h)

pub no_words : (R : List Row) (xs : List ℕ) → AllByRecursion (λ x. is_note (item_at R x) ≡ true) xs → filter (is_word R) xs ≡ []
no_words R xs h = kept_by_none (is_word R) xs (All-weaker (λ x. is_note (item_at R x) ≡ true) (λ x. is_word R x ≡ false) (λ x e. ap not e) xs h)

-- what an entry that waits has of a class's text: what remains of a note of the class
abbrev pub part : List Row → ℕ → ℕ → List ℕ
part R c x = cond (eqb (note_class (item_at R x)) c) (remaining R x) []

abbrev pub parts : List Row → ℕ → List ℕ → List ℕ
parts R c xs = flat_map (λ x. part R c x) xs

pub parts_append : (R : List Row) (c : ℕ) (xs ys : List ℕ) → parts R c (xs ++ ys) ≡ parts R c xs ++ parts R c ys
parts_append R c xs ys = joined_append (λ x. part R c x) xs ys

-- what entries that wait owe
abbrev pub owes : List Row → List ℕ → List ℕ
owes R xs = flat_map (owed_for R) xs

pub owes_append : (R : List Row) (xs ys : List ℕ) → owes R (xs ++ ys) ≡ owes R xs ++ owes R ys
owes_append R xs ys = joined_append (owed_for R) xs ys

abbrev pub shelf : Book → ℕ → List ℕ
shelf b c = shelf_items (get_or b.shelves c [])

-- what is still to come out
abbrev pub to_come : State → List ℕ → List ℕ
to_come s held = held ++ (shelved (book_of s) ++ owed s)

-- a note that waits has an item left
abbrev pub HasLeft : List Row → ℕ → Type 0
HasLeft R x = is_note (item_at R x) ≡ true → 1 ≤ length (remaining R x)

-- an output has notes that wait and a body of words, the last one no body; the page is empty then
pub record Fit (R : List Row) (page : List ℕ) (out : Output) : Type 0 where
  pub notes : AllByRecursion (λ x. is_note (item_at R x) ≡ true) out.waiting
  pub words : AllByRecursion (λ x. is_note (item_at R x) ≡ false) out.body
  pub last : out.final ≡ true → out.body ≡ []
  pub clear : page ≡ []

abbrev pub Ready : State → Type 0
Ready (is_open b) = Unit {0}
Ready (is_fired b out) = Fit b.rows b.page out

-- what holds of a state, where `fed` was fed and `held` is held
pub record Inv (fed : List Item) (s : State) (held : List ℕ) : Type 0 where
  -- the table lists what was fed, and there are eight classes with a shelf each
  pub listed : items_of (book_of s).rows ≡ fed
  pub eight : length (book_of s).classes ≡ 8
  pub shelves : length (book_of s).shelves ≡ 8
  -- the table is well formed, and so is an output
  pub formed : WellFormed (book_of s).rows
  pub ready : Ready s
  -- entries held or waiting are in the table and distinct, and notes among them have an item left
  pub inside : AllByRecursion (Inside (book_of s).rows) (held ++ waiting_in s)
  pub left : AllByRecursion (HasLeft (book_of s).rows) (held ++ waiting_in s)
  pub apart : (x : ℕ) → times x (held ++ waiting_in s) ≤ 1
  -- what is marked dropped may be dropped, and items lie where the table says
  pub discarded : (x : ℕ) → Inside (book_of s).rows x → gone (book_of s).rows x ≡ true → is_discardable (item_at (book_of s).rows x) ≡ true
  pub placed : (x : ℕ) → 0 < times x (texts (book_of s).rows) → 0 < times x (lies s held (place_at (book_of s).rows x))
  -- shipped, then held, then waiting words are the body text kept, in order
  pub bodies : body (book_of s).rows (book_of s).shipped ++ (held ++ filter (is_word (book_of s).rows) (waiting_in s)) ≡
      body (book_of s).rows (kept_in (book_of s).rows)
  -- shipped, then the shelf, then what remains of waiting notes is a class's text kept, in order
  pub classes : (c : ℕ) → text_of (book_of s).rows c (book_of s).shipped ++ (shelf (book_of s) c ++ parts (book_of s).rows c (waiting_in s))
      ≡ text_of (book_of s).rows c (kept_in (book_of s).rows)
  -- pages begin within what shipped
  pub pages : AllByRecursion (λ p. p.from ≤ length (book_of s).shipped) (book_of s).pages

-- what is on the page of an open book is in the table
pub page_inside : {F : List Item} {b : Book} {held : List ℕ} → Inv F (is_open b) held → AllByRecursion (Inside b.rows) b.page
page_inside {F} {b} {held} i =
    all_left (Inside b.rows) b.page b.contributions (all_right (Inside b.rows) held (b.page ++ b.contributions) i.inside)

-- tables that differ in places and firings alone owe the same
module _ {R Q : List Row} (a : Alike R Q) (spent : (x : ℕ) → spent_at Q x ≡ spent_at R x) where
  pub same_remaining : ◌≡◌ {A = ℕ → List ℕ} (λ x. remaining Q x) (λ x. remaining R x)
  same_remaining = ap₂ {C = ℕ → List ℕ} (λ (it : ℕ → Item) (sp : ℕ → ℕ) x. content (it x) x (sp x)) a.item (fun_ext spent)

  pub same_parts : (c : ℕ) (xs : List ℕ) → parts Q c xs ≡ parts R c xs
  same_parts c xs = ap₂ (λ (it : ℕ → Item) (rem : ℕ → List ℕ). flat_map (λ x. cond (eqb (note_class (it x)) c) (rem x) []) xs) a.item same_remaining

  pub same_owes : (xs : List ℕ) → owes Q xs ≡ owes R xs
  same_owes xs = ap₂ (λ (it : ℕ → Item) (rem : ℕ → List ℕ). flat_map (λ x. cond (is_note (it x)) (rem x) (x ∷ [])) xs) a.item same_remaining

  pub same_left : (xs : List ℕ) → AllByRecursion (HasLeft R) xs → AllByRecursion (HasLeft Q) xs
  same_left xs h = subst (λ (it : ℕ → Item). AllByRecursion (λ x. is_note (it x) ≡ true → 1 ≤ length (remaining Q x)) xs) (sym a.item)
      (subst (λ (rem : ℕ → List ℕ). AllByRecursion (λ x. is_note (item_at R x) ≡ true → 1 ≤ length (rem x)) xs) (sym same_remaining) h)

pub same_words : {R Q : List Row} → Alike R Q → (xs : List ℕ) → filter (is_word Q) xs ≡ filter (is_word R) xs
same_words a xs = ap (λ (it : ℕ → Item). filter (λ x. not (is_note (it x))) xs) a.item

pub same_inside : {R Q : List Row} → Alike R Q → (xs : List ℕ) → AllByRecursion (Inside R) xs → AllByRecursion (Inside Q) xs
same_inside a xs h = subst (λ n. AllByRecursion (λ x. (1 ≤ x) × (x ≤ n)) xs) (sym a.size) h

-- items lie where they lay, where only what is owed may be other
pub lies_still : (s t : State) (held : List ℕ) (y : ℕ) → (0 < times y (owed s) → 0 < times y (owed t)) → shelved (book_of s) ≡ shelved (book_of t) →
    ◌≡◌ {A = ℕ → List ℕ} (λ n. shipped_on (book_of s) n) (λ n. shipped_on (book_of t) n) → dropped_in (book_of s).rows ≡ dropped_in (book_of t).rows →
    (p : Place) → 0 < times y (lies s held p) → 0 < times y (lies t held p)
lies_still s t held y f shelves pages dropped Owed h = f h
lies_still s t held y f shelves pages dropped Shelved h = subst (λ l. 0 < times y l) shelves h
lies_still s t held y f shelves pages dropped Held h = h
lies_still s t held y f shelves pages dropped (Shipped n) h = subst (λ (on : ℕ → List ℕ). 0 < times y (on n)) pages h
lies_still s t held y f shelves pages dropped Dropped h = subst (λ l. 0 < times y l) dropped h
