-- A settling: what ships, is held and is returned of a firing's output, by the policy's verdict.
use Rattle.std.specs.Prelude.{◌≡◌, ℕ, ◌+◌, Bool, true, false, cond, List, [], ◌∷◌, ◌++◌, map, length, ℤ, Some, None, Option}
use Rattle.items.specs.declared.Place.TheVariants.{Owed, Held, Shipped}
use Rattle.items.specs.declared.Piece.{Piece}
use Rattle.items.specs.Table.{shelf_items, change_all, put}
use Rattle.policies.specs.declared.Verdict.{Verdict}
use Rattle.policies.specs.Policies.{Given, Splits, Rule, shipped_of, returned_of, every_class}
use Rattle.calls.specs.declared.Page.{Page}
use Rattle.calls.specs.Book.{Book, Output}

-- the shelves once the named classes have shipped, and what was on theirs
abbrev pub emptied : List Bool → List (List Piece) → List (List Piece)
emptied [] shelves = shelves
emptied (t ∷ ts) [] = []
emptied (t ∷ ts) (p ∷ ps) = cond t [] p ∷ emptied ts ps

abbrev pub on_shelves : List Bool → List (List Piece) → List ℕ
on_shelves [] shelves = []
on_shelves (t ∷ ts) [] = []
on_shelves (t ∷ ts) (p ∷ ps) = cond t (shelf_items p) [] ++ on_shelves ts ps

-- the items that ship, in order: those of the body, and then the named shelves
abbrev pub shipment : Book → List ℕ → List Bool → List ℕ
shipment b body classes = body ++ on_shelves classes b.shelves

-- a page is numbered and listed where anything ships
abbrev pub numbered : Book → List ℕ → Option ℕ
numbered b [] = None
numbered b (x ∷ xs) = Some (length b.pages + 1)

abbrev pub listed : Book → ℤ → List ℕ → List Page
listed b p [] = b.pages
listed b p (x ∷ xs) = b.pages ++ (record { from = length b.shipped; penalty = p }) ∷ []

abbrev pub page_of : Book → List ℕ → List Bool → Option ℕ
page_of b body classes = numbered b (shipment b body classes)

-- waiting notes, and then what is returned, come before the contributions
abbrev pub settled_book : Book → Output → List ℕ → List ℕ → List ℕ → List Bool → Book
settled_book b out body held returned classes =
    let s = shipment b body classes in
    let shipped = change_all (put (Shipped (length b.pages + 1))) b.rows s in
    record b {
      rows = change_all (put Owed) (change_all (put Held) shipped held) returned;
      contributions = out.waiting ++ (returned ++ b.contributions);
      shelves = emptied classes b.shelves;
      shipped = b.shipped ++ s;
      pages = listed b out.penalty s;
      done = out.final;
    }

abbrev pub given : Book → Output → Given
given b out = record { body = out.body; shelved = map (λ s. length (shelf_items s)) b.shelves; penalty = out.penalty; rows = b.rows }

-- by a verdict: over what was held, and with what is held then
abbrev pub judged_page : Book → Output → List ℕ → Verdict → Option ℕ
judged_page b out before v = page_of b (shipped_of (before ++ out.body) v) v.classes

abbrev pub judged_book : Book → Output → List ℕ → List ℕ → Verdict → Book
judged_book b out before after v = settled_book b out (shipped_of (before ++ out.body) v) after (returned_of (before ++ out.body) v) v.classes

-- the policy was asked and obeyed; or, at the last firing, it released what it held and every shelf ships
module _ {P : Type 0} (held : P → List ℕ) (rule : Rule P) where
  pub data Settled (b : Book) (out : Output) (p : P) : Option ℕ → Book → P → Type 0 where
    judged : {q : P} (v : Verdict) → out.final ≡ false → rule p (given b out) v q → Splits (held p) out.body (held q) v →
        Settled b out p (judged_page b out (held p) v) (judged_book b out (held p) (held q) v) q
    released : {q : P} → out.final ≡ true → held q ≡ [] →
        Settled b out p (page_of b (held p) every_class) (settled_book b out (held p) [] [] every_class) q
