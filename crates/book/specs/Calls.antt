-- What the calls on a book answer and leave.
use Rattle.std.specs.Prelude.{◌≡◌, ℕ, ◌+◌, List, length, Some, None, Ok, Err, Option, Result}
use Rattle.items.specs.declared.Item.{Item}
use Rattle.items.specs.declared.Settings.{Settings}
use Rattle.items.specs.declared.Class.{Class}
use Rattle.items.specs.declared.refusals.Refusal.{Refusal}
use Rattle.calls.specs.Book.{Book}
use Rattle.calls.specs.Making.{empty_book, making_refusal}
use Rattle.calls.specs.Feeding.{refusal, fed_book, closing_refusal, closed_book}
use Rattle.book.specs.declared.Open.{Open}
use Rattle.book.specs.View.{Contents, lengths_of, is_closed, book_of, Kept}

-- nothing is refused, or what is
abbrev pub allowed : Option Refusal → Result (Unit {0}) Refusal
allowed None = Ok tt
allowed (Some e) = Err e

-- a making over the tables: an empty book that they keep, or the refusal
abbrev pub Made : Settings → List (Option Class) → Contents → Result Open Refusal → Type 0
Made s cs t (Ok o) = (making_refusal (length t.rows) (lengths_of t) s cs ≡ None) × (book_of o t ≡ empty_book s cs) × Kept o t
Made s cs t (Err e) = making_refusal (length t.rows) (lengths_of t) s cs ≡ Some e

-- a feed: the number of what is fed and the book with it, or the refusal and the book as it was
abbrev pub Fed : ℕ → Book → Item → List Item → Result ℕ Refusal → Book → Type 0
Fed capacity b x content (Ok n) c = (refusal capacity b x content ≡ None) × (n ≡ length b.rows + 1) × (c ≡ fed_book b x content)
Fed capacity b x content (Err e) c = (refusal capacity b x content ≡ Some e) × (c ≡ b)

-- a closing, over any tables: the closed book, which they keep if they kept the open one, or the refusal of a closed one
abbrev pub Closing : Open → Result (Unit {0}) Refusal → Open → Type 0
Closing o (Ok u) p = (closing_refusal (is_closed o.phase) ≡ None) × ((t : Contents) → (book_of p t ≡ closed_book (book_of o t)) × (Kept o t → Kept p t))
Closing o (Err e) p = (closing_refusal (is_closed o.phase) ≡ Some e) × (p ≡ o)
