-- A close leaves the closed book, and it is kept as the open one was: only the list of calls is longer.
use Rattle.std.proofs.Common.{◌≡◌, Bool, false, length, sym, refl, ap, subst}
use Rattle.calls.specs.Feeding.{closed_book}
use Rattle.calls.specs.Runs.{Reached}
use Rattle.calls.proofs.Reaching.{reached_closed}
use Rattle.book.specs.declared.Open.{Open}
use Rattle.book.specs.declared.Phase.{Phase}
use Rattle.book.specs.declared.Phase.TheVariants.{Feeding, Closed, Done}
use Rattle.book.specs.View.{Contents, is_closed, is_done, book_of, Kept}

not_done : (p : Phase) → is_closed p ≡ false → is_done p ≡ false
not_done Feeding e = refl
not_done Closed e = cc
not_done Done e = cc

module _ (o : Open) (not_closed : is_closed o.phase ≡ false) (t : Contents) where
  abbrev shut : Open
  shut = record o { phase = Closed }

  pub closed_is : book_of shut t ≡ closed_book (book_of o t)
  closed_is = ap (λ (d : Bool). record (closed_book (book_of o t)) { done = d }) (sym (not_done o.phase not_closed))

  pub closed_kept : Kept o t → Kept shut t
  closed_kept k = record {
    tables = k.tables;
    settings = k.settings;
    classes = k.classes;
    eight = k.eight;
    used = k.used;
    waits = k.waits;
    owed = k.owed;
    shipped = k.shipped;
    pages = k.pages;
    shelved = k.shelved;
    reached = subst (Reached (length t.rows)) (sym closed_is) (reached_closed (length t.rows) (book_of o t) not_closed k.reached);
  }
