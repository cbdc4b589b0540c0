-- Once its rows and its number are written, what is fed is in the book, and the tables keep it.
use Rattle.std.proofs.Common.{◌≡◌, ℕ, ◌+◌, ◌≤◌, List, [], ◌∷◌, ◌++◌, length, take, None, sym, ap, ◌∙◌, subst, ap₂, arith}
use Rattle.std.specs.List.{AllByRecursion}
use Rattle.std.proofs.lemmas.List.{length-take-le, length_push}
use Rattle.items.specs.declared.Item.{Item}
use Rattle.items.specs.declared.Row.{Row}
use Rattle.queue.specs.declared.Queue.{Queue}
use Rattle.queue.specs.Queues.{Within, list_of}
use Rattle.queue.proofs.Rings.{list_length}
use Rattle.calls.specs.Feeding.{content_for, refusal, fed_rows, fed_book}
use Rattle.calls.specs.Runs.{Reached}
use Rattle.calls.proofs.Reaching.{reached_fed}
use Rattle.book.specs.declared.Open.{Open}
use Rattle.book.specs.View.{Contents, book_of, Fit, Kept}

-- the turn with so many rows and such contributions
abbrev pub entered : Open → ℕ → Queue → Open
entered o rows q = record o { rows = rows; contributions = q }

module _ (o : Open) (before : Contents) (rows' : List Row) (contributions' : List ℕ) (x : Item) (content : List Item) (q : Queue) (n : ℕ)
    (used : o.rows ≤ length before.rows) (count : n ≡ length (content_for x content))
    (written : take (o.rows + 1 + length (content_for x content)) rows' ≡ take o.rows before.rows ++ fed_rows (o.rows + 1) x content)
    (queued : list_of q contributions' ≡ list_of o.contributions before.contributions ++ (o.rows + 1) ∷ []) where
  pub number_is : o.rows + 1 ≡ length (take o.rows before.rows) + 1
  number_is = ap (λ k. k + 1) (sym (length-take-le o.rows before.rows used))

  rows_are : take (o.rows + (1 + n)) rows' ≡ take o.rows before.rows ++ fed_rows (length (take o.rows before.rows) + 1) x content
  rows_are = ap (λ k. take k rows') (omega arith) ∙ written ∙ ap (λ k. take o.rows before.rows ++ fed_rows k x content) number_is

  -- the tables that the turn leaves
  abbrev after : Contents
  after = record before { rows = rows'; contributions = contributions' }

  pub fed_is : book_of (entered o (o.rows + (1 + n)) q) after ≡ fed_book (book_of o before) x content
  fed_is =
      ap₂ (λ rows contributions. record (book_of o before) { rows = rows; contributions = contributions }) rows_are
      (queued ∙ ap (λ k. list_of o.contributions before.contributions ++ k ∷ []) number_is)

  module _ (long : length rows' ≡ length before.rows) (long_contributions : length contributions' ≡ length before.contributions) (within : Within q contributions')
      (room : o.rows + 1 + length (content_for x content) ≤ length before.rows) (none : refusal (length before.rows) (book_of o before) x content ≡ None) (k : Kept o before) where
    fits : Fit after
    fits = let t = k.tables in record {
      some = omega (arith, t.some);
      few = omega (arith, t.few);
      contributions = omega (arith, t.contributions);
      page = omega (arith, t.page);
      waiting = omega (arith, t.waiting);
      shipped = omega (arith, t.shipped);
      pages = omega (arith, t.pages);
      shelves = subst (λ n. AllByRecursion (λ s. n ≤ length s) before.shelves) (sym long) t.shelves;
      eight = t.eight;
    }

    one_more : q.len ≡ o.contributions.len + 1
    one_more = sym (list_length q contributions' within) ∙ ap length queued ∙ length_push (list_of o.contributions before.contributions) (o.rows + 1) ∙
        ap (λ n. n + 1) (list_length o.contributions before.contributions k.waits)

    pub kept_then : Kept (entered o (o.rows + (1 + n)) q) after
    kept_then = record {
      tables = fits;
      settings = k.settings;
      classes = k.classes;
      eight = k.eight;
      used = omega arith;
      waits = within;
      owed = omega (arith, one_more, k.owed);
      shipped = omega (arith, k.shipped);
      pages = k.pages;
      shelved = k.shelved;
      reached = subst (λ l. Reached l (book_of (entered o (o.rows + (1 + n)) q) after)) (sym long)
          (subst (Reached (length before.rows)) (sym fed_is) (reached_fed (length before.rows) (book_of o before) x content none k.reached));
    }
