-- What a page comes to does not rest on where rows lie or on their stamps, nor on rows fed later.
use Rattle.std.proofs.Common.{◌≡◌, ℕ, zero, suc, ◌+◌, ◌-◌, ◌<◌, ◌≤◌, List, [], ◌∷◌, ◌++◌, map, length, get_or, sym, refl, ap, ◌∙◌, ⊎_elim, arith}
use Rattle.std.specs.List.{AllByRecursion}
use Rattle.std.proofs.ByRecursion.{All-weaker}
use Rattle.std.proofs.lemmas.List.{get_or_append_left, get_or-set_same, get_or-set_other, set_past}
use Rattle.std.proofs.lemmas.Bool.{cases_eq, cases_lt}
use Rattle.items.specs.declared.Item.{Item}
use Rattle.items.specs.declared.Item.TheVariants.{Box, Glue, Kern, Penalty, Note}
use Rattle.items.specs.declared.Row.{Row}
use Rattle.items.specs.Lists.{span}
use Rattle.items.specs.Items.{blank}
use Rattle.items.specs.Table.{row_at, item_at, items_at, content, WellFormed, change, change_all}
use Rattle.page.specs.declared.Ground.{Ground}
use Rattle.page.specs.PageSoFar.{so_far}
use Rattle.page.specs.Standing.{Inside}
use Rattle.page.proofs.Pages.{Alike, so_far_same}

map_same : {A B : Type 0} (f h : A → B) → ((x : A) → f x ≡ h x) → (xs : List A) → map f xs ≡ map h xs
map_same f h e [] = refl
map_same f h e (x ∷ xs) = ap (λ y. y ∷ map f xs) (e x) ∙ ap (λ ys. h x ∷ ys) (map_same f h e xs)

all_of : {A : Type 0} (P : A → Type 0) → ((x : A) → P x) → (xs : List A) → AllByRecursion P xs
all_of P h [] = tt
all_of P h (x ∷ xs) = (h x, all_of P h xs)

module _ (rows others : List Row) (items : (x : ℕ) → item_at rows x ≡ item_at others x) (spents : (x : ℕ) → (row_at rows x).spent ≡ (row_at others x).spent) where
  pub tables_alike : (x : ℕ) → Alike rows others x
  tables_alike x =
      record {
        item = items x;
        left =
            ap (λ s. items_at rows (content (item_at rows x) x s)) (spents x) ∙ ap (λ i. items_at rows (content i x (row_at others x).spent)) (items x) ∙
            map_same (λ y. item_at rows y) (λ y. item_at others y) items (content (item_at others x) x (row_at others x).spent);
      }

  pub so_far_tables : (g : Ground) (xs : List ℕ) → so_far g rows xs ≡ so_far g others xs
  so_far_tables g xs = so_far_same g rows others xs (all_of (Alike rows others) tables_alike xs)

-- changes of rows that leave something of them as it was
module _ {A : Type 0} (part : Row → A) (f : Row → Row) (same : (r : Row) → part (f r) ≡ part r) where
  change_part : (rows : List Row) (y x : ℕ) → part (row_at (change f rows y) x) ≡ part (row_at rows x)
  change_part rows y x =
      ⊎_elim
      (λ e. ⊎_elim
      (λ l. ap (λ i. part (get_or (change f rows y) i blank)) e ∙ ap part (get_or-set_same rows (y - 1) (f (row_at rows y)) blank l) ∙ same (row_at rows y) ∙ ap (λ i. part (get_or rows i blank)) (sym e))
      (λ l. ap (λ t. part (row_at t x)) (set_past rows (y - 1) (f (row_at rows y)) l))
      (cases_lt (y - 1) (length rows)))
      (λ n. ap part (get_or-set_other rows (y - 1) (x - 1) (f (row_at rows y)) blank n))
      (cases_eq (x - 1) (y - 1))

  changes_part : (rows : List Row) (ys : List ℕ) (x : ℕ) → part (row_at (change_all f rows ys) x) ≡ part (row_at rows x)
  changes_part rows [] x = refl
  changes_part rows (y ∷ ys) x = changes_part (change f rows y) ys x ∙ change_part rows y x

pub so_far_changed : (f : Row → Row) → ((r : Row) → (f r).item ≡ r.item) → ((r : Row) → (f r).spent ≡ r.spent) →
    (g : Ground) (rows : List Row) (ys xs : List ℕ) → so_far g (change_all f rows ys) xs ≡ so_far g rows xs
so_far_changed f items spents g rows ys xs =
    so_far_tables (change_all f rows ys) rows (changes_part (λ (r : Row). r.item) f items rows ys) (changes_part (λ (r : Row). r.spent) f spents rows ys) g xs

-- rows fed later
module _ (rows more : List Row) (t : WellFormed rows) where
  row_fed : (x : ℕ) → Inside rows x → row_at (rows ++ more) x ≡ row_at rows x
  row_fed x i = let first = i.first in
      let last = i.last in
      get_or_append_left rows more blank (x - 1) (omega arith)

  span_fed : (a n : ℕ) → 1 ≤ a → ((i : ℕ) → i < n → a + i ≤ length rows) → items_at (rows ++ more) (span a n) ≡ items_at rows (span a n)
  span_fed a zero l h = refl
  span_fed a (suc n) l h =
      let here : Inside rows a = record { first = l; last = omega (arith, h 0 (omega arith)) } in
      ap (λ r. r.item ∷ items_at (rows ++ more) (span (suc a) n)) (row_fed a here) ∙
      ap (λ xs. item_at rows a ∷ xs) (span_fed (suc a) n (omega arith) (λ i k. omega (arith, h (suc i) (omega arith))))

  module _ (x : ℕ) (i : Inside rows x) where
    content_fed : (s : ℕ) (it : Item) → item_at rows x ≡ it → items_at (rows ++ more) (content it x s) ≡ items_at rows (content it x s)
    content_fed s (Box h d) e = refl
    content_fed s (Glue w st o sh) e = refl
    content_fed s (Kern w) e = refl
    content_fed s (Penalty v) e = refl
    content_fed s (Note c n) e = let w = (t.content x c n i.first e).within in
        span_fed (x + 1 + s) (n - s) (omega arith) (λ j l. omega arith)

    fed_alike : Alike (rows ++ more) rows x
    fed_alike = let r = row_fed x i in
        record {
          item = ap (λ r. r.item) r;
          left = ap (λ r. items_at (rows ++ more) (content r.item x r.spent)) r ∙ content_fed (row_at rows x).spent (item_at rows x) refl;
        }

  pub so_far_fed : (g : Ground) (xs : List ℕ) → AllByRecursion (Inside rows) xs → so_far g (rows ++ more) xs ≡ so_far g rows xs
  so_far_fed g xs h = so_far_same g (rows ++ more) rows xs (All-weaker (Inside rows) (Alike (rows ++ more) rows) fed_alike xs h)
