-- What a page comes to: one more number, and what of the table it rests on.
use Rattle.std.proofs.Common.{◌≡◌, ℕ, List, [], ◌∷◌, ◌++◌, fold, sym, refl, ap, ◌∙◌}
use Rattle.std.specs.List.{AllByRecursion}
use Rattle.std.proofs.lemmas.List.Sums.{fold_push}
use Rattle.items.specs.declared.Item.{Item}
use Rattle.items.specs.declared.Item.TheVariants.{Box, Glue, Kern, Penalty, Note}
use Rattle.items.specs.declared.Row.{Row}
use Rattle.items.specs.Table.{item_at}
use Rattle.page.specs.declared.Ground.{Ground}
use Rattle.page.specs.declared.PageSoFar.{PageSoFar}
use Rattle.page.specs.PageSoFar.{fresh, begin, items_left, with_note, with_item, next, so_far}

module _ (g : Ground) (rows : List Row) (xs : List ℕ) (x : ℕ) where
  pub so_far_push : so_far g rows (xs ++ x ∷ []) ≡ next g rows (so_far g rows xs) x
  so_far_push = fold_push (next g rows) (fresh g) xs x

  pub so_far_next : (m after : PageSoFar) → after ≡ next g rows m x → m ≡ so_far g rows xs → after ≡ so_far g rows (xs ++ x ∷ [])
  so_far_next m after e is = e ∙ ap (λ k. next g rows k x) is ∙ sym so_far_push

-- two tables that have the same item of a number, and the same left of it if it is a note
pub record Alike (rows others : List Row) (x : ℕ) : Type 0 where
  pub item : item_at rows x ≡ item_at others x
  pub left : items_left rows x ≡ items_left others x

module _ (g : Ground) (rows others : List Row) where
  item_same : (m : PageSoFar) (x : ℕ) → items_left rows x ≡ items_left others x → (it : Item) → with_item g rows m x it ≡ with_item g others m x it
  item_same m x e (Box h d) = refl
  item_same m x e (Glue w st o sh) = refl
  item_same m x e (Kern w) = refl
  item_same m x e (Penalty v) = refl
  item_same m x e (Note c n) = ap (with_note g (begin g m c) x c) e

  next_same : (m : PageSoFar) (x : ℕ) → Alike rows others x → next g rows m x ≡ next g others m x
  next_same m x a = item_same m x a.left (item_at rows x) ∙ ap (with_item g others m x) a.item

  all_same : (m : PageSoFar) (xs : List ℕ) → AllByRecursion (Alike rows others) xs → fold (next g rows) m xs ≡ fold (next g others) m xs
  all_same m [] a = refl
  all_same m (x ∷ xs) a = all_same (next g rows m x) xs a.1 ∙ ap (λ k. fold (next g others) k xs) (next_same m x a.0)

  pub so_far_same : (xs : List ℕ) → AllByRecursion (Alike rows others) xs → so_far g rows xs ≡ so_far g others xs
  so_far_same xs a = all_same (fresh g) xs a
