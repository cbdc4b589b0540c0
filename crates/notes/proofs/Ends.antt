-- The last item of the front of a list and the first of the rest, read at their places in the rows.
use Rattle.std.proofs.Common.{◌≡◌, ℕ, ◌+◌, ◌<◌, Bool, true, List, [], ◌∷◌, ◌++◌, length, get_or, take, drop, refl, ap, ◌∙◌, subst}
use Rattle.std.proofs.ByRecursion.{All-get_or}
use Rattle.std.proofs.lemmas.List.{length-map, get_or-map, take_more, drop_more}
use Rattle.items.specs.declared.Item.{Item}
use Rattle.items.specs.declared.Row.{Row}
use Rattle.items.specs.Items.{items_of, within_limits}
use Rattle.notes.specs.Break.{Within, last_is, first_is}

last_is_push : (p : Item → Bool) (xs : List Item) (x : Item) → last_is p (xs ++ x ∷ []) ≡ p x
last_is_push p [] x = refl
last_is_push p (y ∷ []) x = refl
last_is_push p (y ∷ z ∷ zs) x = last_is_push p (z ∷ zs) x

module _ (rows : List Row) (k : ℕ) (d : Row) (l : k < length rows) where
  pub items_of_at : get_or (items_of rows) k d.item ≡ (get_or rows k d).item
  items_of_at = get_or-map (λ (r : Row). r.item) rows k d d.item l

  inside : k < length (items_of rows)
  inside = simp length-map l

  pub items_of_take : take (k + 1) (items_of rows) ≡ take k (items_of rows) ++ (get_or rows k d).item ∷ []
  items_of_take = take_more (items_of rows) k d.item inside ∙ ap (λ x. take k (items_of rows) ++ x ∷ []) items_of_at

  pub items_of_drop : drop k (items_of rows) ≡ (get_or rows k d).item ∷ drop (k + 1) (items_of rows)
  items_of_drop = drop_more (items_of rows) k d.item inside ∙ ap (λ x. x ∷ drop (k + 1) (items_of rows)) items_of_at

  pub last_is_at : (p : Item → Bool) → last_is p (take (k + 1) (items_of rows)) ≡ p (get_or rows k d).item
  last_is_at p = ap (last_is p) items_of_take ∙ last_is_push p (take k (items_of rows)) (get_or rows k d).item

  pub first_is_at : (p : Item → Bool) → first_is p (drop k (items_of rows)) ≡ p (get_or rows k d).item
  first_is_at p = ap (first_is p) items_of_drop

  pub row_within : Within (items_of rows) → within_limits (get_or rows k d).item ≡ true
  row_within h = subst (λ x. within_limits x ≡ true) items_of_at (All-get_or (λ x. within_limits x ≡ true) (items_of rows) k d.item inside h)
