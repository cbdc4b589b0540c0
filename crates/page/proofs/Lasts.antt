-- The last item of a page, read in the table.
use Rattle.std.proofs.Common.{◌≡◌, ℕ, suc, ◌-◌, Bool, List, [], ◌∷◌, length, Some, sym, ap, ◌∙◌, arith}
use Rattle.std.specs.List.{slice_get}
use Rattle.items.specs.declared.Item.{Item}
use Rattle.items.specs.declared.Row.{Row}
use Rattle.items.specs.Table.{item_at, items_at}
use Rattle.notes.specs.Break.{last_is}

pub last_is_item : (rows : List Row) (page : List ℕ) (x : ℕ) → Some x ≡ slice_get page (length page - 1) → (p : Item → Bool) → last_is p (items_at rows page) ≡ p (item_at rows x)
last_is_item rows [] x e p = cc
last_is_item rows (y ∷ []) x e p = let same : x ≡ y = cc in ap (λ z. p (item_at rows z)) (sym same)
last_is_item rows (y ∷ z ∷ zs) x e p =
    let here : length (y ∷ z ∷ zs) - 1 ≡ suc (length zs) = omega arith in
    let there : length (z ∷ zs) - 1 ≡ length zs = omega arith in
    last_is_item rows (z ∷ zs) x (e ∙ ap (slice_get (y ∷ z ∷ zs)) here ∙ ap (slice_get (z ∷ zs)) (sym there)) p
