-- A note's content: its rows lie together in the table, and it is within its limits.
use Rattle.std.proofs.Common.{◌≡◌, ℕ, zero, suc, ◌+◌, ◌-◌, ◌<◌, ◌≤◌, List, ◌∷◌, length, get_or, take, drop, sym, refl, ap, ◌∙◌, subst, arith}
use Rattle.std.proofs.lemmas.List.{drop_more, length-map}
use Rattle.items.specs.declared.Item.{Item}
use Rattle.items.specs.declared.Item.TheVariants.{Box, Glue, Kern, Penalty, Note}
use Rattle.items.specs.declared.Row.{Row}
use Rattle.items.specs.Lists.{span}
use Rattle.items.specs.Items.{items_of, blank}
use Rattle.items.specs.Table.{row_at, item_at, items_at, content, remaining, WellFormed}
use Rattle.notes.specs.Break.{Within}
use Rattle.page.specs.PageSoFar.{items_left}

pub length_span : (a n : ℕ) → length (span a n) ≡ n
length_span a zero = refl
length_span a (suc n) = ap suc (length_span (suc a) n)

-- the rows of some numbers in a row
span_rows : (rows : List Row) (a n : ℕ) → a + n ≤ length rows → items_of (take n (drop a rows)) ≡ items_at rows (span (suc a) n)
span_rows rows a zero l = refl
span_rows rows a (suc n) l =
    let lt : a < length rows = omega arith in
    let one : a + 1 ≡ suc a = omega arith in
    let more : drop a rows ≡ get_or rows a blank ∷ drop (suc a) rows = subst (λ k. drop a rows ≡ get_or rows a blank ∷ drop k rows) one (drop_more rows a blank lt) in
    let here : suc a - 1 ≡ a = omega arith in
    let first : (get_or rows a blank).item ≡ item_at rows (suc a) = ap (λ k. (get_or rows k blank).item) (sym here) in
    rw more (ap (λ x. x ∷ items_of (take n (drop (suc a) rows))) first ∙ ap (λ xs. item_at rows (suc a) ∷ xs) (span_rows rows (suc a) n (omega arith)))

module _ (rows : List Row) (t : WellFormed rows) (x : ℕ) (first : 1 ≤ x) where
  span_within : (a n : ℕ) → 1 ≤ a → Within (items_at rows (span a n))
  span_within a zero l = tt
  span_within a (suc n) l = (t.values a l, span_within (suc a) n (omega arith))

  content_within : (it : Item) (s : ℕ) → Within (items_at rows (content it x s))
  content_within (Box h d) s = tt
  content_within (Glue w st o sh) s = tt
  content_within (Kern w) s = tt
  content_within (Penalty v) s = tt
  content_within (Note c n) s = span_within (x + 1 + s) (n - s) (omega arith)

  pub left_within : Within (items_left rows x)
  left_within = content_within (item_at rows x) (row_at rows x).spent

  content_short : (it : Item) (s : ℕ) → item_at rows x ≡ it → length (content it x s) ≤ length rows
  content_short (Box h d) s e = omega arith
  content_short (Glue w st o sh) s e = omega arith
  content_short (Kern w) s e = omega arith
  content_short (Penalty v) s e = omega arith
  content_short (Note c n) s e = omega (arith, length_span (x + 1 + s) (n - s), (t.content x c n first e).within)

  pub left_short : length rows ≤ 16384 → length (items_left rows x) ≤ 16384
  left_short l = omega (arith, length-map (remaining rows x) (λ y. item_at rows y), content_short (item_at rows x) (row_at rows x).spent refl)

  pub left_rows : (c n s : ℕ) → item_at rows x ≡ Note c n → (row_at rows x).spent ≡ s → s ≤ n → items_of (take (x + n - (x + s)) (drop (x + s) rows)) ≡ items_left rows x
  left_rows c n s e f l =
      let k : x + n - (x + s) ≡ n - s = omega arith in
      let a : suc (x + s) ≡ x + 1 + s = omega arith in
      let w = (t.content x c n first e).within in
      ap (λ j. items_of (take j (drop (x + s) rows))) k ∙ span_rows rows (x + s) (n - s) (omega arith) ∙ ap (λ j. items_at rows (span j (n - s))) a ∙
      ap (λ j. items_at rows (content (Note c n) x j)) (sym f) ∙ ap (λ i. items_at rows (content i x (row_at rows x).spent)) (sym e)
