-- The sizes that a chain gives of a content's rows fit along each of its runs, and add up.
use Rattle.std.proofs.Common.{◌≡◌, ℕ, ◌+◌, ◌*◌, ◌^◌, ◌<◌, ◌≤◌, List, [], ◌∷◌, length, map, ℤ, pos, ◌+ℤ◌, nat_abs, FitsSigned, w64, Option, fold, ap, ◌∙◌, subst, arith}
use borrow.Author.Differences.{ints}
use Rattle.std.specs.Iterator.{AlwaysYields, Yields}
use Rattle.std.specs.Iterator.Runs.{EachRunFrom, YieldsRun}
use Rattle.std.proofs.lemmas.Iterator.{YieldsList}
use Rattle.std.proofs.lemmas.List.{length-map}
use Rattle.items.specs.declared.Row.{Row}
use Rattle.items.specs.Items.{size_of, items_of}
use Rattle.notes.specs.Break.{Within}
use Rattle.page.specs.PageSoFar.{sizes}
use Rattle.page.proofs.Sizes.{size_small, sizes_small}

-- how far numbers reach together
abbrev pub reach : List ℤ → ℕ
reach [] = 0
reach (x ∷ xs) = nat_abs x + reach xs

-- a run of calls that give some of the numbers takes a sum no further than all of them reach
module _ {S : Type 0} (steps : S → Option ℤ → S → Type 0) where
  run_small : (all : List ℤ) (s : S) → AlwaysYields steps (λ x. x) s all → (xs : List ℤ) (t : S) → Yields steps s xs t → (a : ℤ) → nat_abs (fold ◌+ℤ◌ a xs) ≤ nat_abs a + reach all
  run_small all s e [] t r a = omega arith
  run_small [] s e (x ∷ xs) t r a = absurd (e x r.0 r.1)
  run_small (y ∷ ys) s e (x ∷ xs) t r a =
      let next = e.1 x r.0 r.1 in
      let rest = run_small ys r.0 next.1 xs t r.2 (a +ℤ x) in
      let same : nat_abs x ≡ nat_abs y = ap nat_abs next.0 in
      let whole : nat_abs (fold ◌+ℤ◌ (a +ℤ x) xs) ≤ nat_abs a + (nat_abs y + reach ys) = omega (arith, ints) in
      whole

  pub runs_fit : (all : List ℤ) (s : S) → YieldsList steps (λ x. x) s all → reach all < 2 ^ 62 → EachRunFrom steps s (λ p. FitsSigned w64 (fold ◌+ℤ◌ (pos 0) p.items))
  unfolding YieldsRun
  runs_fit all s e low = λ p _ at.
      let far = run_small all s e.runs p.items p.gave.0.0 (subst (λ u. Yields steps u p.items p.gave.0.0) at p.gave.0.1) (pos 0) in
      omega (arith, ints)

abbrev pub row_size : Row → ℤ
row_size r = size_of r.item

pub rows_small : (rows : List Row) → Within (items_of rows) → reach (map row_size rows) ≤ length rows * 2 ^ 31
rows_small [] h = omega arith
rows_small (r ∷ rs) h = omega (arith, size_small r.item h.0, rows_small rs h.1)

pub rows_add : (rows : List Row) (a : ℤ) → fold ◌+ℤ◌ a (map row_size rows) ≡ a +ℤ sizes (items_of rows)
rows_add [] a = omega (arith, ints)
rows_add (r ∷ rs) a = rows_add rs (a +ℤ row_size r) ∙ omega (arith, ints)

pub sizes_low : (rows : List Row) → Within (items_of rows) → length rows ≤ 16384 → nat_abs (sizes (items_of rows)) ≤ 2 ^ 45
sizes_low rows h short = omega (arith, sizes_small (items_of rows) h, length-map rows (λ r. r.item))
