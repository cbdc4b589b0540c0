-- The numbers put on a page so far, and one more.
use Rattle.std.proofs.Common.{◌≡◌, ℕ, ◌+◌, ◌<◌, ◌≤◌, List, [], ◌∷◌, ◌++◌, length, get_or, take, sym, ap, ◌∙◌, subst, arith}
use Rattle.std.specs.List.{AllByRecursion}
use Rattle.std.proofs.ByRecursion.{All-more}
use Rattle.std.proofs.lemmas.List.{length-take-le, take_more}
use Rattle.items.specs.declared.Row.{Row}
use Rattle.page.specs.declared.Ground.{Ground}
use Rattle.page.specs.declared.PageSoFar.{PageSoFar}
use Rattle.page.specs.PageSoFar.{so_far}
use Rattle.page.specs.Standing.{Grounded, Inside, Standing, Arriving}
use Rattle.page_tests.specs.Galley.{galley}
use Rattle.page_tests.proofs.Formed.{galley_formed, galley_arriving}

module _ (g : Ground) (h : Grounded g) (m : PageSoFar) where
  pub standing : (page : List ℕ) → length page ≤ 8 → AllByRecursion (Inside galley) page → m ≡ so_far g galley page → Standing g galley page m
  standing page l i e = record { basis = h; table = galley_formed; short = omega arith; numbers = i; few = omega arith; is = e }

  module _ (numbers : List ℕ) (k : ℕ) (few : length numbers ≤ 8) (rows : List Row) (is : rows ≡ galley) where
    pub so_far_lem : k ≤ length numbers → AllByRecursion (Inside galley) (take k numbers) → m ≡ so_far g galley (take k numbers) → Standing g rows (take k numbers) m
    so_far_lem l i e = subst (λ t. Standing g t (take k numbers) m) (sym is) (standing (take k numbers) (omega (arith, length-take-le k numbers l)) i e)

    module _ (l : k < length numbers) (x : Inside galley (get_or numbers k 0)) where
      pub arrives : Arriving rows (get_or numbers k 0)
      arrives = subst (λ t. Arriving t (get_or numbers k 0)) (sym is) (galley_arriving (get_or numbers k 0) x)

      pub one_more : (after : PageSoFar) → (m ≡ so_far g rows (take k numbers) → after ≡ so_far g rows (take k numbers ++ get_or numbers k 0 ∷ [])) →
          m ≡ so_far g galley (take k numbers) → AllByRecursion (Inside galley) (take k numbers) → (after ≡ so_far g galley (take (k + 1) numbers)) × AllByRecursion (Inside galley) (take (k + 1) numbers)
      one_more after f e i =
          let same = ap (λ t. so_far g t (take k numbers)) is in
          (f (e ∙ sym same) ∙ ap (λ t. so_far g t (take k numbers ++ get_or numbers k 0 ∷ [])) is ∙ ap (so_far g galley) (sym (take_more numbers k 0 l)), All-more (Inside galley) numbers k 0 l i x)
