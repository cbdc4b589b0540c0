-- A place of the page where a break may be has a penalty that does not forbid it, and looks at two items ahead.
use Rattle.std.proofs.Common.{◌≡◌, ℕ, Bool, true, false, cond, not, ◌&&◌, ◌||◌, List, [], ◌∷◌, ℤ, pos, ◌<ℤ◌, Some, None, sym, refl, arith}
use borrow.Author.Differences.{ints}
use Rattle.items.specs.declared.Item.{Item}
use Rattle.items.specs.declared.Item.TheVariants.{Glue}
use Rattle.items.specs.Items.{is_box, is_glue, is_note}
use Rattle.cost.specs.Cost.{forced, forbidden}
use Rattle.notes.specs.Break.{last_is, first_is, free, penalty_before}
use Rattle.notes.proofs.Places.{before_allowed}
use Rattle.page.specs.declared.PageSoFar.{PageSoFar}
use Rattle.page.specs.declared.breaks.Ahead.{Ahead}
use Rattle.page.specs.declared.breaks.Ahead.TheVariants.{Items, Waiting, End}
use Rattle.page.specs.Breaks.{empty, penalty_at, items_ahead, closes}

pub penalty_allowed : (closed : Bool) (m : PageSoFar) (page ahead : List Item) (p : ℤ) → Some p ≡ penalty_at closed m page ahead → p <ℤ forbidden
penalty_allowed closed m page [] p e = go (closed && not (empty page)) (sym e)
  where
    go : (t : Bool) → cond t (Some forced) None ≡ Some p → p <ℤ forbidden
    go true e = let f : p ≡ forced = cc in omega (arith, ints)
    go false e = let z : ◌≡◌ {A = ℕ} 0 1 = cc in absurd (omega arith)
penalty_allowed closed m page (x ∷ rest) p e = go m.boxes (sym e)
  where
    go : (t : Bool) → cond t (penalty_before (last_is (λ y. is_box y || is_note y) page) x (first_is is_glue rest)) (free (is_box x && not (empty page))) ≡ Some p → p <ℤ forbidden
    go true e = before_allowed (last_is (λ y. is_box y || is_note y) page) x (first_is is_glue rest) p e
    go false e = before_allowed (is_box x && not (empty page)) (Glue (pos 0) 0 0 0) false p e

-- what lies ahead of a list of items
abbrev pub ahead_of : List Item → Bool → Ahead
ahead_of [] closed = cond closed End Waiting
ahead_of (x ∷ []) closed = Items x None
ahead_of (x ∷ y ∷ ys) closed = Items x (Some y)

pub penalty_ahead : (closed : Bool) (m : PageSoFar) (page items : List Item) → penalty_at closed m page items ≡ penalty_at (closes (ahead_of items closed)) m page (items_ahead (ahead_of items closed))
penalty_ahead true m page [] = refl
penalty_ahead false m page [] = refl
penalty_ahead closed m page (x ∷ []) = refl
penalty_ahead closed m page (x ∷ y ∷ ys) = refl
