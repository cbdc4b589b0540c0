-- Where a page may break there is a best break, and something stands before it.
use Rattle.std.proofs.Common.{◌≡◌, ℕ, ◌≤◌, Bool, true, false, cond, List, [], ◌∷◌, map, length, ℤ, pos, ◌≤ℤ◌, Some, None, Option, sym, refl, ap, ◌∙◌, arith}
use lib.Signed.{le_z}
use borrow.Author.Differences.{ints}
use Rattle.std.specs.List.{AllByRecursion}
use Rattle.std.proofs.lemmas.Bool.{and_right}
use Rattle.items.specs.declared.Item.{Item}
use Rattle.items.specs.Items.{most, is_box}
use Rattle.items.specs.Table.{item_at, items_at}
use Rattle.cost.specs.Sums.{fit_of}
use Rattle.cost.specs.Least.{least}
use Rattle.cost.proofs.Costs.{cost_most}
use Rattle.page.specs.declared.PageSoFar.{PageSoFar}
use Rattle.page.specs.declared.breaks.PageBreak.{PageBreak}
use Rattle.page.specs.PageSoFar.{so_far}
use Rattle.page.specs.Breaks.{penalty_at, last_note, break_here, best_with}
use Rattle.page.proofs.Candidates.{penalty_allowed}
use Rattle.calls.specs.Book.{Book}
use Rattle.calls.specs.OnPage.{ground_of, on_page, penalty_here, best_here}
use Rattle.calls.specs.Firing.{note_class}
use Rattle.calls.specs.Runs.{is_open}
use Rattle.calls.proofs.Table.{from_one}
use Rattle.calls.proofs.Invariant.{page_inside, Inv}
use Rattle.calls.proofs.Pages.{page_last, FirstNote, BreakFor, BestFor}
use Rattle.calls.proofs.NoteRows.{note_class_lem}

-- no break stands before a page
penalty_none : (closed : Bool) (m : PageSoFar) (rest : List Item) → m.boxes ≡ false → penalty_at closed m [] rest ≡ None
penalty_none closed m [] e = rw (and_right closed false refl)
penalty_none closed m (x ∷ rest) e = rw (e, and_right (is_box x) false refl)

module _ (b : Book) (F : List Item) (held : List ℕ) (i : Inv F (is_open b) held) (best : BestFor b.rows b.page b.best) where
  some_page : (p : ℤ) → penalty_here b ≡ Some p → 1 ≤ length b.page
  some_page p e = go b.page refl
    where
      rest : List Item
      rest = items_at b.rows b.contributions

      go : (page : List ℕ) → b.page ≡ page → 1 ≤ length b.page
      go [] f =
          let g : penalty_here b ≡ None =
          ap (λ (l : List ℕ). penalty_at b.closed (so_far (ground_of b) b.rows l) (items_at b.rows l) rest) f ∙
          penalty_none b.closed (so_far (ground_of b) b.rows []) rest refl in
          let z : ◌≡◌ {A = ℕ} 0 1 = cc in absurd (omega arith)
      go (x ∷ xs) f = rw f (omega arith)

  first_of : (page : List ℕ) → AllByRecursion (λ x. 1 ≤ x) page → (place : ℕ) (cost goal : ℤ) →
      FirstNote b.rows page
      (record { place = place; cost = cost; goal = goal; last = map last_note (so_far (ground_of b) b.rows page).classes })
  first_of [] a place cost goal = tt
  first_of (x ∷ xs) a place cost goal = λ n.
      let k = note_class_lem (item_at b.rows x) n in
      page_last (ground_of b) b.rows x xs n (i.formed.classes x (note_class (item_at b.rows x)) k.0 a.0 k.1)

  here_break : (p : ℤ) → penalty_here b ≡ Some p → BreakFor b.rows b.page (break_here (on_page b) (length b.page) p)
  here_break p e =
      let here = break_here (on_page b) (length b.page) p in
      record {
        some = some_page p e;
        within = omega arith;
        first = first_of b.page (from_one b.rows b.page (page_inside i)) (length b.page) here.cost here.goal;
      }

  -- the better of two breaks, where the new one costs no more than a break may
  least_break : (was : Option PageBreak) (here : PageBreak) → BestFor b.rows b.page was → BreakFor b.rows b.page here →
      here.cost ≤ℤ pos most →
      (at : PageBreak) × (least (λ c. c.cost) was here ≡ Some at) × BreakFor b.rows b.page at
  least_break None here g k l = (here, go (le_z here.cost (pos most)) refl, k)
    where
      go : (t : Bool) → le_z here.cost (pos most) ≡ t → cond t (Some here) None ≡ Some here
      go true e = refl
      go false e = absurd (omega (arith, ints))
  least_break (Some old) here g k l = go (le_z here.cost old.cost)
    where
      go : (t : Bool) → (at : PageBreak) × (cond t (Some here) (Some old) ≡ Some at) × BreakFor b.rows b.page at
      go true = (here, refl, k)
      go false = (old, refl, g)

  -- where the place is a candidate, there is a best break
  pub best_some : (p : ℤ) → penalty_here b ≡ Some p → (at : PageBreak) × (best_here b ≡ Some at) × BreakFor b.rows b.page at
  best_some p e =
      let m = on_page b in
      let allowed = penalty_allowed b.closed m (items_at b.rows b.page) (items_at b.rows b.contributions) p (sym e) in
      let r = least_break b.best (break_here m (length b.page) p) best (here_break p e) (cost_most (fit_of m.goal m.sums) p m.notes allowed) in
      (r.0, ap (best_with m (length b.page) b.best) e ∙ r.1, r.2)

  pub best_good : BestFor b.rows b.page (best_here b)
  best_good = go (penalty_here b) refl
    where
      go : (o : Option ℤ) → penalty_here b ≡ o → BestFor b.rows b.page (best_here b)
      go None e = rw e best
      go (Some p) e = let r = best_some p e in rw r.1 r.2
