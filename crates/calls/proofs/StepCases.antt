-- What a step does, case by case.
use Rattle.std.proofs.Common.{◌≡◌, ℕ, Bool, true, false, cond, not, ◌&&◌, List, [], ◌∷◌, length, ℤ, Some, None, Option, sym, refl, ap, ◌∙◌, subst, ap₂, arith}
use Rattle.std.proofs.lemmas.Bool.{not-true, and_parts}
use Rattle.items.specs.declared.Item.{Item}
use Rattle.items.specs.Items.{is_discardable}
use Rattle.items.specs.Table.{item_at, items_at}
use Rattle.cost.specs.Cost.{forced}
use Rattle.page.specs.declared.breaks.PageBreak.{PageBreak}
use Rattle.page.specs.Breaks.{empty, penalty_at, fires_with}
use Rattle.calls.specs.Book.{Book}
use Rattle.calls.specs.OnPage.{penalty_here, best_here, fires_here, on_page}
use Rattle.calls.specs.Firing.{fired_book, fired_output}
use Rattle.calls.specs.Stepping.{waiting, moved, dropped, done, Step, stays, fires, without, onto, fire_at, lone_kern, next, at_end, contributed, stepped, last_output}
use Rattle.calls.specs.Runs.{is_open}
use Rattle.calls.proofs.Invariant.{Inv}
use Rattle.calls.proofs.Pages.{BreakFor, BestFor}
use Rattle.calls.proofs.BestBreaks.{best_some}

-- what a step may do
pub data Does (b : Book) : Step → Type 0 where
  has_done : b.done ≡ true → Does b (stays done b)
  waited : b.closed ≡ false → Does b (stays waiting b)
  drops : (x : ℕ) (rest : List ℕ) → b.done ≡ false → b.contributions ≡ x ∷ rest → is_discardable (item_at b.rows x) ≡ true →
      Does b (stays (dropped x) (without b x rest))
  moves : (x : ℕ) (rest : List ℕ) → b.done ≡ false → b.contributions ≡ x ∷ rest → Does b (stays (moved x) (onto b x rest))
  breaks : (at : PageBreak) → b.done ≡ false → BreakFor b.rows b.page at → Does b (fires (fired_book b at) (fired_output b at))
  ends : b.done ≡ false → b.closed ≡ true → b.contributions ≡ [] → b.page ≡ [] → Does b (fires b last_output)

module _ (b : Book) (F : List Item) (held : List ℕ) (i : Inv F (is_open b) held) (best : BestFor b.rows b.page b.best) where
  fire_does : b.done ≡ false → (p : ℤ) → penalty_here b ≡ Some p → Does b (fire_at b (best_here b))
  fire_does d p e = let r = best_some b F held i best p e in rw r.1 (breaks r.0 d r.2)

  fires_penalty : fires_here b ≡ true → (p : ℤ) × (penalty_here b ≡ Some p)
  fires_penalty f = go (penalty_here b) refl
    where
      go : (o : Option ℤ) → penalty_here b ≡ o → (p : ℤ) × (penalty_here b ≡ Some p)
      go None e = let g : false ≡ true = sym (ap (fires_with (on_page b) (length b.page)) e) ∙ f in let z : ◌≡◌ {A = ℕ} 0 1 = cc in absurd (omega arith)
      go (Some p) e = (p, e)

  next_does : (x : ℕ) (rest : List ℕ) → b.done ≡ false → b.contributions ≡ x ∷ rest → Does b (next b x rest)
  next_does x rest d e =
      go (not b.closed && boxes && lone_kern (item_at b.rows x) rest) refl (is_discardable (item_at b.rows x) && not boxes) refl
      (fires_here b) refl
    where
      boxes : Bool
      boxes = (on_page b).boxes

      go : (s : Bool) → (not b.closed && boxes && lone_kern (item_at b.rows x) rest) ≡ s → (t : Bool) →
          (is_discardable (item_at b.rows x) && not boxes) ≡ t →
          (u : Bool) → fires_here b ≡ u →
          Does b
          (cond s (stays waiting b) (cond t (stays (dropped x) (without b x rest)) (cond u (fire_at b (best_here b)) (stays (moved x) (onto b x rest)))))
      go true f t g u k =
          waited
          (not-true b.closed (and_parts (not b.closed) boxes (and_parts (not b.closed && boxes) (lone_kern (item_at b.rows x) rest) f).0).0)
      go false f true g u k = drops x rest d e (and_parts (is_discardable (item_at b.rows x)) (not boxes) g).0
      go false f false g true k = let r = fires_penalty k in fire_does d r.0 r.1
      go false f false g false k = moves x rest d e

  end_does : b.done ≡ false → b.closed ≡ true → b.contributions ≡ [] → Does b (at_end b)
  end_does d c e = go b.page refl
    where
      go : (page : List ℕ) → b.page ≡ page → Does b (cond (empty b.page) (fires b last_output) (fire_at b (best_here b)))
      go [] f = subst (λ (l : List ℕ). Does b (cond (empty l) (fires b last_output) (fire_at b (best_here b)))) (sym f) (ends d c e f)
      go (x ∷ xs) f =
          let p : penalty_here b ≡ Some forced =
          ap₂ (λ (l k : List ℕ). penalty_at b.closed (on_page b) (items_at b.rows l) (items_at b.rows k)) f e ∙
          ap (λ t. cond (t && true) (Some forced) None) c in
          subst (λ (l : List ℕ). Does b (cond (empty l) (fires b last_output) (fire_at b (best_here b)))) (sym f) (fire_does d forced p)

  pub does : Does b (stepped b)
  does = go b.done refl
    where
      at_contributions : (l : List ℕ) → b.done ≡ false → b.contributions ≡ l → Does b (contributed b l)
      at_contributions [] d e = at_end_lem b.closed refl
        where
          at_end_lem : (t : Bool) → b.closed ≡ t → Does b (cond t (at_end b) (stays waiting b))
          at_end_lem true c = end_does d c e
          at_end_lem false c = waited c
      at_contributions (x ∷ rest) d e = next_does x rest d e

      go : (t : Bool) → b.done ≡ t → Does b (cond t (stays done b) (contributed b b.contributions))
      go true d = has_done d
      go false d = at_contributions b.contributions d refl
