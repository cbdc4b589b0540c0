-- A close leaves a book open to its end, and once done was answered nothing is left.
use Rattle.std.proofs.Common.{◌≡◌, ℕ, Bool, true, false, List, [], ◌∷◌, ◌++◌, refl, subst, ap₂, arith}
use Rattle.std.specs.List.{flat_map}
use Rattle.std.proofs.lemmas.List.{same_from_push}
use Rattle.items.specs.declared.Item.{Item}
use Rattle.policies.specs.Policies.{Rule, held_by_limited, LimitedRule}
use Rattle.calls.specs.Book.{Book, Output}
use Rattle.calls.specs.Feeding.{closed_book}
use Rattle.calls.specs.Stepping.{Answer, done, stays, fires}
use Rattle.calls.specs.Runs.{Call, fed, feed_refused, closed, close_refused, answered, fired, settled, State, is_open, is_fired, Onward, none, feed, refuse, close, close_again, step, fire, settle, Run, made}
use Rattle.calls.specs.Findings.{book_of, owed_for, owed, shelved, Ends, NothingLeft}
use Rattle.calls.proofs.StepCases.{Does, has_done, waited, drops, moves, breaks, ends}
use Rattle.calls.proofs.Holds.{Sound, Holds, clash, does_next, onward_holds, made_holds, run_holds}
use Rattle.calls.proofs.CallLists.{no_last, no_ends, earlier}

-- once done was answered the book is done
abbrev Finished : State → Type 0
Finished (is_open b) = b.done ≡ true
Finished (is_fired b out) = ⊥

done_stays : {b c : Book} {a : Answer} → Does b (stays a c) → b.done ≡ true → c.done ≡ true
done_stays (has_done d) e = e
done_stays (waited c) e = e
done_stays {b} (drops x rest u f g) e = clash b.done e u
done_stays {b} (moves x rest u f) e = clash b.done e u

done_now : {b c : Book} {a : Answer} → Does b (stays a c) → a ≡ done → c.done ≡ true
done_now (has_done d) e = d
done_now (waited c) e = let z : ◌≡◌ {A = ℕ} 0 1 = cc in absurd (omega arith)
done_now (drops x rest u f g) e = let z : ◌≡◌ {A = ℕ} 0 1 = cc in absurd (omega arith)
done_now (moves x rest u f) e = let z : ◌≡◌ {A = ℕ} 0 1 = cc in absurd (omega arith)

done_fires : {b c : Book} {out : Output} {X : Type 0} → Does b (fires c out) → b.done ≡ true → X
done_fires {b} (breaks at u k) e = clash b.done e u
done_fires {b} (ends u x y z) e = clash b.done e u

left_nothing : (s : State) (held : List ℕ) → Sound s held → Finished s → (held ≡ []) × (shelved (book_of s) ≡ []) × (owed s ≡ [])
left_nothing (is_open b) held i d =
    let e = i.ended d in
    (e.nothing, e.shelves, ap₂ (λ x y. flat_map (owed_for b.rows) (x ++ y)) e.page e.contributions)
left_nothing (is_fired b out) held i d = absurd d

module _ (capacity : ℕ) {P : Type 0} (held : P → List ℕ) (rule : Rule P) where
  -- a close has just been made
  close_found : {F : List Item} {s₀ : State} {p₀ : P} (g : List Call) {k : List Call} {t : State} {q : P} → Holds F s₀ (held p₀) →
      Onward capacity held rule s₀ p₀ k t q → k ≡ g ++ closed ∷ [] →
      (b : Book) × (t ≡ is_open b) × (b.closed ≡ true) × (b.done ≡ false)
  close_found g i none f = no_last g closed f
  close_found g i (feed {h = h} x content o e) f =
      let u = (same_from_push h g (fed x content) closed f).1 in let z : ◌≡◌ {A = ℕ} 0 1 = cc in absurd (omega arith)
  close_found g i (refuse {h = h} x content n o e) f =
      let u = (same_from_push h g (feed_refused n) closed f).1 in let z : ◌≡◌ {A = ℕ} 0 1 = cc in absurd (omega arith)
  close_found g i (close {b = b} o e) f = (closed_book b, refl, refl, undone b.done refl)
    where
      undone : (t : Bool) → b.done ≡ t → b.done ≡ false
      undone true d = clash b.closed ((onward_holds capacity held rule i o).sound.ended d).closed e
      undone false d = d
  close_found g i (close_again {h = h} o e) f =
      let u = (same_from_push h g close_refused closed f).1 in let z : ◌≡◌ {A = ℕ} 0 1 = cc in absurd (omega arith)
  close_found g i (step {h = h} {a = a} o e) f =
      let u = (same_from_push h g (answered a) closed f).1 in let z : ◌≡◌ {A = ℕ} 0 1 = cc in absurd (omega arith)
  close_found g i (fire {h = h} o e) f = let u = (same_from_push h g fired closed f).1 in let z : ◌≡◌ {A = ℕ} 0 1 = cc in absurd (omega arith)
  close_found g i (settle {h = h} {r = r} o e) f =
      let u = (same_from_push h g (settled r) closed f).1 in let z : ◌≡◌ {A = ℕ} 0 1 = cc in absurd (omega arith)

  closed_run : (g : List Call) {k : List Call} {s : State} {p : P} → Run capacity held rule k s p → k ≡ g ++ closed ∷ [] →
      (b : Book) × (s ≡ is_open b) × (b.closed ≡ true) × (b.done ≡ false)
  closed_run g (made {p = p} others s cs e f r) u = close_found g (made_holds capacity held rule others s cs p e f) r u

  pub closed_state : {s : State} {p : P} (g : List Call) → Run capacity held rule (g ++ closed ∷ []) s p →
      (b : Book) × (s ≡ is_open b) × (b.closed ≡ true) × (b.done ≡ false)
  closed_state g r = closed_run g r refl

  finished : {F : List Item} {s₀ : State} {p₀ : P} {k : List Call} {t : State} {q : P} → Holds F s₀ (held p₀) →
      Onward capacity held rule s₀ p₀ k t q → Ends k → Finished t
  finished i none e = no_ends e
  finished i (feed {h = h} x content o f) e = earlier h (fed x content) (λ u. let z : ◌≡◌ {A = ℕ} 0 1 = cc in absurd (omega arith)) (finished i o) e
  finished i (refuse {h = h} x content n o f) e =
      earlier h (feed_refused n) (λ u. let z : ◌≡◌ {A = ℕ} 0 1 = cc in absurd (omega arith)) (finished i o) e
  finished i (close {h = h} o f) e = earlier h closed (λ u. let z : ◌≡◌ {A = ℕ} 0 1 = cc in absurd (omega arith)) (finished i o) e
  finished i (close_again {h = h} o f) e = earlier h close_refused (λ u. let z : ◌≡◌ {A = ℕ} 0 1 = cc in absurd (omega arith)) (finished i o) e
  finished {q = q} i (step {h = h} {b = b} {a = a} o f) e =
      let w = subst (Does b) f (does_next (onward_holds capacity held rule i o)) in
      earlier h (answered a) (λ u. done_now w (cc)) (λ u. done_stays w (finished i o u)) e
  finished {q = q} i (fire {h = h} {b = b} o f) e =
      let w = subst (Does b) f (does_next (onward_holds capacity held rule i o)) in
      earlier h fired (λ u. let z : ◌≡◌ {A = ℕ} 0 1 = cc in absurd (omega arith)) (λ u. done_fires w (finished i o u)) e
  finished i (settle {h = h} {r = r} o f) e =
      earlier h (settled r) (λ u. let z : ◌≡◌ {A = ℕ} 0 1 = cc in absurd (omega arith)) (λ u. absurd (finished i o u)) e

  finished_run : {k : List Call} {s : State} {p : P} → Run capacity held rule k s p → Ends k → Finished s
  finished_run (made {p = p} others s cs e f r) u = finished (made_holds capacity held rule others s cs p e f) r u

module _ (capacity : ℕ) {P : Type 0} (held : P → List ℕ) (rule : Rule P) where
  pub nothing_left : NothingLeft capacity held rule
  nothing_left h s p r e =
      left_nothing s (held p.below)
      (run_holds capacity (held_by_limited held rule) (LimitedRule held rule) r).sound
      (finished_run capacity (held_by_limited held rule) (LimitedRule held rule) r e)
