-- With the limiter uppermost, done comes within the bound after the close.
use Rattle.std.proofs.Common.{◌≡◌, ℕ, suc, ◌+◌, ◌-◌, ◌*◌, ◌<◌, ◌≤◌, Bool, true, false, cond, ◌⊎◌, List, [], ◌∷◌, ◌++◌, length, Option, sym, refl, ap, ◌∙◌, subst, inl, inr, arith, length-append}
use Rattle.std.specs.List.{flat_map, AllByRecursion}
use Rattle.std.proofs.lemmas.Bool.{eqb-false}
use Rattle.items.specs.declared.Item.{Item}
use Rattle.items.specs.declared.Row.{Row}
use Rattle.items.specs.Items.{is_note}
use Rattle.items.specs.Table.{item_at, remaining}
use Rattle.page.specs.declared.breaks.PageBreak.{PageBreak}
use Rattle.policies.specs.declared.Verdict.{Verdict}
use Rattle.policies.specs.declared.limited.Limited.{Limited}
use Rattle.policies.specs.Policies.{Given, Rule, Splits, every_class, named, ships_nothing, held_by_limited, LimitedRule, asks, acts}
use Rattle.calls.specs.Book.{Book, Output}
use Rattle.calls.specs.Firing.{fired_book, fired_output}
use Rattle.calls.specs.Stepping.{Answer, done, stays, fires, without, last_output}
use Rattle.calls.specs.Settling.{given, judged_book, Settled, judged, released}
use Rattle.calls.specs.Runs.{Call, fed, feed_refused, closed, close_refused, answered, fired, settled, State, is_open, is_fired, none, feed, refuse, close, close_again, step, fire, settle}
use Rattle.calls.specs.Findings.{book_of, fed_by, owed_for, owed, texts, shelved, steps_in, Ends, UnderOnward, DoneInTime}
use Rattle.calls.proofs.ListLaws.{all_right}
use Rattle.calls.proofs.Invariant.{to_come, owes, HasLeft, Inv}
use Rattle.calls.proofs.Pages.{BreakFor}
use Rattle.calls.proofs.Fires.{fired_less, fired_brings, inv_fire}
use Rattle.calls.proofs.Ships.{every_named}
use Rattle.calls.proofs.Settles.{judged_weighs}
use Rattle.calls.proofs.Accepted.{fed_open}
use Rattle.calls.proofs.StepCases.{Does, has_done, waited, drops, moves, breaks, ends}
use Rattle.calls.proofs.Steps.{moved_weighs, dropped_weighs}
use Rattle.calls.proofs.Holds.{Holds, clash, does_next, onward_holds, run_holds}
use Rattle.calls.proofs.Finds.{kept_within}
use Rattle.calls.proofs.CallLists.{steps_append, either}
use Rattle.calls.proofs.NothingLeft.{closed_state}
use Rattle.calls.proofs.Budget.{budget, budget_some, budget_falls, budget_move, budget_drop, budget_top}

-- how many items are still to come
abbrev count : Book → List ℕ → ℕ
count b held = length (to_come (is_open b) held)

-- each entry that waits stands for an item at least
owes_some : (R : List Row) (xs : List ℕ) → AllByRecursion (HasLeft R) xs → length xs ≤ length (owes R xs)
owes_some R [] a = omega arith
owes_some R (x ∷ xs) a =
    let h = owes_some R xs a.1 in let k = some (is_note (item_at R x)) refl in let e = length-append (owed_for R x) (owes R xs) in omega arith
  where
    some : (t : Bool) → is_note (item_at R x) ≡ t → 1 ≤ length (cond t (remaining R x) (x ∷ []))
    some true e = a.0 e
    some false e = omega arith

-- entries are no more than items to come
abbrev Few : Book → List ℕ → Type 0
Few b held = length b.page + length b.contributions ≤ count b held

few : {F : List Item} (b : Book) (held : List ℕ) → Inv F (is_open b) held → Few b held
few b held i =
    let a = owes_some b.rows (b.page ++ b.contributions) (all_right (HasLeft b.rows) held (b.page ++ b.contributions) i.left) in
    let c = length-append b.page b.contributions in
    let e = length-append held (shelved b ++ owed (is_open b)) in
    let f = length-append (shelved b) (owed (is_open b)) in
    omega arith

module _ (capacity : ℕ) {P : Type 0} (held : P → List ℕ) (rule : Rule P) where
  abbrev holds : Limited P → List ℕ
  holds p = held p.below

  -- a closed book on its way: of B steps some are made. It is done, or what is to come, D the limiter's bound and n the
  -- items fed, is worth no more steps than are left
  data Pending (D n B made : ℕ) (b : Book) (p : Limited P) : Type 0 where
    over : b.done ≡ true → b.closed ≡ true → made + 1 ≤ B → Pending D n B made b p
    running : b.done ≡ false → b.closed ≡ true → p.bound ≡ D → count b (holds p) ≤ n →
        made + budget D n (count b (holds p)) (D - p.count) (length b.contributions) ≤ B → Pending D n B made b p

  -- and where it fired, whatever settling follows leaves it on its way
  record Fired (D n B made : ℕ) (b : Book) (out : Output) (p : Limited P) : Type 0 where
    spare : made + 1 ≤ B
    next : (c : Book) (q : Limited P) (r : Option ℕ) → Few c (holds q) →
        Settled (held_by_limited held rule) (LimitedRule held rule) b out p r c q → Pending D n B made c q

  -- under the limiter nothing ships and it counts one more, or something ships, or all does
  data Outcome (l m : Limited P) (g : Given) (v : Verdict) : Type 0 where
    waits_on : m.count ≡ l.count + 1 → l.count < l.bound → Outcome l m g v
    some_ships : 1 ≤ v.shipped + named v.classes g.shelved → Outcome l m g v
    all_ships : v.shipped ≡ length (holds l ++ g.body) → v.classes ≡ every_class → Outcome l m g v

  module _ (D n B : ℕ) (some : 1 ≤ D) where
    step_pending : {F : List Item} {b c : Book} {a : Answer} (p : Limited P) (steps : ℕ) → Inv F (is_open b) (holds p) → Few c (holds p) →
        Pending D n B steps b p → Does b (stays a c) →
        (a ≡ done) ⊎ Pending D n B (suc steps) c p
    step_pending {F} {b} p steps k l w (has_done d) = inl refl
    step_pending {F} {b} p steps k l (over d c m) (waited e) = clash b.closed c e
    step_pending {F} {b} p steps k l (running d c f g m) (waited e) = clash b.closed c e
    step_pending {F} {b} p steps k l (over d c m) (drops x rest u e g) = clash b.done d u
    step_pending {F} {b} p steps k l (running d c f g m) (drops x rest u e t) =
        let r = dropped_weighs b F (holds p) k x rest e t in
        let w =
        budget_drop D n (count b (holds p)) (count (without b x rest) (holds p)) (D - p.count) (D - p.count) (length b.contributions)
        (length rest) some
        (omega arith) (omega arith) (omega arith) in
        inr (running d c f (omega arith) (omega arith))
    step_pending {F} {b} p steps k l (over d c m) (moves x rest u e) = clash b.done d u
    step_pending {F} {b} p steps k l (running d c f g m) (moves x rest u e) =
        let r = moved_weighs b F (holds p) k x rest e in
        let z = ap length e in
        let w = budget_move D n (count b (holds p)) (D - p.count) (length rest) (omega (arith, few b (holds p) k)) in
        let v = ap (λ r. budget D n r (D - p.count) (length rest)) r in
        let y = ap (λ k. budget D n (count b (holds p)) (D - p.count) k) z in
        inr (running d c f (omega arith) (omega arith))

    ruled : {l m : Limited P} {g : Given} {v : Verdict} → LimitedRule held rule l g v m → (m.bound ≡ l.bound) × Outcome l m g v
    ruled {l} {m} {g} {v} (asks a r e f) = (e, go (ships_nothing g v) refl f)
      where
        go : (t : Bool) → ships_nothing g v ≡ t → m.count ≡ cond t (l.count + 1) 0 → Outcome l m g v
        go true e f = waits_on f a
        go false e f = let z = eqb-false (v.shipped + named v.classes g.shelved) 0 e in some_ships (omega arith)
    ruled (acts a s h c n e f) = (e, all_ships s c)

    module _ (F : List Item) (b : Book) (at : PageBreak) (p q : Limited P) (v : Verdict) (steps : ℕ) (k : Inv F (is_open b) (holds p))
        (kf : BreakFor b.rows b.page at)
        (l : Few (judged_book (fired_book b at) (fired_output b at) (holds p) (holds q) v) (holds q))
        (s : Splits (holds p) (fired_output b at).body (holds q) v) where
      abbrev result : Book
      result = judged_book (fired_book b at) (fired_output b at) (holds p) (holds q) v

      abbrev ships : ℕ
      ships = v.shipped + named v.classes (given (fired_book b at) (fired_output b at)).shelved

      abbrev after_firing : ℕ
      after_firing = length (to_come (is_fired (fired_book b at) (fired_output b at)) (holds p))

      weighed : count result (holds q) + ships ≡ after_firing
      weighed = judged_weighs (fired_book b at) (fired_output b at) F (holds p) (holds q) v (inv_fire b at F (holds p) k) s

      less : after_firing ≤ count b (holds p)
      less = fired_less b at F (holds p) k

      all_ships_lem : v.shipped ≡ length (holds p ++ (fired_output b at).body) → v.classes ≡ every_class → count result (holds q) < count b (holds p)
      all_ships_lem e f = go (fired_brings b at F (holds p) k kf)
        where
          shelves : named v.classes (given (fired_book b at) (fired_output b at)).shelved ≡ length (shelved (fired_book b at))
          shelves = rw f (every_named 8 (fired_book b at).shelves (let z = (inv_fire b at F (holds p) k).shelves in omega arith))

          go : (after_firing < count b (holds p)) ⊎ (1 ≤ length (fired_output b at).body + length (shelved (fired_book b at))) →
              count result (holds q) < count b (holds p)
          go (inl g) = omega (arith, weighed)
          go (inr g) = let y = length-append (holds p) (fired_output b at).body in omega (arith, weighed, shelves, less)

      judged_pending : b.closed ≡ true → p.bound ≡ D → count b (holds p) ≤ n →
          steps + budget D n (count b (holds p)) (D - p.count) (length b.contributions) ≤ B →
          LimitedRule held rule p (given (fired_book b at) (fired_output b at)) v q → (fired_output b at).final ≡ false → Pending D n B
          (suc steps) result q
      judged_pending c f g m rl fin =
          let ru = ruled rl in
          let r = no_more in
          let w =
          budget_falls D n (count b (holds p)) (count result (holds q)) (D - p.count) (D - q.count) (length b.contributions)
          (length result.contributions) some nonempty r (omega arith) (omega arith) (falling ru.1) in
          running fin c (ru.0 ∙ f) (omega arith) (omega arith)
        where
          no_more : count result (holds q) ≤ count b (holds p)
          no_more = omega (arith, weighed, less)

          nonempty : 1 ≤ count b (holds p)
          nonempty = omega (arith, few b (holds p) k, kf.some, kf.within)

          falling : Outcome p q (given (fired_book b at) (fired_output b at)) v →
              (count result (holds q) < count b (holds p)) ⊎ (suc (D - q.count) ≡ D - p.count)
          falling (waits_on e l) = inr (omega (arith, e, l, f))
          falling (some_ships e) = inl (omega (arith, weighed, less, e))
          falling (all_ships e h) = inl (all_ships_lem e h)

    fire_pending : {F : List Item} {b c : Book} {out : Output} (p : Limited P) (steps : ℕ) → Inv F (is_open b) (holds p) → Pending D n B steps b p →
        Does b (fires c out) →
        Fired D n B (suc steps) c out p
    fire_pending {F} {b} p steps k (over d c m) (breaks at u kf) = clash b.done d u
    fire_pending {F} {b} p steps k (over d c m) (ends u x y z) = clash b.done d u
    fire_pending {F} {b} p steps k (running d cl f g m) (breaks at u kf) = record {
      spare = let z = budget_some D n (count b (holds p)) (D - p.count) (length b.contributions) some in omega arith;
      next = after;
    }
      where
        after : (c : Book) (q : Limited P) (r : Option ℕ) → Few c (holds q) →
            Settled (held_by_limited held rule) (LimitedRule held rule) (fired_book b at) (fired_output b at) p r c q → Pending D n B (suc steps) c q
        after c q r run (judged v fin rl s) =
            judged_pending F b at p q v steps k kf run s cl f g m rl fin
        after c q r run (released fin e) = clash false fin refl
    fire_pending {F} {b} p steps k (running d c f g m) (ends u x y z) = record {
      spare = let z = budget_some D n (count b (holds p)) (D - p.count) (length b.contributions) some in omega arith;
      next = after;
    }
      where
        after : (c : Book) (q : Limited P) (r : Option ℕ) → Few c (holds q) →
            Settled (held_by_limited held rule) (LimitedRule held rule) b last_output p r c q → Pending D n B (suc steps) c q
        after c q r run (judged v fin rl s) = clash true refl fin
        after c q r run (released fin e) =
            over refl x (let z = budget_some D n (count b (holds p)) (D - p.count) (length b.contributions) some in omega arith)

    -- after some calls done was answered, or the book is on its way
    abbrev Going : List Call → State → Limited P → Type 0
    Going h (is_open b) q = Ends h ⊎ Pending D n B (steps_in h) b q
    Going h (is_fired b out) q = Ends h ⊎ Fired D n B (steps_in h) b out q

    -- a call that is no step
    still : {b : Book} {q : Limited P} (h : List Call) (c : Call) → steps_in (c ∷ []) ≡ 0 → Pending D n B (steps_in h) b q →
        Pending D n B (steps_in (h ++ c ∷ [])) b q
    still {b} {q} h c e w = let z : steps_in h ≡ steps_in (h ++ c ∷ []) = omega (arith, steps_append h (c ∷ [])) in subst (λ m. Pending D n B m b q) z w

    one_more : (h : List Call) (c : Call) → steps_in (c ∷ []) ≡ 1 → suc (steps_in h) ≡ steps_in (h ++ c ∷ [])
    one_more h c e = omega (arith, steps_append h (c ∷ []))

    closed_pending : {X : Type 0} {m : ℕ} {b : Book} {q : Limited P} → Pending D n B m b q → (b.closed ≡ true → X) → X
    closed_pending (over d c m) f = f c
    closed_pending (running d c e g m) f = f c

    going : {F : List Item} {s : State} {p : Limited P} {h : List Call} {t : State} {q : Limited P} → Holds F s (holds p) → Going [] s p →
        UnderOnward capacity held rule s p h t q → Going h t q
    going r i none = i
    going r i (feed {h = h} {b = b} x content o e) =
        either h (fed x content ∷ []) (going r i o) (λ w. closed_pending w (λ c. clash b.closed c (fed_open capacity b x content e)))
    going r i (refuse {h = h} x content n o e) = either h (feed_refused n ∷ []) (going r i o) (λ w. inr (still h (feed_refused n) refl w))
    going r i (close {h = h} {b = b} o e) = either h (closed ∷ []) (going r i o) (λ w. closed_pending w (λ c. clash b.closed c e))
    going r i (close_again {h = h} o e) = either h (close_refused ∷ []) (going r i o) (λ w. inr (still h close_refused refl w))
    going {q = q} r i (step {h = h} {b = b} {c = c} {a = a} o e) =
        either h (answered a ∷ []) (going r i o) (λ w.
        let k = onward_holds capacity (held_by_limited held rule) (LimitedRule held rule) r o in
        let l = onward_holds capacity (held_by_limited held rule) (LimitedRule held rule) r (step o e) in
        after (step_pending q (steps_in h) k.inv (few c (holds q) l.inv) w (subst (Does b) e (does_next k))))
      where
        after : (a ≡ done) ⊎ Pending D n B (suc (steps_in h)) c q → Ends (h ++ answered a ∷ []) ⊎ Pending D n B (steps_in (h ++ answered a ∷ [])) c q
        after (inl d) = inl (h, [], ap (λ a. h ++ answered a ∷ []) d)
        after (inr w) = inr (subst (λ m. Pending D n B m c q) (one_more h (answered a) refl) w)
    going {q = q} r i (fire {h = h} {b = b} {c = c} {out = out} o e) =
        either h (fired ∷ []) (going r i o) (λ w.
        let k = onward_holds capacity (held_by_limited held rule) (LimitedRule held rule) r o in
        inr (subst (λ m. Fired D n B m c out q) (one_more h fired refl) (fire_pending q (steps_in h) k.inv w (subst (Does b) e (does_next k)))))
    going {q = q} r i (settle {h = h} {c = c} {r = pg} o e) =
        either h (settled pg ∷ []) (going r i o) (λ w.
        let l = onward_holds capacity (held_by_limited held rule) (LimitedRule held rule) r (settle o e) in
        inr (still h (settled pg) refl (w.next c q pg (few c (holds q) l.inv) e)))

    arrived : (h : List Call) (t : State) (q : Limited P) → Going h t q → B ≤ steps_in h → Ends h
    arrived h (is_open b) q (inl e) l = e
    arrived h (is_open b) q (inr (over d c m)) l = absurd (omega arith)
    arrived h (is_open b) q (inr (running d c f g m)) l =
        absurd (omega (arith, budget_some D n (count b (holds q)) (D - q.count) (length b.contributions) some))
    arrived h (is_fired b out) q (inl e) l = e
    arrived h (is_fired b out) q (inr w) l = absurd (omega (arith, w.spare))

  pub done_in_time : DoneInTime capacity held rule
  done_in_time g h s t p q r o l = go (closed_state capacity (held_by_limited held rule) (LimitedRule held rule) g r)
    where
      n : ℕ
      n = length (texts (book_of s).rows)

      B : ℕ
      B = (p.bound + 1) * (n + 1) * (n + 1)

      begun : {F : List Item} (b : Book) → b.closed ≡ true → b.done ≡ false → Holds F (is_open b) (holds p) →
          (let n = length (texts b.rows) in Pending p.bound n ((p.bound + 1) * (n + 1) * (n + 1)) 0 b p)
      begun {F} b c d k =
          let n = length (texts b.rows) in
          let w : count b (holds p) ≤ n =
          let e = length-append (holds p) (shelved b ++ owed (is_open b)) in
          let f = length-append (shelved b) (owed (is_open b)) in omega (arith, kept_within F (is_open b) (holds p) k.inv) in
          let v =
          budget_top p.bound n (count b (holds p)) (p.bound - p.count) (length b.contributions) p.some w (omega arith)
          (omega (arith, few b (holds p) k.inv, w)) in
          running d c refl w (omega (arith, v))

      go : (b : Book) × (s ≡ is_open b) × (b.closed ≡ true) × (b.done ≡ false) → Ends h
      go z = arrived p.bound n B p.some h t q (going p.bound n B p.some holds_now (start z.0 z.1 z.2 z.3) o) l
        where
          holds_now : Holds (flat_map fed_by (g ++ closed ∷ [])) s (held p.below)
          holds_now = run_holds capacity (held_by_limited held rule) (LimitedRule held rule) r

          start : (b : Book) → s ≡ is_open b → b.closed ≡ true → b.done ≡ false → Going p.bound n B p.some [] s p
          start b e c d =
              subst
              (λ s.
              Going p.bound (length (texts (book_of s).rows))
              ((p.bound + 1) * (length (texts (book_of s).rows) + 1) * (length (texts (book_of s).rows) + 1)) p.some [] s p)
              (sym e)
              (inr (begun b c d (subst (λ s. Holds (flat_map fed_by (g ++ closed ∷ [])) s (holds p)) e holds_now)))
