-- The notes before a break, sorted in order: the invariant is kept, no more is to come, and the first note brings something.
use Rattle.std.proofs.Common.{◌≡◌, ℕ, suc, ◌+◌, ◌<◌, ◌≤◌, Bool, true, false, cond, ◌&&◌, ◌||◌, eqb, ◌⊎◌, List, [], ◌∷◌, ◌++◌, map, length, get_or, take, drop, set, ℤ, fold, sym, refl, ap, ◌∙◌, subst, ap₂, inl, inr, Some, None, Option, unwrap_or, append_assoc, arith, length-append, length-drop, length-take}
use lib.ListN.{length-map}
use Rattle.std.specs.List.{prefix_len, flat_map, AllByRecursion}
use Rattle.std.specs.Option.{is_some, is_none, option_and_then}
use Rattle.std.proofs.lemmas.List.{length-set, get_or-set_same, get_or-set_other, drop_all, drop-map}
use Rattle.std.proofs.ByRecursion.{All-append}
use Rattle.std.proofs.lemmas.Bool.{cases_lt, eqb-true, eqb-false, false≢true, and_parts, or_parts}
use Rattle.items.specs.declared.Item.{Item}
use Rattle.items.specs.declared.Item.TheVariants.{Note}
use Rattle.items.specs.declared.Row.{Row}
use Rattle.items.specs.Items.{is_note, is_discardable}
use Rattle.items.specs.Table.{item_at, items_at, content, remaining, shelf_items}
use Rattle.notes.proofs.Places.{Droppable}
use Rattle.page.specs.declared.ClassSoFar.{ClassSoFar}
use Rattle.page.specs.declared.PageSoFar.{PageSoFar}
use Rattle.page.specs.PageSoFar.{class_of}
use Rattle.page.specs.Breaks.{empty}
use Rattle.calls.specs.Book.{Book}
use Rattle.calls.specs.Firing.{note_class, Sorting, waits, goes, sorts, is_last_note, split_at, is_shut}
use Rattle.calls.specs.Runs.{State}
use Rattle.calls.specs.Findings.{times, waiting_in}
use Rattle.calls.proofs.ListLaws.{all_left, all_right, all_both}
use Rattle.calls.proofs.Times.{times_append, times_here, all_apart, length_fewer, length_same}
use Rattle.calls.proofs.Table.{from_one, spent_at, Inside, Alike, alike_then}
use Rattle.calls.proofs.Invariant.{to_come, HasLeft, Inv}
use Rattle.calls.proofs.Pages.{Classed, Sound}
use Rattle.calls.proofs.Goes.{goes_weighs, goes_grows, mid, inv_goes}
use Rattle.calls.proofs.NoteRows.{still, shelved_part, rest_part, dropped_part, rows_spent, goes_alike, spent_other, note_class_lem}

-- what leads up to the first box of a note's content may be dropped
leading_may : (R : List Row) (xs : List ℕ) → AllByRecursion (λ y. is_discardable (item_at R y) ≡ true) (take (prefix_len is_discardable (items_at R xs)) xs)
leading_may R [] = tt
leading_may R (x ∷ xs) = go (is_discardable (item_at R x)) refl (leading_may R xs)
  where
    go : (b : Bool) → is_discardable (item_at R x) ≡ b → AllByRecursion (λ y. is_discardable (item_at R y) ≡ true) (take (prefix_len is_discardable (items_at R xs)) xs) →
        AllByRecursion (λ y. is_discardable (item_at R y) ≡ true) (take (cond b (1 + prefix_len is_discardable (items_at R xs)) 0) (x ∷ xs))
    go true e i = let f : 1 + prefix_len is_discardable (items_at R xs) ≡ suc (prefix_len is_discardable (items_at R xs)) = omega arith in rw f (e, i)
    go false e i = tt

module _ (b : Book) (rest bod : List ℕ) (p : ℤ) (F : List Item) (held : List ℕ) (m : PageSoFar) (sound : (c : ℕ) → Sound b.rows (class_of m c))
    (last : List (Option ℕ)) where
  -- a sorting on its way, with the notes still to be sorted: these are as the book had them, and of a class that is not shut
  -- no note waits yet
  pub record Sort (s : Sorting) (todo : List ℕ) : Type 0 where
    pub inv : Inv F (mid b rest bod p s.rows s.shelves (s.waiting ++ todo)) held
    pub eight : length s.through ≡ 8
    pub like : Alike b.rows s.rows
    pub fresh : AllByRecursion (λ x. spent_at s.rows x ≡ spent_at b.rows x) todo
    pub order : (c : ℕ) → is_shut last s.through c ≡ false → AllByRecursion (λ w. eqb (note_class (item_at s.rows w)) c ≡ false) s.waiting

  abbrev midway : Sorting → List ℕ → State
  midway s todo = mid b rest bod p s.rows s.shelves (s.waiting ++ todo)

  -- from a sorting to a later one: no more is to come, and no shelf has less
  pub record Onto (s t : Sorting) (xs ys : List ℕ) : Type 0 where
    pub less : (y : ℕ) → times y (to_come (midway t ys) held) ≤ times y (to_come (midway s xs) held)
    pub grows : (y : ℕ) → times y (flat_map shelf_items s.shelves) ≤ times y (flat_map shelf_items t.shelves)

  -- less is to come, or something lies on a shelf
  abbrev pub Brings : Sorting → Sorting → List ℕ → List ℕ → Type 0
  Brings s t xs ys = (length (to_come (midway t ys) held) < length (to_come (midway s xs) held)) ⊎ (1 ≤ length (flat_map shelf_items t.shelves))

  module _ (s : Sorting) (x : ℕ) (todo : List ℕ) (i : Sort s (x ∷ todo)) where
    abbrev cl : ℕ
    cl = note_class (item_at s.rows x)

    -- what holds of all that waits holds of the notes to be sorted
    of_notes : (P : ℕ → Type 0) → AllByRecursion P (held ++ waiting_in (midway s (x ∷ todo))) → AllByRecursion P (x ∷ todo)
    of_notes P h =
        all_right P s.waiting (x ∷ todo)
        (all_left P (s.waiting ++ x ∷ todo) rest
        (all_right P bod ((s.waiting ++ x ∷ todo) ++ rest) (all_right P held (bod ++ ((s.waiting ++ x ∷ todo) ++ rest)) h)))

    isnote : is_note (item_at s.rows x) ≡ true
    isnote = (all_right (λ y. is_note (item_at s.rows y) ≡ true) s.waiting (x ∷ todo) i.inv.ready.notes).0

    sort_waits : is_shut last s.through cl ≡ true → Sort (waits s x) todo
    sort_waits t = record {
      inv = subst (λ l. Inv F (mid b rest bod p s.rows s.shelves l) held) (sym (append_assoc s.waiting (x ∷ []) todo)) i.inv;
      eight = i.eight;
      like = i.like;
      fresh = i.fresh.1;
      order = λ c h.
          All-append (λ w. eqb (note_class (item_at s.rows w)) c ≡ false) s.waiting (x ∷ []) (i.order c h) (go c h (eqb cl c) refl, tt);
    }
      where
        go : (c : ℕ) → is_shut last s.through c ≡ false → (t : Bool) → eqb cl c ≡ t → t ≡ false
        go c h true e = absurd (false≢true (sym h ∙ ap (is_shut last s.through) (sym (eqb-true cl c e)) ∙ t))
        go c h false e = refl

    module _ (n d : ℕ) (is_last : Bool) (t : is_shut last s.through cl ≡ false) (few : n ≤ length (remaining s.rows x))
        (may : AllByRecursion (λ y. is_discardable (item_at s.rows y) ≡ true) (dropped_part s.rows x n d))
        (ends : is_last ≡ false → rest_part s.rows x n d ≡ []) where
      is : item_at s.rows x ≡ Note cl (note_class_lem (item_at s.rows x) isnote).0
      is = (note_class_lem (item_at s.rows x) isnote).1

      abbrev size : ℕ
      size = (note_class_lem (item_at s.rows x) isnote).0

      inside_x : Inside s.rows x
      inside_x = (of_notes (Inside s.rows) i.inv.inside).0

      alike_after : Alike s.rows (rows_spent s.rows x n d)
      alike_after = goes_alike s.rows i.inv.formed x n d cl size inside_x is

      waiting_is : (goes s x cl n d is_last).waiting ++ todo ≡ s.waiting ++ (still s.rows x n d ++ todo)
      waiting_is = go (rest_part s.rows x n d)
        where
          go : (z : List ℕ) → cond (empty z) s.waiting (s.waiting ++ x ∷ []) ++ todo ≡ s.waiting ++ (cond (empty z) [] (x ∷ []) ++ todo)
          go [] = refl
          go (a ∷ z) = append_assoc s.waiting (x ∷ []) todo

      inv_after : Inv F (mid b rest bod p (goes s x cl n d is_last).rows (goes s x cl n d is_last).shelves ((goes s x cl n d is_last).waiting ++ todo)) held
      inv_after = subst (λ l. Inv F (mid b rest bod p (goes s x cl n d is_last).rows (goes s x cl n d is_last).shelves l) held) (sym waiting_is)
          (inv_goes b rest bod p s.rows s.shelves s.waiting todo x n d cl size F held is i.inv (i.order cl t) few may)

      todo_far : AllByRecursion (λ y. (1 ≤ y) × (y ≡ x → ⊥)) todo
      todo_far = all_both (λ y. 1 ≤ y) (λ y. y ≡ x → ⊥) todo far (all_apart x todo absent)
        where
          far : AllByRecursion (λ y. 1 ≤ y) todo
          far = from_one s.rows todo (of_notes (Inside s.rows) i.inv.inside).1

          absent : times x todo ≡ 0
          absent =
              let a = i.inv.apart x in
              let e = times_append x held (bod ++ ((s.waiting ++ x ∷ todo) ++ rest)) in
              let f = times_append x bod ((s.waiting ++ x ∷ todo) ++ rest) in
              let g = times_append x (s.waiting ++ x ∷ todo) rest in
              let h = times_append x s.waiting (x ∷ todo) in
              let o = times_here x todo in
              omega arith

      fresh_after : AllByRecursion (λ y. spent_at (rows_spent s.rows x n d) y ≡ spent_at b.rows y) todo
      fresh_after = go todo todo_far i.fresh.1
        where
          go : (ys : List ℕ) → AllByRecursion (λ y. (1 ≤ y) × (y ≡ x → ⊥)) ys → AllByRecursion (λ y. spent_at s.rows y ≡ spent_at b.rows y) ys →
              AllByRecursion (λ y. spent_at (rows_spent s.rows x n d) y ≡ spent_at b.rows y) ys
          go [] h k = tt
          go (y ∷ ys) h k = (spent_other s.rows i.inv.formed x n d cl size inside_x is y h.0.0 h.0.1 ∙ k.0, go ys h.1 k.1)

      order_after : (c : ℕ) → is_shut last (set s.through cl is_last) c ≡ false →
          AllByRecursion (λ w. eqb (note_class (item_at s.rows w)) c ≡ false) (goes s x cl n d is_last).waiting
      order_after c h = pick (eqb cl c) refl
        where
          room : cl < length s.through
          room = let a = i.inv.formed.classes x cl size inside_x.0 is in let e = i.eight in omega arith

          pick : (t : Bool) → eqb cl c ≡ t → AllByRecursion (λ w. eqb (note_class (item_at s.rows w)) c ≡ false) (goes s x cl n d is_last).waiting
          pick true e =
              let same = eqb-true cl c e in
              let l : is_last ≡ false =
              sym (get_or-set_same s.through cl is_last false room) ∙ ap (λ z. get_or (set s.through cl is_last) z false) same ∙
              (or_parts (get_or (set s.through cl is_last) c false) (is_none (get_or last c None)) h).0 in
              subst (λ z. AllByRecursion (λ w. eqb (note_class (item_at s.rows w)) c ≡ false) (cond (empty z) s.waiting (s.waiting ++ x ∷ [])))
              (sym (ends l)) (subst (λ z. AllByRecursion (λ w. eqb (note_class (item_at s.rows w)) z ≡ false) s.waiting) same (i.order cl t))
          pick false e = go (rest_part s.rows x n d)
            where
              old : AllByRecursion (λ w. eqb (note_class (item_at s.rows w)) c ≡ false) s.waiting
              old =
                  i.order c
                  (ap (λ g. g || is_none (get_or last c None)) (sym (get_or-set_other s.through cl c is_last false (λ z. eqb-false cl c e (sym z)))) ∙ h)

              go : (z : List ℕ) → AllByRecursion (λ w. eqb (note_class (item_at s.rows w)) c ≡ false) (cond (empty z) s.waiting (s.waiting ++ x ∷ []))
              go [] = old
              go (a ∷ z) = All-append (λ w. eqb (note_class (item_at s.rows w)) c ≡ false) s.waiting (x ∷ []) old (e, tt)

      sort_goes : Sort (goes s x cl n d is_last) todo
      sort_goes = record {
        inv = inv_after;
        eight = length-set s.through cl is_last ∙ i.eight;
        like = alike_then i.like alike_after;
        fresh = fresh_after;
        order = λ c h.
            subst (λ (it : ℕ → Item). AllByRecursion (λ w. eqb (note_class (it w)) c ≡ false) (goes s x cl n d is_last).waiting) (sym alike_after.item)
            (order_after c h);
      }

      weighs : (y : ℕ) →
          times y (to_come (midway s (x ∷ todo)) held) ≡
          times y (dropped_part s.rows x n d) + times y (to_come (midway (goes s x cl n d is_last) todo) held)
      weighs y =
          let a = goes_weighs b rest bod p s.rows s.shelves s.waiting todo x n d cl size F held is i.inv (i.order cl t) few may y in
          let e = ap (λ l. times y (to_come (mid b rest bod p (goes s x cl n d is_last).rows (goes s x cl n d is_last).shelves l) held)) waiting_is in
          omega arith

      shelf_grows : (y : ℕ) →
          times y (flat_map shelf_items (goes s x cl n d is_last).shelves) ≡
          times y (flat_map shelf_items s.shelves) + times y (shelved_part s.rows x n)
      shelf_grows y = goes_grows b rest bod p s.rows s.shelves s.waiting todo x n d cl size F held is i.inv (i.order cl t) few may y

      onto_goes : Onto s (goes s x cl n d is_last) (x ∷ todo) todo
      onto_goes = record { less = λ y. let a = weighs y in omega arith; grows = λ y. let a = shelf_grows y in omega arith }

      goes_brings : 1 ≤ n + d → 1 ≤ length (remaining s.rows x) → Brings s (goes s x cl n d is_last) (x ∷ todo) todo
      goes_brings some left = by (cases_lt 0 n)
        where
          by : (0 < n) ⊎ (n ≤ 0) → Brings s (goes s x cl n d is_last) (x ∷ todo) todo
          by (inl h) = inr (
              let e = length_same (flat_map shelf_items (goes s x cl n d is_last).shelves) (flat_map shelf_items s.shelves ++ shelved_part s.rows x n)
              (λ y. let a = shelf_grows y in let f = times_append y (flat_map shelf_items s.shelves) (shelved_part s.rows x n) in omega arith) in
              let f = length-append (flat_map shelf_items s.shelves) (shelved_part s.rows x n) in
              let g = length-take n (remaining s.rows x) in
              omega arith)
          by (inr h) = inl (
              let e =
              length_same (to_come (midway s (x ∷ todo)) held) (dropped_part s.rows x n d ++ to_come (midway (goes s x cl n d is_last) todo) held)
              (λ y.
              let a = weighs y in
              let f = times_append y (dropped_part s.rows x n d) (to_come (midway (goes s x cl n d is_last) todo) held) in omega arith) in
              let f = length-append (dropped_part s.rows x n d) (to_come (midway (goes s x cl n d is_last) todo) held) in
              let g = length-take d (drop n (remaining s.rows x)) in
              let k = length-drop n (remaining s.rows x) in
              omega arith)

    abbrev here : Option ClassSoFar
    here = class_of m cl

    abbrev is_last_here : Bool
    is_last_here = is_last_note last s x

    abbrev cut : Option ℕ
    cut = split_at m last s x

    abbrev left : List ℕ
    left = remaining s.rows x

    abbrev count : Option ℕ → ℕ
    count t = unwrap_or t (length left)

    abbrev drops : Option ℕ → ℕ
    drops t = cond (is_some t) (prefix_len is_discardable (items_at s.rows (drop (count t) left))) 0

    same_left : remaining s.rows x ≡ remaining b.rows x
    same_left = ap₂ (λ (it : ℕ → Item) n. content (it x) x n) i.like.item i.fresh.0

    -- a note that the page splits is the last of its class
    record Cut (n : ℕ) : Type 0 where
      pub class : ClassSoFar
      pub is : here ≡ Some class
      pub broken : class.broken ≡ Some n
      pub is_last : is_last_here ≡ true
      pub same : x ≡ class.last

    cut_is : (n : ℕ) → cut ≡ Some n → Cut n
    cut_is n e = go here refl e
      where
        at : (k : ClassSoFar) → here ≡ Some k → (t : Bool) → is_last_here && eqb x k.last ≡ t → cond t k.broken None ≡ Some n → Cut n
        at k f true g e = let q = and_parts is_last_here (eqb x k.last) g in record { class = k; is = f; broken = e; is_last = q.0; same = eqb-true x k.last q.1 }
        at k f false g e = cc

        go : (o : Option ClassSoFar) → here ≡ o → option_and_then (λ k. cond (is_last_here && eqb x k.last) k.broken None) o ≡ Some n → Cut n
        go None f e = cc
        go (Some k) f e = at k f (is_last_here && eqb x k.last) refl e

    classed : (n : ℕ) (e : cut ≡ Some n) → Classed b.rows (cut_is n e).class
    classed n e = subst (Sound b.rows) (cut_is n e).is (sound cl)

    count_few : (t : Option ℕ) → cut ≡ t → count t ≤ length left
    count_few (Some n) e =
        let q = cut_is n e in
        let o = (classed n e).within n q.broken in
        let u = length-map (remaining b.rows q.class.last) (λ y. item_at b.rows y) in
        let w = ap (λ z. length (remaining b.rows z)) q.same in
        let v = ap length same_left in
        omega arith
    count_few None e = omega arith

    drops_may : (t : Option ℕ) → AllByRecursion (λ y. is_discardable (item_at s.rows y) ≡ true) (dropped_part s.rows x (count t) (drops t))
    drops_may (Some n) = leading_may s.rows (drop n left)
    drops_may None = tt

    rest_ends : (t : Option ℕ) → cut ≡ t → is_last_here ≡ false → rest_part s.rows x (count t) (drops t) ≡ []
    rest_ends (Some n) e f = absurd (false≢true (sym f ∙ (cut_is n e).is_last))
    rest_ends None e f = drop_all (length left + 0) left (omega arith)

    -- where a note is split its break stands at no box, so that something goes
    some_goes : (t : Option ℕ) → cut ≡ t → 1 ≤ length left → 1 ≤ count t + drops t
    some_goes (Some n) e l = by (cases_lt n (length left))
      where
        same_items : items_at s.rows (drop n left) ≡ drop n (items_at b.rows (remaining b.rows (cut_is n e).class.last))
        same_items =
            ap₂ (λ (it : ℕ → Item) k. map it (drop n k)) i.like.item
            (same_left ∙ ap (remaining b.rows) (cut_is n e).same)
            ∙ sym (drop-map (λ y. item_at b.rows y) n (remaining b.rows (cut_is n e).class.last))

        at_none : Droppable (items_at s.rows (drop n left))
        at_none = subst Droppable (sym same_items) ((classed n e).drops n (cut_is n e).broken)

        leads : (xs : List Item) → Droppable xs → 1 ≤ length xs → 1 ≤ prefix_len is_discardable xs
        leads [] k h = absurd (omega arith)
        leads (y ∷ xs) k h = rw k (omega arith)

        by : (n < length left) ⊎ (length left ≤ n) →
            1 ≤ n + prefix_len is_discardable (items_at s.rows (drop n left))
        by (inl h) =
            let a = length-drop n left in
            let c = length-map (drop n left) (λ y. item_at s.rows y) in
            let k = leads (items_at s.rows (drop n left)) at_none (omega arith) in
            omega arith
        by (inr h) = omega arith
    some_goes None e l = omega arith

    -- what sorting one note leads to
    pub record Sorted (t : Sorting) : Type 0 where
      pub sort : Sort t todo
      pub onto : Onto s t (x ∷ todo) todo
      pub brings : is_shut last s.through cl ≡ false → Brings s t (x ∷ todo) todo

    pub sort_one : Sorted (sorts m last s x)
    sort_one = go (is_shut last s.through cl) refl
      where
        has : 1 ≤ length (remaining s.rows x)
        has = (of_notes (HasLeft s.rows) i.inv.left).0 isnote

        go : (t : Bool) → is_shut last s.through cl ≡ t → Sorted (cond t (waits s x) (goes s x cl (count cut) (drops cut) is_last_here))
        go true e =
            let same : s.waiting ++ x ∷ todo ≡ (s.waiting ++ x ∷ []) ++ todo = sym (append_assoc s.waiting (x ∷ []) todo) in
            record {
              sort = sort_waits e;
              onto = record {
                less = λ y. let a = ap (λ l. times y (to_come (mid b rest bod p s.rows s.shelves l) held)) same in omega arith;
                grows = λ y. omega arith;
              };
              brings = λ f. absurd (false≢true (sym f ∙ e));
            }
        go false e = record {
          sort = sort_goes (count cut) (drops cut) is_last_here e (count_few cut refl) (drops_may cut) (rest_ends cut refl);
          onto = onto_goes (count cut) (drops cut) is_last_here e (count_few cut refl) (drops_may cut) (rest_ends cut refl);
          brings = λ f.
              goes_brings (count cut) (drops cut) is_last_here e (count_few cut refl) (drops_may cut) (rest_ends cut refl)
              (some_goes cut refl has) has;
        }

  pub sort_all : (todo : List ℕ) (s : Sorting) → Sort s todo → Sort (fold (sorts m last) s todo) [] × Onto s (fold (sorts m last) s todo) todo []
  sort_all [] s i = (i, record { less = λ y. omega arith; grows = λ y. omega arith })
  sort_all (x ∷ todo) s i =
      let o = sort_one s x todo i in
      let r = sort_all todo (sorts m last s x) o.sort in
      let onto : Onto s (fold (sorts m last) s (x ∷ todo)) (x ∷ todo) [] = record {
        less = λ y. let a = o.onto.less y in let c = r.1.less y in omega arith;
        grows = λ y. let a = o.onto.grows y in let c = r.1.grows y in omega arith;
      } in
      (r.0, onto)

  -- where the first note's class is not shut, something comes of the notes
  pub first_brings : (x : ℕ) (todo : List ℕ) (s : Sorting) → Sort s (x ∷ todo) → is_shut last s.through (note_class (item_at s.rows x)) ≡ false →
      Brings s (fold (sorts m last) s (x ∷ todo)) (x ∷ todo) []
  first_brings x todo s i f = go (o.brings f)
    where
      o : Sorted s x todo i (sorts m last s x)
      o = sort_one s x todo i

      r : Onto (sorts m last s x) (fold (sorts m last) s (x ∷ todo)) todo []
      r = (sort_all todo (sorts m last s x) (sort_one s x todo i).sort).1

      go : Brings s (sorts m last s x) (x ∷ todo) todo → Brings s (fold (sorts m last) s (x ∷ todo)) (x ∷ todo) []
      go (inl h) =
          let now = to_come (midway (sorts m last s x) todo) held in
          let a = length_fewer (to_come (midway (fold (sorts m last) s (x ∷ todo)) []) held) now r.less in
          inl (omega arith)
      go (inr h) =
          let now = flat_map shelf_items (sorts m last s x).shelves in
          let a = length_fewer now (flat_map shelf_items (fold (sorts m last) s (x ∷ todo)).shelves) r.grows in
          inr (omega arith)
