-- One note sorted at a firing keeps the invariant, and what goes to its shelf or is dropped is owed no more.
use Rattle.std.proofs.Common.{◌≡◌, ℕ, suc, ◌+◌, ◌<◌, ◌≤◌, Bool, true, false, cond, eqb, List, [], ◌∷◌, ◌++◌, length, get_or, ℤ, None, filter, sym, refl, ap, ◌∙◌, subst, ap₂, append_assoc, arith}
use Rattle.std.specs.List.{flat_map, AllByRecursion}
use Rattle.std.proofs.ByRecursion.{All-weaker, All-append}
use Rattle.std.proofs.lemmas.Bool.{eqb-true, eqb-false, eq-eqb, cond-true, cond-false, false≢true}
use Rattle.items.specs.declared.Item.{Item}
use Rattle.items.specs.declared.Item.TheVariants.{Note}
use Rattle.items.specs.declared.Row.{Row}
use Rattle.items.specs.declared.Piece.{Piece}
use Rattle.items.specs.declared.Place.{Place}
use Rattle.items.specs.declared.Place.TheVariants.{Owed, Shelved, Held, Shipped, Dropped}
use Rattle.items.specs.Items.{is_note, is_discardable}
use Rattle.items.specs.Table.{item_at, remaining, shelf_items}
use Rattle.page.specs.Breaks.{empty}
use Rattle.calls.specs.Book.{Book}
use Rattle.calls.specs.Firing.{note_class, shelve}
use Rattle.calls.specs.Runs.{State, is_fired}
use Rattle.calls.specs.Findings.{times, waiting_in, texts, is_dropped, dropped_in, kept_in, body, text_of, lies}
use Rattle.calls.proofs.ListLaws.{all_left, all_right, all_both}
use Rattle.calls.proofs.Times.{times_append, times_here, times_kept, all_times, all_from_times, all_fewer}
use Rattle.calls.proofs.Table.{from_one, spent_at, place_at, gone, is_text, Inside, Alike, alike_texts, alike_body, alike_text_of, texts_inside}
use Rattle.calls.proofs.Invariant.{formed_alike, is_word, part, parts, parts_append, owes, to_come, HasLeft, Ready, Inv}
use Rattle.calls.proofs.NoteRows.{part_none, shelve_size, kept_there, shelved_part, dropped_part, rest_part, rows_spent, still, goes_alike, remaining_here, remaining_other, still_few, goes_classes, goes_bodies, goes_owes, goes_shelved, goes_place}

-- a book on its way through a firing: its contributions, body and output penalty, and the rows, shelves and waiting notes so far
abbrev pub mid : Book → List ℕ → List ℕ → ℤ → List Row → List (List Piece) → List ℕ → State
mid b rest bod p R sh wt = is_fired
    (record {
      settings = b.settings;
      classes = b.classes;
      rows = R;
      contributions = rest;
      page = [];
      best = None;
      shelves = sh;
      shipped = b.shipped;
      pages = b.pages;
      firings = b.firings;
      closed = b.closed;
      done = b.done;
    })
    (record { body = bod; waiting = wt; penalty = p; final = false })

pub dropped_there : (R : List Row) (y : ℕ) → 0 < times y (texts R) → place_at R y ≡ Dropped → 0 < times y (dropped_in R)
dropped_there R y h e = let m = times_kept y (λ z. is_dropped (place_at R z)) (ap is_dropped e) (texts R) in omega arith

module _ (b : Book) (rest bod : List ℕ) (p : ℤ) (R : List Row) (sh : List (List Piece)) (A B : List ℕ) (x n d c k : ℕ) (F : List Item) (held : List ℕ)
    (is : item_at R x ≡ Note c k) (i : Inv F (mid b rest bod p R sh (A ++ x ∷ B)) held)
    (first : AllByRecursion (λ u. eqb (note_class (item_at R u)) c ≡ false) A) (few : n ≤ length (remaining R x))
    (may : AllByRecursion (λ y. is_discardable (item_at R y) ≡ true) (dropped_part R x n d)) where
  U : List ℕ
  U = bod ++ A

  V : List ℕ
  V = B ++ rest

  waiting_is : bod ++ ((A ++ x ∷ B) ++ rest) ≡ U ++ (x ∷ V)
  unfolding U V
  waiting_is = ap (λ l. bod ++ l) (append_assoc A (x ∷ B) rest) ∙ sym (append_assoc bod A (x ∷ (B ++ rest)))

  waiting_after : bod ++ ((A ++ (still R x n d ++ B)) ++ rest) ≡ U ++ (still R x n d ++ V)
  unfolding U V
  waiting_after = simp append_assoc

  all_inside : AllByRecursion (Inside R) (U ++ (x ∷ V))
  all_inside = subst (AllByRecursion (Inside R)) waiting_is (all_right (Inside R) held (bod ++ ((A ++ x ∷ B) ++ rest)) i.inside)

  x_inside : Inside R x
  x_inside = (all_right (Inside R) U (x ∷ V) all_inside).0

  far_u : AllByRecursion (λ y. 1 ≤ y) U
  far_u = from_one R U (all_left (Inside R) U (x ∷ V) all_inside)

  far_v : AllByRecursion (λ y. 1 ≤ y) V
  far_v = from_one R V (all_right (Inside R) U (x ∷ V) all_inside).1

  alone : times x U + suc (times x V) ≤ 1
  alone =
      let a = i.apart x in
      let e = times_append x held (bod ++ ((A ++ x ∷ B) ++ rest)) in
      let f = ap (times x) waiting_is in
      let g = times_append x U (x ∷ V) in
      let h = times_here x V in
      omega arith

  absent_u : times x U ≡ 0
  absent_u = let a = alone in omega arith

  absent_v : times x V ≡ 0
  absent_v = let a = alone in omega arith

  first_u : AllByRecursion (λ u. part R c u ≡ []) U
  unfolding U
  first_u = All-append (λ u. part R c u ≡ []) bod A
      (All-weaker (λ u. is_note (item_at R u) ≡ false) (λ u. part R c u ≡ []) (λ u e. part_none R c u e) bod i.ready.words)
      (All-weaker (λ u. eqb (note_class (item_at R u)) c ≡ false) (λ u. part R c u ≡ [])
      (λ u e. cond-false (eqb (note_class (item_at R u)) c) (remaining R u) [] e) A first)

  there : AllByRecursion (λ y. gone R y ≡ false) (remaining R x)
  there =
      let P : ℕ → Type 0 = λ y. gone R y ≡ false in
      let a : AllByRecursion P (text_of R c b.shipped ++ (shelf_items (get_or sh c []) ++ parts R c (bod ++ ((A ++ x ∷ B) ++ rest)))) =
      subst (AllByRecursion P) (sym (i.classes c)) (kept_there (is_text R c) R) in
      let e : AllByRecursion P (parts R c (bod ++ ((A ++ x ∷ B) ++ rest))) =
      all_right P (shelf_items (get_or sh c [])) (parts R c (bod ++ ((A ++ x ∷ B) ++ rest)))
      (all_right P (text_of R c b.shipped) (shelf_items (get_or sh c []) ++ parts R c (bod ++ ((A ++ x ∷ B) ++ rest))) a) in
      let f : AllByRecursion P (parts R c U ++ (part R c x ++ parts R c V)) = subst (AllByRecursion P) (ap (parts R c) waiting_is ∙ parts_append R c U (x ∷ V)) e in
      let g : AllByRecursion P (part R c x) = all_left P (part R c x) (parts R c V) (all_right P (parts R c U) (part R c x ++ parts R c V) f) in
      subst (AllByRecursion P) (ap (λ t. cond (eqb (note_class t) c) (remaining R x) []) is ∙ cond-true (eqb c c) (remaining R x) [] (eq-eqb c c refl)) g

  room : c < length sh
  room = let a = i.formed.classes x c k x_inside.0 is in let e : length sh ≡ 8 = i.shelves in omega arith

  abbrev rows_after : List Row
  rows_after = rows_spent R x n d

  abbrev shelves_after : List (List Piece)
  shelves_after = shelve sh c x (x + 1 + spent_at R x) n

  abbrev state_after : State
  state_after = mid b rest bod p rows_after shelves_after (A ++ (still R x n d ++ B))

  like : Alike R rows_after
  like = goes_alike R i.formed x n d c k x_inside is

  -- what goes to the shelf or is dropped is owed no more
  pub goes_grows : (y : ℕ) → times y (flat_map shelf_items shelves_after) ≡ times y (flat_map shelf_items sh) + times y (shelved_part R x n)
  goes_grows y = goes_shelved R i.formed x n d c k x_inside is U V far_u absent_u far_v absent_v there first_u few sh room y

  goes_owed : (y : ℕ) →
      times y (owes R (bod ++ ((A ++ x ∷ B) ++ rest))) ≡
      times y (shelved_part R x n) + (times y (dropped_part R x n d) + times y (owes rows_after (waiting_in state_after)))
  goes_owed y =
      let a = goes_owes R i.formed x n d c k x_inside is U V far_u absent_u far_v absent_v there first_u few sh room y in
      let e = ap (λ l. times y (owes R l)) waiting_is in
      let f = ap (λ l. times y (owes rows_after l)) waiting_after in
      omega arith

  pub fewer : (y : ℕ) → times y (held ++ waiting_in state_after) ≤ times y (held ++ (bod ++ ((A ++ x ∷ B) ++ rest)))
  fewer y =
      let a = still_few R i.formed x n d c k x_inside is y in
      let e = times_append y held (bod ++ ((A ++ (still R x n d ++ B)) ++ rest)) in
      let f = times_append y held (bod ++ ((A ++ x ∷ B) ++ rest)) in
      let g = ap (times y) waiting_is in
      let h = ap (times y) waiting_after in
      let m = times_append y U (x ∷ V) in
      let o = times_append y U (still R x n d ++ V) in
      let q = times_append y (still R x n d) V in
      let r = times_append y (x ∷ []) V in
      omega arith

  ready_after : Ready state_after
  ready_after = record {
    notes = subst (λ (it : ℕ → Item). AllByRecursion (λ y. is_note (it y) ≡ true) (A ++ (still R x n d ++ B))) (sym like.item)
        (all_fewer (λ y. is_note (item_at R y) ≡ true) (A ++ x ∷ B) (A ++ (still R x n d ++ B)) (λ y.
        let a = still_few R i.formed x n d c k x_inside is y in
        let m = times_append y A (x ∷ B) in
        let o = times_append y A (still R x n d ++ B) in
        let q = times_append y (still R x n d) B in
        let r = times_append y (x ∷ []) B in
        omega arith) i.ready.notes);
    words = subst (λ (it : ℕ → Item). AllByRecursion (λ y. is_note (it y) ≡ false) bod) (sym like.item) i.ready.words;
    last = λ e. absurd (false≢true e);
    clear = refl;
  }

  inside_after : AllByRecursion (Inside rows_after) (held ++ waiting_in state_after)
  inside_after =
      subst (λ m. AllByRecursion (λ y. (1 ≤ y) × (y ≤ m)) (held ++ waiting_in state_after)) (sym like.size)
      (all_fewer (Inside R) (held ++ (bod ++ ((A ++ x ∷ B) ++ rest))) (held ++ waiting_in state_after) fewer i.inside)

  left_after : AllByRecursion (HasLeft rows_after) (held ++ waiting_in state_after)
  left_after = all_from_times (HasLeft rows_after) (held ++ waiting_in state_after) (λ y stands. each y stands (eqb y x) refl)
    where
      each : (y : ℕ) → 0 < times y (held ++ waiting_in state_after) → (v : Bool) → eqb y x ≡ v → HasLeft rows_after y
      each y stands true e =
          subst (HasLeft rows_after) (sym (eqb-true y x e))
          (λ f. subst (λ l. 1 ≤ length l) (sym (remaining_here R i.formed x n d c k x_inside is)) (some (rest_part R x n d) refl))
        where
          some : (z : List ℕ) → rest_part R x n d ≡ z → 1 ≤ length z
          some [] f = absurd (
              let a = i.apart x in
              let g = ap (λ w. times w (held ++ waiting_in state_after)) (eqb-true y x e) in
              let e1 = times_append x held (bod ++ ((A ++ (still R x n d ++ B)) ++ rest)) in
              let e2 = times_append x held (bod ++ ((A ++ x ∷ B) ++ rest)) in
              let h1 = ap (times x) waiting_is in
              let h2 = ap (times x) waiting_after in
              let m = times_append x U (x ∷ V) in
              let o = times_append x U (still R x n d ++ V) in
              let q = times_append x (still R x n d) V in
              let r = times_here x V in
              let w = ap (λ z. times x (cond (empty z) [] (x ∷ []))) f in
              omega arith)
          some (u ∷ z) f = omega arith
      each y stands false e = λ f.
          subst (λ l. 1 ≤ length l) (sym (remaining_other R i.formed x n d c k x_inside is y old.0.0 (eqb-false y x e)))
          (old.1 (sym (ap (λ (it : ℕ → Item). is_note (it y)) like.item) ∙ f))
        where
          old : Inside R y × HasLeft R y
          old =
              all_times (λ y. Inside R y × HasLeft R y) y (held ++ (bod ++ ((A ++ x ∷ B) ++ rest)))
              (all_both (Inside R) (HasLeft R) (held ++ (bod ++ ((A ++ x ∷ B) ++ rest))) i.inside i.left)
              (let a = fewer y in omega arith)

  discarded_after : (y : ℕ) → Inside rows_after y → gone rows_after y ≡ true → is_discardable (item_at rows_after y) ≡ true
  discarded_after y h e = subst (λ (it : ℕ → Item). is_discardable (it y) ≡ true) (sym like.item)
      (goes_place R i.formed x n d c k x_inside is y hy (λ pl. is_dropped pl ≡ true → is_discardable (item_at R y) ≡ true)
      (λ z q. absurd (false≢true q)) (λ z q. all_times (λ y. is_discardable (item_at R y) ≡ true) y (dropped_part R x n d) may z) (λ z w q. i.discarded y hy q) e)
    where
      hy : Inside R y
      hy = (h.0, let s = like.size in let m = h.1 in omega arith)

  placed_after : (y : ℕ) → 0 < times y (texts rows_after) → 0 < times y (lies state_after held (place_at rows_after y))
  placed_after y h = goes_place R i.formed x n d c k x_inside is y hy (λ pl. place_at rows_after y ≡ pl → 0 < times y (lies state_after held pl))
      (λ z q. let a = goes_grows y in omega arith)
      (λ z q. dropped_there rows_after y h q)
      (λ z w. go (place_at R y) z w (i.placed y ht)) refl
    where
      ht : 0 < times y (texts R)
      ht = subst (λ l. 0 < times y l) (alike_texts like) h

      hy : Inside R y
      hy = all_times (Inside R) y (texts R) (texts_inside R) ht

      go : (pl : Place) → times y (shelved_part R x n) ≡ 0 → times y (dropped_part R x n d) ≡ 0 →
          0 < times y (lies (mid b rest bod p R sh (A ++ x ∷ B)) held pl) →
          place_at rows_after y ≡ pl → 0 < times y (lies state_after held pl)
      go Owed z w m q =
          let a = goes_owed y in
          omega arith
      go Shelved z w m q = let a = goes_grows y in omega arith
      go Held z w m q = m
      go (Shipped k) z w m q = m
      go Dropped z w m q = dropped_there rows_after y h q

  bodies_after : body rows_after b.shipped ++ (held ++ filter (is_word rows_after) (waiting_in state_after)) ≡ body rows_after (kept_in rows_after)
  bodies_after = ap₂ (λ l m. l ++ (held ++ filter (is_word rows_after) m)) (alike_body like b.shipped) waiting_after
      ∙ goes_bodies R i.formed x n d c k x_inside is U V far_u absent_u far_v absent_v there first_u few sh room (body R b.shipped) held
      (ap (λ m. body R b.shipped ++ (held ++ filter (is_word R) m)) (sym waiting_is) ∙ i.bodies)

  classes_after : (e : ℕ) →
      text_of rows_after e b.shipped ++ (shelf_items (get_or shelves_after e []) ++ parts rows_after e (waiting_in state_after)) ≡
      text_of rows_after e (kept_in rows_after)
  classes_after e = ap₂ (λ l m. l ++ (shelf_items (get_or shelves_after e []) ++ parts rows_after e m)) (alike_text_of like e b.shipped) waiting_after
      ∙ goes_classes R i.formed x n d c k x_inside is U V far_u absent_u far_v absent_v there first_u few sh room (text_of R e b.shipped) e
      (ap (λ m. text_of R e b.shipped ++ (shelf_items (get_or sh e []) ++ parts R e m)) (sym waiting_is) ∙ i.classes e)

  pub inv_goes : Inv F state_after held
  inv_goes = record {
    listed = like.items ∙ i.listed;
    eight = i.eight;
    shelves = shelve_size sh c x (x + 1 + spent_at R x) room n ∙ i.shelves;
    formed = formed_alike like i.formed;
    ready = ready_after;
    inside = inside_after;
    left = left_after;
    apart = λ y. let a = fewer y in let e = i.apart y in omega arith;
    discarded = discarded_after;
    placed = placed_after;
    bodies = bodies_after;
    classes = classes_after;
    pages = i.pages;
  }

  pub goes_weighs : (y : ℕ) →
      times y (to_come (mid b rest bod p R sh (A ++ x ∷ B)) held) ≡ times y (dropped_part R x n d) + times y (to_come state_after held)
  goes_weighs y =
      let a = goes_owed y in
      let g = goes_grows y in
      let h1 = times_append y held (flat_map shelf_items sh ++ owes R (bod ++ ((A ++ x ∷ B) ++ rest))) in
      let h2 = times_append y (flat_map shelf_items sh) (owes R (bod ++ ((A ++ x ∷ B) ++ rest))) in
      let h3 = times_append y held (flat_map shelf_items shelves_after ++ owes rows_after (bod ++ ((A ++ (still R x n d ++ B)) ++ rest))) in
      let h4 = times_append y (flat_map shelf_items shelves_after) (owes rows_after (bod ++ ((A ++ (still R x n d ++ B)) ++ rest))) in
      omega arith
