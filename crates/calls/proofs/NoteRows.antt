-- One note is sorted at a firing: what of it goes to its shelf, what is dropped, what still waits, and what the rows say then.
use Rattle.std.proofs.Common.{◌≡◌, ℕ, zero, suc, ◌+◌, ◌-◌, ◌<◌, ◌≤◌, Bool, true, false, cond, not, ◌&&◌, eqb, List, [], ◌∷◌, ◌++◌, length, get_or, take, drop, filter, sym, refl, ap, ◌∙◌, subst, ap₂, append_assoc, arith}
use Rattle.std.specs.List.{flat_map, AllByRecursion}
use Rattle.std.proofs.lemmas.List.{append-nil, length-set, get_or-set_same, get_or-set_other, take-append-drop, drop-drop}
use Rattle.std.proofs.lemmas.List.Elements.{filter-append}
use Rattle.std.proofs.ByRecursion.{All-weaker, All-take, All-drop, kept_by_passes, all_kept_by}
use Rattle.std.proofs.lemmas.Bool.{eqb-true, eqb-false, ne_eqb, cond-false, false≢true, true≢false, not-true}
use Rattle.items.specs.declared.Item.{Item}
use Rattle.items.specs.declared.Item.TheVariants.{Box, Glue, Kern, Penalty, Note}
use Rattle.items.specs.declared.Row.{Row}
use Rattle.items.specs.declared.Piece.{Piece}
use Rattle.items.specs.declared.Place.{Place}
use Rattle.items.specs.declared.Place.TheVariants.{Shelved, Dropped}
use Rattle.items.specs.Lists.{span}
use Rattle.items.specs.Items.{is_note, blank}
use Rattle.items.specs.Table.{row_at, item_at, content, remaining, change_all, put, spending, shelf_items, piece_items, note_at, WellFormed}
use Rattle.page.specs.Breaks.{empty}
use Rattle.calls.specs.Firing.{note_class, shelve}
use Rattle.calls.specs.Findings.{times, owed_for, texts, is_dropped, kept_in, body, text_of}
use Rattle.calls.proofs.ListLaws.{joined_append, all_both, joined_none, joined_same, cond_none}
use Rattle.calls.proofs.Times.{times_append, all_apart, joined_set}
use Rattle.page.proofs.Contents.{length_span}
use Rattle.calls.proofs.Spans.{drop_span, take_span, span_from, span_to_some}
use Rattle.calls.proofs.Table.{from_one, spent_at, place_at, gone, is_body, is_text, Inside, part_kept, length_change, Alike, alike_then, alike_put, alike_spending, alike_body, alike_text_of, alike_kept, gone_put, row_other, rows_other, place_in, kept_drop, kept_drop_other}
use Rattle.calls.proofs.Invariant.{is_word, part, parts, parts_append, owes, owes_append}

pub note_class_lem : (t : Item) → is_note t ≡ true → (k : ℕ) × (t ≡ Note (note_class t) k)
note_class_lem (Box h d) e = absurd (false≢true e)
note_class_lem (Glue w st o sh) e = absurd (false≢true e)
note_class_lem (Kern w) e = absurd (false≢true e)
note_class_lem (Penalty v) e = absurd (false≢true e)
note_class_lem (Note c k) e = (k, refl)

pub note_is : (t : Item) → is_note t ≡ true → (c : ℕ) × (k : ℕ) × (t ≡ Note c k)
note_is t e = (note_class t, (note_class_lem t e).0, (note_class_lem t e).1)

pub word_owes : (t : Item) (x s : ℕ) → is_note t ≡ false → content t x s ≡ []
word_owes (Box h d) x s e = refl
word_owes (Glue w st o sh) x s e = refl
word_owes (Kern w) x s e = refl
word_owes (Penalty v) x s e = refl
word_owes (Note c k) x s e = absurd (true≢false e)

pub part_none : (R : List Row) (c x : ℕ) → is_note (item_at R x) ≡ false → part R c x ≡ []
part_none R c x e =
    ap (λ l. cond (eqb (note_class (item_at R x)) c) l []) (word_owes (item_at R x) x (spent_at R x) e) ∙ cond_none (eqb (note_class (item_at R x)) c)

-- what a piece more on a shelf changes
module _ (sh : List (List Piece)) (c x first : ℕ) (h : c < length sh) where
  pub shelve_size : (n : ℕ) → length (shelve sh c x first n) ≡ length sh
  shelve_size zero = refl
  shelve_size (suc n) = length-set sh c _

  pub shelve_here : (n : ℕ) → shelf_items (get_or (shelve sh c x first n) c []) ≡ shelf_items (get_or sh c []) ++ span first n
  shelve_here zero = sym (append-nil (shelf_items (get_or sh c [])))
  shelve_here (suc n) =
      let p : Piece = record { note = x; first = first; count = suc n } in
      ap shelf_items (get_or-set_same sh c (get_or sh c [] ++ p ∷ []) [] h)
      ∙ joined_append piece_items (get_or sh c []) (p ∷ [])
      ∙ ap (λ l. shelf_items (get_or sh c []) ++ l) (append-nil (span first (suc n)))

  pub shelve_other : (n e : ℕ) → (e ≡ c → ⊥) → get_or (shelve sh c x first n) e [] ≡ get_or sh e []
  shelve_other zero e k = refl
  shelve_other (suc n) e k = get_or-set_other sh c e _ [] k

  pub shelve_times : (n y : ℕ) → times y (flat_map shelf_items (shelve sh c x first n)) ≡ times y (flat_map shelf_items sh) + times y (span first n)
  shelve_times zero y = omega arith
  shelve_times (suc n) y =
      let p : Piece = record { note = x; first = first; count = suc n } in
      let v = get_or sh c [] ++ p ∷ [] in
      let e = joined_set shelf_items y sh c v [] h in
      let a : shelf_items v ≡ shelf_items (get_or sh c []) ++ span first (suc n) = joined_append piece_items (get_or sh c []) (p ∷ [])
      ∙ ap (λ l. shelf_items (get_or sh c []) ++ l) (append-nil (span first (suc n))) in
      let f = ap (times y) a in
      let g = times_append y (shelf_items (get_or sh c [])) (span first (suc n)) in
      omega arith

pub kept_there : (q : ℕ → Bool) (R : List Row) → AllByRecursion (λ y. gone R y ≡ false) (filter q (kept_in R))
kept_there q R = all_kept_by q (λ y. gone R y ≡ false) (kept_in R)
    (All-weaker (λ y. not (gone R y) ≡ true) (λ y. gone R y ≡ false) (λ y e. not-true (gone R y) e) (kept_in R)
    (kept_by_passes (λ y. not (gone R y)) (texts R)))

-- the parts of what is left of a note
abbrev pub shelved_part : List Row → ℕ → ℕ → List ℕ
shelved_part R x n = take n (remaining R x)

abbrev pub dropped_part : List Row → ℕ → ℕ → ℕ → List ℕ
dropped_part R x n d = take d (drop n (remaining R x))

abbrev pub rest_part : List Row → ℕ → ℕ → ℕ → List ℕ
rest_part R x n d = drop (n + d) (remaining R x)

abbrev pub rows_shelved : List Row → ℕ → ℕ → List Row
rows_shelved R x n = change_all (put Shelved) R (shelved_part R x n)

abbrev pub rows_dropped : List Row → ℕ → ℕ → ℕ → List Row
rows_dropped R x n d = change_all (put Dropped) (rows_shelved R x n) (dropped_part R x n d)

abbrev pub rows_spent : List Row → ℕ → ℕ → ℕ → List Row
rows_spent R x n d = change_all (spending (n + d)) (rows_dropped R x n d) (x ∷ [])

abbrev pub still : List Row → ℕ → ℕ → ℕ → List ℕ
still R x n d = cond (empty (rest_part R x n d)) [] (x ∷ [])

module _ (R : List Row) (w : WellFormed R) (x n d c k : ℕ) (x_inside : Inside R x) (is : item_at R x ≡ Note c k) where
  left_is : remaining R x ≡ span (x + 1 + spent_at R x) (k - spent_at R x)
  left_is = ap (λ t. content t x (spent_at R x)) is

  left_split : remaining R x ≡ shelved_part R x n ++ (dropped_part R x n d ++ rest_part R x n d)
  left_split =
      sym (ap (λ l. shelved_part R x n ++ l) (ap (λ l. dropped_part R x n d ++ l) (sym (drop-drop d n (remaining R x))) ∙ take-append-drop d (drop n (remaining R x))) ∙ take-append-drop n (remaining R x))

  left_range : AllByRecursion (λ y. (x + 1 ≤ y) × (y ≤ x + k)) (remaining R x)
  left_range = subst (λ l. AllByRecursion (λ y. (x + 1 ≤ y) × (y ≤ x + k)) l) (sym left_is)
      (all_both (λ y. x + 1 ≤ y) (λ y. y ≤ x + k) (span (x + 1 + spent_at R x) (k - spent_at R x))
      (span_from (x + 1) (x + 1 + spent_at R x) (k - spent_at R x) (omega arith))
      (span_to_some (x + k) (x + 1 + spent_at R x) (k - spent_at R x) (λ h. omega arith)))

  pub left_inside : AllByRecursion (Inside R) (remaining R x)
  left_inside =
      All-weaker (λ y. (x + 1 ≤ y) × (y ≤ x + k)) (Inside R) (λ y h. (omega arith, let m = (w.content x c k x_inside.0 is).within in omega arith))
      (remaining R x) left_range

  pub left_text : (e : ℕ) → AllByRecursion (λ y. is_text R e y ≡ eqb c e) (remaining R x)
  left_text e = All-weaker (λ y. (x + 1 ≤ y) × (y ≤ x + k)) (λ y. is_text R e y ≡ eqb c e) (λ y h. each y h) (remaining R x) left_range
    where
      each : (y : ℕ) → (x + 1 ≤ y) × (y ≤ x + k) → is_text R e y ≡ eqb c e
      each y h =
          let o : note_at R y ≡ x = (w.content x c k x_inside.0 is).owner y (omega arith) h.1 in
          let z : eqb x 0 ≡ false = ne_eqb x 0 (λ q. let a = x_inside.0 in omega arith) in
          ap (λ m. not (eqb m 0) && eqb (note_class (item_at R m)) e) o ∙ ap (λ b. not b && eqb (note_class (item_at R x)) e) z ∙
          ap (λ t. eqb (note_class t) e) is

  pub left_body : AllByRecursion (λ y. is_body R y ≡ false) (remaining R x)
  left_body = All-weaker (λ y. (x + 1 ≤ y) × (y ≤ x + k)) (λ y. is_body R y ≡ false) (λ y h. each y h) (remaining R x) left_range
    where
      each : (y : ℕ) → (x + 1 ≤ y) × (y ≤ x + k) → is_body R y ≡ false
      each y h =
          let o : note_at R y ≡ x = (w.content x c k x_inside.0 is).owner y (omega arith) h.1 in
          ap (λ m. eqb m 0) o ∙ ne_eqb x 0 (λ q. let a = x_inside.0 in omega arith)

  pub goes_alike : Alike R (rows_spent R x n d)
  goes_alike =
      alike_then (alike_then (alike_put Shelved R (shelved_part R x n)) (alike_put Dropped (rows_shelved R x n) (dropped_part R x n d)))
      (alike_spending (n + d) (rows_dropped R x n d) (x ∷ []))

  spent_dropped : (y : ℕ) → spent_at (rows_dropped R x n d) y ≡ spent_at R y
  spent_dropped y =
      part_kept (λ r. r.spent) (put Dropped) (λ r. refl) (dropped_part R x n d) (rows_shelved R x n) y ∙
      part_kept (λ r. r.spent) (put Shelved) (λ r. refl) (shelved_part R x n) R y

  spent_here : spent_at (rows_spent R x n d) x ≡ spent_at R x + (n + d)
  spent_here =
      ap (λ r. r.spent)
      (get_or-set_same (rows_dropped R x n d) (x - 1) (spending (n + d) (row_at (rows_dropped R x n d) x)) blank
      (let s = goes_size in let a = x_inside.0 in let b = x_inside.1 in omega arith)) ∙
      ap (λ s. s + (n + d)) (spent_dropped x)
    where
      goes_size : length (rows_dropped R x n d) ≡ length R
      goes_size = length_change (put Dropped) (dropped_part R x n d) (rows_shelved R x n) ∙ length_change (put Shelved) (shelved_part R x n) R

  pub spent_other : (y : ℕ) → 1 ≤ y → (y ≡ x → ⊥) → spent_at (rows_spent R x n d) y ≡ spent_at R y
  spent_other y h e = ap (λ r. r.spent) (row_other (spending (n + d)) (rows_dropped R x n d) x y x_inside.0 h e) ∙ spent_dropped y

  pub remaining_here : remaining (rows_spent R x n d) x ≡ rest_part R x n d
  remaining_here = ap₂ (λ (it : ℕ → Item) s. content (it x) x s) goes_alike.item spent_here ∙ ap (λ t. content t x (spent_at R x + (n + d))) is
      ∙ ap₂ span (omega arith) (omega arith) ∙ sym (drop_span (n + d) (x + 1 + spent_at R x) (k - spent_at R x)) ∙ ap (drop (n + d)) (sym left_is)

  pub remaining_other : (y : ℕ) → 1 ≤ y → (y ≡ x → ⊥) → remaining (rows_spent R x n d) y ≡ remaining R y
  remaining_other y h e = ap₂ (λ (it : ℕ → Item) s. content (it y) y s) goes_alike.item (spent_other y h e)

  module _ (there : AllByRecursion (λ y. gone R y ≡ false) (remaining R x)) where
    kept_shelved : kept_in (rows_shelved R x n) ≡ kept_in R
    kept_shelved =
        alike_kept (alike_put Shelved R (shelved_part R x n))
        (gone_put Shelved refl (shelved_part R x n) R (All-take (λ y. gone R y ≡ false) n (remaining R x) there))

    kept_spent : kept_in (rows_spent R x n d) ≡ kept_in (rows_dropped R x n d)
    kept_spent =
        alike_kept (alike_spending (n + d) (rows_dropped R x n d) (x ∷ []))
        (λ y. part_kept (λ r. is_dropped r.place) (spending (n + d)) (λ r. refl) (x ∷ []) (rows_dropped R x n d) y)

    dropped_inside : AllByRecursion (Inside (rows_shelved R x n)) (dropped_part R x n d)
    dropped_inside = All-take (Inside (rows_shelved R x n)) d (drop n (remaining R x)) (All-drop (Inside (rows_shelved R x n)) n (remaining R x)
        (All-weaker (Inside R) (Inside (rows_shelved R x n))
        (λ y h. (h.0, let s = length_change (put Shelved) (shelved_part R x n) R in let m = h.1 in omega arith)) (remaining R x) left_inside))

    -- text of another kind is kept as it was
    goes_other : (q : ℕ → Bool) → AllByRecursion (λ y. q y ≡ false) (remaining R x) → filter q (kept_in (rows_spent R x n d)) ≡ filter q (kept_in R)
    goes_other q h = ap (filter q) kept_spent ∙ kept_drop_other q (dropped_part R x n d) (rows_shelved R x n) dropped_inside
        (All-take (λ y. q y ≡ false) d (drop n (remaining R x)) (All-drop (λ y. q y ≡ false) n (remaining R x) h)) ∙ ap (filter q) kept_shelved

    goes_drop : (q : ℕ → Bool) (l m : List ℕ) → l ++ (dropped_part R x n d ++ m) ≡ filter q (kept_in R) →
        l ++ m ≡ filter q (kept_in (rows_spent R x n d))
    goes_drop q l m e =
        kept_drop q (dropped_part R x n d) (rows_shelved R x n) l m dropped_inside (e ∙ ap (filter q) (sym kept_shelved)) ∙
        ap (filter q) (sym kept_spent)

  still_parts : (e : ℕ) → parts (rows_spent R x n d) e (still R x n d) ≡ cond (eqb c e) (rest_part R x n d) []
  still_parts e = go (rest_part R x n d) remaining_here
    where
      go : (z : List ℕ) → remaining (rows_spent R x n d) x ≡ z → parts (rows_spent R x n d) e (cond (empty z) [] (x ∷ [])) ≡ cond (eqb c e) z []
      go [] f = sym (cond_none (eqb c e))
      go (a ∷ z) f =
          append-nil (part (rows_spent R x n d) e x) ∙ ap₂ (λ (it : ℕ → Item) l. cond (eqb (note_class (it x)) e) l []) goes_alike.item f ∙
          ap (λ t. cond (eqb (note_class t) e) (a ∷ z) []) is

  still_owes : owes (rows_spent R x n d) (still R x n d) ≡ rest_part R x n d
  still_owes = go (rest_part R x n d) remaining_here
    where
      go : (z : List ℕ) → remaining (rows_spent R x n d) x ≡ z → owes (rows_spent R x n d) (cond (empty z) [] (x ∷ [])) ≡ z
      go [] f = refl
      go (a ∷ z) f =
          append-nil (owed_for (rows_spent R x n d) x) ∙ ap₂ (λ (it : ℕ → Item) l. cond (is_note (it x)) l (x ∷ [])) goes_alike.item f ∙
          ap (λ t. cond (is_note t) (a ∷ z) (x ∷ [])) is

  pub still_few : (y : ℕ) → times y (still R x n d) ≤ times y (x ∷ [])
  still_few y = go (rest_part R x n d)
    where
      go : (z : List ℕ) → times y (cond (empty z) [] (x ∷ [])) ≤ times y (x ∷ [])
      go [] = omega arith
      go (a ∷ z) = omega arith

  still_words : (Q : List Row) → is_word Q x ≡ false → filter (is_word Q) (still R x n d) ≡ []
  still_words Q h = go (rest_part R x n d)
    where
      go : (z : List ℕ) → filter (is_word Q) (cond (empty z) [] (x ∷ [])) ≡ []
      go [] = refl
      go (a ∷ z) = cond-false (is_word Q x) _ _ h

  part_here : (e : ℕ) → part R e x ≡ cond (eqb c e) (remaining R x) []
  part_here e = ap (λ t. cond (eqb (note_class t) e) (remaining R x) []) is

  -- entries that are not the note
  module _ (U : List ℕ) (far : AllByRecursion (λ y. 1 ≤ y) U) (absent : times x U ≡ 0) where
    others : AllByRecursion (λ y. (1 ≤ y) × (y ≡ x → ⊥)) U
    others = all_both (λ y. 1 ≤ y) (λ y. y ≡ x → ⊥) U far (all_apart x U absent)

    parts_other : (e : ℕ) → parts (rows_spent R x n d) e U ≡ parts R e U
    parts_other e = joined_same (λ y. part (rows_spent R x n d) e y) (λ y. part R e y) U
        (All-weaker (λ y. (1 ≤ y) × (y ≡ x → ⊥)) (λ y. part (rows_spent R x n d) e y ≡ part R e y)
        (λ y h. ap₂ (λ (it : ℕ → Item) l. cond (eqb (note_class (it y)) e) l []) goes_alike.item (remaining_other y h.0 h.1)) U others)

    owes_other : owes (rows_spent R x n d) U ≡ owes R U
    owes_other = joined_same (owed_for (rows_spent R x n d)) (owed_for R) U
        (All-weaker (λ y. (1 ≤ y) × (y ≡ x → ⊥)) (λ y. owed_for (rows_spent R x n d) y ≡ owed_for R y)
        (λ y h. ap₂ (λ (it : ℕ → Item) l. cond (is_note (it y)) l (y ∷ [])) goes_alike.item (remaining_other y h.0 h.1)) U others)

  module _ (U V : List ℕ) (far_u : AllByRecursion (λ y. 1 ≤ y) U) (absent_u : times x U ≡ 0) (far_v : AllByRecursion (λ y. 1 ≤ y) V) (absent_v : times x V ≡ 0)
      (there : AllByRecursion (λ y. gone R y ≡ false) (remaining R x)) (first : AllByRecursion (λ u. part R c u ≡ []) U) (few : n ≤ length (remaining R x))
      (sh : List (List Piece)) (room : c < length sh) where
    abbrev grown : List (List Piece)
    grown = shelve sh c x (x + 1 + spent_at R x) n

    shelved_is : shelved_part R x n ≡ span (x + 1 + spent_at R x) n
    shelved_is =
        ap (take n) left_is ∙
        take_span n (x + 1 + spent_at R x) (k - spent_at R x)
        (let e = ap length left_is ∙ length_span (x + 1 + spent_at R x) (k - spent_at R x) in omega arith)

    parts_before : (e : ℕ) → parts R e (U ++ x ∷ V) ≡ parts R e U ++ (cond (eqb c e) (remaining R x) [] ++ parts R e V)
    parts_before e = parts_append R e U (x ∷ V) ∙ ap (λ l. parts R e U ++ (l ++ parts R e V)) (part_here e)

    parts_after : (e : ℕ) →
        parts (rows_spent R x n d) e (U ++ (still R x n d ++ V)) ≡ parts R e U ++ (cond (eqb c e) (rest_part R x n d) [] ++ parts R e V)
    parts_after e = parts_append (rows_spent R x n d) e U (still R x n d ++ V) ∙ ap₂ (λ a b. a ++ b) (parts_other U far_u absent_u e)
        (parts_append (rows_spent R x n d) e (still R x n d) V ∙ ap₂ (λ a b. a ++ b) (still_parts e) (parts_other V far_v absent_v e))

    pub goes_classes : (T : List ℕ) (e : ℕ) →
        T ++ (shelf_items (get_or sh e []) ++ parts R e (U ++ x ∷ V)) ≡ text_of R e (kept_in R) →
        T ++ (shelf_items (get_or grown e []) ++ parts (rows_spent R x n d) e (U ++ (still R x n d ++ V))) ≡ text_of (rows_spent R x n d) e
        (kept_in (rows_spent R x n d))
    goes_classes T e h = go (eqb c e) refl ∙ sym (alike_text_of goes_alike e (kept_in (rows_spent R x n d)))
      where
        go : (b : Bool) → eqb c e ≡ b →
            T ++ (shelf_items (get_or grown e []) ++ parts (rows_spent R x n d) e (U ++ (still R x n d ++ V))) ≡ text_of R e (kept_in (rows_spent R x n d))
        go true f =
            let m = eqb-true c e f in
            let u_none : parts R e U ≡ [] = subst (λ z. parts R z U ≡ []) m (joined_none (λ y. part R c y) U first) in
            let before : parts R e (U ++ x ∷ V) ≡ remaining R x ++ parts R e V =
            parts_before e ∙ ap₂ (λ a b. a ++ (cond b (remaining R x) [] ++ parts R e V)) u_none f in
            let after : parts (rows_spent R x n d) e (U ++ (still R x n d ++ V)) ≡ rest_part R x n d ++ parts R e V =
            parts_after e ∙ ap₂ (λ a b. a ++ (cond b (rest_part R x n d) [] ++ parts R e V)) u_none f in
            let shelf3 : shelf_items (get_or grown e []) ≡ shelf_items (get_or sh e []) ++ shelved_part R x n =
            subst (λ z. shelf_items (get_or grown z []) ≡ shelf_items (get_or sh z []) ++ shelved_part R x n) m
            (shelve_here sh c x (x + 1 + spent_at R x) room n ∙ ap (λ l. shelf_items (get_or sh c []) ++ l) (sym shelved_is)) in
            let whole :
            (T ++ (shelf_items (get_or sh e []) ++ shelved_part R x n)) ++ (dropped_part R x n d ++ (rest_part R x n d ++ parts R e V)) ≡ filter
            (is_text R e) (kept_in R) =
            regroup T (shelf_items (get_or sh e [])) (shelved_part R x n) (dropped_part R x n d) (rest_part R x n d) (parts R e V)
            ∙ ap (λ l. T ++ (shelf_items (get_or sh e []) ++ (l ++ parts R e V))) (sym left_split) ∙
            ap (λ l. T ++ (shelf_items (get_or sh e []) ++ l)) (sym before) ∙ h in
            ap₂ (λ a b. T ++ (a ++ b)) shelf3 after
            ∙ regroup2 T (shelf_items (get_or sh e [])) (shelved_part R x n) (rest_part R x n d) (parts R e V)
            ∙ goes_drop there (is_text R e) (T ++ (shelf_items (get_or sh e []) ++ shelved_part R x n)) (rest_part R x n d ++ parts R e V) whole
          where
            regroup : (t s a b z p : List ℕ) → (t ++ (s ++ a)) ++ (b ++ (z ++ p)) ≡ t ++ (s ++ ((a ++ (b ++ z)) ++ p))
            regroup t s a b z p = simp append_assoc

            regroup2 : (t s a z p : List ℕ) → t ++ ((s ++ a) ++ (z ++ p)) ≡ (t ++ (s ++ a)) ++ (z ++ p)
            regroup2 t s a z p = simp append_assoc
        go false f =
            let before : parts R e (U ++ x ∷ V) ≡ parts R e U ++ parts R e V =
            parts_before e ∙ ap (λ b. parts R e U ++ (cond b (remaining R x) [] ++ parts R e V)) f in
            let after : parts (rows_spent R x n d) e (U ++ (still R x n d ++ V)) ≡ parts R e U ++ parts R e V =
            parts_after e ∙ ap (λ b. parts R e U ++ (cond b (rest_part R x n d) [] ++ parts R e V)) f in
            ap₂ (λ a b. T ++ (shelf_items a ++ b)) (shelve_other sh c x (x + 1 + spent_at R x) room n e (λ z. eqb-false c e f (sym z)))
            (after ∙ sym before) ∙
            h
            ∙ sym
            (goes_other there (is_text R e)
            (All-weaker (λ y. is_text R e y ≡ eqb c e) (λ y. is_text R e y ≡ false) (λ y z. z ∙ f) (remaining R x) (left_text e)))

    pub goes_bodies : (l h : List ℕ) → l ++ (h ++ filter (is_word R) (U ++ x ∷ V)) ≡ body R (kept_in R) →
        l ++ (h ++ filter (is_word (rows_spent R x n d)) (U ++ (still R x n d ++ V))) ≡ body (rows_spent R x n d) (kept_in (rows_spent R x n d))
    goes_bodies l h e =
        ap (λ p. l ++ (h ++ filter p (U ++ (still R x n d ++ V)))) (ap {B = ℕ → Bool} (λ (it : ℕ → Item) y. not (is_note (it y))) goes_alike.item)
        ∙ ap (λ m. l ++ (h ++ m)) same ∙ e ∙ sym (goes_other there (is_body R) left_body) ∙ sym (alike_body goes_alike (kept_in (rows_spent R x n d)))
      where
        no : is_word R x ≡ false
        no = ap (λ t. not (is_note t)) is

        same : filter (is_word R) (U ++ (still R x n d ++ V)) ≡ filter (is_word R) (U ++ x ∷ V)
        same =
            filter-append (is_word R) U (still R x n d ++ V) ∙
            ap (λ m. filter (is_word R) U ++ m) (filter-append (is_word R) (still R x n d) V ∙ ap (λ m. m ++ filter (is_word R) V) (still_words R no)
            ∙ sym (cond-false (is_word R x) _ _ no)) ∙ sym (filter-append (is_word R) U (x ∷ V))

    pub goes_owes : (y : ℕ) →
        times y (owes R (U ++ x ∷ V)) ≡
        times y (shelved_part R x n) + (times y (dropped_part R x n d) + times y (owes (rows_spent R x n d) (U ++ (still R x n d ++ V))))
    goes_owes y =
        let a : owes R (U ++ x ∷ V) ≡ owes R U ++ (remaining R x ++ owes R V) =
        owes_append R U (x ∷ V) ∙ ap (λ t. owes R U ++ (cond (is_note t) (remaining R x) (x ∷ []) ++ owes R V)) is in
        let b : owes (rows_spent R x n d) (U ++ (still R x n d ++ V)) ≡ owes R U ++ (rest_part R x n d ++ owes R V) =
        owes_append (rows_spent R x n d) U (still R x n d ++ V)
        ∙ ap₂ (λ a b. a ++ b) (owes_other U far_u absent_u)
        (owes_append (rows_spent R x n d) (still R x n d) V ∙ ap₂ (λ a b. a ++ b) still_owes (owes_other V far_v absent_v)) in
        let a1 = ap (times y) a in
        let a2 = times_append y (owes R U) (remaining R x ++ owes R V) in
        let a3 = times_append y (remaining R x) (owes R V) in
        let a4 = ap (times y) left_split in
        let a5 = times_append y (shelved_part R x n) (dropped_part R x n d ++ rest_part R x n d) in
        let a6 = times_append y (dropped_part R x n d) (rest_part R x n d) in
        let b1 = ap (times y) b in
        let b2 = times_append y (owes R U) (rest_part R x n d ++ owes R V) in
        let b3 = times_append y (rest_part R x n d) (owes R V) in
        omega arith

    pub goes_shelved : (y : ℕ) → times y (flat_map shelf_items grown) ≡ times y (flat_map shelf_items sh) + times y (shelved_part R x n)
    goes_shelved y = let a = shelve_times sh c x (x + 1 + spent_at R x) room n y in let b = ap (times y) shelved_is in omega arith

  shelved_far : AllByRecursion (λ y. 1 ≤ y) (shelved_part R x n)
  shelved_far = All-take (λ y. 1 ≤ y) n (remaining R x) (from_one R (remaining R x) left_inside)

  dropped_far : AllByRecursion (λ y. 1 ≤ y) (dropped_part R x n d)
  dropped_far = All-take (λ y. 1 ≤ y) d (drop n (remaining R x)) (All-drop (λ y. 1 ≤ y) n (remaining R x) (from_one R (remaining R x) left_inside))

  place_spent : (y : ℕ) → place_at (rows_spent R x n d) y ≡ place_at (rows_dropped R x n d) y
  place_spent y = part_kept (λ r. r.place) (spending (n + d)) (λ r. refl) (x ∷ []) (rows_dropped R x n d) y

  -- where an item lies then
  pub goes_place : (y : ℕ) → Inside R y → (Goal : Place → Type 0) → (0 < times y (shelved_part R x n) → Goal Shelved) →
      (0 < times y (dropped_part R x n d) → Goal Dropped) →
      (times y (shelved_part R x n) ≡ 0 → times y (dropped_part R x n d) ≡ 0 → Goal (place_at R y)) → Goal (place_at (rows_spent R x n d) y)
  goes_place y h Goal f g o = subst Goal (sym (place_spent y)) (go (times y (shelved_part R x n)) (times y (dropped_part R x n d)) refl refl)
    where
      h1 : Inside (rows_shelved R x n) y
      h1 = (h.0, let s = length_change (put Shelved) (shelved_part R x n) R in let m = h.1 in omega arith)

      go : (i j : ℕ) → times y (shelved_part R x n) ≡ i → times y (dropped_part R x n d) ≡ j → Goal (place_at (rows_dropped R x n d) y)
      go i (suc j) p q =
          subst Goal (sym (place_in Dropped y (dropped_part R x n d) (rows_shelved R x n) h1 dropped_far (omega arith))) (g (omega arith))
      go (suc i) zero p q =
          subst Goal
          (sym (ap (λ r. r.place) (rows_other (put Dropped) y h.0 (dropped_part R x n d) (rows_shelved R x n) dropped_far q) ∙ place_in Shelved y (shelved_part R x n) R h shelved_far (omega arith)))
          (f (omega arith))
      go zero zero p q =
          subst Goal
          (sym (ap (λ r. r.place) (rows_other (put Dropped) y h.0 (dropped_part R x n d) (rows_shelved R x n) dropped_far q ∙ rows_other (put Shelved) y h.0 (shelved_part R x n) R shelved_far p)))
          (o p q)
