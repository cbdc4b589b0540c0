-- The invariant implies each thing that is found wherever calls stop, and that no more is to come than was fed.
use Rattle.std.proofs.Common.{◌≡◌, ℕ, ◌+◌, ◌<◌, ◌≤◌, Bool, true, false, cond, not, ◌&&◌, eqb, List, [], ◌∷◌, ◌++◌, length, filter, sym, refl, ap, ◌∙◌, subst, ap₂, arith, length-append}
use Rattle.std.specs.List.{flat_map, AllByRecursion}
use Rattle.std.proofs.lemmas.List.Elements.{filter-append}
use Rattle.std.proofs.ByRecursion.{kept_by_passes, all_kept_by}
use Rattle.std.proofs.lemmas.Bool.{eq-eqb, ne_eqb, cond-true, cond-false}
use Rattle.items.specs.declared.Item.{Item}
use Rattle.items.specs.declared.Row.{Row}
use Rattle.items.specs.Items.{is_note, is_discardable}
use Rattle.items.specs.Table.{row_at, item_at, remaining, shelf_items, note_at}
use Rattle.calls.specs.Book.{Book}
use Rattle.calls.specs.Firing.{note_class}
use Rattle.calls.specs.Runs.{Call, State}
use Rattle.calls.specs.Findings.{times, book_of, owed_for, waiting_in, owed, texts, is_dropped, dropped_in, kept_in, shelved, body, text_of, fed_by, Found}
use Rattle.calls.proofs.ListLaws.{kept_by_all, kept_by_none, all_left, all_right, all_both}
use Rattle.calls.proofs.Times.{times_append, times_kept, all_times, all_from_times, length_fewer, lacks, joined_zero, joined_one, split_times}
use Rattle.calls.proofs.Table.{is_body, is_text, Inside, texts_inside}
use Rattle.calls.proofs.Invariant.{is_word, part, parts, owes, shelf, Inv}
use Rattle.calls.proofs.Settles.{body_not_text}
use Rattle.calls.proofs.NoteRows.{note_is, left_text, left_body, part_none}

module _ (F : List Item) (s : State) (held : List ℕ) (i : Inv F s held) where
  abbrev b : Book
  b = book_of s

  abbrev R : List Row
  R = (book_of s).rows

  abbrev waits : List ℕ
  waits = waiting_in s

  inside_waits : AllByRecursion (Inside R) waits
  inside_waits = all_right (Inside R) held waits i.inside

  bodies_all : AllByRecursion (λ y. is_body R y ≡ true) (held ++ filter (is_word R) waits)
  bodies_all =
      all_right (λ y. is_body R y ≡ true) (body R b.shipped) (held ++ filter (is_word R) waits)
      (subst (AllByRecursion (λ y. is_body R y ≡ true)) (sym i.bodies) (kept_by_passes (is_body R) (kept_in R)))

  shelf_all : (e : ℕ) → AllByRecursion (λ y. is_text R e y ≡ true) (shelf b e)
  shelf_all e =
      all_left (λ y. is_text R e y ≡ true) (shelf b e) (parts R e waits)
      (all_right (λ y. is_text R e y ≡ true) (text_of R e b.shipped) (shelf b e ++ parts R e waits)
      (subst (AllByRecursion (λ y. is_text R e y ≡ true)) (sym (i.classes e)) (kept_by_passes (is_text R e) (kept_in R))))

  Entry : ℕ → Type 0
  Entry x = Inside R x × (is_word R x ≡ true → is_body R x ≡ true)

  entries : AllByRecursion Entry waits
  unfolding Entry
  entries = all_both (Inside R) (λ x. is_word R x ≡ true → is_body R x ≡ true) waits inside_waits
      (all_from_times (λ x. is_word R x ≡ true → is_body R x ≡ true) waits (λ x k e. all_times (λ y. is_body R y ≡ true) x (filter (is_word R) waits)
      (all_right (λ y. is_body R y ≡ true) held (filter (is_word R) waits) bodies_all) (let m = times_kept x (is_word R) e waits in omega arith)))

  body_owes : (xs : List ℕ) → AllByRecursion Entry xs → body R (owes R xs) ≡ filter (is_word R) xs
  unfolding Entry
  body_owes [] e = refl
  body_owes (x ∷ xs) e =
      filter-append (is_body R) (owed_for R x) (owes R xs) ∙ ap (λ l. body R (owed_for R x) ++ l) (body_owes xs e.1) ∙ go (is_note (item_at R x)) refl
    where
      go : (t : Bool) → is_note (item_at R x) ≡ t →
          body R (cond t (remaining R x) (x ∷ [])) ++ filter (is_word R) xs ≡ cond (not t) (x ∷ filter (is_word R) xs) (filter (is_word R) xs)
      go true f = let n = note_is (item_at R x) f in
          ap (λ l. l ++ filter (is_word R) xs)
          (kept_by_none (is_body R) (remaining R x) (left_body R i.formed x 0 0 n.0 n.1 e.0.0 n.2))
      go false f = ap (λ l. l ++ filter (is_word R) xs) (cond-true (is_body R x) (x ∷ []) [] (e.0.1 (ap not f)))

  text_owes : (c : ℕ) (xs : List ℕ) → AllByRecursion Entry xs → text_of R c (owes R xs) ≡ parts R c xs
  unfolding Entry
  text_owes c [] e = refl
  text_owes c (x ∷ xs) e =
      filter-append (is_text R c) (owed_for R x) (owes R xs) ∙ ap₂ (λ l m. l ++ m) (go (is_note (item_at R x)) refl) (text_owes c xs e.1)
    where
      pick : (t : Bool) (l : List ℕ) → AllByRecursion (λ y. is_text R c y ≡ t) l → text_of R c l ≡ cond t l []
      pick true l h = kept_by_all (is_text R c) l h
      pick false l h = kept_by_none (is_text R c) l h

      go : (t : Bool) → is_note (item_at R x) ≡ t → text_of R c (cond t (remaining R x) (x ∷ [])) ≡ part R c x
      go true f = let n = note_is (item_at R x) f in
          pick (eqb n.0 c) (remaining R x) (left_text R i.formed x 0 0 n.0 n.1 e.0.0 n.2 c) ∙
          ap (λ t. cond (eqb (note_class t) c) (remaining R x) []) (sym n.2)
      go false f = cond-false (is_text R c x) (x ∷ []) [] (body_not_text R c x (e.0.1 (ap not f))) ∙ sym (part_none R c x f)

  body_in_order : body R b.shipped ++ (held ++ body R (owed s)) ≡ body R (kept_in R)
  body_in_order = ap (λ l. body R b.shipped ++ (held ++ l)) (body_owes waits entries) ∙ i.bodies

  notes_in_order : (c : ℕ) → text_of R c b.shipped ++ (shelf b c ++ text_of R c (owed s)) ≡ text_of R c (kept_in R)
  notes_in_order c = ap (λ l. text_of R c b.shipped ++ (shelf b c ++ l)) (text_owes c waits entries) ∙ i.classes c

  kept_times : (x : ℕ) → times x b.shipped + (times x held + (times x (shelved b) + times x (owed s))) ≡ times x (kept_in R)
  kept_times x = go (is_body R x) refl
    where
      go : (t : Bool) → is_body R x ≡ t → times x b.shipped + (times x held + (times x (shelved b) + times x (owed s))) ≡ times x (kept_in R)
      go true e =
          let a = ap (times x) body_in_order in
          let a1 = times_append x (body R b.shipped) (held ++ body R (owed s)) in
          let a2 = times_append x held (body R (owed s)) in
          let a3 = times_kept x (is_body R) e b.shipped in
          let a4 = times_kept x (is_body R) e (owed s) in
          let a5 = times_kept x (is_body R) e (kept_in R) in
          let z = joined_zero shelf_items [] x b.shelves (λ k. lacks (is_text R k) x (shelf b k) (shelf_all k) (body_not_text R k x e)) in
          omega arith
      go false e =
          let k = note_class (item_at R (note_at R x)) in
          let f : is_text R k x ≡ true = ap₂ (λ p q. not p && q) e (eq-eqb k k refl) in
          let a = ap (times x) (notes_in_order k) in
          let a1 = times_append x (text_of R k b.shipped) (shelf b k ++ text_of R k (owed s)) in
          let a2 = times_append x (shelf b k) (text_of R k (owed s)) in
          let a3 = times_kept x (is_text R k) f b.shipped in
          let a4 = times_kept x (is_text R k) f (owed s) in
          let a5 = times_kept x (is_text R k) f (kept_in R) in
          let z = lacks (is_body R) x held (all_left (λ y. is_body R y ≡ true) held (filter (is_word R) waits) bodies_all) e in
          let y =
          joined_one shelf_items [] refl x b.shelves k
          (λ m n. lacks (is_text R m) x (shelf b m) (shelf_all m) (ap₂ (λ p q. not p && q) e (ne_eqb k m (λ w. n (sym w))))) in
          omega arith

  pub once : (x : ℕ) → times x (b.shipped ++ (dropped_in R ++ (held ++ (shelved b ++ owed s)))) ≡ times x (texts R)
  once x =
      let a = times_append x b.shipped (dropped_in R ++ (held ++ (shelved b ++ owed s))) in
      let a1 = times_append x (dropped_in R) (held ++ (shelved b ++ owed s)) in
      let a2 = times_append x held (shelved b ++ owed s) in
      let a3 = times_append x (shelved b) (owed s) in
      let k = kept_times x in
      let z = split_times x (λ y. is_dropped (row_at R y).place) (texts R) in
      omega arith

  found_discarded : (x : ℕ) → 0 < times x (dropped_in R) → is_discardable (item_at R x) ≡ true
  found_discarded x k =
      i.discarded x (all_times (Inside R) x (dropped_in R) (all_kept_by (λ y. is_dropped (row_at R y).place) (Inside R) (texts R) (texts_inside R)) k)
      (all_times (λ y. is_dropped (row_at R y).place ≡ true) x (dropped_in R) (kept_by_passes (λ y. is_dropped (row_at R y).place) (texts R)) k)

  -- what is held, shelved and owed is no more than the text
  pub kept_within : length held + (length (shelved (book_of s)) + length (owed s)) ≤ length (texts (book_of s).rows)
  kept_within =
      let l = length_fewer (held ++ (shelved b ++ owed s)) (texts R) (λ x.
      let o = once x in
      let a = times_append x b.shipped (dropped_in R ++ (held ++ (shelved b ++ owed s))) in
      let a1 = times_append x (dropped_in R) (held ++ (shelved b ++ owed s)) in
      omega arith) in
      let e = length-append held (shelved b ++ owed s) in
      let f = length-append (shelved b) (owed s) in
      omega arith

pub found : (h : List Call) (s : State) (held : List ℕ) → Inv (flat_map fed_by h) s held → Found h s held
found h s held i = record {
  listed = i.listed;
  once = once (flat_map fed_by h) s held i;
  discarded = found_discarded (flat_map fed_by h) s held i;
  placed = i.placed;
  body_in_order = body_in_order (flat_map fed_by h) s held i;
  notes_in_order = notes_in_order (flat_map fed_by h) s held i;
}
