-- A firing keeps the invariant. No more is to come after it than before, and less where nothing came out.
use Rattle.std.proofs.Common.{◌≡◌, ℕ, zero, suc, ◌+◌, ◌<◌, ◌≤◌, min, Bool, true, false, cond, not, ◌⊎◌, List, [], ◌∷◌, ◌++◌, length, get_or, take, drop, replicate, ℤ, None, is_none, filter, sym, refl, ap, ◌∙◌, subst, ap₂, inl, inr, append_assoc, arith}
use Rattle.std.specs.List.{flat_map, AllByRecursion}
use Rattle.std.proofs.lemmas.List.{append-nil, take-append-drop, get_or-replicate, get_or_past}
use Rattle.std.proofs.lemmas.List.Elements.{filter-append}
use Rattle.std.proofs.ByRecursion.{All-weaker, kept_by_passes}
use Rattle.std.proofs.lemmas.Bool.{false≢true, not-true, or_from, cases_lt}
use Rattle.items.specs.declared.Item.{Item}
use Rattle.items.specs.declared.Row.{Row}
use Rattle.items.specs.declared.Piece.{Piece}
use Rattle.items.specs.declared.Place.{Place}
use Rattle.items.specs.declared.Place.TheVariants.{Owed, Shelved, Held, Shipped, Dropped}
use Rattle.items.specs.Items.{is_note, is_discardable, most}
use Rattle.items.specs.Table.{item_at, items_at, change_all, stamped, shelf_items}
use Rattle.page.specs.declared.breaks.PageBreak.{PageBreak}
use Rattle.page.specs.PageSoFar.{class_of}
use Rattle.calls.specs.Book.{Book}
use Rattle.calls.specs.OnPage.{on_page, ground_of}
use Rattle.calls.specs.Firing.{note_class, sorted, body_before, notes_before, output_penalty, fired_book, fired_output, unsorted}
use Rattle.calls.specs.Runs.{State, is_open, is_fired}
use Rattle.calls.specs.Findings.{times, owed_for, owed, shelved, texts, is_dropped, kept_in, body, text_of, lies}
use Rattle.calls.proofs.ListLaws.{kept_by_all, joined_none}
use Rattle.calls.proofs.Times.{times_append, all_fewer, length_fewer, length_same, split_times, split_joined}
use Rattle.calls.proofs.Table.{spent_at, place_at, Inside, part_kept, Alike, alike_self, alike_stamped, alike_texts, alike_body, alike_text_of, alike_kept}
use Rattle.calls.proofs.Invariant.{no_words, formed_alike, is_word, part, parts, parts_append, owes, owes_append, shelf, to_come, HasLeft, Inv, same_left, same_parts, same_owes, same_words, same_inside, lies_still}
use Rattle.calls.proofs.Pages.{Sound, page_each, FirstNote, BreakFor}
use Rattle.calls.proofs.Goes.{mid, dropped_there}
use Rattle.calls.proofs.Sorts.{Sort, Onto, Brings, sort_all, first_brings}
use Rattle.calls.proofs.NoteRows.{part_none}

-- words have no part of a class's text
pub parts_words : (R : List Row) (c : ℕ) (xs : List ℕ) → AllByRecursion (λ x. is_note (item_at R x) ≡ false) xs → parts R c xs ≡ []
parts_words R c xs h =
    joined_none (λ x. part R c x) xs (All-weaker (λ x. is_note (item_at R x) ≡ false) (λ x. part R c x ≡ []) (λ x e. part_none R c x e) xs h)

parts_notes : (R : List Row) (c : ℕ) (xs : List ℕ) → parts R c (filter (λ x. is_note (item_at R x)) xs) ≡ parts R c xs
parts_notes R c [] = refl
parts_notes R c (x ∷ xs) = go (is_note (item_at R x)) refl (parts_notes R c xs)
  where
    go : (b : Bool) → is_note (item_at R x) ≡ b → parts R c (filter (λ x. is_note (item_at R x)) xs) ≡ parts R c xs →
        parts R c (cond b (x ∷ filter (λ x. is_note (item_at R x)) xs) (filter (λ x. is_note (item_at R x)) xs)) ≡ part R c x ++ parts R c xs
    go true e i = ap (λ l. part R c x ++ l) i
    go false e i = i ∙ ap (λ l. l ++ parts R c xs) (sym (part_none R c x e))

module _ (b : Book) (at : PageBreak) (F : List Item) (held : List ℕ) (i : Inv F (is_open b) held) where
  abbrev R : List Row
  R = b.rows

  abbrev before : List ℕ
  before = take at.place b.page

  abbrev rest : List ℕ
  rest = drop at.place b.page ++ b.contributions

  abbrev bod : List ℕ
  bod = body_before b at

  abbrev notes : List ℕ
  notes = notes_before b at

  abbrev pen : ℤ
  pen = output_penalty (items_at R rest)

  whole : b.page ++ b.contributions ≡ before ++ rest
  whole =
      ap (λ l. l ++ b.contributions) (sym (take-append-drop at.place b.page)) ∙
      append_assoc before (drop at.place b.page) b.contributions

  same_times : (y : ℕ) → times y (bod ++ (notes ++ rest)) ≡ times y (b.page ++ b.contributions)
  same_times y =
      let a = times_append y bod (notes ++ rest) in
      let c = times_append y notes rest in
      let d = split_times y (λ x. is_note (item_at R x)) before in
      let e = times_append y before rest in
      let f = ap (times y) whole in
      omega arith

  same_owed : (y : ℕ) → times y (owes R (bod ++ (notes ++ rest))) ≡ times y (owes R (b.page ++ b.contributions))
  same_owed y =
      let a = ap (times y) (owes_append R bod (notes ++ rest)) in
      let a2 = times_append y (owes R bod) (owes R (notes ++ rest)) in
      let c = ap (times y) (owes_append R notes rest) in
      let c2 = times_append y (owes R notes) (owes R rest) in
      let d = split_joined y (owed_for R) (λ x. is_note (item_at R x)) before in
      let e = ap (times y) (owes_append R before rest) in
      let e2 = times_append y (owes R before) (owes R rest) in
      let f = ap (λ l. times y (owes R l)) whole in
      omega arith

  all_same : (y : ℕ) → times y (held ++ (bod ++ (notes ++ rest))) ≡ times y (held ++ (b.page ++ b.contributions))
  all_same y =
      let a = times_append y held (bod ++ (notes ++ rest)) in
      let c = times_append y held (b.page ++ b.contributions) in let d = same_times y in omega arith

  words_before : AllByRecursion (λ x. is_note (item_at R x) ≡ false) bod
  words_before =
      All-weaker (λ x. not (is_note (item_at R x)) ≡ true) (λ x. is_note (item_at R x) ≡ false) (λ x e. not-true (is_note (item_at R x)) e) bod
      (kept_by_passes (λ x. not (is_note (item_at R x))) before)

  words_same : filter (is_word R) (bod ++ (notes ++ rest)) ≡ filter (is_word R) (b.page ++ b.contributions)
  words_same = filter-append (is_word R) bod (notes ++ rest)
      ∙ ap₂ (λ l m. l ++ m) (kept_by_all (is_word R) bod (kept_by_passes (is_word R) before))
      (filter-append (is_word R) notes rest ∙
      ap (λ l. l ++ filter (is_word R) rest) (no_words R notes (kept_by_passes (λ x. is_note (item_at R x)) before)))
      ∙ sym (filter-append (is_word R) before rest) ∙ ap (filter (is_word R)) (sym whole)

  parts_same : (c : ℕ) → parts R c (bod ++ (notes ++ rest)) ≡ parts R c (b.page ++ b.contributions)
  parts_same c =
      parts_append R c bod (notes ++ rest) ∙
      ap₂ (λ l m. l ++ m) (parts_words R c bod words_before) (parts_append R c notes rest ∙ ap (λ l. l ++ parts R c rest) (parts_notes R c before))
      ∙ sym (parts_append R c before rest) ∙ ap (parts R c) (sym whole)

  start : Inv F (mid b rest bod pen R b.shelves notes) held
  start = record {
    listed = i.listed;
    eight = i.eight;
    shelves = i.shelves;
    formed = i.formed;
    ready = record {
      notes = kept_by_passes (λ x. is_note (item_at R x)) before;
      words = words_before;
      last = λ e. absurd (false≢true e);
      clear = refl;
    };
    inside =
        all_fewer (Inside R) (held ++ (b.page ++ b.contributions)) (held ++ (bod ++ (notes ++ rest))) (λ y. let a = all_same y in omega arith)
        i.inside;
    left =
        all_fewer (HasLeft R) (held ++ (b.page ++ b.contributions)) (held ++ (bod ++ (notes ++ rest))) (λ y. let a = all_same y in omega arith)
        i.left;
    apart = λ y. let a = all_same y in let c = i.apart y in omega arith;
    discarded = i.discarded;
    placed = λ y h.
        lies_still (is_open b) (mid b rest bod pen R b.shelves notes) held y (λ o. let a = same_owed y in omega arith) refl refl refl
        (place_at R y) (i.placed y h);
    bodies = ap (λ l. body R b.shipped ++ (held ++ l)) words_same ∙ i.bodies;
    classes = λ c. ap (λ l. text_of R c b.shipped ++ (shelf b c ++ l)) (parts_same c) ∙ i.classes c;
    pages = i.pages;
  }

  sound : (c : ℕ) → Sound R (class_of (on_page b) c)
  sound = page_each (ground_of b) b.rows b.page

  first_sort : Sort b rest bod pen F held (on_page b) sound at.last (unsorted b) notes
  first_sort = record { inv = start; eight = refl; like = alike_self R; fresh = same notes; order = λ c h. tt }
    where
      same : (xs : List ℕ) → AllByRecursion (λ x. spent_at R x ≡ spent_at R x) xs
      same [] = tt
      same (x ∷ xs) = (refl, same xs)

  all_sorted : Sort b rest bod pen F held (on_page b) sound at.last (sorted b at notes) [] × Onto b rest bod pen F held (on_page b) sound at.last (unsorted b) (sorted b at notes) notes []
  all_sorted = sort_all b rest bod pen F held (on_page b) sound at.last notes (unsorted b) first_sort

  no_more : (mid b rest bod pen (sorted b at notes).rows (sorted b at notes).shelves ((sorted b at notes).waiting ++ [])) ≡
      (mid b rest bod pen (sorted b at notes).rows (sorted b at notes).shelves (sorted b at notes).waiting)
  no_more = ap (λ l. mid b rest bod pen (sorted b at notes).rows (sorted b at notes).shelves l) (append-nil (sorted b at notes).waiting)

  sorted_inv : Inv F (mid b rest bod pen (sorted b at notes).rows (sorted b at notes).shelves (sorted b at notes).waiting) held
  sorted_inv = subst (λ s. Inv F s held) no_more all_sorted.0.inv

  abbrev pub fired_state : State
  fired_state = is_fired (fired_book b at) (fired_output b at)

  fired_owes : owed fired_state ≡ owes (sorted b at notes).rows (bod ++ ((sorted b at notes).waiting ++ rest))
  fired_owes = same_owes (alike_stamped (min most (b.firings + 1)) at.goal (sorted b at notes).rows bod)
      (λ y. part_kept (λ r. r.spent) (stamped (min most (b.firings + 1)) at.goal) (λ r. refl) bod (sorted b at notes).rows y) (bod ++ ((sorted b at notes).waiting ++ rest))

  came : to_come (mid b rest bod pen (sorted b at notes).rows (sorted b at notes).shelves ((sorted b at notes).waiting ++ [])) held ≡
      to_come fired_state held
  came = ap (λ s. to_come s held) no_more ∙ ap (λ l. held ++ (shelved (fired_book b at) ++ l)) (sym fired_owes)

  was : (y : ℕ) → times y (to_come (mid b rest bod pen R b.shelves notes) held) ≡ times y (to_come (is_open b) held)
  was y =
      let a = same_owed y in
      let e = times_append y held (shelved b ++ owes R (bod ++ (notes ++ rest))) in
      let f = times_append y (shelved b) (owes R (bod ++ (notes ++ rest))) in
      let g = times_append y held (shelved b ++ owed (is_open b)) in
      let h = times_append y (shelved b) (owed (is_open b)) in
      omega arith

  -- no more is to come after a firing
  pub fired_less : length (to_come fired_state held) ≤ length (to_come (is_open b) held)
  fired_less = length_fewer (to_come fired_state held) (to_come (is_open b) held) (λ y.
      let a = all_sorted.1.less y in let e = ap (times y) came in let f = was y in omega arith)

  abbrev Comes : Type 0
  Comes =
      (length (to_come fired_state held) < length (to_come (is_open b) held)) ⊎ (1 ≤ length (fired_output b at).body + length (shelved (fired_book b at)))

  -- and less than before, or else something came out
  pub fired_brings : BreakFor b.rows b.page at → Comes
  fired_brings k = go b.page at.place refl refl
    where
      unshut : (c : ℕ) → (c < 8) ⊎ (8 ≤ c) → get_or (replicate 8 false) c false ≡ false
      unshut c (inl l) = get_or-replicate 8 c false false l
      unshut c (inr l) = get_or_past (replicate 8 false) c false l

      by_notes : (ns : List ℕ) → notes_before b at ≡ ns →
          Brings b rest bod pen F held (on_page b) sound at.last (unsorted b) (sorted b at ns) ns [] → Comes
      by_notes ns e (inl h) = inl (
          let z =
          ap (λ l. length (to_come (mid b rest bod pen (sorted b at l).rows (sorted b at l).shelves ((sorted b at l).waiting ++ [])) held)) e in
          let w = ap (λ l. length (to_come (mid b rest bod pen R b.shelves l) held)) e in
          let u = ap length came in
          let v = length_same (to_come (mid b rest bod pen R b.shelves notes) held) (to_come (is_open b) held) was in
          omega arith)
      by_notes ns e (inr h) = inr (let z = ap (λ l. length (flat_map shelf_items (sorted b at l).shelves)) e in omega arith)

      at_first : (x : ℕ) (xs : List ℕ) (n : ℕ) → b.page ≡ x ∷ xs → at.place ≡ suc n → (v : Bool) → is_note (item_at b.rows x) ≡ v → Comes
      at_first x xs n e f true g =
          let ns = filter (λ x. is_note (item_at b.rows x)) (take n xs) in
          let q : notes_before b at ≡ x ∷ ns =
          ap₂ (λ (i : ℕ) (l : List ℕ). filter (λ x. is_note (item_at b.rows x)) (take i l)) f e ∙ ap (λ v. cond v (x ∷ ns) ns) g in
          let l = subst (λ l. FirstNote b.rows l at) e k.first g in
          by_notes (x ∷ ns) q (first_brings b rest bod pen F held (on_page b) sound at.last x ns (unsorted b)
          (subst (Sort b rest bod pen F held (on_page b) sound at.last (unsorted b)) q first_sort)
          (or_from (get_or (replicate 8 false) (note_class (item_at b.rows x)) false) (is_none (get_or at.last (note_class (item_at b.rows x)) None)) (unshut (note_class (item_at b.rows x)) (cases_lt (note_class (item_at b.rows x)) 8))
          (ap not l)))
      at_first x xs n e f false g =
          let ws = filter (λ x. not (is_note (item_at b.rows x))) (take n xs) in
          let q : body_before b at ≡ x ∷ ws =
          ap₂ (λ (i : ℕ) (l : List ℕ). filter (λ x. not (is_note (item_at b.rows x))) (take i l)) f e ∙ ap (λ v. cond (not v) (x ∷ ws) ws) g in
          inr (omega (arith, ap length q))

      go : (page : List ℕ) (place : ℕ) → b.page ≡ page → at.place ≡ place → Comes
      go [] n e f = absurd (omega (arith, k.some, k.within, ap length e))
      go (x ∷ xs) zero e f = absurd (omega (arith, k.some))
      go (x ∷ xs) (suc n) e f = at_first x xs n e f (is_note (item_at b.rows x)) refl

-- a stamp on rows changes nothing that the invariant speaks of
pub inv_stamp : (b : Book) (rest bod : List ℕ) (p : ℤ) (R : List Row) (sh : List (List Piece)) (wt : List ℕ) (F : List Item) (held : List ℕ) (n : ℕ) (g : ℤ) (xs : List ℕ) →
    Inv F (mid b rest bod p R sh wt) held → Inv F (mid b rest bod p (change_all (stamped n g) R xs) sh wt) held
inv_stamp b rest bod p R sh wt F held n g xs i = record {
  listed = like.items ∙ i.listed;
  eight = i.eight;
  shelves = i.shelves;
  formed = formed_alike like i.formed;
  ready = record {
    notes = subst (λ (it : ℕ → Item). AllByRecursion (λ y. is_note (it y) ≡ true) wt) (sym like.item) i.ready.notes;
    words = subst (λ (it : ℕ → Item). AllByRecursion (λ y. is_note (it y) ≡ false) bod) (sym like.item) i.ready.words;
    last = λ e. absurd (false≢true e);
    clear = refl;
  };
  inside = same_inside like (held ++ (bod ++ (wt ++ rest))) i.inside;
  left = same_left like spent (held ++ (bod ++ (wt ++ rest))) i.left;
  apart = i.apart;
  discarded = λ y h e.
      subst (λ (it : ℕ → Item). is_discardable (it y) ≡ true) (sym like.item)
      (i.discarded y (h.0, let s = like.size in let m = h.1 in omega arith) (sym (ap is_dropped (place y)) ∙ e));
  placed = λ y h.
      let m = subst (λ l. 0 < times y l) (alike_texts like) h in
      subst (λ pl. 0 < times y (lies (mid b rest bod p Q sh wt) held pl)) (sym (place y)) (go y h (place_at R y) (place y) (i.placed y m));
  bodies =
      ap₂ (λ l m. l ++ (held ++ m)) (alike_body like b.shipped) (same_words like (bod ++ (wt ++ rest))) ∙ i.bodies ∙ sym (ap (body R) kept) ∙
      sym (alike_body like (kept_in Q));
  classes = λ c.
      ap₂ (λ l m. l ++ (shelf_items (get_or sh c []) ++ m)) (alike_text_of like c b.shipped) (same_parts like spent c (bod ++ (wt ++ rest))) ∙
      i.classes c ∙ sym (ap (text_of R c) kept) ∙ sym (alike_text_of like c (kept_in Q));
  pages = i.pages;
}
  where
    Q : List Row
    Q = change_all (stamped n g) R xs

    like : Alike R (change_all (stamped n g) R xs)
    like = alike_stamped n g R xs

    place : (y : ℕ) → place_at (change_all (stamped n g) R xs) y ≡ place_at R y
    place y = part_kept (λ r. r.place) (stamped n g) (λ r. refl) xs R y

    spent : (y : ℕ) → spent_at (change_all (stamped n g) R xs) y ≡ spent_at R y
    spent y = part_kept (λ r. r.spent) (stamped n g) (λ r. refl) xs R y

    kept : kept_in (change_all (stamped n g) R xs) ≡ kept_in R
    kept = alike_kept like (λ y. ap is_dropped (place y))

    go : (y : ℕ) → 0 < times y (texts (change_all (stamped n g) R xs)) → (pl : Place) → place_at (change_all (stamped n g) R xs) y ≡ pl →
        0 < times y (lies (mid b rest bod p R sh wt) held pl) → 0 < times y (lies (mid b rest bod p (change_all (stamped n g) R xs) sh wt) held pl)
    go y h Owed e m = subst (λ l. 0 < times y l) (sym (same_owes like spent (bod ++ (wt ++ rest)))) m
    go y h Shelved e m = m
    go y h Held e m = m
    go y h (Shipped k) e m = m
    go y h Dropped e m = dropped_there (change_all (stamped n g) R xs) y h e

pub inv_fire : (b : Book) (at : PageBreak) (F : List Item) (held : List ℕ) → Inv F (is_open b) held →
    Inv F (is_fired (fired_book b at) (fired_output b at)) held
inv_fire b at F held i =
    let s = sorted b at (notes_before b at) in
    let n = min most (b.firings + 1) in
    let j =
    inv_stamp b (drop at.place b.page ++ b.contributions) (body_before b at)
    (output_penalty (items_at b.rows (drop at.place b.page ++ b.contributions)))
    s.rows s.shelves s.waiting F held n at.goal (body_before b at) (sorted_inv b at F held i) in
    record {
      listed = j.listed;
      eight = j.eight;
      shelves = j.shelves;
      formed = j.formed;
      ready = record { notes = j.ready.notes; words = j.ready.words; last = j.ready.last; clear = refl };
      inside = j.inside;
      left = j.left;
      apart = j.apart;
      discarded = j.discarded;
      placed = j.placed;
      bodies = j.bodies;
      classes = j.classes;
      pages = j.pages;
    }
