-- A feed that is not refused keeps the invariant.
use Rattle.std.proofs.Common.{◌≡◌, ℕ, zero, suc, ◌+◌, ◌<◌, ◌≤◌, Bool, true, false, cond, not, ◌&&◌, eqb, List, [], ◌∷◌, ◌++◌, map, length, Some, None, filter, sym, refl, ap, ◌∙◌, subst, ap₂, append_assoc, arith}
use Rattle.std.specs.List.{AllByRecursion}
use Rattle.std.proofs.lemmas.List.{append-nil, map-append}
use Rattle.std.proofs.lemmas.List.Elements.{filter-append}
use Rattle.std.proofs.ByRecursion.{All-weaker, All-append, kept_by_passes}
use Rattle.std.proofs.lemmas.Bool.{eqb-true, eq-eqb, false≢true, not-true}
use Rattle.items.specs.declared.Item.{Item}
use Rattle.items.specs.declared.Row.{Row}
use Rattle.items.specs.declared.Place.{Place}
use Rattle.items.specs.declared.Place.TheVariants.{Owed, Shelved, Held, Shipped, Dropped}
use Rattle.items.specs.Lists.{span}
use Rattle.items.specs.Items.{is_note, is_discardable, fed_row}
use Rattle.items.specs.Table.{row_at, item_at, content, remaining, owner, note_at}
use Rattle.calls.specs.Book.{Book}
use Rattle.calls.specs.Feeding.{refusal, fed_book, counted, content_for}
use Rattle.calls.specs.Firing.{note_class}
use Rattle.calls.specs.Runs.{State, is_open}
use Rattle.calls.specs.Findings.{times, book_of, owed_for, waiting_in, texts, is_dropped, kept_in, body, text_of, lies}
use Rattle.calls.proofs.ListLaws.{all_left, all_right, all_both, kept_by_same, joined_same, cond_none, regroup}
use Rattle.calls.proofs.Times.{times_append, times_here, times_kept, all_times, all_from_times}
use Rattle.page.proofs.Contents.{length_span}
use Rattle.calls.proofs.Spans.{span_in}
use Rattle.calls.proofs.Table.{place_at, gone, is_body, is_text, Inside, texts_inside}
use Rattle.calls.proofs.Invariant.{is_word, part, parts, parts_append, owes, owes_append, shelf, Inv, HasLeft}
use Rattle.calls.proofs.Goes.{dropped_there}
use Rattle.calls.proofs.Settles.{kept_inside}
use Rattle.calls.proofs.Accepted.{Feedable, feedable}
use Rattle.calls.proofs.FedTable.{fed_table, fed_size, fed_old, fed_here, spot, later_place, fed_formed, old_text, kept_more, new_bodies, new_texts}
use Rattle.calls.proofs.NoteRows.{note_is, word_owes}

-- what shipped is in the table
shipped_inside : {F : List Item} {s : State} {held : List ℕ} → Inv F s held → AllByRecursion (Inside (book_of s).rows) (book_of s).shipped
shipped_inside {F} {s} {held} i = all_from_times (Inside R) b.shipped (λ y k. go y k (is_body R y) refl)
  where
    b : Book
    b = book_of s

    R : List Row
    R = (book_of s).rows

    go : (y : ℕ) → 0 < times y (book_of s).shipped → (t : Bool) → is_body (book_of s).rows y ≡ t → Inside (book_of s).rows y
    go y k true e =
        all_times (Inside R) y (body R b.shipped)
        (all_left (Inside R) (body R b.shipped) (held ++ filter (is_word R) (waiting_in s))
        (subst (AllByRecursion (Inside R)) (sym i.bodies) (kept_inside (is_body R) R)))
        (let number = times_kept y (is_body R) e b.shipped in omega arith)
    go y k false e =
        let c = note_class (item_at R (note_at R y)) in
        let f : is_text R c y ≡ true = ap₂ (λ p q. not p && q) e (eq-eqb c c refl) in
        all_times (Inside R) y (text_of R c b.shipped)
        (all_left (Inside R) (text_of R c b.shipped) (shelf b c ++ parts R c (waiting_in s))
        (subst (AllByRecursion (Inside R)) (sym (i.classes c)) (kept_inside (is_text R c) R)))
        (let number = times_kept y (is_text R c) f b.shipped in omega arith)

module _ (b : Book) (F : List Item) (held : List ℕ) (i : Inv F (is_open b) held) (x : Item) (cs : List Item)
    (ok : Feedable (counted x cs) (content_for x cs)) where
  abbrev t : Item
  t = counted x cs

  abbrev ts : List Item
  ts = content_for x cs

  abbrev R : List Row
  R = b.rows

  abbrev Q : List Row
  Q = fed_table R t ts

  abbrev number : ℕ
  number = length R + 1

  abbrev new : Book
  new = fed_book b x cs

  abbrev waited : List ℕ
  waited = b.page ++ b.contributions

  abbrev waits : List ℕ
  waits = b.page ++ (b.contributions ++ number ∷ [])

  waits_is : waits ≡ waited ++ number ∷ []
  waits_is = sym (append_assoc b.page b.contributions (number ∷ []))

  inside_waited : AllByRecursion (Inside R) waited
  inside_waited = all_right (Inside R) held waited i.inside

  old : (y : ℕ) → Inside R y → row_at Q y ≡ row_at R y
  old = fed_old R t ts ok

  size : length Q ≡ length R + 1 + length ts
  size = fed_size R t ts ok

  here : row_at Q number ≡ fed_row t None
  here = fed_here R t ts ok

  body_shipped : body Q b.shipped ≡ body R b.shipped
  body_shipped =
      kept_by_same (is_body Q) (is_body R) b.shipped
      (All-weaker (Inside R) (λ y. is_body Q y ≡ is_body R y) (λ y h. ap (λ r. eqb (owner r) 0) (old y h)) b.shipped (shipped_inside i))

  text_shipped : (c : ℕ) → text_of Q c b.shipped ≡ text_of R c b.shipped
  text_shipped c =
      kept_by_same (is_text Q c) (is_text R c) b.shipped
      (All-weaker (Inside R) (λ y. is_text Q c y ≡ is_text R c y) (λ y h. old_text R t ts ok i.formed c y h) b.shipped (shipped_inside i))

  words_more : filter (is_word Q) waits ≡ filter (is_word R) waited ++ cond (is_note t) [] (number ∷ [])
  words_more = ap (filter (is_word Q)) waits_is ∙ filter-append (is_word Q) waited (number ∷ [])
      ∙ ap₂ (λ l k. l ++ k)
      (kept_by_same (is_word Q) (is_word R) waited
      (All-weaker (Inside R) (λ y. is_word Q y ≡ is_word R y) (λ y h. ap (λ r. not (is_note r.item)) (old y h)) waited inside_waited))
      (ap (λ r. cond (not (is_note r.item)) (number ∷ []) []) here ∙ turn (is_note t))
    where
      turn : (v : Bool) → cond (not v) (number ∷ []) [] ≡ cond v [] (number ∷ [])
      turn true = refl
      turn false = refl

  bodies_then : body Q b.shipped ++ (held ++ filter (is_word Q) waits) ≡ body Q (kept_in Q)
  bodies_then =
      ap₂ (λ l k. l ++ (held ++ k)) body_shipped words_more ∙
      regroup (body R b.shipped) held (filter (is_word R) waited) (cond (is_note t) [] (number ∷ []))
      ∙ ap₂ (λ l k. l ++ k) i.bodies (sym (new_bodies R t ts ok)) ∙
      sym (kept_more R t ts ok (is_body R) (is_body Q) (λ y h. ap (λ r. eqb (owner r) 0) (old y h)))

  content_here : is_note t ≡ true → content t number 0 ≡ span (number + 1) (length ts)
  content_here e =
      let n = note_is t e in let l = ok.count n.0 n.1 n.2 in ap (λ u. content u number 0) n.2 ∙ ap₂ span (omega arith) (omega arith)

  part_new : (c : ℕ) → part Q c number ≡ cond (is_note t) (cond (eqb (note_class t) c) (span (number + 1) (length ts)) []) []
  part_new c = ap (λ r. cond (eqb (note_class r.item) c) (content r.item number r.spent) []) here ∙ go (is_note t) refl
    where
      go : (v : Bool) → is_note t ≡ v →
          cond (eqb (note_class t) c) (content t number 0) [] ≡ cond v (cond (eqb (note_class t) c) (span (number + 1) (length ts)) []) []
      go true e = ap (λ l. cond (eqb (note_class t) c) l []) (content_here e)
      go false e = ap (λ l. cond (eqb (note_class t) c) l []) (word_owes t number 0 e) ∙ cond_none (eqb (note_class t) c)

  owed_new : owed_for Q number ≡ cond (is_note t) (span (number + 1) (length ts)) (number ∷ [])
  owed_new = ap (λ r. cond (is_note r.item) (content r.item number r.spent) (number ∷ [])) here ∙ go (is_note t) refl
    where
      go : (v : Bool) → is_note t ≡ v → cond v (content t number 0) (number ∷ []) ≡ cond v (span (number + 1) (length ts)) (number ∷ [])
      go true e = content_here e
      go false e = refl

  parts_more : (c : ℕ) → parts Q c waits ≡ parts R c waited ++ cond (is_note t) (cond (eqb (note_class t) c) (span (number + 1) (length ts)) []) []
  parts_more c = ap (parts Q c) waits_is ∙ parts_append Q c waited (number ∷ [])
      ∙ ap₂ (λ l k. l ++ k)
      (joined_same (λ y. part Q c y) (λ y. part R c y) waited
      (All-weaker (Inside R) (λ y. part Q c y ≡ part R c y)
      (λ y h. ap (λ r. cond (eqb (note_class r.item) c) (content r.item y r.spent) []) (old y h)) waited inside_waited))
      (append-nil (part Q c number) ∙ part_new c)

  classes_then : (c : ℕ) → text_of Q c b.shipped ++ (shelf b c ++ parts Q c waits) ≡ text_of Q c (kept_in Q)
  classes_then c =
      ap₂ (λ l k. l ++ (shelf b c ++ k)) (text_shipped c) (parts_more c) ∙
      regroup (text_of R c b.shipped) (shelf b c) (parts R c waited)
      (cond (is_note t) (cond (eqb (note_class t) c) (span (number + 1) (length ts)) []) [])
      ∙ ap₂ (λ l k. l ++ k) (i.classes c) (sym (new_texts R t ts ok c)) ∙
      sym (kept_more R t ts ok (is_text R c) (is_text Q c) (λ y h. old_text R t ts ok i.formed c y h))

  owes_more : (y : ℕ) → times y (owes Q waits) ≡ times y (owes R waited) + times y (cond (is_note t) (span (number + 1) (length ts)) (number ∷ []))
  owes_more y =
      let a : owes Q waits ≡ owes R waited ++ cond (is_note t) (span (number + 1) (length ts)) (number ∷ []) =
      ap (owes Q) waits_is ∙ owes_append Q waited (number ∷ [])
      ∙ ap₂ (λ l k. l ++ k)
      (joined_same (owed_for Q) (owed_for R) waited
      (All-weaker (Inside R) (λ y. owed_for Q y ≡ owed_for R y)
      (λ y h. ap (λ r. cond (is_note r.item) (content r.item y r.spent) (y ∷ [])) (old y h)) waited inside_waited))
      (append-nil (owed_for Q number) ∙ owed_new) in
      ap (times y) a ∙ times_append y (owes R waited) (cond (is_note t) (span (number + 1) (length ts)) (number ∷ []))

  wider : (xs : List ℕ) → AllByRecursion (Inside R) xs → AllByRecursion (Inside Q) xs
  wider xs h = All-weaker (Inside R) (Inside Q) (λ y k. (k.0, let z = size in let q = k.1 in omega arith)) xs h

  inside_then : AllByRecursion (Inside Q) (held ++ waits)
  inside_then =
      subst (λ l. AllByRecursion (Inside Q) (held ++ l)) (sym waits_is)
      (All-append (Inside Q) held (waited ++ number ∷ []) (wider held (all_left (Inside R) held waited i.inside))
      (All-append (Inside Q) waited (number ∷ []) (wider waited inside_waited) ((omega arith, let z = size in omega arith), tt)))

  left_then : AllByRecursion (HasLeft Q) (held ++ waits)
  left_then =
      subst (λ l. AllByRecursion (HasLeft Q) (held ++ l)) (sym waits_is)
      (All-append (HasLeft Q) held (waited ++ number ∷ []) (longer held (all_left (HasLeft R) held waited i.left) (all_left (Inside R) held waited i.inside))
      (All-append (HasLeft Q) waited (number ∷ []) (longer waited (all_right (HasLeft R) held waited i.left) inside_waited) (newest, tt)))
    where
      longer : (xs : List ℕ) → AllByRecursion (HasLeft b.rows) xs → AllByRecursion (Inside b.rows) xs →
          AllByRecursion (HasLeft (fed_table b.rows (counted x cs) (content_for x cs))) xs
      longer xs h k =
          All-weaker (λ y. HasLeft R y × Inside R y) (HasLeft Q)
          (λ y p f.
          subst (λ r. 1 ≤ length (content r.item y r.spent)) (sym (old y p.1))
          (p.0 (sym (ap (λ r. is_note r.item) (old y p.1)) ∙ f))) xs
          (all_both (HasLeft R) (Inside R) xs h k)

      newest : HasLeft (fed_table b.rows (counted x cs) (content_for x cs)) (length b.rows + 1)
      newest f =
          let e : is_note t ≡ true = sym (ap (λ r. is_note r.item) here) ∙ f in
          let l = ok.fills e in
          let g : length (remaining Q number) ≡ length ts =
          ap (λ r. length (content r.item number r.spent)) here ∙ ap length (content_here e) ∙ length_span (number + 1) (length ts) in
          omega arith

  apart_then : (y : ℕ) → times y (held ++ waits) ≤ 1
  apart_then y =
      let a = times_append y held waits in
      let e = ap (times y) waits_is in
      let f = times_append y waited (number ∷ []) in
      let g = times_append y held waited in
      go (eqb y number) refl (omega arith)
    where
      go : (v : Bool) → eqb y number ≡ v → times y (held ++ waits) ≡ times y (held ++ waited) + cond v 1 0 → times y (held ++ waits) ≤ 1
      go true e z = far (times y (held ++ waited)) refl z
        where
          far : (n : ℕ) → times y (held ++ waited) ≡ n → times y (held ++ waits) ≡ times y (held ++ waited) + 1 → times y (held ++ waits) ≤ 1
          far zero p z = omega arith
          far (suc n) p z =
              absurd (let k = all_times (Inside R) y (held ++ waited) i.inside (omega arith) in let q = eqb-true y number e in omega arith)
      go false e z = let k = i.apart y in omega arith

  discarded_then : (y : ℕ) → Inside Q y → gone Q y ≡ true → is_discardable (item_at Q y) ≡ true
  discarded_then y h e = spot R t ts ok y h.0 (is_discardable (item_at Q y) ≡ true)
      (λ o. ap (λ r. is_discardable r.item) (old y o) ∙ i.discarded y o (sym (ap (λ r. is_dropped r.place) (old y o)) ∙ e))
      (λ f. absurd (false≢true (sym (ap (gone Q) f ∙ ap (λ r. is_dropped r.place) here) ∙ e)))
      (λ p q. absurd (false≢true (sym (ap is_dropped (later_place R t ts ok y p q)) ∙ e)))
      (λ p. absurd (let z = size in let q = h.1 in omega arith))

  placed_then : (y : ℕ) → 0 < times y (texts Q) → 0 < times y (lies (is_open new) held (place_at Q y))
  placed_then y h = spot R t ts ok y inside_y.0 (0 < times y (lies (is_open new) held (place_at Q y)))
      (λ o.
      subst (λ p. 0 < times y (lies (is_open new) held p)) (sym (ap (λ r. r.place) (old y o)))
      (go (place_at R y) (ap (λ r. r.place) (old y o)) (i.placed y (text o))))
      (λ f. subst (λ p. 0 < times y (lies (is_open new) held p)) (sym (ap (place_at Q) f ∙ ap (λ r. r.place) here))
      (let a = owes_more y in let v : is_note t ≡ false = sym (ap (λ r. is_note r.item) here) ∙ ap (λ z. is_note (item_at Q z)) (sym f) ∙ word in
      let k = ap (λ w. times y (cond w (span (number + 1) (length ts)) (number ∷ []))) v in
      let g = ap (λ w. times w (number ∷ [])) f in let n = times_here number [] in omega arith))
      (λ p q. subst (λ pl. 0 < times y (lies (is_open new) held pl)) (sym (later_place R t ts ok y p q))
      (let a = owes_more y in let v : is_note t ≡ true = some p q (is_note t) refl in let k = ap (λ w. times y (cond w (span (number + 1) (length ts)) (number ∷ []))) v in
      let n = span_in y (number + 1) (length ts) (omega arith) (omega arith) in omega arith))
      (λ p. absurd (let z = size in let q = inside_y.1 in omega arith))
    where
      inside_y : Inside (fed_table b.rows (counted x cs) (content_for x cs)) y
      inside_y = all_times (Inside Q) y (texts Q) (texts_inside Q) h

      word : is_note (item_at (fed_table b.rows (counted x cs) (content_for x cs)) y) ≡ false
      word =
          not-true (is_note (item_at Q y))
          (all_times (λ y. not (is_note (item_at Q y)) ≡ true) y (texts Q) (kept_by_passes (λ y. not (is_note (item_at Q y))) (span 1 (length Q))) h)

      text : Inside b.rows y → 0 < times y (texts b.rows)
      text o =
          let a = times_kept y (λ y. not (is_note (item_at R y))) (ap not (sym (ap (λ r. is_note r.item) (old y o)) ∙ word)) (span 1 (length R)) in
          let s = span_in y 1 (length R) o.0 (let q = o.1 in omega arith) in omega arith

      some : number < y → y ≤ number + length ts → (v : Bool) → is_note t ≡ v → v ≡ true
      some p q true e = refl
      some p q false e = absurd (let k = ap length (ok.alone e) in omega arith)

      go : (p : Place) → place_at (fed_table b.rows (counted x cs) (content_for x cs)) y ≡ p → 0 < times y (lies (is_open b) held p) →
          0 < times y (lies (is_open (fed_book b x cs)) held p)
      go Owed q k = let a = owes_more y in omega arith
      go Shelved q k = k
      go Held q k = k
      go (Shipped n) q k = k
      go Dropped q k = dropped_there Q y h q

  pub inv_fed : Inv (F ++ (t ∷ ts)) (is_open new) held
  inv_fed = record {
    listed = map-append (λ (r : Row). r.item) R (fed_row t None ∷ map (λ u. fed_row u (Some number)) ts) ∙ ap₂ (λ l k. l ++ t ∷ k) i.listed (items ts);
    eight = i.eight;
    shelves = i.shelves;
    formed = fed_formed R t ts ok i.formed;
    ready = tt;
    inside = inside_then;
    left = left_then;
    apart = apart_then;
    discarded = discarded_then;
    placed = placed_then;
    bodies = bodies_then;
    classes = classes_then;
    pages = i.pages;
  }
    where
      items : (us : List Item) → map (λ (r : Row). r.item) (map (λ u. fed_row u (Some number)) us) ≡ us
      items [] = refl
      items (u ∷ us) = ap (λ l. u ∷ l) (items us)

pub inv_feed : (capacity : ℕ) (b : Book) (x : Item) (cs : List Item) (F : List Item) (held : List ℕ) → refusal capacity b x cs ≡ None →
    Inv F (is_open b) held → Inv (F ++ (counted x cs ∷ content_for x cs)) (is_open (fed_book b x cs)) held
inv_feed capacity b x cs F held e i = inv_fed b F held i x cs (feedable capacity b x cs i.eight e)
