-- Each thing that a step does keeps the invariant; a drop takes one item from what is to come, and a move none.
use Rattle.std.proofs.Common.{◌≡◌, ℕ, suc, ◌+◌, ◌<◌, ◌≤◌, true, false, cond, not, ◌&&◌, eqb, List, [], ◌∷◌, ◌++◌, length, filter, sym, refl, ap, ◌∙◌, subst, ap₂, append_assoc, arith}
use Rattle.std.specs.List.{AllByRecursion}
use Rattle.std.proofs.lemmas.List.Elements.{filter-append}
use Rattle.std.proofs.ByRecursion.{kept_by_passes}
use Rattle.std.proofs.lemmas.Bool.{cond-true, and_parts, not-true}
use Rattle.items.specs.declared.Item.{Item}
use Rattle.items.specs.declared.Row.{Row}
use Rattle.items.specs.declared.Place.{Place}
use Rattle.items.specs.declared.Place.TheVariants.{Owed, Shelved, Held, Shipped, Dropped}
use Rattle.items.specs.Items.{is_note, is_box, is_discardable}
use Rattle.items.specs.Table.{item_at, remaining, change_all, put, note_at}
use Rattle.calls.specs.Book.{Book}
use Rattle.calls.specs.Firing.{note_class}
use Rattle.calls.specs.Stepping.{Step, stays, fires, onto, last_output, without}
use Rattle.calls.specs.Runs.{is_open, is_fired}
use Rattle.calls.specs.Findings.{times, shelved, texts, is_dropped, kept_in, body, text_of, lies}
use Rattle.calls.proofs.ListLaws.{all_right, regroup}
use Rattle.calls.proofs.Times.{times_append, all_times, all_fewer, length_same}
use Rattle.calls.proofs.Table.{spent_at, place_at, is_body, is_text, Inside, part_kept, Alike, alike_put, alike_texts, alike_body, alike_text_of, texts_inside, put_cases, kept_drop, kept_drop_other}
use Rattle.calls.proofs.Invariant.{formed_alike, is_word, parts, parts_append, owes, owes_append, shelf, to_come, Inv, same_parts, same_owes, same_words, same_inside, HasLeft, same_left, lies_still}
use Rattle.calls.proofs.Goes.{dropped_there}
use Rattle.calls.proofs.Fires.{inv_fire}
use Rattle.calls.proofs.StepCases.{Does, has_done, waited, drops, moves, breaks, ends}
use Rattle.calls.proofs.NoteRows.{part_none}

abbrev pub After : List Item → List ℕ → Step → Type 0
After F held (stays a c) = Inv F (is_open c) held
After F held (fires c out) = Inv F (is_fired c out) held

word_from : (t : Item) → is_discardable t ≡ true → is_note t ≡ false
word_from t e = not-true (is_note t) (and_parts (not (is_box t)) (not (is_note t)) e).1

module _ (b : Book) (F : List Item) (held : List ℕ) (i : Inv F (is_open b) held) where
  abbrev R : List Row
  R = b.rows

  module _ (x : ℕ) (rest : List ℕ) (is : b.contributions ≡ x ∷ rest) where
    waiting_is : b.page ++ b.contributions ≡ b.page ++ x ∷ rest
    waiting_is = ap (λ l. b.page ++ l) is

    moved_inv : Inv F (is_open (onto b x rest)) held
    moved_inv =
        let e : b.page ++ b.contributions ≡ (b.page ++ x ∷ []) ++ rest = waiting_is ∙ sym (append_assoc b.page (x ∷ []) rest) in
        record {
          listed = i.listed;
          eight = i.eight;
          shelves = i.shelves;
          formed = i.formed;
          ready = tt;
          inside = subst (λ l. AllByRecursion (Inside R) (held ++ l)) e i.inside;
          left = subst (λ l. AllByRecursion (HasLeft R) (held ++ l)) e i.left;
          apart = λ y. subst (λ l. times y (held ++ l) ≤ 1) e (i.apart y);
          discarded = i.discarded;
          placed = λ y h.
              lies_still (is_open b) (is_open (onto b x rest)) held y (subst (λ l. 0 < times y (owes R l)) e) refl refl refl (place_at R y)
              (i.placed y h);
          bodies = subst (λ l. body R b.shipped ++ (held ++ filter (is_word R) l) ≡ body R (kept_in R)) e i.bodies;
          classes = λ c. subst (λ l. text_of R c b.shipped ++ (shelf b c ++ parts R c l) ≡ text_of R c (kept_in R)) e (i.classes c);
          pages = i.pages;
        }

    pub moved_weighs : length (to_come (is_open (onto b x rest)) held) ≡ length (to_come (is_open b) held)
    moved_weighs = ap (λ l. length (held ++ (shelved b ++ owes R l))) (append_assoc b.page (x ∷ []) rest ∙ sym waiting_is)

    module _ (may : is_discardable (item_at R x) ≡ true) where
      abbrev Q : List Row
      Q = change_all (put Dropped) R (x ∷ [])

      like : Alike R Q
      like = alike_put Dropped R (x ∷ [])

      spent : (y : ℕ) → spent_at Q y ≡ spent_at R y
      spent y = part_kept (λ r. r.spent) (put Dropped) (λ r. refl) (x ∷ []) R y

      word : is_note (item_at R x) ≡ false
      word = word_from (item_at R x) may

      x_inside : Inside R x
      x_inside =
          (all_right (Inside R) b.page (x ∷ rest)
          (subst (AllByRecursion (Inside R)) waiting_is (all_right (Inside R) held (b.page ++ b.contributions) i.inside))).0

      words : filter (is_word R) (b.page ++ b.contributions) ≡ filter (is_word R) b.page ++ x ∷ filter (is_word R) rest
      words =
          ap (filter (is_word R)) waiting_is ∙ filter-append (is_word R) b.page (x ∷ rest) ∙
          ap (λ l. filter (is_word R) b.page ++ l) (cond-true (is_word R x) _ _ (ap not word))

      bodies_were : (body R b.shipped ++ (held ++ filter (is_word R) b.page)) ++ x ∷ filter (is_word R) rest ≡ body R (kept_in R)
      bodies_were =
          sym (regroup (body R b.shipped) held (filter (is_word R) b.page) (x ∷ filter (is_word R) rest)) ∙
          ap (λ l. body R b.shipped ++ (held ++ l)) (sym words) ∙ i.bodies

      is_body_lem : is_body R x ≡ true
      is_body_lem = (all_right (λ y. is_body R y ≡ true) (body R b.shipped ++ (held ++ filter (is_word R) b.page)) (x ∷ filter (is_word R) rest)
          (subst (AllByRecursion (λ y. is_body R y ≡ true)) (sym bodies_were) (kept_by_passes (is_body R) (kept_in R)))).0

      bodies_are : (body R b.shipped ++ (held ++ filter (is_word R) b.page)) ++ filter (is_word R) rest ≡ body R (kept_in Q)
      bodies_are =
          kept_drop (is_body R) (x ∷ []) R (body R b.shipped ++ (held ++ filter (is_word R) b.page)) (filter (is_word R) rest)
          (x_inside, tt) bodies_were

      parts_same : (c : ℕ) → parts R c (b.page ++ rest) ≡ parts R c (b.page ++ b.contributions)
      parts_same c =
          parts_append R c b.page rest ∙ ap (λ l. parts R c b.page ++ (l ++ parts R c rest)) (sym (part_none R c x word)) ∙
          sym (parts_append R c b.page (x ∷ rest)) ∙ ap (parts R c) (sym waiting_is)

      owes_same : (y : ℕ) → times y (owes R (b.page ++ b.contributions)) ≡ times y (x ∷ []) + times y (owes R (b.page ++ rest))
      owes_same y =
          let a : owes R (b.page ++ b.contributions) ≡ owes R b.page ++ ((x ∷ []) ++ owes R rest) =
          ap (owes R) waiting_is ∙ owes_append R b.page (x ∷ rest) ∙
          ap (λ t. owes R b.page ++ (cond t (remaining R x) (x ∷ []) ++ owes R rest)) word in
          let a1 = ap (times y) a in
          let a2 = times_append y (owes R b.page) ((x ∷ []) ++ owes R rest) in
          let a3 = times_append y (x ∷ []) (owes R rest) in
          let c1 = ap (times y) (owes_append R b.page rest) in
          let c2 = times_append y (owes R b.page) (owes R rest) in
          omega arith

      pub dropped_weighs : suc (length (to_come (is_open (without b x rest)) held)) ≡ length (to_come (is_open b) held)
      dropped_weighs = length_same (x ∷ to_come (is_open (without b x rest)) held) (to_come (is_open b) held) (λ y.
          let a = owes_same y in
          let e = ap (times y) (same_owes like spent (b.page ++ rest)) in
          let c = times_append y (x ∷ []) (to_come (is_open (without b x rest)) held) in
          let f = times_append y held (shelved b ++ owes Q (b.page ++ rest)) in
          let g = times_append y (shelved b) (owes Q (b.page ++ rest)) in
          let h = times_append y held (shelved b ++ owes R (b.page ++ b.contributions)) in
          let k = times_append y (shelved b) (owes R (b.page ++ b.contributions)) in
          omega arith)

      fewer : (y : ℕ) → times y (held ++ (b.page ++ rest)) ≤ times y (held ++ (b.page ++ b.contributions))
      fewer y =
          let a = times_append y held (b.page ++ rest) in
          let c = times_append y held (b.page ++ b.contributions) in
          let d = times_append y b.page rest in
          let e = ap (times y) waiting_is in
          let f = times_append y b.page (x ∷ rest) in
          let g = times_append y (x ∷ []) rest in
          omega arith

      place_cases : (y : ℕ) → Inside R y → (Goal : Place → Type 0) → (0 < times y (x ∷ []) → Goal Dropped) →
          (times y (x ∷ []) ≡ 0 → Goal (place_at R y)) → Goal (place_at Q y)
      place_cases y h Goal f g = put_cases Dropped (x ∷ []) R y h (x_inside.0, tt) Goal f g

      dropped_inv : Inv F (is_open (without b x rest)) held
      dropped_inv = record {
        listed = like.items ∙ i.listed;
        eight = i.eight;
        shelves = i.shelves;
        formed = formed_alike like i.formed;
        ready = tt;
        inside =
            same_inside like (held ++ (b.page ++ rest))
            (all_fewer (Inside R) (held ++ (b.page ++ b.contributions)) (held ++ (b.page ++ rest)) fewer i.inside);
        left =
            same_left like spent (held ++ (b.page ++ rest))
            (all_fewer (HasLeft R) (held ++ (b.page ++ b.contributions)) (held ++ (b.page ++ rest)) fewer i.left);
        apart = λ y. let a = fewer y in let c = i.apart y in omega arith;
        discarded = λ y h e.
            let hy : Inside R y = (h.0, let s = like.size in let m = h.1 in omega arith) in
            subst (λ (it : ℕ → Item). is_discardable (it y) ≡ true) (sym like.item)
            (place_cases y hy (λ pl. is_dropped pl ≡ true → is_discardable (item_at R y) ≡ true)
            (λ z q. all_times (λ y. is_discardable (item_at R y) ≡ true) y (x ∷ []) (may, tt) z) (λ z q. i.discarded y hy q) e);
        placed = λ y h. let ht : 0 < times y (texts R) = subst (λ l. 0 < times y l) (alike_texts like) h in
            place_cases y (all_times (Inside R) y (texts R) (texts_inside R) ht)
            (λ pl. place_at Q y ≡ pl → 0 < times y (lies (is_open (without b x rest)) held pl)) (λ z q. dropped_there Q y h q) (λ z. go y h (place_at R y) z (i.placed y ht)) refl;
        bodies =
            ap₂ (λ l m. l ++ (held ++ m)) (alike_body like b.shipped)
            (same_words like (b.page ++ rest) ∙ filter-append (is_word R) b.page rest)
            ∙ regroup (body R b.shipped) held (filter (is_word R) b.page) (filter (is_word R) rest) ∙ bodies_are ∙
            sym (alike_body like (kept_in Q));
        classes = λ c.
            ap₂ (λ l m. l ++ (shelf b c ++ m)) (alike_text_of like c b.shipped) (same_parts like spent c (b.page ++ rest) ∙ parts_same c) ∙
            i.classes c
            ∙ sym
            (kept_drop_other (is_text R c) (x ∷ []) R (x_inside, tt) (ap (λ t. not t && eqb (note_class (item_at R (note_at R x))) c) is_body_lem, tt)) ∙
            sym (alike_text_of like c (kept_in Q));
        pages = i.pages;
      }
        where
          go : (y : ℕ) → 0 < times y (texts (change_all (put Dropped) R (x ∷ []))) → (pl : Place) → times y (x ∷ []) ≡ 0 →
              0 < times y (lies (is_open b) held pl) → place_at (change_all (put Dropped) R (x ∷ [])) y ≡ pl →
              0 < times y (lies (is_open (without b x rest)) held pl)
          go y h Owed z m q = let a = owes_same y in let c = ap (times y) (same_owes like spent (b.page ++ rest)) in omega arith
          go y h Shelved z m q = m
          go y h Held z m q = m
          go y h (Shipped n) z m q = m
          go y h Dropped z m q = dropped_there Q y h q

  ended_inv : b.page ≡ [] → Inv F (is_fired b last_output) held
  ended_inv f = record {
    listed = i.listed;
    eight = i.eight;
    shelves = i.shelves;
    formed = i.formed;
    ready = record { notes = tt; words = tt; last = λ e. refl; clear = f };
    inside = i.inside;
    left = i.left;
    apart = i.apart;
    discarded = i.discarded;
    placed = λ y h. lies_still (is_open b) (is_fired b last_output) held y (λ o. o) refl refl refl (place_at R y) (i.placed y h);
    bodies = i.bodies;
    classes = i.classes;
    pages = i.pages;
  }

  -- each thing that a step does keeps the invariant
  pub inv_step : {t : Step} → Does b t → After F held t
  inv_step (has_done d) = i
  inv_step (waited c) = i
  inv_step (drops x rest d e g) = dropped_inv x rest e g
  inv_step (moves x rest d e) = moved_inv x rest e
  inv_step (breaks at d k) = inv_fire b at F held i
  inv_step (ends d c e p) = ended_inv p
