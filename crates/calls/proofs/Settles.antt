-- A settling keeps the invariant, and what ships is what is no more to come.
use Rattle.std.proofs.Common.{◌≡◌, ℕ, ◌+◌, ◌-◌, ◌<◌, ◌≤◌, Bool, true, false, cond, not, ◌&&◌, eqb, List, [], ◌∷◌, ◌++◌, length, get_or, filter, Option, sym, refl, ap, ◌∙◌, subst, ap₂, append_assoc, arith, length-append, length-take}
use Rattle.std.specs.List.{AllByRecursion}
use Rattle.std.proofs.lemmas.List.{append-nil}
use Rattle.std.proofs.lemmas.List.Elements.{filter-append}
use Rattle.std.proofs.ByRecursion.{All-weaker, All-append, kept_by_passes, all_kept_by}
use Rattle.std.proofs.lemmas.Bool.{eqb-true, and_parts, not-true}
use Rattle.items.specs.declared.Item.{Item}
use Rattle.items.specs.declared.Row.{Row}
use Rattle.items.specs.declared.Place.{Place}
use Rattle.items.specs.declared.Place.TheVariants.{Owed, Shelved, Held, Shipped, Dropped}
use Rattle.items.specs.Lists.{span}
use Rattle.items.specs.Items.{is_note, is_discardable}
use Rattle.items.specs.Table.{item_at, remaining, change_all, put, shelf_items, note_at}
use Rattle.policies.specs.declared.Verdict.{Verdict}
use Rattle.policies.specs.Policies.{Rule, Splits, named, shipped_of, returned_of, every_class}
use Rattle.calls.specs.Book.{Book, Output}
use Rattle.calls.specs.Firing.{note_class}
use Rattle.calls.specs.Settling.{emptied, on_shelves, settled_book, judged_book, given, Settled, judged, released}
use Rattle.calls.specs.Runs.{is_open, is_fired}
use Rattle.calls.specs.Findings.{times, waiting_in, shelved, texts, kept_in, body, text_of, lies}
use Rattle.calls.proofs.ListLaws.{kept_by_all, kept_by_none, all_left, all_right}
use Rattle.calls.proofs.Times.{times_append, all_times, all_fewer, length_same}
use Rattle.calls.proofs.Table.{from_one, spent_at, place_at, gone, is_body, is_text, Inside, part_kept, length_change, Alike, alike_then, alike_put, alike_texts, alike_body, alike_text_of, alike_kept, gone_put, texts_inside, put_cases}
use Rattle.calls.proofs.Invariant.{all_words, no_words, formed_alike, is_word, parts, parts_append, owes, owes_append, shelf, to_come, HasLeft, Inv, same_left, same_parts, same_owes, same_words, same_inside}
use Rattle.calls.proofs.Goes.{dropped_there}
use Rattle.calls.proofs.Fires.{parts_words}
use Rattle.calls.proofs.Ships.{length_on_shelves, emptied_size, shelves_all, shelves_times, shelves_class, listed_kept, listed_last, listed_within}
use Rattle.calls.proofs.NoteRows.{kept_there}

text_is : (R : List Row) (e c y : ℕ) → is_text R e y ≡ true → is_text R c y ≡ eqb e c
text_is R e c y h =
    let p = and_parts (not (eqb (note_at R y) 0)) (eqb (note_class (item_at R (note_at R y))) e) h in
    ap₂ (λ a k. a && eqb k c) p.0 (eqb-true (note_class (item_at R (note_at R y))) e p.1)

pub text_not_body : (R : List Row) (e y : ℕ) → is_text R e y ≡ true → is_body R y ≡ false
text_not_body R e y h = not-true (is_body R y) (and_parts (not (eqb (note_at R y) 0)) (eqb (note_class (item_at R (note_at R y))) e) h).0

pub body_not_text : (R : List Row) (e y : ℕ) → is_body R y ≡ true → is_text R e y ≡ false
body_not_text R e y h = ap (λ t. not t && eqb (note_class (item_at R (note_at R y))) e) h

owes_words : (R : List Row) (xs : List ℕ) → AllByRecursion (λ x. is_note (item_at R x) ≡ false) xs → owes R xs ≡ xs
owes_words R [] h = refl
owes_words R (x ∷ xs) h = ap₂ (λ t l. cond t (remaining R x) (x ∷ []) ++ l) h.0 (owes_words R xs h.1)

pub kept_inside : (q : ℕ → Bool) (R : List Row) → AllByRecursion (Inside R) (filter q (kept_in R))
kept_inside q R = all_kept_by q (Inside R) (kept_in R) (all_kept_by (λ y. not (gone R y)) (Inside R) (texts R) (texts_inside R))

kept_words : (q : ℕ → Bool) (R : List Row) → AllByRecursion (λ y. is_note (item_at R y) ≡ false) (filter q (kept_in R))
kept_words q R = all_kept_by q P (kept_in R) (all_kept_by (λ y. not (gone R y)) P (texts R)
    (All-weaker (λ y. not (is_note (item_at R y)) ≡ true) P (λ y e. not-true (is_note (item_at R y)) e) (texts R)
    (kept_by_passes (λ y. not (is_note (item_at R y))) (span 1 (length R)))))
  where
    P : ℕ → Type 0
    P y = is_note (item_at R y) ≡ false

module _ (b : Book) (out : Output) (F : List Item) (before ships after back : List ℕ) (ts : List Bool)
    (divides : ships ++ (after ++ back) ≡ before ++ out.body)
    (i : Inv F (is_fired b out) before) where
  abbrev R : List Row
  R = b.rows

  abbrev s : List ℕ
  s = ships ++ on_shelves ts b.shelves

  abbrev new : Book
  new = settled_book b out ships after back ts

  words_old : filter (is_word R) (waiting_in (is_fired b out)) ≡ out.body ++ filter (is_word R) b.contributions
  words_old = filter-append (is_word R) out.body (out.waiting ++ (b.page ++ b.contributions))
      ∙ ap₂ (λ l m. l ++ m) (all_words R out.body i.ready.words)
      (filter-append (is_word R) out.waiting (b.page ++ b.contributions)
      ∙ ap₂ (λ l m. l ++ filter (is_word R) (m ++ b.contributions)) (no_words R out.waiting i.ready.notes) i.ready.clear)

  bodies_were : body R b.shipped ++ ((ships ++ (after ++ back)) ++ filter (is_word R) b.contributions) ≡ body R (kept_in R)
  bodies_were =
      ap (λ l. body R b.shipped ++ (l ++ filter (is_word R) b.contributions)) divides ∙
      ap (λ l. body R b.shipped ++ l) (append_assoc before out.body (filter (is_word R) b.contributions))
      ∙ ap (λ l. body R b.shipped ++ (before ++ l)) (sym words_old) ∙ i.bodies

  -- what holds of all kept body text holds of what ships, is held and returns
  three : (P : ℕ → Type 0) → AllByRecursion P (body R (kept_in R)) → AllByRecursion P (ships ++ (after ++ back))
  three P h =
      all_left P (ships ++ (after ++ back)) (filter (is_word R) b.contributions)
      (all_right P (body R b.shipped) ((ships ++ (after ++ back)) ++ filter (is_word R) b.contributions) (subst (AllByRecursion P) (sym bodies_were) h))

  -- and of all kept text of a class, of its shelf
  on_shelf : (P : ℕ → Type 0) (e : ℕ) → AllByRecursion P (text_of R e (kept_in R)) → AllByRecursion P (shelf b e)
  on_shelf P e h =
      all_left P (shelf b e) (parts R e (waiting_in (is_fired b out)))
      (all_right P (text_of R e b.shipped) (shelf b e ++ parts R e (waiting_in (is_fired b out))) (subst (AllByRecursion P) (sym (i.classes e)) h))

  -- of any kept text
  module _ (P : ℕ → Type 0) (all : (q : ℕ → Bool) → AllByRecursion P (filter q (kept_in R))) where
    on_ships : AllByRecursion P ships
    on_ships = all_left P ships (after ++ back) (three P (all (is_body R)))

    on_after : AllByRecursion P after
    on_after = all_left P after back (all_right P ships (after ++ back) (three P (all (is_body R))))

    on_back : AllByRecursion P back
    on_back = all_right P after back (all_right P ships (after ++ back) (three P (all (is_body R))))

    on_shelves_lem : AllByRecursion P (on_shelves ts b.shelves)
    on_shelves_lem = shelves_all P ts b.shelves (λ e. on_shelf P e (all (is_text R e)))

    on_s : AllByRecursion P s
    on_s = All-append P ships (on_shelves ts b.shelves) on_ships on_shelves_lem

  far : (q : ℕ → Bool) → AllByRecursion (λ y. 1 ≤ y) (filter q (kept_in R))
  far q = from_one R (filter q (kept_in R)) (kept_inside q R)

  abbrev rows_shipped : List Row
  rows_shipped = change_all (put (Shipped (length b.pages + 1))) R s

  abbrev rows_held : List Row
  rows_held = change_all (put Held) rows_shipped after

  abbrev rows_then : List Row
  rows_then = change_all (put Owed) rows_held back

  pub like : Alike R rows_then
  like = alike_then (alike_then (alike_put (Shipped (length b.pages + 1)) R s) (alike_put Held rows_shipped after)) (alike_put Owed rows_held back)

  spent : (y : ℕ) → spent_at rows_then y ≡ spent_at R y
  spent y =
      part_kept (λ r. r.spent) (put Owed) (λ r. refl) back rows_held y ∙ part_kept (λ r. r.spent) (put Held) (λ r. refl) after rows_shipped y ∙
      part_kept (λ r. r.spent) (put (Shipped (length b.pages + 1))) (λ r. refl) s R y

  gone_shipped : (y : ℕ) → gone rows_shipped y ≡ gone R y
  gone_shipped = gone_put (Shipped (length b.pages + 1)) refl s R (on_s (λ y. gone R y ≡ false) (λ q. kept_there q R))

  gone_held : (y : ℕ) → gone rows_held y ≡ gone rows_shipped y
  gone_held =
      gone_put Held refl after rows_shipped
      (All-weaker (λ y. gone R y ≡ false) (λ y. gone rows_shipped y ≡ false) (λ y e. gone_shipped y ∙ e) after
      (on_after (λ y. gone R y ≡ false) (λ q. kept_there q R)))

  gone_owed : (y : ℕ) → gone rows_then y ≡ gone rows_held y
  gone_owed =
      gone_put Owed refl back rows_held
      (All-weaker (λ y. gone R y ≡ false) (λ y. gone rows_held y ≡ false) (λ y e. gone_held y ∙ gone_shipped y ∙ e) back
      (on_back (λ y. gone R y ≡ false) (λ q. kept_there q R)))

  gone_same : (y : ℕ) → gone rows_then y ≡ gone R y
  gone_same y = gone_owed y ∙ gone_held y ∙ gone_shipped y

  kept_same : kept_in rows_then ≡ kept_in R
  kept_same = alike_kept like gone_same

  abbrev waits_then : List ℕ
  waits_then = b.page ++ (out.waiting ++ (back ++ b.contributions))

  waits_then_is : waits_then ≡ out.waiting ++ (back ++ b.contributions)
  waits_then_is = ap (λ l. l ++ (out.waiting ++ (back ++ b.contributions))) i.ready.clear

  back_words : AllByRecursion (λ y. is_note (item_at R y) ≡ false) back
  back_words = on_back (λ y. is_note (item_at R y) ≡ false) (λ q. kept_words q R)

  words_new : filter (is_word R) waits_then ≡ back ++ filter (is_word R) b.contributions
  words_new = ap (filter (is_word R)) waits_then_is ∙ filter-append (is_word R) out.waiting (back ++ b.contributions)
      ∙ ap₂ (λ l m. l ++ m) (no_words R out.waiting i.ready.notes)
      (filter-append (is_word R) back b.contributions ∙ ap (λ l. l ++ filter (is_word R) b.contributions) (all_words R back back_words))

  body_s : body R s ≡ ships
  body_s = filter-append (is_body R) ships (on_shelves ts b.shelves)
      ∙ ap₂ (λ l m. l ++ m)
      (kept_by_all (is_body R) ships
      (all_left (λ y. is_body R y ≡ true) ships (after ++ back) (three (λ y. is_body R y ≡ true) (kept_by_passes (is_body R) (kept_in R)))))
      (kept_by_none (is_body R) (on_shelves ts b.shelves) (shelves_all (λ y. is_body R y ≡ false) ts b.shelves
      (λ e.
      All-weaker (λ y. is_text R e y ≡ true) (λ y. is_body R y ≡ false) (λ y h. text_not_body R e y h) (shelf b e)
      (on_shelf (λ y. is_text R e y ≡ true) e (kept_by_passes (is_text R e) (kept_in R))))))
      ∙ append-nil ships

  bodies_then : body rows_then (b.shipped ++ s) ++ (after ++ filter (is_word rows_then) waits_then) ≡ body rows_then (kept_in rows_then)
  bodies_then =
      ap₂ (λ l m. l ++ (after ++ m))
      (alike_body like (b.shipped ++ s) ∙ filter-append (is_body R) b.shipped s ∙ ap (λ l. body R b.shipped ++ l) body_s)
      (same_words like waits_then ∙ words_new)
      ∙ regroup (body R b.shipped) ships after back (filter (is_word R) b.contributions) ∙ bodies_were ∙ sym (ap (body R) kept_same) ∙
      sym (alike_body like (kept_in rows_then))
    where
      regroup : (l s a r z : List ℕ) → (l ++ s) ++ (a ++ (r ++ z)) ≡ l ++ ((s ++ (a ++ r)) ++ z)
      regroup l s a r z = simp append_assoc

  text_s : (c : ℕ) → text_of R c s ≡ text_of R c (on_shelves ts b.shelves)
  text_s c =
      filter-append (is_text R c) ships (on_shelves ts b.shelves) ∙
      ap (λ l. l ++ text_of R c (on_shelves ts b.shelves)) (kept_by_none (is_text R c) ships
      (All-weaker (λ y. is_body R y ≡ true) (λ y. is_text R c y ≡ false) (λ y h. body_not_text R c y h) ships
      (all_left (λ y. is_body R y ≡ true) ships (after ++ back) (three (λ y. is_body R y ≡ true) (kept_by_passes (is_body R) (kept_in R))))))

  parts_new : (c : ℕ) → parts R c waits_then ≡ parts R c out.waiting ++ parts R c b.contributions
  parts_new c = ap (parts R c) waits_then_is ∙ parts_append R c out.waiting (back ++ b.contributions)
      ∙ ap (λ l. parts R c out.waiting ++ l)
      (parts_append R c back b.contributions ∙ ap (λ l. l ++ parts R c b.contributions) (parts_words R c back back_words))

  parts_old : (c : ℕ) → parts R c (waiting_in (is_fired b out)) ≡ parts R c out.waiting ++ parts R c b.contributions
  parts_old c =
      parts_append R c out.body (out.waiting ++ (b.page ++ b.contributions)) ∙
      ap₂ (λ l m. l ++ m) (parts_words R c out.body i.ready.words)
      (parts_append R c out.waiting (b.page ++ b.contributions) ∙
      ap (λ l. parts R c out.waiting ++ parts R c (l ++ b.contributions)) i.ready.clear)

  classes_then : (c : ℕ) →
      text_of rows_then c (b.shipped ++ s) ++ (shelf_items (get_or (emptied ts b.shelves) c []) ++ parts rows_then c waits_then) ≡
      text_of rows_then c (kept_in rows_then)
  classes_then c =
      ap₂ (λ l m. l ++ (shelf_items (get_or (emptied ts b.shelves) c []) ++ m))
      (alike_text_of like c (b.shipped ++ s) ∙ filter-append (is_text R c) b.shipped s ∙ ap (λ l. text_of R c b.shipped ++ l) (text_s c))
      (same_parts like spent c waits_then ∙ parts_new c ∙ sym (parts_old c))
      ∙ regroup (text_of R c b.shipped) (text_of R c (on_shelves ts b.shelves)) (shelf_items (get_or (emptied ts b.shelves) c []))
      (parts R c (waiting_in (is_fired b out)))
      ∙ ap (λ l. text_of R c b.shipped ++ (l ++ parts R c (waiting_in (is_fired b out)))) (shelves_class (is_text R c) ts b.shelves c
      (λ e.
      All-weaker (λ y. is_text R e y ≡ true) (λ y. is_text R c y ≡ eqb e c) (λ y h. text_is R e c y h) (shelf b e)
      (on_shelf (λ y. is_text R e y ≡ true) e (kept_by_passes (is_text R e) (kept_in R)))))
      ∙ i.classes c ∙ sym (ap (text_of R c) kept_same) ∙ sym (alike_text_of like c (kept_in rows_then))
    where
      regroup : (l s a z : List ℕ) → (l ++ s) ++ (a ++ z) ≡ l ++ ((s ++ a) ++ z)
      regroup l s a z = simp append_assoc

  divided_times : (y : ℕ) → times y ships + (times y after + times y back) ≡ times y before + times y out.body
  divided_times y =
      let a = ap (times y) divides in
      let c = times_append y ships (after ++ back) in
      let d = times_append y after back in
      let e = times_append y before out.body in
      omega arith

  clear_times : (y : ℕ) → times y b.page ≡ 0
  clear_times y = ap (times y) i.ready.clear

  fewer : (y : ℕ) → times y (after ++ waits_then) ≤ times y (before ++ waiting_in (is_fired b out))
  fewer y =
      let j = divided_times y in
      let p = clear_times y in
      let a = times_append y after waits_then in
      let a1 = times_append y b.page (out.waiting ++ (back ++ b.contributions)) in
      let a2 = times_append y out.waiting (back ++ b.contributions) in
      let a3 = times_append y back b.contributions in
      let c = times_append y before (waiting_in (is_fired b out)) in
      let c1 = times_append y out.body (out.waiting ++ (b.page ++ b.contributions)) in
      let c2 = times_append y out.waiting (b.page ++ b.contributions) in
      let c3 = times_append y b.page b.contributions in
      omega arith

  owes_old : (y : ℕ) →
      times y (owes R (waiting_in (is_fired b out))) ≡ times y out.body + (times y (owes R out.waiting) + times y (owes R b.contributions))
  owes_old y =
      let a : owes R (waiting_in (is_fired b out)) ≡ out.body ++ (owes R out.waiting ++ owes R b.contributions) =
      owes_append R out.body (out.waiting ++ (b.page ++ b.contributions)) ∙ ap₂ (λ l m. l ++ m) (owes_words R out.body i.ready.words)
      (owes_append R out.waiting (b.page ++ b.contributions) ∙ ap (λ l. owes R out.waiting ++ owes R (l ++ b.contributions)) i.ready.clear) in
      let e = ap (times y) a in
      let c = times_append y out.body (owes R out.waiting ++ owes R b.contributions) in
      let d = times_append y (owes R out.waiting) (owes R b.contributions) in
      omega arith

  owes_new : (y : ℕ) → times y (owes rows_then waits_then) ≡ times y (owes R out.waiting) + (times y back + times y (owes R b.contributions))
  owes_new y =
      let a : owes rows_then waits_then ≡ owes R out.waiting ++ (back ++ owes R b.contributions) =
      same_owes like spent waits_then ∙ ap (owes R) waits_then_is ∙ owes_append R out.waiting (back ++ b.contributions)
      ∙ ap (λ l. owes R out.waiting ++ l)
      (owes_append R back b.contributions ∙ ap (λ l. l ++ owes R b.contributions) (owes_words R back back_words)) in
      let e = ap (times y) a in
      let c = times_append y (owes R out.waiting) (back ++ owes R b.contributions) in
      let d = times_append y back (owes R b.contributions) in
      omega arith

  placed_then : (y : ℕ) → 0 < times y (texts rows_then) → 0 < times y (lies (is_open new) after (place_at rows_then y))
  placed_then y h = put_cases Owed back rows_held y inside_held (on_back (λ y. 1 ≤ y) far) Goal (λ k q. let a = owes_new y in omega arith)
      (λ k. put_cases Held after rows_shipped y inside_shipped (on_after (λ y. 1 ≤ y) far) Goal (λ k q. k)
      (λ l. put_cases (Shipped (length b.pages + 1)) s R y inside_y (on_s (λ y. 1 ≤ y) far) Goal (λ m q. listed_last b out.penalty s y m)
      (λ m. go (place_at R y) k l m (i.placed y ht)))) refl
    where
      ht : 0 < times y (texts R)
      ht = subst (λ l. 0 < times y l) (alike_texts like) h

      inside_y : Inside R y
      inside_y = all_times (Inside R) y (texts R) (texts_inside R) ht

      inside_shipped : Inside (change_all (put (Shipped (length b.pages + 1))) R s) y
      inside_shipped = (inside_y.0, let e = length_change (put (Shipped (length b.pages + 1))) s R in let m = inside_y.1 in omega arith)

      inside_held : Inside rows_held y
      inside_held = (inside_y.0, let e = length_change (put Held) after rows_shipped in let m = inside_shipped.1 in omega arith)

      Goal : Place → Type 0
      Goal p = place_at rows_then y ≡ p → 0 < times y (lies (is_open new) after p)

      go : (p : Place) → times y back ≡ 0 → times y after ≡ 0 → times y s ≡ 0 → 0 < times y (lies (is_fired b out) before p) →
          place_at rows_then y ≡ p → 0 < times y (lies (is_open new) after p)
      go Owed k l m n q =
          let a = owes_old y in
          let c = owes_new y in
          let d = divided_times y in
          let e = times_append y ships (on_shelves ts b.shelves) in
          omega arith
      go Shelved k l m n q =
          let a = shelves_times y ts b.shelves in
          let e = times_append y ships (on_shelves ts b.shelves) in
          omega arith
      go Held k l m n q =
          let d = divided_times y in
          let e = times_append y ships (on_shelves ts b.shelves) in
          omega arith
      go (Shipped z) k l m n q = listed_kept b out.penalty s y (z - 1) i.pages n
      go Dropped k l m n q = dropped_there rows_then y h q

  pub inv_settled : Inv F (is_open new) after
  inv_settled = record {
    listed = like.items ∙ i.listed;
    eight = i.eight;
    shelves = emptied_size ts b.shelves ∙ i.shelves;
    formed = formed_alike like i.formed;
    ready = tt;
    inside =
        same_inside like (after ++ waits_then) (all_fewer (Inside R) (before ++ waiting_in (is_fired b out)) (after ++ waits_then) fewer i.inside);
    left =
        same_left like spent (after ++ waits_then)
        (all_fewer (HasLeft R) (before ++ waiting_in (is_fired b out)) (after ++ waits_then) fewer i.left);
    apart = λ y. let a = fewer y in let c = i.apart y in omega arith;
    discarded = λ y h e.
        subst (λ (it : ℕ → Item). is_discardable (it y) ≡ true) (sym like.item)
        (i.discarded y (h.0, let z = like.size in let m = h.1 in omega arith) (sym (gone_same y) ∙ e));
    placed = placed_then;
    bodies = bodies_then;
    classes = classes_then;
    pages = listed_within b out.penalty s i.pages;
  }

  -- what ships is no more to come
  pub settled_weighs : (y : ℕ) → times y (to_come (is_open new) after) + times y s ≡ times y (to_come (is_fired b out) before)
  settled_weighs y =
      let a = owes_old y in
      let c = owes_new y in
      let d = divided_times y in
      let e = times_append y ships (on_shelves ts b.shelves) in
      let f = shelves_times y ts b.shelves in
      let g = times_append y after (shelved new ++ owes rows_then waits_then) in
      let h = times_append y (shelved new) (owes rows_then waits_then) in
      let j = times_append y before (shelved b ++ owes R (waiting_in (is_fired b out))) in
      let k = times_append y (shelved b) (owes R (waiting_in (is_fired b out))) in
      omega arith

-- as many as a verdict ships are no more to come
pub judged_weighs : (b : Book) (out : Output) (F : List Item) (before next : List ℕ) (v : Verdict) → Inv F (is_fired b out) before →
    Splits before out.body next v →
    length (to_come (is_open (judged_book b out before next v)) next) + (v.shipped + named v.classes (given b out).shelved) ≡ length
    (to_come (is_fired b out) before)
judged_weighs b out F before next v i s =
    let all = before ++ out.body in
    let new = to_come (is_open (judged_book b out before next v)) next in
    let ships = shipped_of all v ++ on_shelves v.classes b.shelves in
    let a = length_same (new ++ ships) (to_come (is_fired b out) before) (λ y.
    let e = settled_weighs b out F before (shipped_of all v) next (returned_of all v) v.classes s.joined i y in
    let f = times_append y new ships in omega arith) in
    let c = length-append new ships in
    let d = length-append (shipped_of all v) (on_shelves v.classes b.shelves) in
    let e = length_on_shelves v.classes b.shelves in
    let f = length-take v.shipped all in
    let g = s.within in
    omega arith

module _ {P : Type 0} (held : P → List ℕ) (rule : Rule P) where
  pub inv_settle : {b : Book} {out : Output} {p q : P} {r : Option ℕ} {c : Book} (F : List Item) → Settled held rule b out p r c q →
      Inv F (is_fired b out) (held p) → Inv F (is_open c) (held q)
  inv_settle {b = b} {out = out} {p = p} F (judged {q = q} v f m t) i =
      inv_settled b out F (held p) (shipped_of (held p ++ out.body) v) (held q) (returned_of (held p ++ out.body) v) v.classes t.joined i
  inv_settle {b = b} {out = out} {p = p} F (released {q = q} f e) i =
      subst (λ l. Inv F (is_open (settled_book b out (held p) [] [] every_class)) l) (sym e)
      (inv_settled b out F (held p) (held p) [] [] every_class (ap (λ l. held p ++ l) (sym (i.ready.last f))) i)
