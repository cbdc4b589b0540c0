-- The item table after a feed: it is well formed, and its text kept is what it was and the new.
use Rattle.std.proofs.Common.{◌≡◌, ℕ, zero, suc, ◌+◌, ◌-◌, ◌<◌, ◌≤◌, Bool, true, false, cond, not, ◌&&◌, eqb, ◌⊎◌, List, [], ◌∷◌, ◌++◌, map, length, get_or, Some, None, filter, sym, refl, ap, ◌∙◌, ap₂, inl, inr, arith}
use Rattle.std.specs.List.{AllByRecursion}
use Rattle.std.proofs.lemmas.List.{length-append, length-map, get_or_append_left, get_or_at, get_or-append-add, get_or_past, get_or-map}
use Rattle.std.proofs.lemmas.List.Elements.{filter-append}
use Rattle.std.proofs.ByRecursion.{All-weaker, all_kept_by, All-get_or}
use Rattle.std.proofs.lemmas.Bool.{ne_eqb, cond-true, cond-false, false≢true, cases_lt, cases_order}
use Rattle.items.specs.declared.Item.{Item}
use Rattle.items.specs.declared.Item.TheVariants.{Box, Note}
use Rattle.items.specs.declared.Row.{Row}
use Rattle.items.specs.declared.Place.TheVariants.{Owed}
use Rattle.items.specs.Lists.{span}
use Rattle.items.specs.Items.{is_note, blank, within_limits, fed_row}
use Rattle.items.specs.Table.{row_at, item_at, owner, note_at, WellFormed, Content}
use Rattle.calls.specs.Firing.{note_class}
use Rattle.calls.specs.Findings.{texts, is_dropped, kept_in}
use Rattle.calls.proofs.ListLaws.{kept_by_all, kept_by_none, all_both, kept_by_same}
use Rattle.calls.proofs.Spans.{span_append, span_from, span_to}
use Rattle.calls.proofs.Table.{place_at, gone, is_body, is_text, Inside, texts_inside}
use Rattle.calls.proofs.Accepted.{Feedable}

-- the table after a feed of an item t, or of a note t with content ts
abbrev pub fed_table : List Row → Item → List Item → List Row
fed_table R t ts = R ++ fed_row t None ∷ map (λ u. fed_row u (Some (length R + 1))) ts

module _ (R : List Row) (t : Item) (ts : List Item) (ok : Feedable t ts) where
  abbrev number : ℕ
  number = length R + 1

  abbrev Q : List Row
  Q = fed_table R t ts

  pub fed_size : length Q ≡ length R + 1 + length ts
  fed_size = length-append R (fed_row t None ∷ map (λ u. fed_row u (Some number)) ts) ∙ (let e = length-map ts (λ u. fed_row u (Some number)) in omega arith)

  pub fed_old : (y : ℕ) → Inside R y → row_at Q y ≡ row_at R y
  fed_old y h = get_or_append_left R (fed_row t None ∷ map (λ u. fed_row u (Some number)) ts) blank (y - 1) (omega arith)

  pub fed_here : row_at Q number ≡ fed_row t None
  fed_here = get_or_at R (fed_row t None) (map (λ u. fed_row u (Some number)) ts) blank (number - 1) (omega arith)

  -- what holds of the content holds of the item of a row after the note
  fed_later : (P : Item → Type 0) → AllByRecursion P ts → (y : ℕ) → number < y → y ≤ number + length ts → (u : Item) × (row_at Q y ≡ fed_row u (Some number)) × P u
  fed_later P w y h k =
      let j = y - (number + 1) in
      let d : Item = Box 0 0 in (
        get_or ts j d,
        ap (λ z. get_or Q z blank) (omega arith) ∙ get_or-append-add R (fed_row t None ∷ map (λ u. fed_row u (Some number)) ts) (suc j) blank ∙
            get_or-map (λ u. fed_row u (Some number)) ts j d blank (omega arith),
        All-get_or P ts j d (omega arith) w,
      )

  fed_past : (y : ℕ) → number + length ts < y → row_at Q y ≡ blank
  fed_past y h = get_or_past Q (y - 1) blank (let e = fed_size in omega arith)

  -- a number is an old one, the new one, one of the content's, or past the table
  pub spot : (y : ℕ) → 1 ≤ y → (G : Type 0) → (Inside R y → G) → (y ≡ number → G) → (number < y → y ≤ number + length ts → G) →
      (number + length ts < y → G) → G
  spot y h G f g k l = go (cases_order y number)
    where
      end : number < y → (number + length ts < y) ⊎ (y ≤ number + length ts) → G
      end q (inl z) = l z
      end q (inr z) = k q z

      go : (y ≡ number) ⊎ ((y < number) ⊎ (number < y)) → G
      go (inl e) = g e
      go (inr (inl e)) = f (h, omega arith)
      go (inr (inr e)) = end e (cases_lt (number + length ts) y)

  later_note : (y : ℕ) → number < y → y ≤ number + length ts → note_at Q y ≡ number
  later_note y h k = let f = fed_later (λ u. is_note u ≡ false) ok.words y h k in ap owner f.1

  later_word : (y : ℕ) → number < y → y ≤ number + length ts → is_note (item_at Q y) ≡ false
  later_word y h k = let f = fed_later (λ u. is_note u ≡ false) ok.words y h k in ap (λ r. is_note r.item) f.1 ∙ f.2

  pub later_place : (y : ℕ) → number < y → y ≤ number + length ts → place_at Q y ≡ Owed
  later_place y h k = let f = fed_later (λ u. is_note u ≡ false) ok.words y h k in ap (λ r. r.place) f.1

  past_word : (y : ℕ) → number + length ts < y → is_note (item_at Q y) ≡ false
  past_word y h = ap (λ r. is_note r.item) (fed_past y h)

  -- of the numbers of the content
  later_all : AllByRecursion (λ y. (number < y) × (y ≤ number + length ts)) (span (number + 1) (length ts))
  later_all =
      all_both (λ y. number < y) (λ y. y ≤ number + length ts) (span (number + 1) (length ts))
      (All-weaker (λ y. number + 1 ≤ y) (λ y. number < y) (λ y h. omega arith) (span (number + 1) (length ts))
      (span_from (number + 1) (number + 1) (length ts) (omega arith)))
      (span_to (number + length ts) (number + 1) (length ts) (omega arith))

  later_each : (P : ℕ → Type 0) → ((y : ℕ) → number < y → y ≤ number + length ts → P y) → AllByRecursion P (span (number + 1) (length ts))
  later_each P f = All-weaker (λ y. (number < y) × (y ≤ number + length ts)) P (λ y h. f y h.0 h.1) (span (number + 1) (length ts)) later_all

  module _ (w : WellFormed R) where
    fed_content : (x c k : ℕ) → 1 ≤ x → item_at Q x ≡ Note c k → Content (λ y. item_at Q y) (λ y. note_at Q y) (length Q) x k
    fed_content x c k h e = spot x h (Content (λ y. item_at Q y) (λ y. note_at Q y) (length Q) x k)
        (λ o. let old = w.content x c k h (sym (ap (λ r. r.item) (fed_old x o)) ∙ e) in record {
          within = let a = old.within in let z = fed_size in omega arith;
          owner = λ j lo hi. ap owner (fed_old j (omega arith, let a = old.within in omega arith)) ∙ old.owner j lo hi;
          text = λ j lo hi. ap (λ r. is_note r.item) (fed_old j (omega arith, let a = old.within in omega arith)) ∙ old.text j lo hi;
        })
        (λ f. let here : t ≡ Note c k = sym (ap (λ r. r.item) fed_here) ∙ ap (λ z. item_at Q z) (sym f) ∙ e in
        let l = ok.count c k here in record {
          within = let z = fed_size in omega arith;
          owner = λ j lo hi. later_note j (omega arith) (omega arith) ∙ sym f;
          text = λ j lo hi. later_word j (omega arith) (omega arith);
        })
        (λ p q. absurd (false≢true (sym (later_word x p q) ∙ ap is_note e)))
        (λ p. absurd (false≢true (sym (past_word x p) ∙ ap is_note e)))

    fed_kind : (x c k : ℕ) → 1 ≤ x → item_at Q x ≡ Note c k → c < 8
    fed_kind x c k h e = spot x h (c < 8)
        (λ o. w.classes x c k h (sym (ap (λ r. r.item) (fed_old x o)) ∙ e))
        (λ f. ok.kind c k (sym (ap (λ r. r.item) fed_here) ∙ ap (λ z. item_at Q z) (sym f) ∙ e))
        (λ p q. absurd (false≢true (sym (later_word x p q) ∙ ap is_note e)))
        (λ p. absurd (false≢true (sym (past_word x p) ∙ ap is_note e)))

    fed_owners : (x : ℕ) → 1 ≤ x → note_at Q x ≤ length Q
    fed_owners x h = let z = fed_size in spot x h (note_at Q x ≤ length Q)
        (λ o. let a = ap owner (fed_old x o) in let m = w.owners x h in omega arith)
        (λ f. let a = ap (note_at Q) f ∙ ap owner fed_here in omega arith)
        (λ p q. let a = later_note x p q in omega arith)
        (λ p. let a = ap owner (fed_past x p) in omega arith)

    fed_values : (x : ℕ) → 1 ≤ x → within_limits (item_at Q x) ≡ true
    fed_values x h = spot x h (within_limits (item_at Q x) ≡ true)
        (λ o. ap (λ r. within_limits r.item) (fed_old x o) ∙ w.values x h)
        (λ f. ap (λ z. within_limits (item_at Q z)) f ∙ ap (λ r. within_limits r.item) fed_here ∙ ok.value)
        (λ p q. let f = fed_later (λ u. within_limits u ≡ true) ok.values x p q in ap (λ r. within_limits r.item) f.1 ∙ f.2)
        (λ p. ap (λ r. within_limits r.item) (fed_past x p))

    pub fed_formed : WellFormed Q
    fed_formed = record { content = fed_content; classes = fed_kind; owners = fed_owners; values = fed_values }

    -- old text is of the kind that it was
    pub old_text : (c y : ℕ) → Inside R y → is_text Q c y ≡ is_text R c y
    old_text c y h =
        ap (λ m. not (eqb m 0) && eqb (note_class (item_at Q m)) c) (ap owner (fed_old y h)) ∙ go (note_at R y) (w.owners y h.0)
      where
        go : (m : ℕ) → m ≤ length R → (not (eqb m 0) && eqb (note_class (item_at Q m)) c) ≡ (not (eqb m 0) && eqb (note_class (item_at R m)) c)
        go zero k = refl
        go (suc m) k = ap (λ r. not (eqb (suc m) 0) && eqb (note_class r.item) c) (fed_old (suc m) (omega arith, k))

  span_new : span 1 (length Q) ≡ span 1 (length R) ++ number ∷ span (number + 1) (length ts)
  span_new =
      let a : length Q ≡ length R + suc (length ts) = let z = fed_size in omega arith in
      let e : 1 + length R ≡ number = omega arith in
      let f : suc (1 + length R) ≡ number + 1 = omega arith in
      ap (span 1) a ∙ span_append 1 (length R) (suc (length ts)) ∙ ap₂ (λ u v. span 1 (length R) ++ u ∷ span v (length ts)) e f

  -- what passes a test of the text kept among the new numbers
  abbrev news : (ℕ → Bool) → List ℕ
  news q = filter q (filter (λ y. not (gone Q y)) (filter (λ y. not (is_note (item_at Q y))) (number ∷ span (number + 1) (length ts))))

  pub kept_more : (p q : ℕ → Bool) → ((y : ℕ) → Inside R y → q y ≡ p y) → filter q (kept_in Q) ≡ filter p (kept_in R) ++ news q
  kept_more p q same =
      ap (λ l. filter q (filter there_q (filter word_q l))) span_new ∙
      ap (λ l. filter q (filter there_q l)) (filter-append word_q (span 1 (length R)) new) ∙
      ap (filter q) (filter-append there_q (filter word_q (span 1 (length R))) (filter word_q new))
      ∙ filter-append q (filter there_q (filter word_q (span 1 (length R)))) (filter there_q (filter word_q new))
      ∙ ap (λ l. l ++ filter q (filter there_q (filter word_q new))) (ap (λ l. filter q (filter there_q l)) first ∙ ap (filter q) second ∙ third)
    where
      there_q : ℕ → Bool
      there_q y = not (gone Q y)

      word_q : ℕ → Bool
      word_q y = not (is_note (item_at Q y))

      new : List ℕ
      new = number ∷ span (number + 1) (length ts)

      inside_old : AllByRecursion (Inside R) (span 1 (length R))
      inside_old =
          all_both (λ y. 1 ≤ y) (λ y. y ≤ length R) (span 1 (length R)) (span_from 1 1 (length R) (omega arith))
          (span_to (length R) 1 (length R) (omega arith))

      first : filter word_q (span 1 (length R)) ≡ texts R
      first =
          kept_by_same word_q (λ y. not (is_note (item_at R y))) (span 1 (length R))
          (All-weaker (Inside R) (λ y. word_q y ≡ not (is_note (item_at R y))) (λ y h. ap (λ r. not (is_note r.item)) (fed_old y h))
          (span 1 (length R)) inside_old)

      second : filter there_q (texts R) ≡ kept_in R
      second =
          kept_by_same there_q (λ y. not (gone R y)) (texts R)
          (All-weaker (Inside R) (λ y. there_q y ≡ not (gone R y)) (λ y h. ap (λ r. not (is_dropped r.place)) (fed_old y h)) (texts R)
          (texts_inside R))

      third : filter q (kept_in R) ≡ filter p (kept_in R)
      third =
          kept_by_same q p (kept_in R)
          (All-weaker (Inside R) (λ y. q y ≡ p y) same (kept_in R) (all_kept_by (λ y. not (gone R y)) (Inside R) (texts R) (texts_inside R)))

  here_word : is_note (item_at Q number) ≡ is_note t
  here_word = ap (λ r. is_note r.item) fed_here

  news_note : (q : ℕ → Bool) → is_note t ≡ true → news q ≡ filter q (span (number + 1) (length ts))
  news_note q e =
      ap (λ l. filter q (filter (λ y. not (gone Q y)) l))
      (cond-false (not (is_note (item_at Q number))) _ _ (ap not (here_word ∙ e)) ∙
      kept_by_all (λ y. not (is_note (item_at Q y))) (span (number + 1) (length ts))
      (later_each (λ y. not (is_note (item_at Q y)) ≡ true) (λ y h k. ap not (later_word y h k))))
      ∙ ap (filter q)
      (kept_by_all (λ y. not (gone Q y)) (span (number + 1) (length ts))
      (later_each (λ y. not (gone Q y) ≡ true) (λ y h k. ap (λ p. not (is_dropped p)) (later_place y h k))))

  news_word : (q : ℕ → Bool) → is_note t ≡ false → ts ≡ [] → news q ≡ cond (q number) (number ∷ []) []
  news_word q e f =
      ap (λ l. filter q (filter (λ y. not (gone Q y)) (filter (λ y. not (is_note (item_at Q y))) (number ∷ span (number + 1) (length l))))) f
      ∙ ap (λ l. filter q (filter (λ y. not (gone Q y)) l)) (cond-true (not (is_note (item_at Q number))) (number ∷ []) [] (ap not (here_word ∙ e)))
      ∙ ap (filter q) (cond-true (not (gone Q number)) (number ∷ []) [] (ap (λ r. not (is_dropped r.place)) fed_here))

  pub new_bodies : news (is_body Q) ≡ cond (is_note t) [] (number ∷ [])
  new_bodies = go (is_note t) refl
    where
      go : (v : Bool) → is_note t ≡ v → news (is_body Q) ≡ cond v [] (number ∷ [])
      go true e =
          news_note (is_body Q) e ∙
          kept_by_none (is_body Q) (span (number + 1) (length ts))
          (later_each (λ y. is_body Q y ≡ false) (λ y h k. ap (λ m. eqb m 0) (later_note y h k) ∙ ne_eqb number 0 (λ z. omega arith)))
      go false e = news_word (is_body Q) e (ok.alone e) ∙ cond-true (is_body Q number) (number ∷ []) [] (ap (λ r. eqb (owner r) 0) fed_here)

  pub new_texts : (c : ℕ) → news (is_text Q c) ≡ cond (is_note t) (cond (eqb (note_class t) c) (span (number + 1) (length ts)) []) []
  new_texts c = go (is_note t) refl
    where
      each : (y : ℕ) → number < y → y ≤ number + length ts → is_text Q c y ≡ eqb (note_class t) c
      each y h k =
          ap (λ m. not (eqb m 0) && eqb (note_class (item_at Q m)) c) (later_note y h k) ∙
          ap₂ (λ v r. not v && eqb (note_class r.item) c) (ne_eqb number 0 (λ z. omega arith)) fed_here

      pick : (v : Bool) → eqb (note_class t) c ≡ v → filter (is_text Q c) (span (number + 1) (length ts)) ≡ cond v (span (number + 1) (length ts)) []
      pick true e = kept_by_all (is_text Q c) (span (number + 1) (length ts)) (later_each (λ y. is_text Q c y ≡ true) (λ y h k. each y h k ∙ e))
      pick false e = kept_by_none (is_text Q c) (span (number + 1) (length ts)) (later_each (λ y. is_text Q c y ≡ false) (λ y h k. each y h k ∙ e))

      go : (v : Bool) → is_note t ≡ v → news (is_text Q c) ≡ cond v (cond (eqb (note_class t) c) (span (number + 1) (length ts)) []) []
      go true e = news_note (is_text Q c) e ∙ pick (eqb (note_class t) c) refl
      go false e =
          news_word (is_text Q c) e (ok.alone e) ∙
          cond-false (is_text Q c number) (number ∷ []) [] (ap (λ r. not (eqb (owner r) 0) && eqb (note_class (item_at Q (owner r))) c) fed_here)
