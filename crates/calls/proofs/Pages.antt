-- What a page comes to, class by class: a split note's break lies in its content, and a class with a note on the page has a last note.
use Rattle.std.proofs.Common.{◌≡◌, ℕ, zero, suc, ◌<◌, ◌≤◌, Bool, true, false, cond, ◌⊎◌, List, [], ◌∷◌, map, length, get_or, drop, set, replicate, Some, None, fold, Option, sym, refl, ◌∙◌, subst, inl, inr}
use Rattle.std.specs.Option.{is_some}
use Rattle.std.proofs.lemmas.List.{length-set, get_or-set_same, get_or-set_other, get_or-replicate, get_or_past, set_past}
use Rattle.std.proofs.lemmas.Bool.{cases_eq, cases_lt, false≢true}
use Rattle.items.specs.declared.Item.{Item}
use Rattle.items.specs.declared.Item.TheVariants.{Box, Glue, Kern, Penalty, Note}
use Rattle.items.specs.declared.Row.{Row}
use Rattle.items.specs.Items.{is_note}
use Rattle.items.specs.Table.{item_at}
use Rattle.notes.specs.declared.NoteBreak.{NoteBreak}
use Rattle.notes.proofs.Places.{Droppable, Broken, break_of_breaks}
use Rattle.page.specs.declared.Ground.{Ground}
use Rattle.page.specs.declared.ClassSoFar.{ClassSoFar}
use Rattle.page.specs.declared.PageSoFar.{PageSoFar}
use Rattle.page.specs.declared.breaks.PageBreak.{PageBreak}
use Rattle.page.specs.declared.Taken.{Taken}
use Rattle.page.specs.PageSoFar.{sizes, fresh, class_of, rules_of, height_of, begin, begins, items_left, joined_by, all_of, part_of, takes, broken, floats, is_split, stays_whole, wanted, break_for, with_note, with_item, next, so_far}
use Rattle.page.specs.Breaks.{last_note}
use Rattle.calls.specs.Firing.{note_class}

-- a class on the page, over the table
pub record Classed (rows : List Row) (k : ClassSoFar) : Type 0 where
  pub within : (n : ℕ) → k.broken ≡ Some n → n ≤ length (items_left rows k.last)
  pub drops : (n : ℕ) → k.broken ≡ Some n → Droppable (drop n (items_left rows k.last))

abbrev pub Sound : List Row → Option ClassSoFar → Type 0
Sound rows None = Unit {0}
Sound rows (Some k) = Classed rows k

-- a class that is not split
whole : (rows : List Row) (k : ClassSoFar) → k.broken ≡ None → Classed rows k
whole rows k e = record { within = λ n g. absurd (some_none n (sym g ∙ e)); drops = λ n g. absurd (some_none n (sym g ∙ e)) }
  where
    some_none : (n : ℕ) → Some n ≡ None → ⊥
    some_none n g = cc

-- from some classes to later ones: there are as many, each is sound, and a class that had a last note has one
pub record Later (rows : List Row) (old new : List (Option ClassSoFar)) : Type 0 where
  pub many : length new ≡ length old
  pub each : (c : ℕ) → Sound rows (get_or new c None)
  pub stays : (c : ℕ) → is_some (get_or old c None) ≡ true → is_some (get_or new c None) ≡ true

later_self : (rows : List Row) (k : List (Option ClassSoFar)) → ((c : ℕ) → Sound rows (get_or k c None)) → Later rows k k
later_self rows k h = record { many = refl; each = h; stays = λ c l. l }

later_then : {rows : List Row} {a b c : List (Option ClassSoFar)} → Later rows a b → Later rows b c → Later rows a c
later_then p q = record { many = q.many ∙ p.many; each = q.each; stays = λ c l. q.stays c (p.stays c l) }

-- one class is set
later_set : (rows : List Row) (k : List (Option ClassSoFar)) (c : ℕ) (v : ClassSoFar) → ((d : ℕ) → Sound rows (get_or k d None)) → Classed rows v →
    Later rows k (set k c (Some v))
later_set rows k c v h n = record {
  many = length-set k c (Some v);
  each = λ d. at d (cases_eq d c) (cases_lt c (length k));
  stays = λ d l. last d l (cases_eq d c) (cases_lt c (length k));
}
  where
    at : (d : ℕ) → (d ≡ c) ⊎ (d ≡ c → ⊥) → (c < length k) ⊎ (length k ≤ c) → Sound rows (get_or (set k c (Some v)) d None)
    at d (inl e) (inl l) = rw (e, get_or-set_same k c (Some v) None l) n
    at d (inl e) (inr l) = rw (set_past k c (Some v) l) (h d)
    at d (inr e) l = rw (get_or-set_other k c d (Some v) None e) (h d)

    last : (d : ℕ) → is_some (get_or k d None) ≡ true → (d ≡ c) ⊎ (d ≡ c → ⊥) → (c < length k) ⊎ (length k ≤ c) → is_some (get_or (set k c (Some v)) d None) ≡ true
    last d m (inl e) (inl l) = rw (e, get_or-set_same k c (Some v) None l) refl
    last d m (inl e) (inr l) = rw (set_past k c (Some v) l) m
    last d m (inr e) l = rw (get_or-set_other k c d (Some v) None e) m

split_some : (k : Option ClassSoFar) → is_split k ≡ true → is_some k ≡ true
split_some None e = e
split_some (Some k) e = refl

module _ (g : Ground) (rows : List Row) where
  abbrev Each : PageSoFar → Type 0
  Each m = (c : ℕ) → Sound rows (class_of m c)

  begin_later : (m : PageSoFar) (c : ℕ) → Each m → Later rows m.classes (begin g m c).classes
  begin_later m c h = go (is_some (class_of m c))
    where
      go : (t : Bool) → Later rows m.classes (cond t m (begins g m c)).classes
      go true = later_self rows m.classes h
      go false = later_self rows m.classes h

  -- a note of the class c arrives
  abbrev Noted : PageSoFar → ℕ → PageSoFar → Type 0
  Noted m c n = Later rows m.classes n.classes × (c < length m.classes → is_some (class_of n c) ≡ true)

  module _ (m : PageSoFar) (c x : ℕ) (h : Each m) where
    takes_noted : (t : Taken) → Classed rows (joined_by (height_of g m c) x t) → Noted m c (takes g m c x t)
    takes_noted t f =
        let v = joined_by (height_of g m c) x t in
        (later_set rows m.classes c v h f, λ k. rw (get_or-set_same m.classes c (Some v) None k) refl)

    broken_noted : (o : Option NoteBreak) → Broken (items_left rows x) o → Noted m c (broken g m c x o)
    broken_noted None f = absurd f
    broken_noted (Some k) f =
        takes_noted (part_of k)
        (record {
          within = λ n e. let same : k.place ≡ n = cc in subst (λ j. j ≤ length (items_left rows x)) same f.within;
          drops = λ n e. let same : k.place ≡ n = cc in subst (λ j. Droppable (drop j (items_left rows x))) same f.drops;
        })

    note_noted : Noted m c (with_note g m x c (items_left rows x))
    note_noted = go (is_split (class_of m c)) refl (stays_whole g m c (sizes (items_left rows x)))
      where
        go : (s : Bool) → is_split (class_of m c) ≡ s → (t : Bool) →
            Noted m c
            (cond s (floats g m c) (cond t (takes g m c x (all_of (items_left rows x))) (broken g m c x (break_for g m c (items_left rows x)))))
        go true e t = (later_self rows m.classes h, λ k. split_some (class_of m c) e)
        go false e true = takes_noted (all_of (items_left rows x)) (whole rows (joined_by (height_of g m c) x (all_of (items_left rows x))) refl)
        go false e false = broken_noted (break_for g m c (items_left rows x)) (break_of_breaks (items_left rows x) (wanted g m c) (rules_of g c).depth)

  -- any item or note arrives
  item_later : (m : PageSoFar) (x : ℕ) (i : Item) → Each m → Later rows m.classes (with_item g rows m x i).classes
  item_later m x (Box h d) e = later_self rows m.classes e
  item_later m x (Glue w st o sh) e = later_self rows m.classes e
  item_later m x (Kern w) e = later_self rows m.classes e
  item_later m x (Penalty v) e = later_self rows m.classes e
  item_later m x (Note c n) e =
      let s = begin_later m c e in
      later_then s (note_noted (begin g m c) c x s.each).0

  note_last : (m : PageSoFar) (x : ℕ) (i : Item) → Each m → is_note i ≡ true → note_class i < length m.classes →
      is_some (class_of (with_item g rows m x i) (note_class i)) ≡ true
  note_last m x (Box h d) e n k = absurd (false≢true n)
  note_last m x (Glue w st o sh) e n k = absurd (false≢true n)
  note_last m x (Kern w) e n k = absurd (false≢true n)
  note_last m x (Penalty v) e n k = absurd (false≢true n)
  note_last m x (Note c a) e n k =
      let s = begin_later m c e in
      (note_noted (begin g m c) c x s.each).1 (rw s.many k)

  list_later : (xs : List ℕ) (m : PageSoFar) → Each m → Later rows m.classes (fold (next g rows) m xs).classes
  list_later [] m e = later_self rows m.classes e
  list_later (x ∷ xs) m e =
      let s = item_later m x (item_at rows x) e in
      later_then s (list_later xs (next g rows m x) s.each)

  fresh_each : Each (fresh g)
  fresh_each c = go (cases_lt c 8)
    where
      go : (c < 8) ⊎ (8 ≤ c) → Sound rows (get_or (replicate 8 None) c None)
      go (inl l) = rw (get_or-replicate {A = Option ClassSoFar} 8 c None None l) tt
      go (inr l) = rw (get_or_past {X = Option ClassSoFar} (replicate 8 None) c None l) tt

  pub page_each : (xs : List ℕ) (c : ℕ) → Sound rows (class_of (so_far g rows xs) c)
  page_each xs = (list_later xs (fresh g) fresh_each).each

  pub page_last : (x : ℕ) (xs : List ℕ) → is_note (item_at rows x) ≡ true → note_class (item_at rows x) < 8 →
      is_some (get_or (map last_note (so_far g rows (x ∷ xs)).classes) (note_class (item_at rows x)) None) ≡ true
  page_last x xs n l =
      let c = note_class (item_at rows x) in
      let s = item_later (fresh g) x (item_at rows x) fresh_each in
      let k = note_last (fresh g) x (item_at rows x) fresh_each n l in
      lasts (so_far g rows (x ∷ xs)).classes c ∙ (list_later xs (next g rows (fresh g) x) s.each).stays c k
    where
      lasts : (ks : List (Option ClassSoFar)) (c : ℕ) → is_some (get_or (map last_note ks) c None) ≡ is_some (get_or ks c None)
      lasts [] c = refl
      lasts (None ∷ ks) zero = refl
      lasts (Some k ∷ ks) zero = refl
      lasts (k ∷ ks) (suc c) = lasts ks c

-- a page's first entry, where it is a note, has a last note of its class at the break
abbrev pub FirstNote : List Row → List ℕ → PageBreak → Type 0
FirstNote rows [] at = Unit {0}
FirstNote rows (x ∷ xs) at = is_note (item_at rows x) ≡ true → is_some (get_or at.last (note_class (item_at rows x)) None) ≡ true

-- a break of a page: something stands before it
pub record BreakFor (rows : List Row) (page : List ℕ) (at : PageBreak) : Type 0 where
  pub some : 1 ≤ at.place
  pub within : at.place ≤ length page
  pub first : FirstNote rows page at

abbrev pub BestFor : List Row → List ℕ → Option PageBreak → Type 0
BestFor rows page None = Unit {0}
BestFor rows page (Some at) = BreakFor rows page at
