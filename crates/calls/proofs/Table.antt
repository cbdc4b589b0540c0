-- The item table: what a change of rows leaves alone, where items lie then, and what dropping takes from the text kept.
use Rattle.std.proofs.Common.{◌≡◌, ℕ, zero, suc, ◌-◌, ◌<◌, ◌≤◌, Bool, true, false, cond, not, ◌&&◌, eqb, List, [], ◌∷◌, ◌++◌, map, length, get_or, set, ℤ, filter, sym, refl, ap, ◌∙◌, subst, ap₂, arith}
use mathlib.Core.Path.{fun_ext}
use Rattle.std.specs.List.{AllByRecursion}
use Rattle.std.proofs.lemmas.List.{length-set, get_or-set_same, get_or-set_other}
use Rattle.std.proofs.ByRecursion.{All-weaker, all_kept_by}
use Rattle.std.proofs.lemmas.Bool.{eqb-true, eqb-false}
use Rattle.items.specs.declared.Item.{Item}
use Rattle.items.specs.declared.Row.{Row}
use Rattle.items.specs.declared.Place.{Place}
use Rattle.items.specs.declared.Place.TheVariants.{Dropped}
use Rattle.items.specs.Lists.{span}
use Rattle.items.specs.Items.{is_note, blank, items_of}
use Rattle.items.specs.Table.{row_at, item_at, change, change_all, put, stamped, spending, owner, note_at}
use Rattle.calls.specs.Firing.{note_class}
use Rattle.calls.specs.Findings.{times, texts, is_dropped, kept_in, body, text_of}
use Rattle.calls.proofs.ListLaws.{kept_by_and, kept_by_swap}
use Rattle.calls.proofs.Times.{times_not_kept, times_kept_le, without, without_absent, without_one}
use Rattle.calls.proofs.Spans.{span_once, span_from, span_to}

abbrev pub spent_at : List Row → ℕ → ℕ
spent_at R x = (row_at R x).spent

abbrev pub place_at : List Row → ℕ → Place
place_at R x = (row_at R x).place

abbrev pub gone : List Row → ℕ → Bool
gone R x = is_dropped (row_at R x).place

-- the tests of the streams
abbrev pub is_body : List Row → ℕ → Bool
is_body R x = eqb (note_at R x) 0

abbrev pub is_text : List Row → ℕ → ℕ → Bool
is_text R c x = not (eqb (note_at R x) 0) && eqb (note_class (item_at R (note_at R x))) c

abbrev pub Inside : List Row → ℕ → Type 0
Inside R x = (1 ≤ x) × (x ≤ length R)

-- numbers in the table are counted from 1
pub from_one : (R : List Row) (xs : List ℕ) → AllByRecursion (Inside R) xs → AllByRecursion (λ x. 1 ≤ x) xs
from_one R xs h = All-weaker (Inside R) (λ x. 1 ≤ x) (λ x k. k.0) xs h

pub get_d_set_part : {A : Type 0} (g : Row → A) (R : List Row) (i : ℕ) (v : Row) (j : ℕ) (d : Row) → g v ≡ g (get_or R i d) →
    g (get_or (set R i v) j d) ≡ g (get_or R j d)
get_d_set_part g [] i v j d h = refl
get_d_set_part g (r ∷ R) zero v zero d h = h
get_d_set_part g (r ∷ R) zero v (suc j) d h = refl
get_d_set_part g (r ∷ R) (suc i) v zero d h = refl
get_d_set_part g (r ∷ R) (suc i) v (suc j) d h = get_d_set_part g R i v j d h

pub map_set_part : {A : Type 0} (g : Row → A) (R : List Row) (i : ℕ) (v : Row) (d : Row) → g v ≡ g (get_or R i d) → map g (set R i v) ≡ map g R
map_set_part g [] i v d h = refl
map_set_part g (r ∷ R) zero v d h = ap (λ a. a ∷ map g R) h
map_set_part g (r ∷ R) (suc i) v d h = ap (λ l. g r ∷ l) (map_set_part g R i v d h)

-- a part that no change touches
pub part_kept : {A : Type 0} (g : Row → A) (f : Row → Row) → ((r : Row) → g (f r) ≡ g r) → (xs : List ℕ) (R : List Row) (y : ℕ) →
    g (row_at (change_all f R xs) y) ≡ g (row_at R y)
part_kept g f h [] R y = refl
part_kept g f h (x ∷ xs) R y = part_kept g f h xs (change f R x) y ∙ get_d_set_part g R (x - 1) (f (row_at R x)) (y - 1) blank (h (row_at R x))

pub parts_kept : {A : Type 0} (g : Row → A) (f : Row → Row) → ((r : Row) → g (f r) ≡ g r) → (xs : List ℕ) (R : List Row) →
    map g (change_all f R xs) ≡ map g R
parts_kept g f h [] R = refl
parts_kept g f h (x ∷ xs) R = parts_kept g f h xs (change f R x) ∙ map_set_part g R (x - 1) (f (row_at R x)) blank (h (row_at R x))

pub length_change : (f : Row → Row) (xs : List ℕ) (R : List Row) → length (change_all f R xs) ≡ length R
length_change f [] R = refl
length_change f (x ∷ xs) R = length_change f xs (change f R x) ∙ length-set R (x - 1) (f (row_at R x))

-- two tables of the same items
pub record Alike (R Q : List Row) : Type 0 where
  pub size : length Q ≡ length R
  pub item : ◌≡◌ {A = ℕ → Item} (λ y. item_at Q y) (λ y. item_at R y)
  pub note : ◌≡◌ {A = ℕ → ℕ} (λ y. note_at Q y) (λ y. note_at R y)
  pub items : items_of Q ≡ items_of R

pub alike_self : (R : List Row) → Alike R R
alike_self R = record { size = refl; item = refl; note = refl; items = refl }

pub alike_then : {R Q S : List Row} → Alike R Q → Alike Q S → Alike R S
alike_then a b = record { size = b.size ∙ a.size; item = b.item ∙ a.item; note = b.note ∙ a.note; items = b.items ∙ a.items }

pub alike_change : (f : Row → Row) → ((r : Row) → (f r).item ≡ r.item) → ((r : Row) → owner (f r) ≡ owner r) → (R : List Row) (xs : List ℕ) →
    Alike R (change_all f R xs)
alike_change f h k R xs = record {
  size = length_change f xs R;
  item = fun_ext (λ y. part_kept (λ r. r.item) f h xs R y);
  note = fun_ext (λ y. part_kept owner f k xs R y);
  items = parts_kept (λ r. r.item) f h xs R;
}

pub alike_put : (p : Place) (R : List Row) (xs : List ℕ) → Alike R (change_all (put p) R xs)
alike_put p R xs = alike_change (put p) (λ r. refl) (λ r. refl) R xs

pub alike_stamped : (n : ℕ) (g : ℤ) (R : List Row) (xs : List ℕ) → Alike R (change_all (stamped n g) R xs)
alike_stamped n g R xs = alike_change (stamped n g) (λ r. refl) (λ r. refl) R xs

pub alike_spending : (n : ℕ) (R : List Row) (xs : List ℕ) → Alike R (change_all (spending n) R xs)
alike_spending n R xs = alike_change (spending n) (λ r. refl) (λ r. refl) R xs

module _ {R Q : List Row} (a : Alike R Q) where
  pub alike_texts : texts Q ≡ texts R
  alike_texts = ap₂ (λ (it : ℕ → Item) n. filter (λ x. not (is_note (it x))) (span 1 n)) a.item a.size

  pub alike_is_body : ◌≡◌ {A = ℕ → Bool} (λ x. is_body Q x) (λ x. is_body R x)
  alike_is_body = ap {B = ℕ → Bool} (λ (nt : ℕ → ℕ) x. eqb (nt x) 0) a.note

  pub alike_is_text : (c : ℕ) → ◌≡◌ {A = ℕ → Bool} (λ x. is_text Q c x) (λ x. is_text R c x)
  alike_is_text c = ap₂ {C = ℕ → Bool} (λ (nt : ℕ → ℕ) (it : ℕ → Item) x. not (eqb (nt x) 0) && eqb (note_class (it (nt x))) c) a.note a.item

  pub alike_body : (xs : List ℕ) → body Q xs ≡ body R xs
  alike_body xs = ap (λ p. filter p xs) alike_is_body

  pub alike_text_of : (c : ℕ) (xs : List ℕ) → text_of Q c xs ≡ text_of R c xs
  alike_text_of c xs = ap (λ p. filter p xs) (alike_is_text c)

  pub alike_kept : ((x : ℕ) → gone Q x ≡ gone R x) → kept_in Q ≡ kept_in R
  alike_kept h = ap₂ (λ (g : ℕ → Bool) xs. filter (λ x. not (g x)) xs) (fun_ext h) alike_texts

-- places
pub gone_put : (p : Place) → is_dropped p ≡ false → (xs : List ℕ) (R : List Row) → AllByRecursion (λ x. gone R x ≡ false) xs → (y : ℕ) →
    gone (change_all (put p) R xs) y ≡ gone R y
gone_put p h [] R k y = refl
gone_put p h (x ∷ xs) R k y = gone_put p h xs (change (put p) R x) (same xs k.1) y ∙ one y
  where
    one : (y : ℕ) → gone (change (put p) R x) y ≡ gone R y
    one y = get_d_set_part (λ r. is_dropped r.place) R (x - 1) (put p (row_at R x)) (y - 1) blank (h ∙ sym k.0)

    same : (ys : List ℕ) → AllByRecursion (λ x. gone R x ≡ false) ys → AllByRecursion (λ z. gone (change (put p) R x) z ≡ false) ys
    same [] m = tt
    same (z ∷ ys) m = (one z ∙ m.0, same ys m.1)

pub place_one : (p : Place) (R : List Row) (x : ℕ) → Inside R x → place_at (change (put p) R x) x ≡ p
place_one p R x h = ap (λ r. r.place) (get_or-set_same R (x - 1) (put p (row_at R x)) blank (omega arith))

pub row_other : (f : Row → Row) (R : List Row) (x y : ℕ) → 1 ≤ x → 1 ≤ y → (y ≡ x → ⊥) → row_at (change f R x) y ≡ row_at R y
row_other f R x y h k d = get_or-set_other R (x - 1) (y - 1) (f (row_at R x)) blank (λ e. d (omega arith))

pub rows_other : (f : Row → Row) (y : ℕ) → 1 ≤ y → (xs : List ℕ) (R : List Row) → AllByRecursion (λ x. 1 ≤ x) xs → times y xs ≡ 0 →
    row_at (change_all f R xs) y ≡ row_at R y
rows_other f y k [] R h t = refl
rows_other f y k (x ∷ xs) R h t = step (eqb y x) refl t (rows_other f y k xs (change f R x) h.1)
  where
    step : (b : Bool) → eqb y x ≡ b → cond b (suc (times y xs)) (times y xs) ≡ 0 →
        (times y xs ≡ 0 → row_at (change_all f (change f R x) xs) y ≡ row_at (change f R x) y) →
        row_at (change_all f (change f R x) xs) y ≡ row_at R y
    step true e t i = absurd (omega arith)
    step false e t i = i t ∙ row_other f R x y h.0 k (eqb-false y x e)

pub place_in : (p : Place) (y : ℕ) (xs : List ℕ) (R : List Row) → Inside R y → AllByRecursion (λ x. 1 ≤ x) xs → 0 < times y xs →
    place_at (change_all (put p) R xs) y ≡ p
place_in p y [] R h k t = absurd (omega arith)
place_in p y (x ∷ xs) R h k t = step (eqb y x) (times y xs) refl refl t (place_in p y xs (change (put p) R x) (h.0, simp length-set h.1) k.1)
  where
    step : (b : Bool) (n : ℕ) → eqb y x ≡ b → times y xs ≡ n → 0 < cond b (suc n) n →
        (0 < times y xs → place_at (change_all (put p) (change (put p) R x) xs) y ≡ p) →
        place_at (change_all (put p) (change (put p) R x) xs) y ≡ p
    step b (suc n) e f t i = i (omega arith)
    step true zero e f t i = ap (λ r. r.place) (rows_other (put p) y h.0 xs (change (put p) R x) k.1 f)
        ∙ ap (λ z. place_at (change (put p) R x) z) (eqb-true y x e) ∙ place_one p R x (subst (Inside R) (eqb-true y x e) h)
    step false zero e f t i = absurd (omega arith)

-- dropping
pub kept_once : (q : ℕ → Bool) (R : List Row) (x : ℕ) → times x (filter q (kept_in R)) ≤ 1
kept_once q R x =
    let a = times_kept_le x q (kept_in R) in
    let b = times_kept_le x (λ y. not (gone R y)) (texts R) in
    let c = times_kept_le x (λ y. not (is_note (item_at R y))) (span 1 (length R)) in
    let d = span_once x 1 (length R) in
    omega arith

pub texts_inside : (R : List Row) → AllByRecursion (Inside R) (texts R)
texts_inside R =
    all_kept_by (λ y. not (is_note (item_at R y))) (Inside R) (span 1 (length R))
    (both (span 1 (length R)) (span_from 1 1 (length R) (omega arith)) (span_to (length R) 1 (length R) (omega arith)))
  where
    both : (xs : List ℕ) → AllByRecursion (λ x. 1 ≤ x) xs → AllByRecursion (λ x. x ≤ length R) xs → AllByRecursion (Inside R) xs
    both [] h k = tt
    both (x ∷ xs) h k = ((h.0, k.0), both xs h.1 k.1)

module _ (q : ℕ → Bool) where
  pub kept_drop_one : (R : List Row) (d : ℕ) → Inside R d → filter q (kept_in (change (put Dropped) R d)) ≡ without d (filter q (kept_in R))
  kept_drop_one R d h =
      ap (λ t. filter q (filter (λ x. not (gone (change (put Dropped) R d) x)) t)) (alike_texts (alike_put Dropped R (d ∷ [])))
      ∙ ap (filter q) (kept_by_and (λ x. not (gone R x)) (λ x. not (eqb x d)) (λ x. not (gone (change (put Dropped) R d) x)) (texts R)
      (All-weaker (Inside R) (λ x. not (gone (change (put Dropped) R d) x) ≡ (not (gone R x) && not (eqb x d))) (λ x k. each x k (eqb x d) refl)
      (texts R) (texts_inside R)))
      ∙ kept_by_swap q (λ y. not (eqb y d)) (kept_in R)
    where
      and_false : (b : Bool) → (b && false) ≡ false
      and_false true = refl
      and_false false = refl

      and_true : (b : Bool) → (b && true) ≡ b
      and_true true = refl
      and_true false = refl

      each : (x : ℕ) → Inside R x → (b : Bool) → eqb x d ≡ b → not (gone (change (put Dropped) R d) x) ≡ (not (gone R x) && not b)
      each x k true e =
          ap (λ z. not (gone (change (put Dropped) R d) z)) (eqb-true x d e) ∙ ap (λ p. not (is_dropped p)) (place_one Dropped R d h) ∙
          sym (and_false (not (gone R x)))
      each x k false e =
          ap (λ r. not (is_dropped r.place)) (row_other (put Dropped) R d x h.0 k.0 (eqb-false x d e)) ∙ sym (and_true (not (gone R x)))

  pub inside_change : (f : Row → Row) (R : List Row) (d : ℕ) (xs : List ℕ) → AllByRecursion (Inside R) xs → AllByRecursion (Inside (change f R d)) xs
  inside_change f R d [] h = tt
  inside_change f R d (x ∷ xs) h = ((h.0.0, simp length-set h.0.1), inside_change f R d xs h.1)

  pub kept_drop : (xs : List ℕ) (R : List Row) (l m : List ℕ) → AllByRecursion (Inside R) xs → l ++ (xs ++ m) ≡ filter q (kept_in R) →
      l ++ m ≡ filter q (kept_in (change_all (put Dropped) R xs))
  kept_drop [] R l m h e = e
  kept_drop (x ∷ xs) R l m h e = kept_drop xs (change (put Dropped) R x) l m (inside_change (put Dropped) R x xs h.1)
      (sym (without_one x l (xs ++ m) (subst (λ k. times x k ≤ 1) (sym e) (kept_once q R x))) ∙ ap (without x) e ∙ sym (kept_drop_one R x h.0))

  pub kept_drop_other : (xs : List ℕ) (R : List Row) → AllByRecursion (Inside R) xs → AllByRecursion (λ x. q x ≡ false) xs →
      filter q (kept_in (change_all (put Dropped) R xs)) ≡ filter q (kept_in R)
  kept_drop_other [] R h k = refl
  kept_drop_other (x ∷ xs) R h k = kept_drop_other xs (change (put Dropped) R x) (inside_change (put Dropped) R x xs h.1) k.1
      ∙ kept_drop_one R x h.0 ∙ without_absent x (filter q (kept_in R)) (times_not_kept x q k.0 (kept_in R))

pub put_cases : (p : Place) (xs : List ℕ) (R : List Row) (y : ℕ) → Inside R y → AllByRecursion (λ x. 1 ≤ x) xs → (Goal : Place → Type 0) →
    (0 < times y xs → Goal p) → (times y xs ≡ 0 → Goal (place_at R y)) →
    Goal (place_at (change_all (put p) R xs) y)
put_cases p xs R y h far Goal f g = go (times y xs) refl
  where
    go : (n : ℕ) → times y xs ≡ n → Goal (place_at (change_all (put p) R xs) y)
    go zero e = subst Goal (sym (ap (λ r. r.place) (rows_other (put p) y h.0 xs R far e))) (g e)
    go (suc n) e = subst Goal (sym (place_in p y xs R h far (omega arith))) (f (omega arith))
