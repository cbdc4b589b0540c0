-- A table that passes a test row by row is well formed, and the galley passes it.
use Rattle.std.proofs.Common.{◌≡◌, ℕ, zero, suc, ◌+◌, ◌-◌, ◌<◌, ◌≤◌, Bool, true, not, ◌&&◌, eqb, ltb, leb, List, [], ◌∷◌, length, get_or, sym, refl, subst, ⊎_elim, arith}
use Rattle.std.specs.List.{AllByRecursion}
use Rattle.std.proofs.ByRecursion.{All-get_or}
use Rattle.std.proofs.lemmas.List.{get_or_past}
use Rattle.std.proofs.lemmas.Bool.{and_from, and_parts, not-true, le-leb, eqb-true, leb-true, ltb-true, cases_eq, cases_lt}
use Rattle.items.specs.declared.Item.{Item}
use Rattle.items.specs.declared.Item.TheVariants.{Box, Glue, Kern, Penalty, Note}
use Rattle.items.specs.declared.Row.{Row}
use Rattle.items.specs.Items.{is_note, within_limits, blank}
use Rattle.items.specs.Table.{row_at, item_at, owner, note_at, Content, WellFormed}
use Rattle.page.specs.Standing.{Inside, Arriving}
use Rattle.page_tests.specs.Galley.{galley}

abbrev each_row : (ℕ → Row → Bool) → ℕ → List Row → Bool
each_row p x [] = true
each_row p x (r ∷ rs) = p x r && each_row p (suc x) rs

abbrev each_of : (ℕ → Bool) → ℕ → ℕ → Bool
each_of p a zero = true
each_of p a (suc n) = p a && each_of p (suc a) n

row_passes : (p : ℕ → Row → Bool) (k : ℕ) (rows : List Row) → each_row p k rows ≡ true → (x : ℕ) → k ≤ x → x - k < length rows → p x (get_or rows (x - k) blank) ≡ true
row_passes p k [] e x l i = absurd (omega arith)
row_passes p k (r ∷ rs) e x l i =
    let parts = and_parts (p k r) (each_row p (suc k) rs) e in
    ⊎_elim
    (λ same. let z : x - k ≡ 0 = omega arith in subst (λ j. p x (get_or (r ∷ rs) j blank) ≡ true) (sym z) (subst (λ y. p y r ≡ true) (sym same) parts.0))
    (λ other. let s : x - k ≡ suc (x - suc k) = omega arith in
    subst (λ j. p x (get_or (r ∷ rs) j blank) ≡ true) (sym s) (row_passes p (suc k) rs parts.1 x (omega arith) (omega arith)))
    (cases_eq x k)

number_passes : (p : ℕ → Bool) (a n : ℕ) → each_of p a n ≡ true → (i : ℕ) → a ≤ i → i < a + n → p i ≡ true
number_passes p a zero e i l k = absurd (omega arith)
number_passes p a (suc n) e i l k =
    let parts = and_parts (p a) (each_of p (suc a) n) e in
    ⊎_elim (λ same. subst (λ y. p y ≡ true) (sym same) parts.0) (λ other. number_passes p (suc a) n parts.1 i (omega arith) (omega arith)) (cases_eq i a)

module _ (rows : List Row) where
  abbrev content_of : ℕ → ℕ → Bool
  content_of x i = eqb (note_at rows i) x && not (is_note (item_at rows i))

  abbrev content_good : ℕ → Item → Bool
  content_good x (Box h d) = true
  content_good x (Glue w st o sh) = true
  content_good x (Kern w) = true
  content_good x (Penalty v) = true
  content_good x (Note c n) = ltb c 8 && (leb (x + n) (length rows) && each_of (content_of x) (x + 1) n)

  abbrev row_good : ℕ → Row → Bool
  row_good x r = leb (owner r) (length rows) && (within_limits r.item && content_good x r.item)

  module _ (good : each_row row_good 1 rows ≡ true) where
    here_good : (x : ℕ) → 1 ≤ x → x - 1 < length rows → row_good x (row_at rows x) ≡ true
    here_good x l i = row_passes row_good 1 rows good x l i

    past_good : (x : ℕ) → length rows ≤ x - 1 → row_good x (row_at rows x) ≡ true
    past_good x l = subst (λ r. row_good x r ≡ true) (sym (get_or_past rows (x - 1) blank l)) (and_from (leb 0 (length rows)) true (le-leb 0 (length rows) (omega arith)) refl)

    all_good : (x : ℕ) → 1 ≤ x → row_good x (row_at rows x) ≡ true
    all_good x l = ⊎_elim (here_good x l) (past_good x) (cases_lt (x - 1) (length rows))

    note_good : (x c k : ℕ) → 1 ≤ x → item_at rows x ≡ Note c k → content_good x (Note c k) ≡ true
    note_good x c k l e =
        let a = and_parts (leb (note_at rows x) (length rows)) (within_limits (item_at rows x) && content_good x (item_at rows x)) (all_good x l) in
        let b = and_parts (within_limits (item_at rows x)) (content_good x (item_at rows x)) a.1 in
        subst (λ i. content_good x i ≡ true) e b.1

    content_good_lem : (x c k : ℕ) → 1 ≤ x → item_at rows x ≡ Note c k → Content (λ y. item_at rows y) (λ y. note_at rows y) (length rows) x k
    content_good_lem x c k l e =
        let a = and_parts (ltb c 8) (leb (x + k) (length rows) && each_of (content_of x) (x + 1) k) (note_good x c k l e) in
        let b = and_parts (leb (x + k) (length rows)) (each_of (content_of x) (x + 1) k) a.1 in
        let each = λ (i : ℕ) (f : x < i) (t : i ≤ x + k). and_parts (eqb (note_at rows i) x) (not (is_note (item_at rows i))) (number_passes (content_of x) (x + 1) k b.1 i (omega arith) (omega arith)) in
        record {
          within = leb-true (x + k) (length rows) b.0;
          owner = λ i f t. eqb-true (note_at rows i) x (each i f t).0;
          text = λ i f t. not-true (is_note (item_at rows i)) (each i f t).1;
        }

    pub formed : WellFormed rows
    formed =
        record {
          content = content_good_lem;
          classes = λ x c k l e. ltb-true c 8 (and_parts (ltb c 8) (leb (x + k) (length rows) && each_of (content_of x) (x + 1) k) (note_good x c k l e)).0;
          owners = λ x l. leb-true (note_at rows x) (length rows) (and_parts (leb (note_at rows x) (length rows)) (within_limits (item_at rows x) && content_good x (item_at rows x)) (all_good x l)).0;
          values = λ x l.
              (and_parts (within_limits (item_at rows x)) (content_good x (item_at rows x))
              (and_parts (leb (note_at rows x) (length rows)) (within_limits (item_at rows x) && content_good x (item_at rows x)) (all_good x l)).1).0;
        }

pub galley_formed : WellFormed galley
galley_formed = formed galley refl

unspent : AllByRecursion (λ r. r.spent ≡ 0) galley
unspent = (refl, (refl, (refl, (refl, (refl, (refl, (refl, (refl, (refl, (refl, (refl, (refl, (refl, (refl, tt))))))))))))))

pub galley_arriving : (x : ℕ) → Inside galley x → Arriving galley x
galley_arriving x i =
    let first = i.first in
    let last = i.last in
    let s : (row_at galley x).spent ≡ 0 = All-get_or (λ r. r.spent ≡ 0) galley (x - 1) blank (omega arith) unspent in
    record { inside = i; spent = λ c n e. omega arith }
