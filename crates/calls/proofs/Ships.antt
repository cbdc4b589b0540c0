-- The shelves that ship and those that stay, and the pages listed.
use Rattle.std.proofs.Common.{◌≡◌, ℕ, zero, suc, ◌+◌, ◌-◌, ◌<◌, ◌≤◌, Bool, true, false, cond, eqb, List, [], ◌∷◌, ◌++◌, map, length, get_or, take, drop, replicate, ℤ, filter, sym, refl, ap, ◌∙◌, subst, arith}
use lib.Dec.{eqb-zero-suc, eqb-suc-zero, eqb-suc-suc}
use Rattle.std.specs.List.{flat_map, AllByRecursion}
use Rattle.std.proofs.lemmas.List.{append-nil, length-append, drop-append-le, take-append-le, take_at, drop_at, length-drop}
use Rattle.std.proofs.lemmas.List.Elements.{filter-append}
use Rattle.std.proofs.ByRecursion.{All-weaker, All-append}
use Rattle.items.specs.declared.Piece.{Piece}
use Rattle.items.specs.Table.{shelf_items}
use Rattle.policies.specs.Policies.{named}
use Rattle.calls.specs.declared.Page.{Page}
use Rattle.calls.specs.Book.{Book}
use Rattle.calls.specs.Settling.{emptied, on_shelves, listed}
use Rattle.calls.specs.Findings.{times, page_after}
use Rattle.calls.proofs.ListLaws.{kept_by_all, kept_by_none}
use Rattle.calls.proofs.Times.{times_append}

pub emptied_size : (ts : List Bool) (sh : List (List Piece)) → length (emptied ts sh) ≡ length sh
emptied_size [] sh = refl
emptied_size (t ∷ ts) [] = refl
emptied_size (t ∷ ts) (p ∷ ps) = ap suc (emptied_size ts ps)

pub shelves_all : (P : ℕ → Type 0) (ts : List Bool) (sh : List (List Piece)) → ((e : ℕ) → AllByRecursion P (shelf_items (get_or sh e []))) → AllByRecursion P (on_shelves ts sh)
shelves_all P [] sh h = tt
shelves_all P (t ∷ ts) [] h = tt
shelves_all P (t ∷ ts) (p ∷ ps) h = All-append P (cond t (shelf_items p) []) (on_shelves ts ps) (go t) (shelves_all P ts ps (λ e. h (suc e)))
  where
    go : (t : Bool) → AllByRecursion P (cond t (shelf_items p) [])
    go true = h 0
    go false = tt

pub shelves_times : (y : ℕ) (ts : List Bool) (sh : List (List Piece)) →
    times y (on_shelves ts sh) + times y (flat_map shelf_items (emptied ts sh)) ≡ times y (flat_map shelf_items sh)
shelves_times y [] sh = omega arith
shelves_times y (t ∷ ts) [] = refl
shelves_times y (t ∷ ts) (p ∷ ps) = go t (shelves_times y ts ps)
  where
    go : (t : Bool) → times y (on_shelves ts ps) + times y (flat_map shelf_items (emptied ts ps)) ≡ times y (flat_map shelf_items ps) →
        times y (cond t (shelf_items p) [] ++ on_shelves ts ps) + times y (shelf_items (cond t [] p) ++ flat_map shelf_items (emptied ts ps)) ≡ times y
        (shelf_items p ++ flat_map shelf_items ps)
    go true e = let a = times_append y (shelf_items p) (on_shelves ts ps) in let c = times_append y (shelf_items p) (flat_map shelf_items ps) in omega arith
    go false e =
        let a = times_append y (shelf_items p) (flat_map shelf_items (emptied ts ps)) in
        let c = times_append y (shelf_items p) (flat_map shelf_items ps) in omega arith

-- how many ship
pub length_on_shelves : (ts : List Bool) (sh : List (List Piece)) → length (on_shelves ts sh) ≡ named ts (map (λ s. length (shelf_items s)) sh)
length_on_shelves [] sh = refl
length_on_shelves (t ∷ ts) [] = refl
length_on_shelves (t ∷ ts) (s ∷ ss) = go t (length_on_shelves ts ss)
  where
    go : (t : Bool) → length (on_shelves ts ss) ≡ named ts (map (λ s. length (shelf_items s)) ss) →
        length (cond t (shelf_items s) [] ++ on_shelves ts ss) ≡ cond t (length (shelf_items s)) 0 + named ts (map (λ s. length (shelf_items s)) ss)
    go true g = let e = length-append (shelf_items s) (on_shelves ts ss) in omega arith
    go false g = omega arith

-- every shelf ships
pub every_emptied : (n : ℕ) (sh : List (List Piece)) → length sh ≤ n → flat_map shelf_items (emptied (replicate n true) sh) ≡ []
every_emptied zero [] l = refl
every_emptied (suc n) [] l = refl
every_emptied zero (s ∷ ss) l = absurd (omega arith)
every_emptied (suc n) (s ∷ ss) l = every_emptied n ss (omega arith)

pub every_named : (n : ℕ) (sh : List (List Piece)) → length sh ≤ n →
    named (replicate n true) (map (λ s. length (shelf_items s)) sh) ≡ length (flat_map shelf_items sh)
every_named zero [] l = refl
every_named (suc n) [] l = refl
every_named zero (s ∷ ss) l = absurd (omega arith)
every_named (suc n) (s ∷ ss) l = let i = every_named n ss (omega arith) in let e = length-append (shelf_items s) (flat_map shelf_items ss) in omega arith

-- of one class, what ships and what stays make its shelf
pub shelves_class : (q : ℕ → Bool) (ts : List Bool) (sh : List (List Piece)) (c : ℕ) →
    ((e : ℕ) → AllByRecursion (λ y. q y ≡ eqb e c) (shelf_items (get_or sh e []))) →
    filter q (on_shelves ts sh) ++ shelf_items (get_or (emptied ts sh) c []) ≡ shelf_items (get_or sh c [])
shelves_class q [] sh c h = refl
shelves_class q (t ∷ ts) [] c h = refl
shelves_class q (t ∷ ts) (p ∷ ps) zero h =
    ap (λ l. l ++ shelf_items (cond t [] p))
    (filter-append q (cond t (shelf_items p) []) (on_shelves ts ps) ∙ ap (λ l. filter q (cond t (shelf_items p) []) ++ l) others ∙
    append-nil (filter q (cond t (shelf_items p) []))) ∙
    go t
  where
    others : filter q (on_shelves ts ps) ≡ []
    others =
        kept_by_none q (on_shelves ts ps)
        (shelves_all (λ y. q y ≡ false) ts ps
        (λ e. All-weaker (λ y. q y ≡ eqb (suc e) 0) (λ y. q y ≡ false) (λ y z. z ∙ eqb-suc-zero e) (shelf_items (get_or ps e [])) (h (suc e))))

    go : (t : Bool) → filter q (cond t (shelf_items p) []) ++ shelf_items (cond t [] p) ≡ shelf_items p
    go true = append-nil (filter q (shelf_items p)) ∙ kept_by_all q (shelf_items p) (h 0)
    go false = refl
shelves_class q (t ∷ ts) (p ∷ ps) (suc c) h =
    ap (λ l. l ++ shelf_items (get_or (emptied ts ps) c []))
    (filter-append q (cond t (shelf_items p) []) (on_shelves ts ps) ∙ ap (λ l. l ++ filter q (on_shelves ts ps)) (go t))
    ∙ shelves_class q ts ps c
    (λ e. All-weaker (λ y. q y ≡ eqb (suc e) (suc c)) (λ y. q y ≡ eqb e c) (λ y z. z ∙ eqb-suc-suc e c) (shelf_items (get_or ps e [])) (h (suc e)))
  where
    go : (t : Bool) → filter q (cond t (shelf_items p) []) ≡ []
    go true =
        kept_by_none q (shelf_items p) (All-weaker (λ y. q y ≡ eqb 0 (suc c)) (λ y. q y ≡ false) (λ y z. z ∙ eqb-zero-suc c) (shelf_items p) (h 0))
    go false = refl

-- pages
module _ (sh s : List ℕ) (pg : Page) (at : pg.from ≡ length sh) where
  pages_last : (ps : List Page) → page_after (sh ++ s) (ps ++ pg ∷ []) (length ps) ≡ s
  pages_last [] = ap (λ n. drop n (sh ++ s)) at ∙ drop_at sh s (length sh) refl
  pages_last (p ∷ []) = ap (λ n. drop n (sh ++ s)) at ∙ drop_at sh s (length sh) refl
  pages_last (p ∷ q ∷ ps) =
      ap (λ t. cond t (take (q.from - p.from) (drop p.from (sh ++ s))) (page_after (sh ++ s) (q ∷ (ps ++ pg ∷ [])) (suc (suc (length ps)) - 1)))
      (eqb-suc-zero (suc (length ps)))
      ∙ ap (page_after (sh ++ s) (q ∷ (ps ++ pg ∷ []))) (omega arith) ∙ pages_last (q ∷ ps)

  one_page : (f g : ℕ) → f ≤ length sh → g ≤ length sh → take (g - f) (drop f (sh ++ s)) ≡ take (g - f) (drop f sh)
  one_page f g h k = ap (take (g - f)) (drop-append-le f sh s h) ∙ take-append-le (g - f) (drop f sh) s (simp length-drop (omega arith))

  pages_kept : (y : ℕ) (ps : List Page) (m : ℕ) → AllByRecursion (λ p. p.from ≤ length sh) ps → 0 < times y (page_after sh ps m) →
      0 < times y (page_after (sh ++ s) (ps ++ pg ∷ []) m)
  pages_kept y [] m h k = absurd (omega arith)
  pages_kept y (p ∷ []) m h k = go (eqb m 0) k
    where
      go : (t : Bool) → 0 < times y (cond t (drop p.from sh) []) →
          0 < times y (cond t (take (pg.from - p.from) (drop p.from (sh ++ s))) (page_after (sh ++ s) (pg ∷ []) (m - 1)))
      go true k =
          subst (λ l. 0 < times y l)
          (sym (ap (take (pg.from - p.from)) (drop-append-le p.from sh s h.0) ∙ take_at (drop p.from sh) s (pg.from - p.from) (simp length-drop (omega arith)))) k
      go false k = absurd (omega arith)
  pages_kept y (p ∷ q ∷ ps) m h k = go (eqb m 0) k (pages_kept y (q ∷ ps) (m - 1) h.1)
    where
      go : (t : Bool) → 0 < times y (cond t (take (q.from - p.from) (drop p.from sh)) (page_after sh (q ∷ ps) (m - 1))) →
          (0 < times y (page_after sh (q ∷ ps) (m - 1)) → 0 < times y (page_after (sh ++ s) (q ∷ (ps ++ pg ∷ [])) (m - 1))) →
          0 < times y (cond t (take (q.from - p.from) (drop p.from (sh ++ s))) (page_after (sh ++ s) (q ∷ (ps ++ pg ∷ [])) (m - 1)))
      go true k i = subst (λ l. 0 < times y l) (sym (one_page p.from q.from h.0 h.1.0)) k
      go false k i = i k

module _ (b : Book) (pen : ℤ) where
  pub listed_kept : (s : List ℕ) (y n : ℕ) → AllByRecursion (λ p. p.from ≤ length b.shipped) b.pages → 0 < times y (page_after b.shipped b.pages n) →
      0 < times y (page_after (b.shipped ++ s) (listed b pen s) n)
  listed_kept [] y n h k = subst (λ l. 0 < times y (page_after l b.pages n)) (sym (append-nil b.shipped)) k
  listed_kept (x ∷ s) y n h k = pages_kept b.shipped (x ∷ s) (record { from = length b.shipped; penalty = pen }) refl y b.pages n h k

  pub listed_last : (s : List ℕ) (y : ℕ) → 0 < times y s → 0 < times y (page_after (b.shipped ++ s) (listed b pen s) (length b.pages + 1 - 1))
  listed_last [] y k = absurd (omega arith)
  listed_last (x ∷ s) y k =
      let e : length b.pages + 1 - 1 ≡ length b.pages = omega arith in
      subst (λ l. 0 < times y l)
      (sym (ap (page_after (b.shipped ++ x ∷ s) (b.pages ++ (record { from = length b.shipped; penalty = pen }) ∷ [])) e ∙ pages_last b.shipped (x ∷ s) (record { from = length b.shipped; penalty = pen }) refl b.pages)) k

  pub listed_within : (s : List ℕ) → AllByRecursion (λ p. p.from ≤ length b.shipped) b.pages →
      AllByRecursion (λ p. p.from ≤ length (b.shipped ++ s)) (listed b pen s)
  listed_within [] h = subst (λ l. AllByRecursion (λ p. p.from ≤ length l) b.pages) (sym (append-nil b.shipped)) h
  listed_within (x ∷ s) h =
      All-append (λ (p : Page). p.from ≤ length (b.shipped ++ x ∷ s)) b.pages ((record { from = length b.shipped; penalty = pen }) ∷ [])
      (All-weaker (λ (p : Page). p.from ≤ length b.shipped) (λ p. p.from ≤ length (b.shipped ++ x ∷ s))
      (λ p k. let e = length-append b.shipped (x ∷ s) in omega arith) b.pages h)
      (let e = length-append b.shipped (x ∷ s) in omega arith, tt)
