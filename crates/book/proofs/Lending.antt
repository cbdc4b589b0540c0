-- What tables within their limits are, and that they keep an empty book.
use Rattle.std.proofs.Common.{◌≡◌, ℕ, zero, suc, ◌≤◌, Bool, true, ◌&&◌, leb, List, [], ◌∷◌, map, length, replicate, None, Option, sym, refl, ap, subst, arith}
use Rattle.std.specs.List.{AllByRecursion, list_all}
use Rattle.std.proofs.lemmas.Bool.{and_parts, leb-true, eq-eqb}
use Rattle.items.specs.declared.Settings.{Settings}
use Rattle.items.specs.declared.Class.{Class}
use Rattle.items.specs.declared.Piece.{Piece}
use Rattle.items.specs.Limits.{settings_within, declared_within}
use Rattle.queue.specs.Queues.{none}
use Rattle.calls.specs.Runs.{Reached}
use Rattle.calls.proofs.Reaching.{reached_made}
use Rattle.calls.specs.Making.{empty_book, tables_within, acceptable, making_refusal}
use Rattle.book.specs.declared.Open.{Open}
use Rattle.book.specs.declared.Phase.TheVariants.{Feeding}
use Rattle.book.specs.View.{Contents, lengths_of, shelves_of, ShelvesWithin, book_of, Fit, Kept}

pass_each : {A : Type 0} (p : A → Bool) (P : A → Type 0) → ((x : A) → p x ≡ true → P x) → (xs : List A) → list_all p xs ≡ true → AllByRecursion P xs
pass_each p P f [] h = tt
pass_each p P f (x ∷ xs) h = let k = and_parts (p x) (list_all p xs) h in (f x k.0, pass_each p P f xs k.1)

lengths : {A : Type 0} (n : ℕ) (xss : List (List A)) → AllByRecursion (λ l. n ≤ l) (map length xss) → AllByRecursion (λ xs. n ≤ length xs) xss
lengths n [] h = tt
lengths n (xs ∷ xss) h = (h.0, lengths n xss h.1)

fit : (t : Contents) → tables_within (length t.rows) (lengths_of t) ≡ true → length t.shelves ≡ 8 → Fit t
fit t h eight =
    let n = length t.rows in
    let k = and_parts (leb 1 n && leb n 16384) (list_all (leb n) (lengths_of t)) h in
    let m = and_parts (leb 1 n) (leb n 16384) k.0 in
    let reach = pass_each (leb n) (λ l. n ≤ l) (λ l e. leb-true n l e) (lengths_of t) k.1 in
    record {
      some = leb-true 1 n m.0;
      few = leb-true n 16384 m.1;
      contributions = reach.0;
      page = reach.1.0;
      waiting = reach.1.1.0;
      shipped = reach.1.1.1.0;
      pages = reach.1.1.1.1.0;
      shelves = lengths n t.shelves reach.1.1.1.1.1;
      eight = eight;
    }

module _ (n : ℕ) (others : List ℕ) (s : Settings) (cs : List (Option Class)) (tables : tables_within n others ≡ true) (settings : settings_within s ≡ true) (eight : length cs ≡ 8)
    (classes : list_all declared_within cs ≡ true) where
  -- tables, settings and classes within their limits are accepted
  pub acceptable_is : acceptable n others s cs ≡ true
  acceptable_is = let e = eq-eqb (length cs) 8 eight in grind arith

  -- and not refused
  pub accepted : making_refusal n others s cs ≡ None
  accepted = rw acceptable_is

shelves_within : (n k : ℕ) (cells : List (List Piece)) → 1 ≤ n → length cells ≡ k → AllByRecursion (λ c. n ≤ length c) cells → ShelvesWithin (replicate k none) cells
shelves_within n zero [] some e h = tt
shelves_within n zero (c ∷ cells) some e h = absurd (omega arith)
shelves_within n (suc k) [] some e h = absurd (omega arith)
shelves_within n (suc k) (c ∷ cells) some e h = (record { head = omega (arith, h.0); len = omega arith }, shelves_within n k cells some (omega arith) h.1)

abbrev pub empty_open : Settings → List (Option Class) → Open
empty_open s cs = record {
  settings = s;
  classes = cs;
  rows = 0;
  contributions = none;
  page = 0;
  best = None;
  shelves = replicate 8 none;
  shipped = 0;
  pages = 0;
  firings = 0;
  phase = Feeding;
}

shelves_empty : (k : ℕ) (cells : List (List Piece)) → shelves_of (replicate k none) cells ≡ replicate k []
shelves_empty zero cells = refl
shelves_empty (suc k) [] = ap (λ l. [] ∷ l) (shelves_empty k [])
shelves_empty (suc k) (c ∷ cells) = ap (λ l. [] ∷ l) (shelves_empty k cells)

module _ (s : Settings) (cs : List (Option Class)) (t : Contents) where
  pub empty_is : book_of (empty_open s cs) t ≡ empty_book s cs
  empty_is = ap (λ (l : List (List Piece)). record (empty_book s cs) { shelves = l }) (shelves_empty 8 t.shelves)

  pub empty_kept : settings_within s ≡ true → list_all declared_within cs ≡ true → length cs ≡ 8 → tables_within (length t.rows) (lengths_of t) ≡ true → length t.shelves ≡ 8 → Kept (empty_open s cs) t
  empty_kept hs hc hl ht he =
      let f = fit t ht he in
      record {
        tables = f;
        settings = hs;
        classes = hc;
        eight = hl;
        used = omega arith;
        waits = record { head = omega (arith, f.some, f.contributions); len = omega arith };
        owed = omega arith;
        shipped = omega arith;
        pages = omega arith;
        shelved = shelves_within (length t.rows) 8 t.shelves f.some he f.shelves;
        reached = subst (Reached (length t.rows)) (sym empty_is) (reached_made (length t.rows) (lengths_of t) s cs (acceptable_is (length t.rows) (lengths_of t) s cs ht hs hl hc));
      }
