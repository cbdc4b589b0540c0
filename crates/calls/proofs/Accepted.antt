-- What a feed that is not refused says of the item, or of the note and its content.
use Rattle.std.proofs.Common.{◌≡◌, ℕ, zero, suc, ◌+◌, ◌<◌, ◌≤◌, Bool, true, false, not, eqb, ltb, List, [], ◌∷◌, length, get_or, Some, None, Option, sym, refl, ◌∙◌, arith}
use Rattle.std.specs.Option.{is_some, option_or}
use Rattle.std.specs.List.{AllByRecursion}
use Rattle.std.proofs.lemmas.Bool.{ltb-false, not-false, false≢true}
use Rattle.items.specs.declared.Item.{Item}
use Rattle.items.specs.declared.Item.TheVariants.{Box, Glue, Kern, Penalty, Note}
use Rattle.items.specs.declared.Class.{Class}
use Rattle.items.specs.declared.refusals.Refusal.{Refusal}
use Rattle.items.specs.declared.refusals.Cause.{Cause}
use Rattle.items.specs.declared.refusals.Cause.TheVariants.{Closed, NoContent, Undeclared, Value, Full}
use Rattle.items.specs.Items.{is_note, within_limits}
use Rattle.items.specs.Refusals.{content_refusal}
use Rattle.items.proofs.Contents.{no_notes, all_within}
use Rattle.calls.specs.Book.{Book}
use Rattle.calls.specs.Feeding.{content_for, counted, refused_if, note_refusal, item_refusal, refusal_of, refusal}

-- an item of text alone, or a note of one of eight classes with some content and no note in it
pub record Feedable (t : Item) (ts : List Item) : Type 0 where
  pub value : within_limits t ≡ true
  pub values : AllByRecursion (λ u. within_limits u ≡ true) ts
  pub words : AllByRecursion (λ u. is_note u ≡ false) ts
  pub count : (c k : ℕ) → t ≡ Note c k → length ts ≡ k
  pub kind : (c k : ℕ) → t ≡ Note c k → c < 8
  pub alone : is_note t ≡ false → ts ≡ []
  pub fills : is_note t ≡ true → 1 ≤ length ts

-- none of several refusals applies
none_first : (o u : Option Refusal) → option_or o u ≡ None → o ≡ None
none_first None u e = refl
none_first (Some r) u e = e

none_then : (o u : Option Refusal) → option_or o u ≡ None → u ≡ None
none_then None u e = e
none_then (Some r) u e = cc

not_refused : (t : Bool) (cause : Cause) → refused_if t cause ≡ None → t ≡ false
not_refused true cause e = cc
not_refused false cause e = refl

declared_inside : (cs : List (Option Class)) (c : ℕ) → is_some (get_or cs c None) ≡ true → c < length cs
declared_inside [] c e = absurd (false≢true e)
declared_inside (k ∷ cs) zero e = omega arith
declared_inside (k ∷ cs) (suc c) e = let i = declared_inside cs c e in omega arith

module _ (classes : List (Option Class)) (eight : length classes ≡ 8) where
  word_feedable : (t : Item) → is_note t ≡ false → ((c k : ℕ) → t ≡ Note c k → ⊥) → refused_if (not (within_limits t)) Value ≡ None → Feedable t []
  word_feedable t w n e = record {
    value = not-false (within_limits t) (not_refused (not (within_limits t)) Value e);
    values = tt;
    words = tt;
    count = λ c k f. absurd (n c k f);
    kind = λ c k f. absurd (n c k f);
    alone = λ f. refl;
    fills = λ f. absurd (false≢true (sym w ∙ f));
  }

  note_feedable : (c : ℕ) (content : List Item) → note_refusal classes c content ≡ None → Feedable (Note c (length content)) content
  note_feedable c content e =
      let declared = refused_if (not (is_some (get_or classes c None))) Undeclared in
      let some = refused_if (eqb (length content) 0) NoContent in
      let rest = none_then some (option_or declared (content_refusal content)) e in
      let is_declared = not_refused (not (is_some (get_or classes c None))) Undeclared (none_first declared (content_refusal content) rest) in
      let within = declared_inside classes c (not-false (is_some (get_or classes c None)) is_declared) in
      let filled = not_refused (eqb (length content) 0) NoContent (none_first some (option_or declared (content_refusal content)) e) in
      let clean = none_then declared (content_refusal content) rest in
      record {
        value = refl;
        values = all_within content clean;
        words = no_notes content clean;
        count = λ d k f. cc;
        kind = λ d k f. let same : c ≡ d = cc in omega arith;
        alone = λ f. absurd (false≢true (sym f));
        fills = λ f. some_content content filled;
      }
    where
      some_content : (xs : List Item) → eqb (length xs) 0 ≡ false → 1 ≤ length xs
      some_content [] f = absurd (false≢true (sym f))
      some_content (x ∷ xs) f = omega arith

  item_feedable : (x : Item) (content : List Item) → item_refusal classes x content ≡ None → Feedable (counted x content) (content_for x content)
  item_feedable (Box h d) content e = word_feedable (Box h d) refl (λ c k f. let z : ◌≡◌ {A = ℕ} 0 1 = cc in omega arith) e
  item_feedable (Glue w st o sh) content e = word_feedable (Glue w st o sh) refl (λ c k f. let z : ◌≡◌ {A = ℕ} 0 1 = cc in omega arith) e
  item_feedable (Kern w) content e = word_feedable (Kern w) refl (λ c k f. let z : ◌≡◌ {A = ℕ} 0 1 = cc in omega arith) e
  item_feedable (Penalty v) content e = word_feedable (Penalty v) refl (λ c k f. let z : ◌≡◌ {A = ℕ} 0 1 = cc in omega arith) e
  item_feedable (Note c n) content e = note_feedable c content e

pub feedable : (capacity : ℕ) (b : Book) (x : Item) (content : List Item) → length b.classes ≡ 8 → refusal capacity b x content ≡ None →
    Feedable (counted x content) (content_for x content)
feedable capacity b x content eight e =
    let full = refused_if (ltb capacity (length b.rows + 1 + length (content_for x content))) Full in
    let item = item_refusal b.classes x content in
    item_feedable b.classes eight x content (none_first item full (none_then (refused_if b.closed Closed) (option_or item full) e))

-- and that the book was open
pub fed_open : (capacity : ℕ) (b : Book) (x : Item) (content : List Item) → refusal capacity b x content ≡ None → b.closed ≡ false
fed_open capacity b x content e =
    let full = refused_if (ltb capacity (length b.rows + 1 + length (content_for x content))) Full in
    not_refused b.closed Closed (none_first (refused_if b.closed Closed) (option_or (item_refusal b.classes x content) full) e)

-- and that there is room for all of it
pub room_left : (capacity : ℕ) (closed : Bool) (classes : List (Option Class)) (used : ℕ) (x : Item) (content : List Item) →
    refusal_of capacity closed classes used x content ≡ None → used + 1 + length (content_for x content) ≤ capacity
room_left capacity closed classes used x content e =
    let wanted = used + 1 + length (content_for x content) in
    let item = item_refusal classes x content in
    let full = refused_if (ltb capacity wanted) Full in
    ltb-false capacity wanted (not_refused (ltb capacity wanted) Full (none_then item full (none_then (refused_if closed Closed) (option_or item full) e)))
