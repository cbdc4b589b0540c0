-- What holds of every candidate holds of the break. There is always a break, it is within the content, and what
-- stands right after it, if anything, can be dropped.
use Rattle.std.proofs.Common.{◌≡◌, ℕ, ◌+◌, ◌≤◌, Bool, true, false, cond, List, [], ◌∷◌, ◌++◌, length, drop, ℤ, pos, ◌≤ℤ◌, ◌<ℤ◌, IfSome, Some, None, fold, Option, sym, refl, subst, arith, MatchOption}
use lib.Signed.{le_z}
use borrow.Author.Differences.{ints}
use Rattle.std.specs.List.{AllByRecursion}
use Rattle.std.proofs.ByRecursion.{All-append, All-weaker}
use Rattle.std.proofs.lemmas.List.{length_push, length-append, append_assoc, drop_at}
use Rattle.items.specs.declared.Item.{Item}
use Rattle.items.specs.declared.Item.TheVariants.{Box, Glue, Kern, Penalty, Note}
use Rattle.items.specs.Lists.{up_to}
use Rattle.items.specs.Items.{most, is_discardable}
use Rattle.cost.specs.Cost.{forbidden}
use Rattle.cost.specs.Least.{least}
use Rattle.cost.specs.Sums.{fit_of}
use Rattle.cost.proofs.Bests.{leasts_keep}
use Rattle.cost.proofs.Costs.{cost_most}
use Rattle.notes.specs.declared.NoteBreak.{NoteBreak}
use Rattle.notes.specs.Break.{penalty_before, note_penalty, sums_of, where_allowed, candidates, ends, best_of, break_of}
use Rattle.notes.proofs.Walk.{price, note_allowed}

up_to_all : {A : Type 0} (P : A → Type 0) (t : A → Bool) (xs : List A) → AllByRecursion P xs → AllByRecursion P (up_to t xs)
up_to_all P t [] h = tt
up_to_all P t (x ∷ xs) h = (h.0, go (t x) (up_to_all P t xs h.1))
  where
    go : (b : Bool) → AllByRecursion P (up_to t xs) → AllByRecursion P (cond b [] (up_to t xs))
    go true k = tt
    go false k = k

pub break_keeps : (P : NoteBreak → Type 0) (items : List Item) (w : ℤ) (d : ℕ) → AllByRecursion P (candidates w d [] items) → IfSome (break_of items w d) P
break_keeps P items w d h = leasts_keep (λ (b : NoteBreak). b.cost) P None (up_to ends (candidates w d [] items)) tt (up_to_all P ends (candidates w d [] items) h)

module _ (w : ℤ) (d : ℕ) where
  placed : (before : List Item) (n : ℕ) (o : Option ℤ) → length before ≤ n → AllByRecursion (λ b. b.place ≤ n) (where_allowed w d before o)
  placed before n None l = tt
  placed before n (Some p) l = (l, tt)

  places : (before after : List Item) → AllByRecursion (λ b. b.place ≤ length before + length after) (candidates w d before after)
  places before [] = placed before _ (note_penalty before []) (omega arith)
  places before (x ∷ after) =
      All-append _ (where_allowed w d before (note_penalty before (x ∷ after))) _ (placed before _ (note_penalty before (x ∷ after)) (omega arith))
      (All-weaker _ _ (λ b h. omega (arith, h, length_push before x)) (candidates w d (before ++ x ∷ []) after) (places (before ++ x ∷ []) after))

pub break_within : (items : List Item) (w : ℤ) (d : ℕ) (b : NoteBreak) → Some b ≡ break_of items w d → b.place ≤ length items
break_within items w d b e =
    let P : NoteBreak → Type 0 = λ c. c.place ≤ length items in
    subst (λ o. IfSome o P) (sym e) (break_keeps P items w d (All-weaker _ _ (λ c h. omega (arith, h)) (candidates w d [] items) (places w d [] items)))

-- nothing, or something that can be dropped, stands first
abbrev pub Droppable : List Item → Type 0
Droppable [] = Unit {0}
Droppable (x ∷ xs) = is_discardable x ≡ true

-- a place in the content where it may break, at a cost that a break may have
pub record Breaks (items : List Item) (b : NoteBreak) : Type 0 where
  pub within : b.place ≤ length items
  pub drops : Droppable (drop b.place items)
  pub affordable : b.cost ≤ℤ pos most

note_drops : (before after : List Item) (p : ℤ) → note_penalty before after ≡ Some p → Droppable after
note_drops before [] p e = tt
note_drops before (Box h d ∷ after) p e = let z : ◌≡◌ {A = ℕ} 0 1 = cc in absurd (omega arith)
note_drops before (Glue w st o sh ∷ after) p e = refl
note_drops before (Kern w ∷ after) p e = refl
note_drops before (Penalty v ∷ after) p e = refl
note_drops before (Note c n ∷ after) p e = let z : ◌≡◌ {A = ℕ} 0 1 = cc in absurd (omega arith)

module _ (w : ℤ) (d : ℕ) where
  breaks_here : (before after : List Item) (o : Option ℤ) → note_penalty before after ≡ o → AllByRecursion (Breaks (before ++ after)) (where_allowed w d before o)
  breaks_here before after None e = tt
  breaks_here before after (Some p) e = (
    record {
      within = omega (arith, length-append before after);
      drops = subst Droppable (sym (drop_at before after (length before) refl)) (note_drops before after p e);
      affordable = cost_most (fit_of w (sums_of d before)) p (pos 0) (note_allowed before after p e);
    },
    tt,
  )

  all_break : (before after : List Item) → AllByRecursion (Breaks (before ++ after)) (candidates w d before after)
  all_break before [] = breaks_here before [] (note_penalty before []) refl
  all_break before (x ∷ after) =
      All-append _ (where_allowed w d before (note_penalty before (x ∷ after))) _ (breaks_here before (x ∷ after) (note_penalty before (x ∷ after)) refl)
      (subst (λ items. AllByRecursion (Breaks items) (candidates w d (before ++ x ∷ []) after)) (append_assoc before (x ∷ []) after) (all_break (before ++ x ∷ []) after))

  some_candidate : (before after : List Item) → 1 ≤ length (candidates w d before after)
  some_candidate before [] = omega arith
  some_candidate before (x ∷ after) =
      let here = where_allowed w d before (note_penalty before (x ∷ after)) in
      omega (arith, length-append here (candidates w d (before ++ x ∷ []) after), some_candidate (before ++ x ∷ []) after)

-- no penalty of a place, wherever it stands, forbids a break
pub before_allowed : (after_box : Bool) (x : Item) (before_glue : Bool) (p : ℤ) → penalty_before after_box x before_glue ≡ Some p → p <ℤ forbidden
before_allowed true x true p e = note_allowed (Box 0 0 ∷ []) (x ∷ Glue (pos 0) 0 0 0 ∷ []) p e
before_allowed true x false p e = note_allowed (Box 0 0 ∷ []) (x ∷ []) p e
before_allowed false x true p e = note_allowed [] (x ∷ Glue (pos 0) 0 0 0 ∷ []) p e
before_allowed false x false p e = note_allowed [] (x ∷ []) p e

-- there is one, and it is such a place
abbrev pub Broken : List Item → Option NoteBreak → Type 0
Broken items o = MatchOption o ⊥ (Breaks items)

module _ (items : List Item) where
  least_breaks : (best here : NoteBreak) → Breaks items best → Breaks items here → Broken items (least price (Some best) here)
  least_breaks best here h k = go (le_z here.cost best.cost)
    where
      go : (t : Bool) → Broken items (cond t (Some here) (Some best))
      go true = k
      go false = h

  leasts_break : (best : Option NoteBreak) (found : List NoteBreak) → Broken items best → AllByRecursion (Breaks items) found → Broken items (fold (least price) best found)
  leasts_break best [] h k = h
  leasts_break None (x ∷ xs) h k = absurd h
  leasts_break (Some best) (x ∷ xs) h k = leasts_break (least price (Some best) x) xs (least_breaks best x h k.0) k.1

  -- the first candidate is the best so far, whatever it costs
  first_breaks : (here : NoteBreak) → Breaks items here → Broken items (least price None here)
  first_breaks here h = go (le_z here.cost (pos most)) refl h.affordable
    where
      go : (t : Bool) → le_z here.cost (pos most) ≡ t → here.cost ≤ℤ pos most → Broken items (cond t (Some here) None)
      go true e l = h
      go false e l = absurd (omega (arith, ints))

  best_breaks : (found : List NoteBreak) → 1 ≤ length found → AllByRecursion (Breaks items) found → Broken items (best_of None found)
  best_breaks [] l h = absurd (omega arith)
  best_breaks (x ∷ xs) l h = leasts_break (least price None x) (cond (ends x) [] (up_to ends xs)) (first_breaks x h.0) (up_to_all (Breaks items) ends (x ∷ xs) h).1

pub break_of_breaks : (items : List Item) (w : ℤ) (d : ℕ) → Broken items (break_of items w d)
break_of_breaks items w d = best_breaks items (candidates w d [] items) (some_candidate w d [] items) (all_break w d [] items)
