-- Where a note breaks.
use Rattle.std.specs.Prelude.{◌≡◌, ℕ, Bool, true, false, cond, List, [], ◌∷◌, ◌++◌, length, ℤ, pos, ◌+ℤ◌, Some, None, fold, Option, int_le}
use Rattle.std.specs.List.{AllByRecursion}
use Rattle.items.specs.declared.Item.{Item}
use Rattle.items.specs.declared.Item.TheVariants.{Box, Glue, Kern, Penalty, Note}
use Rattle.items.specs.Lists.{up_to}
use Rattle.items.specs.Items.{is_box, is_glue, within_limits}
use Rattle.cost.specs.declared.sums.Sums.{Sums}
use Rattle.cost.specs.Cost.{break_cost, stops, forced, forbidden}
use Rattle.cost.specs.Sums.{none, weighed, fit_of}
use Rattle.cost.specs.Least.{least}
use Rattle.notes.specs.declared.NoteBreak.{NoteBreak}

-- every value of the items is within its limits
abbrev pub Within : List Item → Type 0
Within items = AllByRecursion (λ x. within_limits x ≡ true) items

abbrev pub last_is : (Item → Bool) → List Item → Bool
last_is p [] = false
last_is p (x ∷ []) = p x
last_is p (x ∷ y ∷ ys) = last_is p (y ∷ ys)

abbrev pub first_is : (Item → Bool) → List Item → Bool
first_is p [] = false
first_is p (x ∷ xs) = p x

-- penalty 0 where a test holds
abbrev pub free : Bool → Option ℤ
free b = cond b (Some (pos 0)) None

abbrev pub unless_forbidden : ℤ → Option ℤ
unless_forbidden v = cond (int_le forbidden v) None (Some v)

-- the penalty of the place before an item, where a break may be there: at glue after a box, at a kern before
-- glue, and at a penalty that does not forbid it
abbrev pub penalty_before : Bool → Item → Bool → Option ℤ
penalty_before after_box (Box h d) before_glue = None
penalty_before after_box (Glue w st o sh) before_glue = free after_box
penalty_before after_box (Kern w) before_glue = free before_glue
penalty_before after_box (Penalty v) before_glue = unless_forbidden v
penalty_before after_box (Note c n) before_glue = None

-- the penalty of the place between two parts of a note's content; the end is a place that orders a break
abbrev pub note_penalty : List Item → List Item → Option ℤ
note_penalty before [] = Some forced
note_penalty before (x ∷ after) = penalty_before (last_is is_box before) x (first_is is_glue after)

abbrev pub sums_of : ℕ → List Item → Sums
sums_of d items = fold (weighed d) none items

abbrev pub break_with : ℤ → ℕ → Sums → ℤ → NoteBreak
break_with w place s p = record { place = place; height = s.total +ℤ pos s.depth; penalty = p; cost = break_cost (fit_of w s) p (pos 0) }

-- the break between two parts of the content, to a wanted height w and under depth d
abbrev pub break_after : ℤ → ℕ → List Item → ℤ → NoteBreak
break_after w d before p = break_with w (length before) (sums_of d before) p

abbrev pub where_allowed : ℤ → ℕ → List Item → Option ℤ → List NoteBreak
where_allowed w d before None = []
where_allowed w d before (Some p) = break_after w d before p ∷ []

-- the candidates, in order, where a part of the content is passed already
abbrev pub candidates : ℤ → ℕ → List Item → List Item → List NoteBreak
candidates w d before [] = where_allowed w d before (note_penalty before [])
candidates w d before (x ∷ after) = where_allowed w d before (note_penalty before (x ∷ after)) ++ candidates w d (before ++ x ∷ []) after

abbrev pub ends : NoteBreak → Bool
ends b = stops b.cost b.penalty

-- the least of some candidates that are looked at up to one that ends the search, and of the best before them
abbrev pub best_of : Option NoteBreak → List NoteBreak → Option NoteBreak
best_of best found = fold (least (λ (b : NoteBreak). b.cost)) best (up_to ends found)

-- the best break of a note's content
abbrev pub break_of : List Item → ℤ → ℕ → Option NoteBreak
break_of items w d = best_of None (candidates w d [] items)
