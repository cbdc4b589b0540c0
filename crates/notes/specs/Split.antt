-- A long note split to a list of wanted heights.
use Rattle.std.specs.Prelude.{◌≡◌, ℕ, ◌+◌, ◌-◌, true, cond, ◌||◌, List, [], ◌∷◌, ◌++◌, length, take, drop, ℤ, Some, None, Ok, Err, Option, Result, ◌==◌, nat_lt}
use Rattle.std.specs.Option.{option_map}
use Rattle.std.specs.List.{prefix_len, flat_map, AllByRecursion}
use Rattle.items.specs.declared.Item.{Item}
use Rattle.items.specs.declared.refusals.Refusal.{Refusal}
use Rattle.items.specs.declared.refusals.Cause.TheVariants.{Limits, NoContent}
use Rattle.items.specs.Lists.{span}
use Rattle.items.specs.Items.{most, is_discardable}
use Rattle.items.specs.Refusals.{content_refusal}
use Rattle.notes.specs.declared.NoteBreak.{NoteBreak}
use Rattle.notes.specs.declared.split.Part.{Part}
use Rattle.notes.specs.declared.split.Split.{Split}
use Rattle.notes.specs.Break.{break_of}

-- the numbers of a part's piece, of what is dropped after it, and where what is left begins; items are counted from 0
abbrev pub piece_of : Part → List ℕ
piece_of p = span p.first p.cut.place

abbrev pub dropped_of : Part → List ℕ
dropped_of p = span (p.first + p.cut.place) p.dropped

abbrev pub end_of : Part → ℕ
end_of p = p.first + p.cut.place + p.dropped

-- what a break of the items from `first` on makes of them: a piece, and then what can be dropped, up to a box
abbrev pub part_at : List Item → ℕ → NoteBreak → Part
part_at items first b = record { first = first; cut = b; dropped = prefix_len is_discardable (drop (first + b.place) items) }

-- the part that the best break splits off
abbrev pub part_from : List Item → ℤ → ℕ → ℕ → Option Part
part_from items w d first = option_map (part_at items first) (break_of (drop first items) w d)

-- the parts for a list of wanted heights, one after another while items are left
abbrev pub parts_from : List Item → ℕ → ℕ → List ℤ → List Part
parts_from items d first [] = []
parts_from items d first (w ∷ ws) =
    cond (nat_lt first (length items))
    (elim (part_from items w d first) as (λ _. List Part) [ None ↦ [] | Some p ↦ p ∷ parts_from items d (end_of p) ws ])
    []

-- where what no part has begins
abbrev pub rest_after : ℕ → List Part → ℕ
rest_after first [] = first
rest_after first (p ∷ ps) = rest_after (end_of p) ps

-- pieces, what is dropped after each, and the rest are the items from `first` up to n, each once and in order
abbrev pub InOrder : ℕ → ℕ → List Part → Type 0
InOrder first n ps = let rest = rest_after first ps in
    flat_map (λ p. piece_of p ++ dropped_of p) ps ++ span rest (n - rest) ≡ span first (n - first)

-- only glue, kerns and penalties are dropped
abbrev pub OnlyDiscardable : List Item → List Part → Type 0
OnlyDiscardable items ps = AllByRecursion (λ p. AllByRecursion (λ x. is_discardable x ≡ true) (take p.dropped (drop (p.first + p.cut.place) items))) ps

-- what is refused: a table's length or the depth outside its limits, no content, and what content may not hold
abbrev pub split_refusal : List Item → ℕ → ℕ → ℕ → Option Refusal
split_refusal items heights depth room =
    cond (nat_lt 16384 (length items) || nat_lt most depth || nat_lt room heights) (Some (record { cause = Limits; offset = 0 }))
    (cond (length items == 0) (Some (record { cause = NoContent; offset = 0 })) (content_refusal items))

-- what a table of parts holds, and the answer, once a note is split
pub record SplitInto (items : List Item) (ws : List ℤ) (d : ℕ) (before after : List Part) (s : Split) : Type 0 where
  pub table : after ≡ parts_from items d 0 ws ++ drop s.count before
  pub count : s.count ≡ length (parts_from items d 0 ws)
  pub rest : s.rest ≡ rest_after 0 (parts_from items d 0 ws)

abbrev pub Answered : List Item → List ℤ → ℕ → List Part → List Part → Result Split Refusal → Type 0
Answered items ws d before after (Ok s) = (split_refusal items (length ws) d (length before) ≡ None) × SplitInto items ws d before after s
Answered items ws d before after (Err e) = (split_refusal items (length ws) d (length before) ≡ Some e) × (after ≡ before)
