-- What is not refused may be split, and the table then holds the parts.
use Rattle.std.proofs.Common.{◌≡◌, ℕ, ◌≤◌, ◌||◌, eqb, ltb, List, length, take, ℤ, None, Option, sym, ap, ◌∙◌, subst, arith}
use Rattle.std.proofs.lemmas.List.{length-map, take_at}
use Rattle.std.proofs.lemmas.Bool.{ltb-false, or_parts}
use Rattle.items.specs.declared.refusals.Refusal.{Refusal}
use Rattle.items.specs.declared.Item.{Item}
use Rattle.items.specs.declared.Row.{Row}
use Rattle.items.specs.Items.{items_of, most}
use Rattle.notes.specs.declared.split.Part.{Part}
use Rattle.notes.specs.declared.split.Split.{Split}
use Rattle.notes.specs.Break.{Within}
use Rattle.notes.specs.Split.{split_refusal, parts_from, SplitInto, InOrder, OnlyDiscardable}
use Rattle.items.proofs.Contents.{passed, all_within}
use Rattle.notes.proofs.Parts.{parts_in_order, parts_drop_discardable}

pub record Accepted (items : List Item) (heights room : ℕ) : Type 0 where
  pub short : length items ≤ 16384
  pub fits : heights ≤ room
  pub within : Within items

accepted : (items : List Item) (heights depth room : ℕ) → split_refusal items heights depth room ≡ None → Accepted items heights room
accepted items heights depth room e =
    let limits = passed (ltb 16384 (length items) || ltb most depth || ltb room heights) _ _ e in
    let some = passed (eqb (length items) 0) _ _ limits.1 in
    let o = or_parts (ltb 16384 (length items) || ltb most depth) (ltb room heights) limits.0 in
    let p = or_parts (ltb 16384 (length items)) (ltb most depth) o.0 in
    record {
      short = ltb-false 16384 (length items) p.0;
      fits = ltb-false room heights o.1;
      within = all_within items some.1;
    }

module _ (rows : List Row) (heights depth room : ℕ) (o : Option Refusal) (is : o ≡ split_refusal (items_of rows) heights depth room) (none : o ≡ None) where
  pub accepted_rows : Accepted (items_of rows) heights room
  accepted_rows = accepted (items_of rows) heights depth room (sym is ∙ none)

  pub short_rows : length rows ≤ 16384
  short_rows = simp length-map at accepted_rows.short

module _ (rows : List Row) (ws : List ℤ) (d : ℕ) (before after : List Part) (s : Split) (h : SplitInto (items_of rows) ws d before after s) where
  parts_are : take s.count after ≡ parts_from (items_of rows) d 0 ws
  parts_are = ap (take s.count) h.table ∙ take_at (parts_from (items_of rows) d 0 ws) _ s.count (sym h.count)

  pub split_in_order : InOrder 0 (length rows) (take s.count after)
  split_in_order =
      subst (λ n. InOrder 0 n (take s.count after)) (length-map rows (λ (r : Row). r.item))
      (subst (InOrder 0 (length (items_of rows))) (sym parts_are) (parts_in_order (items_of rows) d 0 ws (omega arith)))

  pub split_drops_discardable : OnlyDiscardable (items_of rows) (take s.count after)
  split_drops_discardable = subst (OnlyDiscardable (items_of rows)) (sym parts_are) (parts_drop_discardable (items_of rows) d 0 ws (omega arith))
