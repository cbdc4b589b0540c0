-- The rows from a place on have the items from that place on, and give the part that a break splits off there.
use Rattle.std.proofs.Common.{◌≡◌, ℕ, ◌+◌, ◌-◌, ◌≤◌, true, List, length, take, drop, ℤ, Some, sym, ap, ◌∙◌, subst, arith}
use Rattle.std.proofs.ByRecursion.{All-drop}
use Rattle.std.specs.Option.{option_map}
use Rattle.std.specs.List.{prefix_len}
use Rattle.std.proofs.lemmas.List.{take_rest, drop-map, length-drop}
use Rattle.items.specs.declared.Row.{Row}
use Rattle.items.specs.Items.{items_of, is_discardable, within_limits}
use Rattle.notes.specs.declared.NoteBreak.{NoteBreak}
use Rattle.notes.specs.Break.{Within, break_of}
use Rattle.notes.specs.Split.{part_at, part_from}

pub items_of_rest : (rows rest : List Row) (first : ℕ) → rest ≡ drop first rows → items_of rest ≡ drop first (items_of rows)
items_of_rest rows rest first e = ap items_of e ∙ sym (drop-map (λ (r : Row). r.item) first rows)

module _ (rows : List Row) (first : ℕ) where
  pub rest_is : items_of (take (length rows - first) (drop first rows)) ≡ drop first (items_of rows)
  rest_is = items_of_rest rows _ first (take_rest rows first)

  pub rest_within : Within (items_of rows) → Within (items_of (take (length rows - first) (drop first rows)))
  rest_within h = subst Within (sym rest_is) (All-drop (λ x. within_limits x ≡ true) first (items_of rows) h)

  -- lengths within the rest, as lengths within the rows
  pub rest_length : length (take (length rows - first) (drop first rows)) ≡ length rows - first
  rest_length = ap length (take_rest rows first) ∙ length-drop first rows

  pub rest_short : length rows ≤ 16384 → length (take (length rows - first) (drop first rows)) ≤ 16384
  rest_short h = omega (arith, rest_length)

  pub part_splits : (rest after : List Row) (w : ℤ) (d : ℕ) (b : NoteBreak) (n : ℕ) → rest ≡ drop first rows → after ≡ drop (first + b.place) rows → Some b ≡ break_of (items_of rest) w d → n ≡ prefix_len is_discardable (items_of after) →
      Some (record { first = first; cut = b; dropped = n }) ≡ part_from (items_of rows) w d first
  part_splits rest after w d b n r a e m =
      let dropped : n ≡ prefix_len is_discardable (drop (first + b.place) (items_of rows)) = m ∙ ap (prefix_len is_discardable) (items_of_rest rows after (first + b.place) a) in
      let found : Some b ≡ break_of (drop first (items_of rows)) w d = e ∙ ap (λ xs. break_of xs w d) (items_of_rest rows rest first r) in
      ap (λ k. Some (record { first = first; cut = b; dropped = k })) dropped ∙ ap (option_map (part_at (items_of rows) first)) found
