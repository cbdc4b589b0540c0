-- The parts of a split note are its items in order, and only glue, kerns and penalties are dropped.
use Rattle.std.proofs.Common.{◌≡◌, ℕ, zero, suc, ◌+◌, ◌-◌, ◌≤◌, Bool, true, false, cond, ltb, List, [], ◌∷◌, ◌++◌, length, take, drop, ℤ, Some, None, Option, sym, refl, ap, ◌∙◌, subst, add-zero, zero-add, arith}
use Rattle.std.specs.Option.{option_map}
use Rattle.std.specs.List.{AllByRecursion}
use Rattle.std.proofs.lemmas.List.{append_assoc, length-drop}
use Rattle.std.proofs.lemmas.List.Sums.{prefix_len-le-length}
use Rattle.items.proofs.Contents.{leading_passes}
use Rattle.items.specs.declared.Item.{Item}
use Rattle.items.specs.Lists.{span}
use Rattle.items.specs.Items.{is_discardable}
use Rattle.notes.specs.declared.NoteBreak.{NoteBreak}
use Rattle.notes.specs.declared.split.Part.{Part}
use Rattle.notes.specs.Break.{break_of}
use Rattle.notes.specs.Split.{piece_of, dropped_of, end_of, part_at, part_from, parts_from, InOrder, OnlyDiscardable}
use Rattle.notes.proofs.Places.{break_within}

-- a part of the items from `first` on
pub record Fair (items : List Item) (first : ℕ) (p : Part) : Type 0 where
  pub begins : p.first ≡ first
  pub ends : end_of p ≤ length items
  pub dropped : AllByRecursion (λ x. is_discardable x ≡ true) (take p.dropped (drop (p.first + p.cut.place) items))

span_append : (a m n : ℕ) → span a (m + n) ≡ span a m ++ span (a + m) n
span_append a zero n = rw (zero-add n, add-zero a)
span_append a (suc m) n =
    let e : suc m + n ≡ suc (m + n) = omega arith in
    let f : a + suc m ≡ suc a + m = omega arith in
    rw (e, f) (ap (λ xs. a ∷ xs) (span_append (suc a) m n))

module _ (items : List Item) (d : ℕ) where
  fair : (first : ℕ) (w : ℤ) (p : Part) → first ≤ length items → Some p ≡ part_from items w d first → Fair items first p
  fair first w p l e = go (break_of (drop first items) w d) refl e
    where
      go : (o : Option NoteBreak) → break_of (drop first items) w d ≡ o → Some p ≡ option_map (part_at items first) o → Fair items first p
      go None f e = let z : ◌≡◌ {A = ℕ} 0 1 = cc in absurd (omega arith)
      go (Some b) f e =
          let s : p ≡ part_at items first b = cc in
          let k = break_within (drop first items) w d b (sym f) in
          subst (Fair items first) (sym s) (record {
            begins = refl;
            ends = omega (arith, length-drop first items, prefix_len-le-length is_discardable (drop (first + b.place) items), length-drop (first + b.place) items);
            dropped = leading_passes is_discardable (drop (first + b.place) items);
          })

  -- what holds of no part, and of one more in front, holds of the parts of a split
  module _ (P : ℕ → List Part → Type 0) (none : (first : ℕ) → P first []) (more : (first : ℕ) (p : Part) (ps : List Part) → Fair items first p → P (end_of p) ps → P first (p ∷ ps)) where
    parts_all : (first : ℕ) (ws : List ℤ) → first ≤ length items → P first (parts_from items d first ws)
    parts_all first [] l = none first
    parts_all first (w ∷ ws) l = go (ltb first (length items)) (part_from items w d first) refl (λ p m. parts_all (end_of p) ws m)
      where
        go : (t : Bool) (o : Option Part) → part_from items w d first ≡ o → ((p : Part) → end_of p ≤ length items → P (end_of p) (parts_from items d (end_of p) ws)) →
            P first (cond t (elim o as (λ _. List Part) [ None ↦ [] | Some p ↦ p ∷ parts_from items d (end_of p) ws ]) [])
        go false o e h = none first
        go true None e h = none first
        go true (Some p) e h = let f = fair first w p l (sym e) in more first p (parts_from items d (end_of p) ws) f (h p f.ends)

  pub parts_in_order : (first : ℕ) (ws : List ℤ) → first ≤ length items → InOrder first (length items) (parts_from items d first ws)
  parts_in_order = parts_all (λ first ps. InOrder first (length items) ps) (λ first. refl) more
    where
      more : (first : ℕ) (p : Part) (ps : List Part) → Fair items first p → InOrder (end_of p) (length items) ps → InOrder first (length items) (p ∷ ps)
      more first p ps f h =
          let left = length items - end_of p in
          let e : length items - first ≡ p.cut.place + (p.dropped + left) = omega (arith, f.begins, f.ends) in
          let whole : span first (length items - first) ≡ piece_of p ++ (dropped_of p ++ span (end_of p) left) =
          ap (span first) e ∙ ap (λ a. span a (p.cut.place + (p.dropped + left))) (sym f.begins) ∙ span_append p.first p.cut.place (p.dropped + left) ∙
          ap (λ xs. piece_of p ++ xs) (span_append (p.first + p.cut.place) p.dropped left) in
          simp append_assoc (ap (λ xs. piece_of p ++ (dropped_of p ++ xs)) h ∙ sym whole)

  pub parts_drop_discardable : (first : ℕ) (ws : List ℤ) → first ≤ length items → OnlyDiscardable items (parts_from items d first ws)
  parts_drop_discardable = parts_all (λ first ps. OnlyDiscardable items ps) (λ first. tt) (λ first p ps f h. (f.dropped, h))
