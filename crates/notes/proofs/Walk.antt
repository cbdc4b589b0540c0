-- A look at one place leaves the walk one place on, or at the note's break.
use Rattle.std.proofs.Common.{◌≡◌, ℕ, suc, ◌+◌, ◌^◌, ◌≤◌, Bool, true, false, cond, List, [], ◌∷◌, ◌++◌, length, take, drop, ℤ, pos, ◌<ℤ◌, Some, None, fold, Option, sym, refl, ap, ◌∙◌, subst, add-zero, arith}
use lib.Signed.{le_z}
use borrow.Author.Differences.{ints}
use Rattle.std.proofs.lemmas.List.{length-take-le, drop_all}
use Rattle.std.proofs.ByRecursion.{All-take}
use Rattle.std.proofs.lemmas.Bool.{or_right}
use Rattle.items.specs.declared.Item.{Item}
use Rattle.items.specs.declared.Item.TheVariants.{Box, Glue, Kern, Penalty, Note}
use Rattle.items.specs.Items.{most, is_box, is_glue, within_limits}
use Rattle.cost.specs.declared.sums.Sums.{Sums}
use Rattle.cost.specs.Cost.{forced, forbidden}
use Rattle.cost.specs.Sums.{Roomy, none, weighed}
use Rattle.cost.specs.Least.{least}
use Rattle.cost.proofs.Bounds.{Bounded, bounded_none, bounded_weighed, bounded_roomy}
use Rattle.notes.specs.declared.column.Column.{Column}
use Rattle.notes.specs.declared.NoteBreak.{NoteBreak}
use Rattle.notes.specs.Break.{Within, last_is, first_is, free, unless_forbidden, note_penalty, sums_of, break_with, break_after, candidates, ends, best_of, break_of}
use Rattle.notes.specs.Walk.{Summed, Walked}

abbrev pub price : NoteBreak → ℤ
price b = b.cost

-- the penalty of a place, where there is one, does not forbid a break
free_allowed : (b : Bool) (p : ℤ) → free b ≡ Some p → p <ℤ forbidden
free_allowed true p e = let f : p ≡ pos 0 = cc in omega (arith, ints)
free_allowed false p e = let z : ◌≡◌ {A = ℕ} 0 1 = cc in absurd (omega arith)

unless_allowed : (v p : ℤ) → unless_forbidden v ≡ Some p → p <ℤ forbidden
unless_allowed v p e = go (le_z forbidden v) refl e
  where
    go : (t : Bool) → le_z forbidden v ≡ t → cond t None (Some v) ≡ Some p → p <ℤ forbidden
    go true f e = let z : ◌≡◌ {A = ℕ} 0 1 = cc in absurd (omega arith)
    go false f e = let g : p ≡ v = cc in omega (arith, ints)

pub note_allowed : (before after : List Item) (p : ℤ) → note_penalty before after ≡ Some p → p <ℤ forbidden
note_allowed before [] p e = let f : p ≡ forced = cc in omega (arith, ints)
note_allowed before (Box h d ∷ after) p e = let z : ◌≡◌ {A = ℕ} 0 1 = cc in absurd (omega arith)
note_allowed before (Glue w st o sh ∷ after) p e = free_allowed (last_is is_box before) p e
note_allowed before (Kern w ∷ after) p e = free_allowed (first_is is_glue after) p e
note_allowed before (Penalty v ∷ after) p e = unless_allowed v p e
note_allowed before (Note c n ∷ after) p e = let z : ◌≡◌ {A = ℕ} 0 1 = cc in absurd (omega arith)

-- one more candidate, which does not end the search, or does
more : (best : Option NoteBreak) (b : NoteBreak) (bs : List NoteBreak) → ends b ≡ false → best_of best (b ∷ bs) ≡ best_of (least price best b) bs
more best b bs e = rw e refl

last : (best : Option NoteBreak) (b : NoteBreak) (bs : List NoteBreak) → ends b ≡ true → best_of best (b ∷ bs) ≡ least price best b
last best b bs e = rw e refl

module _ (w : ℤ) (d : ℕ) (before : List Item) (best : Option NoteBreak) where
  pub passed : (x : Item) (after : List Item) → note_penalty before (x ∷ after) ≡ None → best_of best (candidates w d before (x ∷ after)) ≡ best_of best (candidates w d (before ++ x ∷ []) after)
  passed x after e = rw e refl

  module _ (x : Item) (after : List Item) (p : ℤ) (now : Option NoteBreak) (e : note_penalty before (x ∷ after) ≡ Some p) (is : now ≡ least price best (break_after w d before p)) where
    pub looked : ends (break_after w d before p) ≡ false → best_of best (candidates w d before (x ∷ after)) ≡ best_of now (candidates w d (before ++ x ∷ []) after)
    looked s =
        let rest = candidates w d (before ++ x ∷ []) after in
        rw e (more best (break_after w d before p) rest s ∙ ap (λ o. best_of o rest) (sym is))

    pub stopped : ends (break_after w d before p) ≡ true → now ≡ best_of best (candidates w d before (x ∷ after))
    stopped s = rw e (is ∙ sym (last best (break_after w d before p) (candidates w d (before ++ x ∷ []) after) s))

  pub ended : (now : Option NoteBreak) → now ≡ least price best (break_after w d before forced) → now ≡ best_of best (candidates w d before [])
  ended now is = is ∙ sym (last best (break_after w d before forced) [] (or_right (le_z (pos most) (break_after w d before forced).cost) true refl))

-- the sums of the items before a place are small
sums_bounded : (d n : ℕ) (s : Sums) (xs : List Item) → Within xs → Bounded n s → Bounded (n + length xs) (fold (weighed d) s xs)
sums_bounded d n s [] h b = rw add-zero b
sums_bounded d n s (x ∷ xs) h b =
    let e : n + 1 + length xs ≡ n + suc (length xs) = omega arith in
    subst (λ m. Bounded m (fold (weighed d) s (x ∷ xs))) e (sums_bounded d (n + 1) (weighed d s x) xs h.1 (bounded_weighed n d s x h.0 b))

module _ (items : List Item) (c : Column) (k : ℕ) (l : k ≤ length items) where
  pub summed_roomy : (s : Sums) → Within items → length items ≤ 16384 → Summed items c k s → Roomy s
  summed_roomy s h m e =
      let b = sums_bounded c.depth 0 none (take k items) (All-take (λ x. within_limits x ≡ true) k items h) bounded_none in
      let n : 0 + length (take k items) ≤ 2 ^ 29 = omega (arith, length-take-le k items l) in
      subst Roomy (sym e) (bounded_roomy (0 + length (take k items)) (sums_of c.depth (take k items)) n b)

  here_is : (s : Sums) (p : ℤ) → Summed items c k s → break_with c.height k s p ≡ break_after c.height c.depth (take k items) p
  here_is s p e = ap (λ t. break_with c.height k t p) e ∙ ap (λ n. break_with c.height n (sums_of c.depth (take k items)) p) (sym (length-take-le k items l))

  module _ (s : Sums) (best : Option NoteBreak) (e : Summed items c k s) (w : Walked items c k best) where
    least_is : (p : ℤ) (now : Option NoteBreak) → now ≡ least price best (break_with c.height k s p) → now ≡ least price best (break_after c.height c.depth (take k items) p)
    least_is p now is = is ∙ ap (least price best) (here_is s p e)

    pub walk_ends : (now : Option NoteBreak) → length items ≤ k → now ≡ least price best (break_with c.height k s forced) → now ≡ break_of items c.height c.depth
    walk_ends now m is =
        ended c.height c.depth (take k items) best now (least_is forced now is) ∙
        ap (λ a. best_of best (candidates c.height c.depth (take k items) a)) (sym (drop_all k items m)) ∙ sym w

    module _ (x : Item) (takes : take (k + 1) items ≡ take k items ++ x ∷ []) (drops : drop k items ≡ x ∷ drop (k + 1) items) where
      -- the place before x, as the definition has it
      at_x : (o : Option ℤ) → o ≡ note_penalty (take k items) (drop k items) → note_penalty (take k items) (x ∷ drop (k + 1) items) ≡ o
      at_x o q = sym (q ∙ ap (note_penalty (take k items)) drops)

      left_is : break_of items c.height c.depth ≡ best_of best (candidates c.height c.depth (take k items) (x ∷ drop (k + 1) items))
      left_is = w ∙ ap (λ a. best_of best (candidates c.height c.depth (take k items) a)) drops

      on : (best' : Option NoteBreak) →
          best_of best (candidates c.height c.depth (take k items) (x ∷ drop (k + 1) items)) ≡
          best_of best' (candidates c.height c.depth (take k items ++ x ∷ []) (drop (k + 1) items)) →
          Walked items c (k + 1) best'
      on best' q = left_is ∙ q ∙ ap (λ b. best_of best' (candidates c.height c.depth b (drop (k + 1) items))) (sym takes)

      pub walk_passes : None ≡ note_penalty (take k items) (drop k items) → Walked items c (k + 1) best
      walk_passes q = on best (passed c.height c.depth (take k items) best x (drop (k + 1) items) (at_x None q))

      module _ (p : ℤ) (now : Option NoteBreak) (q : Some p ≡ note_penalty (take k items) (drop k items)) (is : now ≡ least price best (break_with c.height k s p)) where
        pub walk_looks : false ≡ ends (break_with c.height k s p) → Walked items c (k + 1) now
        walk_looks t =
            on now
            (looked c.height c.depth (take k items) best x (drop (k + 1) items) p now (at_x (Some p) q) (least_is p now is) (sym (t ∙ ap ends (here_is s p e))))

        pub walk_stops : true ≡ ends (break_with c.height k s p) → now ≡ break_of items c.height c.depth
        walk_stops t =
            stopped c.height c.depth (take k items) best x (drop (k + 1) items) p now (at_x (Some p) q) (least_is p now is) (sym (t ∙ ap ends (here_is s p e))) ∙ sym left_is
