-- A split under way: the parts so far, and what is left, give the whole split.
use Rattle.std.proofs.Common.{◌≡◌, ℕ, ◌+◌, ◌<◌, ◌≤◌, true, false, ltb, ◌⊎◌, List, [], ◌∷◌, ◌++◌, length, get_or, take, drop, set, ℤ, pos, Some, sym, refl, ap, ◌∙◌, inl, inr, ⊎_elim, arith}
use Rattle.std.proofs.lemmas.List.{append-nil, append_assoc, take-append-drop, take_more_set, length-take-le, length-drop, drop_more, drop-drop, drop-set-lt}
use Rattle.std.proofs.lemmas.Bool.{lt-ltb, le-ltb}
use Rattle.items.specs.declared.Item.{Item}
use Rattle.notes.specs.declared.split.Part.{Part}
use Rattle.notes.specs.declared.split.Split.{Split}
use Rattle.notes.specs.Split.{end_of, part_from, parts_from, rest_after, SplitInto}

pub record Splitting (items : List Item) (ws : List ℤ) (d : ℕ) (before after : List Part) (s : Split) : Type 0 where
  pub count : s.count ≤ length ws
  pub rest : s.rest ≤ length items
  pub made : parts_from items d 0 ws ≡ take s.count after ++ parts_from items d s.rest (drop s.count ws)
  pub kept : drop s.count after ≡ drop s.count before
  pub resting : rest_after 0 (take s.count after) ≡ s.rest

rest_after_push : (first : ℕ) (ps : List Part) (p : Part) → rest_after first (ps ++ p ∷ []) ≡ end_of p
rest_after_push first [] p = refl
rest_after_push first (q ∷ ps) p = rest_after_push (end_of q) ps p

module _ (items : List Item) (d first : ℕ) where
  parts_more : (w : ℤ) (ws : List ℤ) (p : Part) → first < length items → Some p ≡ part_from items w d first → parts_from items d first (w ∷ ws) ≡ p ∷ parts_from items d (end_of p) ws
  parts_more w ws p l e =
      let t : ltb first (length items) ≡ true = lt-ltb first (length items) l in
      rw (t, sym e)

  parts_over : (ws : List ℤ) → (length items ≤ first) ⊎ (length ws ≡ 0) → parts_from items d first ws ≡ []
  parts_over [] h = refl
  parts_over (w ∷ ws) (inl l) = let t : ltb first (length items) ≡ false = le-ltb first (length items) l in rw t
  parts_over (w ∷ ws) (inr e) = absurd (omega arith)

module _ (items : List Item) (ws : List ℤ) (d : ℕ) (before after : List Part) (s : Split) (h : Splitting items ws d before after s) (long : length after ≡ length before) (room : length ws ≤ length before) where
  pub splitting_more : (p : Part) → s.count < length ws → s.rest < length items → end_of p ≤ length items → Some p ≡ part_from items (get_or ws s.count (pos 0)) d s.rest →
      Splitting items ws d before (set after s.count p) (record { count = s.count + 1; rest = end_of p })
  splitting_more p l m f e =
      let n = s.count in
      let left = parts_from items d (end_of p) (drop (n + 1) ws) in
      let taken : take (n + 1) (set after n p) ≡ take n after ++ p ∷ [] = take_more_set after n p (omega (arith, h.count)) in
      record {
        count = omega arith;
        rest = f;
        made =
            h.made ∙ ap (λ xs. take n after ++ parts_from items d s.rest xs) (drop_more ws n (pos 0) l) ∙
            ap (λ ps. take n after ++ ps) (parts_more items d s.rest (get_or ws n (pos 0)) (drop (n + 1) ws) p m e) ∙
            sym (append_assoc (take n after) (p ∷ []) left) ∙ ap (λ ps. ps ++ left) (sym taken);
        kept = drop-set-lt (n + 1) after n p (omega arith) ∙ sym (drop-drop 1 n after) ∙ ap (drop 1) h.kept ∙ drop-drop 1 n before;
        resting = ap (rest_after 0) taken ∙ rest_after_push 0 (take n after) p;
      }

  pub splitting_all : (length items ≤ s.rest) ⊎ (length ws ≤ s.count) → SplitInto items ws d before after s
  splitting_all o =
      let n = s.count in
      let over : (length items ≤ s.rest) ⊎ (length (drop n ws) ≡ 0) = ⊎_elim inl (λ (l : length ws ≤ n). inr (simp length-drop (omega arith))) o in
      let parts : parts_from items d 0 ws ≡ take n after =
      h.made ∙ ap (λ ps. take n after ++ ps) (parts_over items d s.rest (drop n ws) over) ∙ append-nil (take n after) in
      record {
        table = sym (take-append-drop n after) ∙ ap (λ ps. ps ++ drop n after) (sym parts) ∙ ap (λ ps. parts_from items d 0 ws ++ ps) h.kept;
        count = sym (ap length parts ∙ length-take-le n after (omega (arith, h.count)));
        rest = sym (ap (rest_after 0) parts ∙ h.resting);
      }
