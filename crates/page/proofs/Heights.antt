-- The part of a note before its break is not high, and the penalty there is small.
use Rattle.std.proofs.Common.{◌≡◌, ℕ, ◌+◌, ◌^◌, ◌≤◌, Bool, true, false, cond, List, [], ◌∷◌, ◌++◌, length, ℤ, nat_abs, IfSome, Some, None, Option, sym, subst, arith}
use lib.Signed.{le_z}
use borrow.Author.Differences.{ints}
use Rattle.std.specs.List.{AllByRecursion}
use Rattle.std.proofs.ByRecursion.{All-append}
use Rattle.std.proofs.lemmas.List.{length_push}
use Rattle.std.proofs.lemmas.List.Sums.{fold_push}
use Rattle.std.proofs.lemmas.Bool.Decides.{nat_tests}
use Rattle.items.specs.declared.Item.{Item}
use Rattle.items.specs.declared.Item.TheVariants.{Box, Glue, Kern, Penalty, Note}
use Rattle.items.specs.Items.{is_box, is_glue, within_limits}
use Rattle.cost.specs.Cost.{forbidden}
use Rattle.cost.specs.Sums.{none, weighed}
use Rattle.cost.proofs.Bounds.{Bounded, bounded_none, bounded_weighed}
use Rattle.notes.specs.declared.NoteBreak.{NoteBreak}
use Rattle.notes.specs.Break.{Within, last_is, first_is, free, unless_forbidden, note_penalty, sums_of, where_allowed, candidates, break_of}
use Rattle.notes.proofs.Places.{break_keeps}

-- a break that moves a page's numbers by little
pub record Modest (b : NoteBreak) : Type 0 where
  pub height : nat_abs b.height ≤ 2 ^ 46 + 2 ^ 30
  pub penalty : nat_abs b.penalty ≤ 10000

-- a penalty, where there is one, is small
abbrev pub Slight : Option ℤ → Type 0
Slight o = IfSome o (λ p. nat_abs p ≤ 10000)

pub free_slight : (b : Bool) → Slight (free b)
free_slight true = omega arith
free_slight false = tt

penalty_within : (v : ℤ) → within_limits (Penalty v) ≡ true → nat_abs v ≤ 10000
penalty_within v e = grind (arith, nat_tests)

pub unless_slight : (v : ℤ) → within_limits (Penalty v) ≡ true → Slight (unless_forbidden v)
unless_slight v e = go (le_z forbidden v)
  where
    go : (t : Bool) → Slight (cond t None (Some v))
    go true = tt
    go false = penalty_within v e

note_slight : (before after : List Item) → Within after → Slight (note_penalty before after)
note_slight before [] h = omega arith
note_slight before (Box a d ∷ after) h = tt
note_slight before (Glue g st o sh ∷ after) h = free_slight (last_is is_box before)
note_slight before (Kern g ∷ after) h = free_slight (first_is is_glue after)
note_slight before (Penalty v ∷ after) h = unless_slight v h.0
note_slight before (Note c n ∷ after) h = tt

module _ (w : ℤ) (d : ℕ) where
  allowed_modest : (before : List Item) (o : Option ℤ) → Bounded (length before) (sums_of d before) → length before ≤ 16384 → Slight o → AllByRecursion Modest (where_allowed w d before o)
  allowed_modest before None b l s = tt
  allowed_modest before (Some p) b l s = (record { height = omega (arith, ints, b.total, b.depth); penalty = s }, tt)

  candidates_modest : (before after : List Item) → Within after → Bounded (length before) (sums_of d before) → length before + length after ≤ 16384 → AllByRecursion Modest (candidates w d before after)
  candidates_modest before [] h b l = allowed_modest before (note_penalty before []) b (omega arith) (note_slight before [] h)
  candidates_modest before (x ∷ after) h b l =
      let n = length_push before x in
      let one : Bounded (length before + 1) (sums_of d (before ++ x ∷ [])) =
      subst (Bounded (length before + 1)) (sym (fold_push (weighed d) none before x)) (bounded_weighed (length before) d (sums_of d before) x h.0 b) in
      All-append Modest (where_allowed w d before (note_penalty before (x ∷ after))) _ (allowed_modest before (note_penalty before (x ∷ after)) b (omega arith) (note_slight before (x ∷ after) h))
      (candidates_modest (before ++ x ∷ []) after h.1 (subst (λ k. Bounded k (sums_of d (before ++ x ∷ []))) (sym n) one) (omega arith))

pub break_modest : (items : List Item) (w : ℤ) (d : ℕ) (b : NoteBreak) → Within items → length items ≤ 16384 → Some b ≡ break_of items w d → Modest b
break_modest items w d b h l e = subst (λ o. IfSome o Modest) (sym e) (break_keeps Modest items w d (candidates_modest w d [] items h bounded_none (omega arith)))
