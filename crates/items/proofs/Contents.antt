-- Content of which nothing is refused holds no note, and its values are within their limits.
use Rattle.std.proofs.Common.{◌≡◌, ℕ, suc, ◌+◌, Bool, true, false, cond, not, ltb, List, [], ◌∷◌, length, take, Some, None, Option, refl, subst, arith}
use Rattle.std.specs.List.{prefix_len, AllByRecursion}
use Rattle.std.proofs.ByRecursion.{All-weaker}
use Rattle.std.proofs.lemmas.List.{take_all}
use Rattle.std.proofs.lemmas.Bool.{ltb-false, not-true}
use Rattle.items.specs.declared.Item.{Item}
use Rattle.items.specs.declared.refusals.Cause.{Cause}
use Rattle.items.specs.declared.refusals.Cause.TheVariants.{Nested, Value}
use Rattle.items.specs.declared.refusals.Refusal.{Refusal}
use Rattle.items.specs.Items.{is_note, within_limits}
use Rattle.items.specs.Refusals.{refused_after, content_refusal}

pub leading_passes : {A : Type 0} (p : A → Bool) (xs : List A) → AllByRecursion (λ x. p x ≡ true) (take (prefix_len p xs) xs)
leading_passes p [] = tt
leading_passes p (x ∷ xs) = go (p x) refl (leading_passes p xs)
  where
    go : (t : Bool) → p x ≡ t → AllByRecursion (λ y. p y ≡ true) (take (prefix_len p xs) xs) → AllByRecursion (λ y. p y ≡ true) (take (cond t (1 + prefix_len p xs) 0) (x ∷ xs))
    go true e h = let f : 1 + prefix_len p xs ≡ suc (prefix_len p xs) = omega arith in rw f (e, h)
    go false e h = tt

-- nothing is refused: the test failed, and nothing later is refused
pub passed : (t : Bool) (r : Refusal) (o : Option Refusal) → cond t (Some r) o ≡ None → (t ≡ false) × (o ≡ None)
passed true r o e = let z : ◌≡◌ {A = ℕ} 0 1 = cc in absurd (omega arith)
passed false r o e = (refl, e)

all_pass_test : (p : Item → Bool) (items : List Item) (cause : Cause) (o : Option Refusal) → refused_after cause (prefix_len p items) items o ≡ None → AllByRecursion (λ x. p x ≡ true) items × (o ≡ None)
all_pass_test p items cause o e =
    let h = passed (ltb (prefix_len p items) (length items)) _ o e in
    (subst (AllByRecursion (λ x. p x ≡ true)) (take_all (prefix_len p items) items (ltb-false _ _ h.0)) (leading_passes p items), h.1)

module _ (items : List Item) (none : content_refusal items ≡ None) where
  parts : AllByRecursion (λ x. not (is_note x) ≡ true) items × (refused_after Value (prefix_len within_limits items) items None ≡ None)
  parts = all_pass_test (λ x. not (is_note x)) items Nested _ none

  pub no_notes : AllByRecursion (λ x. is_note x ≡ false) items
  no_notes = All-weaker (λ x. not (is_note x) ≡ true) (λ x. is_note x ≡ false) (λ x e. not-true (is_note x) e) items parts.0

  pub all_within : AllByRecursion (λ x. within_limits x ≡ true) items
  all_within = (all_pass_test within_limits items Value None parts.1).0
