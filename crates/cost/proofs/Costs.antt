-- No cost is above the most.
use Rattle.std.proofs.Common.{◌≡◌, ℕ, ◌<◌, Bool, true, false, cond, ◌||◌, eqb, ltb, ℤ, pos, ◌+ℤ◌, ◌≤ℤ◌, ◌<ℤ◌, refl, arith}
use lib.Signed.{le_z}
use borrow.Author.Differences.{ints}
use Rattle.std.proofs.lemmas.Bool.{ltb-true}
use Rattle.items.specs.Items.{most}
use Rattle.cost.specs.Cost.{break_cost, forced, forbidden}

sum_most : (f : ℕ) (p notes : ℤ) → p <ℤ forbidden → le_z (pos 10000) notes ≡ false → f < 10000 → (pos f +ℤ p +ℤ notes) ≤ℤ pos most
sum_most f p notes a b l = omega (arith, ints)

pub cost_most : (f : ℕ) (p notes : ℤ) → p <ℤ forbidden → break_cost f p notes ≤ℤ pos most
cost_most f p notes a = one (eqb f most) (le_z (pos 10000) notes) refl
  where
    three : (s : Bool) → ltb f 10000 ≡ s → le_z (pos 10000) notes ≡ false → cond s (pos f +ℤ p +ℤ notes) (pos 100000) ≤ℤ pos most
    three true e n = sum_most f p notes a n (ltb-true f 10000 e)
    three false e n = omega (arith, ints)

    two : (t : Bool) → le_z (pos 10000) notes ≡ false → cond t p (cond (ltb f 10000) (pos f +ℤ p +ℤ notes) (pos 100000)) ≤ℤ pos most
    two true n = omega (arith, ints)
    two false n = three (ltb f 10000) refl n

    one : (u v : Bool) → le_z (pos 10000) notes ≡ v →
        cond (u || v) (pos most) (cond (le_z p forced) p (cond (ltb f 10000) (pos f +ℤ p +ℤ notes) (pos 100000))) ≤ℤ pos most
    one true v e = omega (arith, ints)
    one false true e = omega (arith, ints)
    one false false e = two (le_z p forced) e
