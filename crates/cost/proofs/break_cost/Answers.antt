-- A break that fits, is not ordered and meets no forbidding notes costs the sum of the three.
use Rattle.std.proofs.Common.{◌≡◌, ℕ, ◌<◌, true, false, eqb, ltb, ℤ, pos, ◌+ℤ◌, arith}
use lib.Signed.{le_z}
use borrow.Author.Differences.{ints}
use Rattle.std.proofs.lemmas.Bool.{ne_eqb, lt-ltb}
use Rattle.std.proofs.lemmas.Int.{to_z-of_z}
use Rattle.items.specs.Items.{most}
use Rattle.cost.specs.Cost.{break_cost, forced}
use Rattle.cost.proofs.break_cost.Goals as goal

summed : (f : ℕ) (p n : ℤ) → le_z (pos 10000) n ≡ false → le_z p forced ≡ false → f < 10000 → break_cost f p n ≡ pos f +ℤ p +ℤ n
summed f p n a b l =
    let e : eqb f most ≡ false = ne_eqb f most (λ q. omega arith) in
    let h : ltb f 10000 ≡ true = lt-ltb f 10000 l in
    simp (e, a, b, h)

pub returns-then-fit-lt-WORST : goal.returns-then-fit-lt-WORST
returns-then-fit-lt-WORST c =
    let f = c.ranges.penalty in
    let g = c.ranges.notes in
    let h : le_z (pos 10000) c.args.notes ≡ false = grind (arith, ints) in
    rw (summed c.args.fit c.args.penalty c.args.notes h (simp to_z-of_z at c.if-penalty.false) c.if-fit-lt-WORST.true) (omega (arith, ints))
