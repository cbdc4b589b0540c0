-- The gap is the distance between total and goal, and the code's tests are those of the definition.
use Rattle.std.proofs.Common.{◌≡◌, ℕ, ◌^◌, ◌<◌, ◌≤◌, true, false, ltb, get_or, ℤ, ◌-ℤ◌, nat_abs, sym, ap, ◌∙◌, arith, w64, SFits, rules}
use lib.Signed.{lt_z}
use borrow.Author.Differences.{ints}
use Rattle.std.proofs.lemmas.Bool.{le-ltb}
use Rattle.std.proofs.lemmas.Int.{to_z-of_z}
use Rattle.cost.specs.declared.sums.Sums.{Sums}
use Rattle.cost.specs.Cost.{badness}
use Rattle.cost.specs.Sums.{endless, fit_of}
use Rattle.cost.proofs.sums.Sums.fit.Goals as goal

module _ (goal : ℤ) (s : Sums) (gap r : ℕ) (is : gap ≡ nat_abs (goal -ℤ s.total)) where
  stretched : lt_z s.total goal ≡ true → endless s.stretch ≡ false → r ≡ badness gap (get_or s.stretch 0 0) → r ≡ fit_of goal s
  stretched a b e = e ∙ ap (λ x. badness x (get_or s.stretch 0 0)) is ∙ sym (simp (a, b))

  shrunk : lt_z s.total goal ≡ false → gap ≤ s.shrink → r ≡ badness gap s.shrink → r ≡ fit_of goal s
  shrunk a b e = let f : ltb s.shrink (nat_abs (goal -ℤ s.total)) ≡ false = le-ltb s.shrink _ (omega arith) in
      e ∙ ap (λ x. badness x s.shrink) is ∙ sym (simp (a, f))

apart : (goal total : ℤ) → nat_abs goal < 2 ^ 62 → nat_abs total < 2 ^ 62 → SFits w64 (goal -ℤ total)
apart goal total g t = omega (arith, ints)

pub returns-else-endless : goal.returns-else-endless
returns-else-endless c =
    let f = c.ranges.goal in
    let g : SFits w64 c.args.self.now.total = search rules in
    let h = apart c.args.goal c.args.self.now.total c.requires.goal c.requires.total in
    stretched c.args.goal c.args.self.now c.unsigned_abs-gap.result c.badness.result
    (simp to_z-of_z at c.unsigned_abs-gap.ensures.value) (simp to_z-of_z at c.if-self-goal.true) (sym c.if-endless.ensures) c.badness.ensures.value

pub returns-else-gap-self : goal.returns-else-gap-self
returns-else-gap-self c =
    let f = c.ranges.goal in
    let g : SFits w64 c.args.self.now.total = search rules in
    let h = apart c.args.goal c.args.self.now.total c.requires.goal c.requires.total in
    shrunk c.args.goal c.args.self.now c.unsigned_abs-gap.result c.badness-else-gap-self.result
    (simp to_z-of_z at c.unsigned_abs-gap.ensures.value) (simp to_z-of_z at c.if-self-goal.false) (omega arith) c.badness-else-gap-self.ensures.value
