-- Within the limits, one more item wraps no sum.
use Rattle.std.proofs.Common.{◌≡◌, ◌+◌, ◌^◌, ◌<◌, length, get_or, nat_abs, sym, ap, subst, arith, rules}
use Rattle.std.proofs.ByRecursion.{All-get_or}
use Rattle.cost.specs.declared.sums.Sums.{Sums}
use Rattle.cost.proofs.Within.{glue_within}
use Rattle.cost.proofs.sums.Sums.add.Goals as goal
use Rattle.cost.proofs.sums.Sums.add.Goals.{in-Box, in-Glue, in-Kern, in-Penalty}

abbrev Low : Sums → Type 0
Low s = nat_abs s.total < 2 ^ 62 + 2 ^ 33

pub overflow_add-self : goal.overflow_add-self
overflow_add-self c =
    let within = glue_within c.in-Glue.width c.in-Glue.stretch c.in-Glue.order c.in-Glue.shrink (rw c.in-Glue.is at c.requires.within) in
    let same : c.lower-in-Glue.new.self.stretch ≡ c.args.self.now.stretch = ap (λ (s : Sums). s.stretch) c.lower-in-Glue.ensures.after in
    let four : length c.args.self.now.stretch ≡ 4 = search rules in
    let low : get_or c.args.self.now.stretch c.in-Glue.order 0 < 2 ^ 62 = All-get_or (λ x. x < 2 ^ 62) c.args.self.now.stretch c.in-Glue.order 0 (omega arith) c.requires.roomy.stretch in
    record { fits = rw same (omega arith) }

pub cap-requires : goal.cap-requires
cap-requires c = elim c.match-item.branch [
  | in-Box w ↦ subst Low (sym w.self-is) w.lower.ensures.bound
  | in-Glue w ↦ subst Low (sym w.self-is) w.lower-in-Glue.ensures.bound
  | in-Kern w ↦ subst Low (sym w.self-is) w.lower-in-Kern.ensures.bound
  | in-Penalty w ↦ subst Low (sym w.self-is) (omega (arith, c.requires.roomy.total))
]
