-- The least-cost rule.
use Rattle.std.specs.Prelude.{Bool, true, false, cond, ℤ, pos, Some, None, Option, int_le}
use Rattle.std.specs.declared.ops.ControlFlow.{ControlFlow}
use Rattle.std.specs.declared.ops.ControlFlow.TheVariants.{Continue, Break}
use Rattle.items.specs.Items.{most}

-- for whatever has a cost: the least starts at the most, and a candidate at most as dear takes its place
abbrev pub least : {C : Type 0} → (C → ℤ) → Option C → C → Option C
least price None c = cond (int_le (price c) (pos most)) (Some c) None
least price (Some best) c = cond (int_le (price c) (price best)) (Some c) (Some best)

-- what a look at a candidate leaves of the search: the best so far, and whether the search is over
abbrev pub best_of : {C : Type 0} → ControlFlow C (Option C) → Option C
best_of (Continue best) = best
best_of (Break best) = Some best

abbrev pub is_over : {C : Type 0} → ControlFlow C (Option C) → Bool
is_over (Continue best) = false
is_over (Break best) = true
