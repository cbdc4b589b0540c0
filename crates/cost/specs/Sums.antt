-- What a list of items comes to, and how that fits a goal.
use Rattle.std.specs.Prelude.{ℕ, ◌+◌, ◌-◌, ◌^◌, ◌<◌, Bool, cond, not, List, [], ◌∷◌, ℤ, pos, ◌+ℤ◌, ◌-ℤ◌, ◌==◌, int_lt, nat_lt, slice_index, slice_set, unsigned_abs}
use Rattle.std.specs.List.{AllByRecursion}
use Rattle.items.specs.declared.Item.{Item}
use Rattle.items.specs.declared.Item.TheVariants.{Box, Glue, Kern, Penalty, Note}
use Rattle.items.specs.Items.{most}
use Rattle.cost.specs.declared.sums.Sums.{Sums}
use Rattle.cost.specs.Cost.{badness}

abbrev pub none : Sums
none = record { total = pos 0; depth = 0; stretch = 0 ∷ 0 ∷ 0 ∷ 0 ∷ []; shrink = 0 }

abbrev pub below : Sums → ℤ → ℕ → Sums
below s height depth = record { total = s.total +ℤ pos s.depth +ℤ height; depth = depth; stretch = s.stretch; shrink = s.shrink }

abbrev pub giving : Sums → ℕ → ℕ → ℕ → Sums
giving s st o sh = record { total = s.total; depth = s.depth; stretch = slice_set s.stretch o (slice_index s.stretch o + st); shrink = s.shrink + sh }

abbrev pub set_below : Sums → Item → Sums
set_below s (Box h d) = below s (pos h) d
set_below s (Glue w st o sh) = giving (below s w 0) st o sh
set_below s (Kern w) = below s w 0
set_below s (Penalty v) = s
set_below s (Note c n) = s

-- depth above d goes over to the total
abbrev pub capped : ℕ → Sums → Sums
capped d s = cond (nat_lt d s.depth) (record { total = s.total +ℤ pos (s.depth - d); depth = d; stretch = s.stretch; shrink = s.shrink }) s

-- one more item below the others, where depths are at most d
abbrev pub weighed : ℕ → Sums → Item → Sums
weighed d s x = capped d (set_below s x)

-- one more item cannot wrap any of the sums
pub record Roomy (s : Sums) : Type 0 where
  pub total : unsigned_abs s.total < 2 ^ 62
  pub stretch : AllByRecursion (λ x. x < 2 ^ 62) s.stretch
  pub shrink : s.shrink < 2 ^ 62

-- there is stretch of a higher order than the lowest
abbrev pub endless : List ℕ → Bool
endless stretch = not (slice_index stretch 1 + slice_index stretch 2 + slice_index stretch 3 == 0)

-- how well the sums fit a goal
abbrev pub fit_of : ℤ → Sums → ℕ
fit_of goal s = let gap = unsigned_abs (goal -ℤ s.total) in
    cond (int_lt s.total goal)
    (cond (endless s.stretch) 0 (badness gap (slice_index s.stretch 0)))
    (cond (nat_lt s.shrink gap) most (badness gap s.shrink))
