-- The items so far are copied.
use Rattle.std.proofs.Common.{◌≡◌, take}
use Rattle.policies.proofs.paired.judging.begin.Given as goal

abbrev pub invariant-loop-k : goal.invariant-loop-k
invariant-loop-k g l = l.column.items ≡ take l.k (g.P.Policy.held l.below)
