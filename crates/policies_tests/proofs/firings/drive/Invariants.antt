-- No more are held than were fired.
use Rattle.std.proofs.Common.{◌≤◌, length}
use Rattle.policies_tests.proofs.firings.drive.Given as goal

abbrev pub invariant-loop-firing : goal.invariant-loop-firing
invariant-loop-firing g l = (length (g.P.Policy.held l.policy) ≤ l.fired) × (l.fired ≤ 2048)
