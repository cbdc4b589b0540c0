-- Wherever a list of calls stops, nothing is lost.
use Rattle.std.proofs.Common.{ℕ, List}
use Rattle.policies.specs.Policies.{Rule}
use Rattle.calls.specs.Findings.{NothingLost}
use Rattle.calls.proofs.Holds.{run_holds}
use Rattle.calls.proofs.Finds.{found}

pub nothing_lost : (capacity : ℕ) {P : Type 0} (held : P → List ℕ) (rule : Rule P) → NothingLost capacity held rule
nothing_lost capacity held rule h s p r = found h s (held p) (run_holds capacity held rule r).inv
