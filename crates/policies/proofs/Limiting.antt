-- How the limiter asks and acts.
use Rattle.std.proofs.lemmas.List.{length-append}
use Rattle.policies.specs.Policies.{asks, acts}

pub ruleset limiting = (asks, acts, length-append)
