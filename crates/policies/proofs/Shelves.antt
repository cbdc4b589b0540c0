-- Of the named classes one has an item just where they have items at all.
use Rattle.std.proofs.Common.{◌≡◌, ℕ, Bool, true, false, nat_lt, ◌&&◌, List, [], ◌∷◌, arith}
use Rattle.std.specs.List.{list_any, zip}
use Rattle.std.proofs.lemmas.Bool.Decides.{nat_tests}
use Rattle.policies.specs.Policies.{named}

pub any_named : (classes : List Bool) (counts : List ℕ) → list_any (λ p. p.0 && nat_lt 0 p.1) (zip classes counts) ≡ nat_lt 0 (named classes counts)
any_named [] counts = grind (arith, nat_tests)
any_named (t ∷ ts) [] = grind (arith, nat_tests)
any_named (false ∷ ts) (n ∷ ns) = let h = any_named ts ns in grind (arith, nat_tests)
any_named (true ∷ ts) (n ∷ ns) = let h = any_named ts ns in grind (arith, nat_tests)
