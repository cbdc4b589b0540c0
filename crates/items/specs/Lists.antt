-- Words on lists.
use Rattle.std.specs.Prelude.{ℕ, zero, suc, Bool, cond, List, [], ◌∷◌}

-- n numbers, from a on
abbrev pub span : ℕ → ℕ → List ℕ
span a zero = []
span a (suc n) = a ∷ span (suc a) n

-- a list up to and with its first entry that passes a test
abbrev pub up_to : {A : Type 0} → (A → Bool) → List A → List A
up_to p [] = []
up_to p (x ∷ xs) = x ∷ cond (p x) [] (up_to p xs)
