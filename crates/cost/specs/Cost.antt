-- What a break costs.
use Rattle.std.specs.Prelude.{◌≡◌, ℕ, ◌+◌, ◌*◌, ◌/◌, Bool, cond, ◌||◌, List, [], ◌∷◌, map, ℤ, pos, negsuc, ◌+ℤ◌, ◌==◌, int_le, nat_le, nat_lt}
use Rattle.items.specs.Items.{most}

-- the penalty that orders a break, and the one that forbids it
abbrev pub forced : ℤ
forced = negsuc 9999

abbrev pub forbidden : ℤ
forbidden = pos 10000

abbrev pub ratio : ℕ → ℕ → ℕ
ratio t s = cond (nat_le t 7230584) (t * 297 / s) (cond (nat_le 1663497 s) (t / (s / 297)) t)

abbrev pub cubed : ℕ → ℕ
cubed r = cond (nat_lt 1290 r) 10000 ((r * r * r + 131072) / 262144)

-- how bad it is to stretch or shrink by t where s is there to give
abbrev pub badness : ℕ → ℕ → ℕ
badness t s = cond (t == 0) 0 (cond (s == 0) 10000 (cubed (ratio t s)))

-- worked values: what is missing, what is there to give, and the badness
abbrev pub chart : List (ℕ × ℕ × ℕ)
chart =
    (0, 0, 0) ∷
    (1, 0, 10000) ∷
    (50, 100, 12) ∷
    (100, 100, 100) ∷
    (1290, 297, 8189) ∷
    (1291, 297, 10000) ∷
    (7230584, 1663496, 8189) ∷
    (7230585, 1663496, 10000) ∷
    (7230585, 1663497, 8189) ∷
    []

abbrev pub Charted : Type 0
Charted = map (λ e. badness e.0 e.1) chart ≡ map (λ e. e.2) chart

-- the cost of a break with a fit, its penalty, and what the notes of the page add
abbrev pub break_cost : ℕ → ℤ → ℤ → ℤ
break_cost f penalty notes =
    cond (f == most || int_le (pos 10000) notes) (pos most)
    (cond (int_le penalty forced) penalty (cond (nat_lt f 10000) (pos f +ℤ penalty +ℤ notes) (pos 100000)))

-- a break after which no other is looked at
abbrev pub stops : ℤ → ℤ → Bool
stops c penalty = int_le (pos most) c || int_le penalty forced
