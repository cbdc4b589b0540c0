-- What pairing makes of what was judged below: a column set aside, or shipped before it, loses nothing and is by the rule.
use Rattle.std.proofs.Common.{◌≡◌, ℕ, zero, suc, ◌+◌, ◌-◌, ◌<◌, ◌≤◌, ◌⊎◌, min, List, [], ◌∷◌, ◌++◌, length, take, refl, ap, ◌∙◌, subst, arith}
use Rattle.std.proofs.lemmas.List.{append_assoc, length-append, nil_from_length, take_min}
use Rattle.std.proofs.lemmas.Grind.{common_steps}
use Rattle.policies.specs.declared.Verdict.{Verdict}
use Rattle.policies.specs.declared.paired.Paired.{Paired}
use Rattle.policies.specs.Policies.{Given, Rule, Splits, no_class, column_of, PairedRule, sets_aside, ships}
use Rattle.policies.proofs.Splitting.{column_aside, column_before}

-- where fewer than 512 are held below, those are all
pub held_taken : (k : ℕ) (before : List ℕ) → k ≡ min (length before) 512 → take k before ≡ take 512 before
held_taken k before e = grind (arith, take_min 512 before)

pub ruleset begun = (held_taken, nil_from_length, common_steps)

-- the first n of two lists are those of the first list, and of the second as many as are missing
first_of_both : (n : ℕ) (xs ys : List ℕ) → take n xs ++ take (n - length (take n xs)) ys ≡ take n (xs ++ ys)
first_of_both zero xs ys = refl
first_of_both (suc n) [] ys = let e : suc n - 0 ≡ suc n = omega arith in ap (λ k. take k ys) e
first_of_both (suc n) (x ∷ xs) ys =
    let e : suc n - length (x ∷ take n xs) ≡ n - length (take n xs) = omega arith in
    ap (λ k. x ∷ take n xs ++ take k ys) e ∙ ap (λ zs. x ∷ zs) (first_of_both n xs ys)

-- of the second no more than it has
pub all_missing : (n : ℕ) (xs ys column : List ℕ) → column ≡ take n xs → column ++ take (min (n - length column) (length ys)) ys ≡ take n (xs ++ ys)
all_missing n xs ys column e = rw (take_min (n - length column) ys, e) (first_of_both n xs ys)

pub ruleset taken = (all_missing, common_steps)

-- of two lists the first n take no more than n of the first list
first_of_first : (m n : ℕ) (xs ys : List ℕ) → n ≤ m → take n (take m xs ++ ys) ≡ take n (xs ++ ys)
first_of_first m zero xs ys l = refl
first_of_first zero (suc n) xs ys l = grind (arith, l)
first_of_first (suc m) (suc n) [] ys l = refl
first_of_first (suc m) (suc n) (x ∷ xs) ys l = ap (λ zs. x ∷ zs) (first_of_first m n xs ys (omega (arith, l)))

-- of what ships a column is the first n
first : (n : ℕ) (before body front column : List ℕ) → n ≤ 512 → front ≡ take 512 before → column ≡ take n (front ++ body) → column ≡ take n (before ++ body)
first n before body front column few e f = f ∙ ap (λ zs. take n (zs ++ body)) e ∙ first_of_first 512 n before body few

pub aside_splits : (old column before body after front : List ℕ) (w : Verdict) → Splits before body after w →
    length old ≡ 0 → w.shipped ≤ 512 → column ≡ take w.shipped (front ++ body) → (length old ≡ 0 → front ≡ take 512 before) →
    Splits (old ++ before) body (column ++ after) (record { shipped = 0; held = w.shipped + w.held; classes = no_class })
aside_splits old column before body after front w s none few f e =
    rw (nil_from_length old none, first w.shipped before body front column few (e none) f) (column_aside before body after w _ s refl refl)

pub ships_splits : (old before body after empty : List ℕ) (n : ℕ) (w : Verdict) → Splits before body after w → n ≡ length old → empty ≡ [] →
    Splits (old ++ before) body (empty ++ after) (record { shipped = n + w.shipped; held = w.held; classes = w.classes })
ships_splits old before body after empty n w s e none = rw none (column_before old before body after w _ s (ap (λ k. k + w.shipped) e) refl)

module _ {P : Type 0} (held : P → List ℕ) (rule : Rule P) where
  pub aside_by_rule : (p q : Paired P) (g : Given) (front : List ℕ) (w : Verdict) → rule p.below g w q.below →
      length (column_of held rule p) ≡ 0 → 1 ≤ w.shipped → w.shipped ≤ 512 → column_of held rule q ≡ take w.shipped (front ++ g.body) → front ≡ take 512 (held p.below) →
      PairedRule held rule p g (record { shipped = 0; held = w.shipped + w.held; classes = no_class }) q
  aside_by_rule p q g front w ruled none some few f e =
      sets_aside w ruled (nil_from_length _ none) some few (first w.shipped (held p.below) g.body front q.column.items few e f) refl refl refl

  pub ships_by_rule : (p q : Paired P) (g : Given) (n : ℕ) (w : Verdict) → rule p.below g w q.below → n ≡ length (column_of held rule p) →
      ((0 < n) ⊎ ((w.shipped ≡ 0) ⊎ (512 < w.shipped))) → column_of held rule q ≡ [] →
      PairedRule held rule p g (record { shipped = n + w.shipped; held = w.held; classes = w.classes }) q
  ships_by_rule p q g n w ruled e way none = ships w ruled (subst (λ k. (0 < k) ⊎ ((w.shipped ≡ 0) ⊎ (512 < w.shipped))) e way) none (ap (λ k. k + w.shipped) e) refl refl

pub ruleset pairing = (aside_splits, aside_by_rule, ships_splits, ships_by_rule, common_steps)
