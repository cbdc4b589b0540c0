-- Runs of numbers.
use Rattle.std.proofs.Common.{◌≡◌, ℕ, zero, suc, ◌+◌, ◌-◌, ◌<◌, ◌≤◌, Bool, true, false, cond, eqb, ◌∷◌, ◌++◌, take, drop, refl, ap, ◌∙◌, ap₂, arith}
use Rattle.std.specs.List.{AllByRecursion}
use Rattle.std.proofs.lemmas.Bool.{eqb-true, eqb-false, ne_eqb}
use Rattle.items.specs.Lists.{span}
use Rattle.calls.specs.Findings.{times}

pub span_append : (a m n : ℕ) → span a (m + n) ≡ span a m ++ span (a + m) n
span_append a zero n = ap₂ span (omega arith) (omega arith)
span_append a (suc m) n =
    let e : suc m + n ≡ suc (m + n) = omega arith in
    let f : suc a + m ≡ a + suc m = omega arith in rw e (ap (λ l. a ∷ l) (span_append (suc a) m n ∙ ap (λ k. span (suc a) m ++ span k n) f))

pub take_span : (m a n : ℕ) → m ≤ n → take m (span a n) ≡ span a m
take_span zero a n h = refl
take_span (suc m) a zero h = absurd (omega arith)
take_span (suc m) a (suc n) h = ap (λ l. a ∷ l) (take_span m (suc a) n (omega arith))

pub drop_span : (m a n : ℕ) → drop m (span a n) ≡ span (a + m) (n - m)
drop_span zero a n = ap₂ span (omega arith) (omega arith)
drop_span (suc m) a zero = let e : 0 - suc m ≡ 0 = omega arith in rw e refl
drop_span (suc m) a (suc n) = drop_span m (suc a) n ∙ ap₂ span (omega arith) (omega arith)

pub span_from : (b a n : ℕ) → b ≤ a → AllByRecursion (λ x. b ≤ x) (span a n)
span_from b a zero h = tt
span_from b a (suc n) h = (h, span_from b (suc a) n (omega arith))

pub span_to : (b a n : ℕ) → a + n ≤ suc b → AllByRecursion (λ x. x ≤ b) (span a n)
span_to b a zero h = tt
span_to b a (suc n) h = (omega arith, span_to b (suc a) n (omega arith))

pub span_to_some : (b a n : ℕ) → (0 < n → a + n ≤ suc b) → AllByRecursion (λ x. x ≤ b) (span a n)
span_to_some b a zero h = tt
span_to_some b a (suc n) h = span_to b a (suc n) (h (omega arith))

pub span_after : (x a n : ℕ) → x < a → times x (span a n) ≡ 0
span_after x a zero h = refl
span_after x a (suc n) h = let e : eqb x a ≡ false = ne_eqb x a (omega arith) in rw e (span_after x (suc a) n (omega arith))

pub span_once : (x a n : ℕ) → times x (span a n) ≤ 1
span_once x a zero = omega arith
span_once x a (suc n) = step (eqb x a) refl (span_once x (suc a) n)
  where
    step : (b : Bool) → eqb x a ≡ b → times x (span (suc a) n) ≤ 1 → cond b (suc (times x (span (suc a) n))) (times x (span (suc a) n)) ≤ 1
    step true e i = omega (arith, span_after x (suc a) n (omega (arith, eqb-true x a e)))
    step false e i = i

pub span_in : (y a n : ℕ) → a ≤ y → y < a + n → 0 < times y (span a n)
span_in y a zero h k = absurd (omega arith)
span_in y a (suc n) h k = go (eqb y a) refl (λ z. span_in y (suc a) n z (omega arith))
  where
    go : (t : Bool) → eqb y a ≡ t → (suc a ≤ y → 0 < times y (span (suc a) n)) →
        0 < cond t (suc (times y (span (suc a) n))) (times y (span (suc a) n))
    go true e i = omega arith
    go false e i = i (let d = eqb-false y a e in omega arith)
