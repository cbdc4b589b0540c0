-- How often a number stands in a list, in a part of it, and in lists joined.
use Rattle.std.proofs.Common.{◌≡◌, ℕ, zero, suc, ◌+◌, ◌<◌, ◌≤◌, Bool, true, false, cond, not, eqb, List, [], ◌∷◌, ◌++◌, length, get_or, set, filter, sym, refl, ap, ◌∙◌, subst, ap₂, arith, length-append}
use Rattle.std.specs.List.{flat_map, AllByRecursion}
use Rattle.std.proofs.lemmas.List.Elements.{filter-append}
use Rattle.std.proofs.lemmas.Bool.{eqb-true, eqb-false, eq-eqb, cond-true, cond-false}
use Rattle.calls.specs.Findings.{times}
use Rattle.calls.proofs.ListLaws.{kept_by_all}

pub times_append : (x : ℕ) (xs ys : List ℕ) → times x (xs ++ ys) ≡ times x xs + times x ys
times_append x [] ys = omega arith
times_append x (y ∷ xs) ys = step (eqb x y) (times_append x xs ys)
  where
    step : (b : Bool) → times x (xs ++ ys) ≡ times x xs + times x ys →
        cond b (suc (times x (xs ++ ys))) (times x (xs ++ ys)) ≡ cond b (suc (times x xs)) (times x xs) + times x ys
    step true e = omega arith
    step false e = e

pub times_here : (x : ℕ) (ys : List ℕ) → times x (x ∷ ys) ≡ suc (times x ys)
times_here x ys = cond-true (eqb x x) _ _ (eq-eqb x x refl)

-- a number that passes stands as often in what is kept
pub times_kept : (x : ℕ) (p : ℕ → Bool) → p x ≡ true → (xs : List ℕ) → times x (filter p xs) ≡ times x xs
times_kept x p h [] = refl
times_kept x p h (y ∷ ys) = step (eqb x y) (p y) refl refl (times_kept x p h ys)
  where
    step : (b c : Bool) → eqb x y ≡ b → p y ≡ c → times x (filter p ys) ≡ times x ys →
        times x (cond c (y ∷ filter p ys) (filter p ys)) ≡ cond b (suc (times x ys)) (times x ys)
    step true true e f i = rw e (ap suc i)
    step true false e f i = cc (eqb-true x y e)
    step false true e f i = rw e i
    step false false e f i = i

pub times_not_kept : (x : ℕ) (p : ℕ → Bool) → p x ≡ false → (xs : List ℕ) → times x (filter p xs) ≡ 0
times_not_kept x p h [] = refl
times_not_kept x p h (y ∷ ys) = step (eqb x y) (p y) refl refl (times_not_kept x p h ys)
  where
    step : (b c : Bool) → eqb x y ≡ b → p y ≡ c → times x (filter p ys) ≡ 0 →
        times x (cond c (y ∷ filter p ys) (filter p ys)) ≡ 0
    step true true e f i = cc (eqb-true x y e)
    step true false e f i = i
    step false true e f i = rw e i
    step false false e f i = i

pub times_kept_le : (x : ℕ) (p : ℕ → Bool) (xs : List ℕ) → times x (filter p xs) ≤ times x xs
times_kept_le x p xs = step (p x) refl
  where
    step : (b : Bool) → p x ≡ b → times x (filter p xs) ≤ times x xs
    step true e = omega (arith, times_kept x p e xs)
    step false e = omega (arith, times_not_kept x p e xs)

-- what passes a test and what does not
pub split_times : (y : ℕ) (p : ℕ → Bool) (xs : List ℕ) → times y (filter (λ x. not (p x)) xs) + times y (filter p xs) ≡ times y xs
split_times y p xs = go (p y) refl
  where
    go : (b : Bool) → p y ≡ b → times y (filter (λ x. not (p x)) xs) + times y (filter p xs) ≡ times y xs
    go true e = let a = times_kept y p e xs in let c = times_not_kept y (λ x. not (p x)) (ap not e) xs in omega arith
    go false e = let a = times_not_kept y p e xs in let c = times_kept y (λ x. not (p x)) (ap not e) xs in omega arith

-- a list whose entries all pass lacks what does not
pub lacks : (q : ℕ → Bool) (x : ℕ) (l : List ℕ) → AllByRecursion (λ y. q y ≡ true) l → q x ≡ false → times x l ≡ 0
lacks q x l h e = ap (times x) (sym (kept_by_all q l h)) ∙ times_not_kept x q e l

pub all_times : (P : ℕ → Type 0) (x : ℕ) (xs : List ℕ) → AllByRecursion P xs → 0 < times x xs → P x
all_times P x [] h k = absurd (omega arith)
all_times P x (y ∷ ys) h k = step (eqb x y) refl k (all_times P x ys h.1)
  where
    step : (b : Bool) → eqb x y ≡ b → 0 < cond b (suc (times x ys)) (times x ys) → (0 < times x ys → P x) → P x
    step true e k i = subst P (sym (eqb-true x y e)) h.0
    step false e k i = i k

pub all_from_times : (P : ℕ → Type 0) (xs : List ℕ) → ((x : ℕ) → 0 < times x xs → P x) → AllByRecursion P xs
all_from_times P [] h = tt
all_from_times P (y ∷ ys) h = (h y (omega (arith, times_here y ys)), all_from_times P ys (λ x k. h x (more x (eqb x y) k)))
  where
    more : (x : ℕ) (b : Bool) → 0 < times x ys → 0 < cond b (suc (times x ys)) (times x ys)
    more x true k = omega arith
    more x false k = k

pub all_fewer : (P : ℕ → Type 0) (xs ys : List ℕ) → ((y : ℕ) → times y ys ≤ times y xs) → AllByRecursion P xs → AllByRecursion P ys
all_fewer P xs ys h a = all_from_times P ys (λ y k. all_times P y xs a (let m = h y in omega arith))

-- a number that a list lacks is none of the list's
pub all_apart : (x : ℕ) (ys : List ℕ) → times x ys ≡ 0 → AllByRecursion (λ y. y ≡ x → ⊥) ys
all_apart x ys h = all_from_times (λ y. y ≡ x → ⊥) ys (λ y k e. let z = ap (λ w. times w ys) e in omega arith)

-- a list without a number
abbrev pub without : ℕ → List ℕ → List ℕ
without d xs = filter (λ y. not (eqb y d)) xs

pub without_absent : (d : ℕ) (xs : List ℕ) → times d xs ≡ 0 → without d xs ≡ xs
without_absent d [] h = refl
without_absent d (x ∷ xs) h = step (eqb d x) (eqb x d) refl refl h (without_absent d xs)
  where
    step : (b c : Bool) → eqb d x ≡ b → eqb x d ≡ c → cond b (suc (times d xs)) (times d xs) ≡ 0 → (times d xs ≡ 0 → without d xs ≡ xs) →
        cond (not c) (x ∷ without d xs) (without d xs) ≡ x ∷ xs
    step true c e f h i = absurd (omega arith)
    step false true e f h i = absurd (eqb-false d x e (sym (eqb-true x d f)))
    step false false e f h i = ap (λ l. x ∷ l) (i h)

pub without_one : (d : ℕ) (xs ys : List ℕ) → times d (xs ++ d ∷ ys) ≤ 1 → without d (xs ++ d ∷ ys) ≡ xs ++ ys
without_one d xs ys h =
    let e = times_append d xs (d ∷ ys) in
    let k = times_here d ys in
    filter-append (λ y. not (eqb y d)) xs (d ∷ ys) ∙ ap₂ (λ a b. a ++ b) (without_absent d xs (omega arith))
    (cond-false (not (eqb d d)) _ _ (ap not (eq-eqb d d refl)) ∙ without_absent d ys (omega arith))

pub split_joined : (y : ℕ) (f : ℕ → List ℕ) (p : ℕ → Bool) (xs : List ℕ) →
    times y (flat_map f (filter (λ x. not (p x)) xs)) + times y (flat_map f (filter p xs)) ≡ times y (flat_map f xs)
split_joined y f p [] = refl
split_joined y f p (x ∷ xs) = go (p x) (split_joined y f p xs)
  where
    go : (b : Bool) → times y (flat_map f (filter (λ x. not (p x)) xs)) + times y (flat_map f (filter p xs)) ≡ times y (flat_map f xs) →
        times y (flat_map f (cond (not b) (x ∷ filter (λ x. not (p x)) xs) (filter (λ x. not (p x)) xs))) + times y
        (flat_map f (cond b (x ∷ filter p xs) (filter p xs))) ≡ times y (f x ++ flat_map f xs)
    go true e = let a = times_append y (f x) (flat_map f (filter p xs)) in let c = times_append y (f x) (flat_map f xs) in omega arith
    go false e = let a = times_append y (f x) (flat_map f (filter (λ x. not (p x)) xs)) in let c = times_append y (f x) (flat_map f xs) in omega arith

-- one list of several, changed
pub joined_set : {A : Type 0} (f : A → List ℕ) (y : ℕ) (l : List A) (c : ℕ) (v d : A) → c < length l →
    times y (flat_map f (set l c v)) + times y (f (get_or l c d)) ≡ times y (flat_map f l) + times y (f v)
joined_set f y [] c v d h = absurd (omega arith)
joined_set f y (a ∷ l) zero v d h =
    let p = times_append y (f v) (flat_map f l) in
    let q = times_append y (f a) (flat_map f l) in
    omega arith
joined_set f y (a ∷ l) (suc c) v d h =
    let i = joined_set f y l c v d (omega arith) in
    let p = times_append y (f a) (flat_map f (set l c v)) in
    let q = times_append y (f a) (flat_map f l) in
    omega arith

pub joined_zero : {A : Type 0} (f : A → List ℕ) (d : A) (x : ℕ) (l : List A) → ((e : ℕ) → times x (f (get_or l e d)) ≡ 0) → times x (flat_map f l) ≡ 0
joined_zero f d x [] h = refl
joined_zero f d x (a ∷ l) h = let p = times_append x (f a) (flat_map f l) in let q = joined_zero f d x l (λ e. h (suc e)) in let r = h 0 in omega arith

pub joined_one : {A : Type 0} (f : A → List ℕ) (d : A) → f d ≡ [] → (x : ℕ) (l : List A) (c : ℕ) →
    ((e : ℕ) → (e ≡ c → ⊥) → times x (f (get_or l e d)) ≡ 0) → times x (flat_map f l) ≡ times x (f (get_or l c d))
joined_one f d n x [] c h = sym (ap (times x) n)
joined_one f d n x (a ∷ l) zero h =
    let p = times_append x (f a) (flat_map f l) in let q = joined_zero f d x l (λ e. h (suc e) (λ z. omega arith)) in omega arith
joined_one f d n x (a ∷ l) (suc c) h =
    let p = times_append x (f a) (flat_map f l) in
    let q = joined_one f d n x l c (λ e k. h (suc e) (λ z. k (omega arith))) in let r = h 0 (λ z. omega arith) in omega arith

-- a number that stands in a list parts it
part_at : (x : ℕ) (ys : List ℕ) → 0 < times x ys → (l : List ℕ) × (r : List ℕ) × (ys ≡ l ++ x ∷ r)
part_at x [] h = absurd (omega arith)
part_at x (y ∷ ys) h = step (eqb x y) refl h (part_at x ys)
  where
    step : (b : Bool) → eqb x y ≡ b → 0 < cond b (suc (times x ys)) (times x ys) →
        (0 < times x ys → (l : List ℕ) × (r : List ℕ) × (ys ≡ l ++ x ∷ r)) → (l : List ℕ) × (r : List ℕ) × (y ∷ ys ≡ l ++ x ∷ r)
    step true e h i = ([], ys, ap (λ z. z ∷ ys) (sym (eqb-true x y e)))
    step false e h i = let p = i h in (y ∷ p.0, p.1, ap (λ l. y ∷ l) p.2)

-- a list of which each number stands as often in another is no longer
pub length_fewer : (xs ys : List ℕ) → ((z : ℕ) → times z xs ≤ times z ys) → length xs ≤ length ys
length_fewer [] ys h = omega arith
length_fewer (x ∷ xs) ys h =
    let p = part_at x ys (let a = h x in let e = times_here x xs in omega arith) in
    let i = length_fewer xs (p.0 ++ p.1) (λ z.
    let a = h z in
    let e = ap (times z) p.2 in
    let f = times_append z p.0 (x ∷ p.1) in
    let g = times_append z p.0 p.1 in
    let k = times_append z (x ∷ []) p.1 in
    let m = times_append z (x ∷ []) xs in
    omega arith) in
    let e = ap length p.2 in
    let f = length-append p.0 (x ∷ p.1) in
    let g = length-append p.0 p.1 in
    omega arith

pub length_same : (xs ys : List ℕ) → ((z : ℕ) → times z xs ≡ times z ys) → length xs ≡ length ys
length_same xs ys h =
    let a = length_fewer xs ys (λ z. let e = h z in omega arith) in
    let b = length_fewer ys xs (λ z. let e = h z in omega arith) in
    omega arith
