-- Lists: what holds of each entry, what a test keeps, and lists joined.
use Rattle.std.proofs.Common.{◌≡◌, ℕ, Bool, true, false, cond, ◌&&◌, List, [], ◌∷◌, ◌++◌, filter, sym, refl, ap, ◌∙◌, ap₂, append_assoc}
use Rattle.std.specs.List.{flat_map, AllByRecursion}
use Rattle.std.proofs.lemmas.Bool.{cond-true, cond-false}

pub all_left : {A : Type 0} (P : A → Type 0) (xs ys : List A) → AllByRecursion P (xs ++ ys) → AllByRecursion P xs
all_left P [] ys h = tt
all_left P (x ∷ xs) ys h = (h.0, all_left P xs ys h.1)

pub all_right : {A : Type 0} (P : A → Type 0) (xs ys : List A) → AllByRecursion P (xs ++ ys) → AllByRecursion P ys
all_right P [] ys h = h
all_right P (x ∷ xs) ys h = all_right P xs ys h.1

pub all_both : {A : Type 0} (P Q : A → Type 0) (xs : List A) → AllByRecursion P xs → AllByRecursion Q xs → AllByRecursion (λ x. P x × Q x) xs
all_both P Q [] h k = tt
all_both P Q (x ∷ xs) h k = ((h.0, k.0), all_both P Q xs h.1 k.1)

pub all_each : {A : Type 0} (P : A → Type 0) → ((x : A) → P x) → (xs : List A) → AllByRecursion P xs
all_each P h [] = tt
all_each P h (x ∷ xs) = (h x, all_each P h xs)

pub kept_by_all : {A : Type 0} (p : A → Bool) (xs : List A) → AllByRecursion (λ x. p x ≡ true) xs → filter p xs ≡ xs
kept_by_all p [] h = refl
kept_by_all p (x ∷ xs) h = cond-true (p x) _ _ h.0 ∙ ap (λ l. x ∷ l) (kept_by_all p xs h.1)

pub kept_by_none : {A : Type 0} (p : A → Bool) (xs : List A) → AllByRecursion (λ x. p x ≡ false) xs → filter p xs ≡ []
kept_by_none p [] h = refl
kept_by_none p (x ∷ xs) h = cond-false (p x) _ _ h.0 ∙ kept_by_none p xs h.1

pub kept_by_same : {A : Type 0} (p q : A → Bool) (xs : List A) → AllByRecursion (λ x. p x ≡ q x) xs → filter p xs ≡ filter q xs
kept_by_same p q [] h = refl
kept_by_same p q (x ∷ xs) h = ap₂ (λ t l. cond t (x ∷ l) l) h.0 (kept_by_same p q xs h.1)

pub kept_by_and : {A : Type 0} (p q r : A → Bool) (xs : List A) → AllByRecursion (λ x. r x ≡ (p x && q x)) xs → filter r xs ≡ filter q (filter p xs)
kept_by_and p q r [] h = refl
kept_by_and p q r (x ∷ xs) h = step (p x) (q x) (r x) refl refl h.0 (kept_by_and p q r xs h.1)
  where
    step : (a b c : Bool) → p x ≡ a → q x ≡ b → c ≡ (p x && q x) → filter r xs ≡ filter q (filter p xs) →
        cond c (x ∷ filter r xs) (filter r xs) ≡ filter q (cond a (x ∷ filter p xs) (filter p xs))
    step true true c e f g i = rw (g, e, f) (ap (λ l. x ∷ l) i)
    step true false c e f g i = rw (g, e, f) i
    step false b c e f g i = rw (g, e) i

pub kept_by_swap : {A : Type 0} (p q : A → Bool) (xs : List A) → filter p (filter q xs) ≡ filter q (filter p xs)
kept_by_swap p q xs = sym (kept_by_and q p (λ x. q x && p x) xs (all_each (λ x. (q x && p x) ≡ (q x && p x)) (λ x. refl) xs))
    ∙ kept_by_and p q (λ x. q x && p x) xs (all_each (λ x. (q x && p x) ≡ (p x && q x)) (λ x. and_comm (q x) (p x)) xs)
  where
    and_comm : (a b : Bool) → (a && b) ≡ (b && a)
    and_comm true true = refl
    and_comm true false = refl
    and_comm false true = refl
    and_comm false false = refl

pub joined_append : {A B : Type 0} (f : A → List B) (xs ys : List A) → flat_map f (xs ++ ys) ≡ flat_map f xs ++ flat_map f ys
joined_append f [] ys = refl
joined_append f (x ∷ xs) ys = ap (λ l. f x ++ l) (joined_append f xs ys) ∙ sym (append_assoc (f x) (flat_map f xs) (flat_map f ys))

pub joined_same : {A B : Type 0} (f g : A → List B) (xs : List A) → AllByRecursion (λ x. f x ≡ g x) xs → flat_map f xs ≡ flat_map g xs
joined_same f g [] h = refl
joined_same f g (x ∷ xs) h = ap₂ (λ a l. a ++ l) h.0 (joined_same f g xs h.1)

pub joined_none : {A : Type 0} (f : ℕ → List A) (xs : List ℕ) → AllByRecursion (λ x. f x ≡ []) xs → flat_map f xs ≡ []
joined_none f [] h = refl
joined_none f (x ∷ xs) h = rw h.0 (joined_none f xs h.1)

pub cond_none : (b : Bool) → ◌≡◌ {A = List ℕ} (cond b [] []) []
cond_none true = refl
cond_none false = refl

-- a list behind three others, joined on either side
pub regroup : (l h k z : List ℕ) → l ++ (h ++ (k ++ z)) ≡ (l ++ (h ++ k)) ++ z
regroup l h k z = simp append_assoc
