-- Lists of calls: how many steps are in them, their last call, and whether one of them answered done.
use Rattle.std.proofs.Common.{◌≡◌, ◌+◌, ◌⊎◌, List, [], ◌∷◌, ◌++◌, length, sym, refl, ap, ◌∙◌, inl, inr, append_assoc, arith, length-append}
use Rattle.std.proofs.lemmas.List.{same_from_push}
use Rattle.calls.specs.Stepping.{done}
use Rattle.calls.specs.Runs.{Call, fed, feed_refused, closed, close_refused, answered, fired, settled}
use Rattle.calls.specs.Findings.{steps_in, Ends}

pub steps_append : (h k : List Call) → steps_in (h ++ k) ≡ steps_in h + steps_in k
steps_append [] k = omega arith
steps_append (fed x content ∷ h) k = steps_append h k
steps_append (feed_refused r ∷ h) k = steps_append h k
steps_append (closed ∷ h) k = steps_append h k
steps_append (close_refused ∷ h) k = steps_append h k
steps_append (answered a ∷ h) k = let e = steps_append h k in omega arith
steps_append (fired ∷ h) k = let e = steps_append h k in omega arith
steps_append (settled r ∷ h) k = steps_append h k

-- the last call
pub no_last : {X : Type 0} (g : List Call) (c : Call) → ◌≡◌ {A = List Call} [] (g ++ c ∷ []) → X
no_last g c e = absurd (omega (arith, ap length e, length-append g (c ∷ [])))

snoc : (k : List Call) → (k ≡ []) ⊎ ((l : List Call) × (c : Call) × (k ≡ l ++ c ∷ []))
snoc [] = inl refl
snoc (x ∷ k) = go (snoc k)
  where
    go : (k ≡ []) ⊎ ((l : List Call) × (c : Call) × (k ≡ l ++ c ∷ [])) → (x ∷ k ≡ []) ⊎ ((l : List Call) × (c : Call) × (x ∷ k ≡ l ++ c ∷ []))
    go (inl e) = inr ([], x, ap (λ l. x ∷ l) e)
    go (inr r) = inr (x ∷ r.0, r.1, ap (λ l. x ∷ l) r.2)

ends_last : (h : List Call) (c : Call) → Ends (h ++ c ∷ []) → Ends h ⊎ (c ≡ answered done)
ends_last h c e = go (snoc e.1)
  where
    go : (e.1 ≡ []) ⊎ ((l : List Call) × (x : Call) × (e.1 ≡ l ++ x ∷ [])) → Ends h ⊎ (c ≡ answered done)
    go (inl f) = inr (same_from_push h e.0 c (answered done) (e.2 ∙ ap (λ k. e.0 ++ answered done ∷ k) f)).1
    go (inr r) = inl (
      e.0,
      r.0,
      (same_from_push h (e.0 ++ answered done ∷ r.0) c r.1
          (e.2 ∙ (ap (λ k. e.0 ++ answered done ∷ k) r.2 ∙ sym (append_assoc e.0 (answered done ∷ r.0) (r.1 ∷ []))))).0,
    )

pub no_ends : {X : Type 0} → Ends [] → X
no_ends e = absurd (omega (arith, ap length e.2, length-append e.0 (answered done ∷ e.1)))

pub earlier : {X : Type 0} (h : List Call) (c : Call) → (c ≡ answered done → X) → (Ends h → X) → Ends (h ++ c ∷ []) → X
earlier {X} h c f g e = go (ends_last h c e)
  where
    go : Ends h ⊎ (c ≡ answered done) → X
    go (inl i) = g i
    go (inr i) = f i

pub either : {X Y : Type 0} (h k : List Call) → Ends h ⊎ X → (X → Ends (h ++ k) ⊎ Y) → Ends (h ++ k) ⊎ Y
either h k (inl e) f = inl (e.0, e.1 ++ k, ap (λ l. l ++ k) e.2 ∙ append_assoc e.0 (answered done ∷ e.1) k)
either h k (inr x) f = f x
