-- One part after another, and the same parts as another value.
use Rattle.std.proofs.Common.{◌≡◌, ℕ, List, [], ◌++◌, length, IfSome, Some, None, Option, sym, refl, ap, ◌∙◌, subst}
use Rattle.std.proofs.lemmas.List.{append_assoc, append_cancel_left, nil_from_length}
use Rattle.std.specs.Option.{option_map}
use Rattle.std.specs.List.{AllByRecursion}
use Rattle.boxlist.specs.declared.cursor.Cursor.{Cursor}
use Rattle.boxlist.specs.Parts.{ahead, Exactly, NoDigit, Passed}
use Rattle.boxlist.proofs.Fields.{none_some, some_same}
use Rattle.boxlist.proofs.Passes.{passed_none, passed_both}

-- the second part begins with no digit, and which it is may hang on the first
module _ {A B : Type 0} (write : A → List ℕ) (write' : B → List ℕ) (Fit : A → Type 0) (Fit' : A → B → Type 0) (apart : (b : B) (ys : List ℕ) → NoDigit ys → NoDigit (write' b ++ ys)) where
  abbrev both : A × B → List ℕ
  both p = write p.0 ++ write' p.1

  abbrev Fits : A × B → Type 0
  Fits p = Fit p.0 × Fit' p.0 p.1

  pub first_fails : (s t : Cursor) → Exactly write Fit s t None → Exactly both Fits s t None
  first_fails s t x = record {
    reads = tt;
    finds = λ p ys fits ends e. absurd (none_some (x.finds p.0 (write' p.1 ++ ys) fits.0 (apart p.1 ys ends) (e ∙ append_assoc (write p.0) (write' p.1) ys)));
  }

  module _ (s t u : Cursor) (a : A) (x : Exactly write Fit s t (Some a)) where
    both_read : (o : Option B) → IfSome o (λ b. Fit' a b × Passed (write' b) t u) → IfSome (option_map (λ b. (a, b)) o) (λ p. Fits p × Passed (both p) s u)
    both_read None h = tt
    both_read (Some b) h = ((x.reads.0, h.0), passed_both x.reads.1 h.1)

    pub then : (o : Option B) → Exactly write' (Fit' a) t u o → Exactly both Fits s u (option_map (λ b. (a, b)) o)
    then o y = record {
      reads = both_read o y.reads;
      finds = λ p ys fits ends e.
          let whole = e ∙ append_assoc (write p.0) (write' p.1) ys in
          let same : p.0 ≡ a = sym (some_same (x.finds p.0 (write' p.1 ++ ys) fits.0 (apart p.1 ys ends) whole)) in
          let rest : ahead t ≡ write' p.1 ++ ys = append_cancel_left (write a) (ahead t) (write' p.1 ++ ys) (sym x.reads.1.front ∙ whole ∙ ap (λ q. write q ++ (write' p.1 ++ ys)) same) in
          ap (option_map (λ b. (a, b))) (y.finds p.1 ys (subst (λ q. Fit' q p.1) same fits.1) ends rest) ∙ ap (λ q. Some (q, p.1)) (sym same);
    }

-- b stands for a, which is written alike
module _ {A B : Type 0} (write : A → List ℕ) (write' : B → List ℕ) (Fit : A → Type 0) (Fit' : B → Type 0) (make : A → B) (to : (a : A) → Fit a → Fit' (make a) × (write a ≡ write' (make a))) (from : (b : B) → Fit' b → (a : A) × Fit a × (make a ≡ b)) (s t : Cursor) where
  made_read : (o : Option A) → IfSome o (λ a. Fit a × Passed (write a) s t) → IfSome (option_map make o) (λ b. Fit' b × Passed (write' b) s t)
  made_read None h = tt
  made_read (Some a) h = let k = to a h.0 in (k.0, subst (λ l. Passed l s t) k.1 h.1)

  pub made : (o : Option A) → Exactly write Fit s t o → Exactly write' Fit' s t (option_map make o)
  made o x = record {
    reads = made_read o x.reads;
    finds = λ b ys fits ends e.
        let k = from b fits in
        let same = (to k.0 k.1).1 ∙ ap write' k.2 in
        ap (option_map make) (x.finds k.0 ys k.1 ends (e ∙ ap (λ l. l ++ ys) (sym same))) ∙ ap Some k.2;
  }

-- no elements are wanted
pub nothing : {A : Type 0} (write : List A → List ℕ) (P : A → Type 0) (s : Cursor) → write [] ≡ [] → Exactly write (λ xs. (length xs ≡ 0) × AllByRecursion P xs) s s (Some [])
nothing write P s e = record {
  reads = ((refl, tt), subst (λ l. Passed l s s) (sym e) (passed_none s));
  finds = λ xs ys fits ends f. ap Some (sym (nil_from_length xs fits.0));
}
