-- A mark is known by its first letter, and takes two bytes of the text.
use Rattle.std.proofs.Common.{◌≡◌, ℕ, ◌<◌, cond, eqb, List, ◌++◌, length, get_or, take, drop, IfSome, Some, None, Option, sym, refl, ap, ◌∙◌, arith, length-append}
use Rattle.std.proofs.lemmas.List.{take-append-drop, take_at}
use Rattle.boxlist.specs.declared.cursor.Cursor.{Cursor}
use Rattle.boxlist.specs.declared.marks.Mark.{Mark}
use Rattle.boxlist.specs.declared.marks.Mark.TheVariants.{St, Cl, Bx, Gl, Kn, Pn, Nt, En}
use Rattle.boxlist.specs.Marks.{letters_of}
use Rattle.boxlist.specs.Parts.{ahead, Exactly, Passed}

by_first : ℕ → Mark
by_first b = cond (eqb b 83) St (cond (eqb b 67) Cl (cond (eqb b 66) Bx (cond (eqb b 71) Gl (cond (eqb b 75) Kn (cond (eqb b 80) Pn (cond (eqb b 78) Nt En))))))

known : (m : Mark) → by_first (get_or (letters_of m) 0 0) ≡ m
unfolding by_first
known St = refl
known Cl = refl
known Bx = refl
known Gl = refl
known Kn = refl
known Pn = refl
known Nt = refl
known En = refl

pub same_mark : (m n : Mark) → letters_of m ≡ letters_of n → m ≡ n
same_mark m n e = sym (known m) ∙ ap (λ l. by_first (get_or l 0 0)) e ∙ known n

pub only : (bs : List ℕ) (k : Mark) → bs ≡ letters_of k → (m : Mark) → bs ≡ letters_of m → Some k ≡ Some m
only bs k e m f = ap Some (same_mark k m (sym e ∙ f))

two : (m : Mark) → length (letters_of m) ≡ 2
two St = refl
two Cl = refl
two Bx = refl
two Gl = refl
two Kn = refl
two Pn = refl
two Nt = refl
two En = refl

abbrev Read : Cursor → Cursor → Option Mark → Type 0
Read s t o = Exactly letters_of (λ _. Unit {0}) s t o

pub short : (s t : Cursor) → length (ahead s) < 2 → Read s t None
short s t h = record { reads = tt; finds = λ m ys fits ends e. absurd (omega (arith, two m, simp length-append at (ap length e))) }

-- t is two bytes on from s
module _ (s t : Cursor) (far : ahead t ≡ drop 2 (ahead s)) where
  two_on : ahead s ≡ take 2 (ahead s) ++ ahead t
  two_on = sym (take-append-drop 2 (ahead s)) ∙ ap (λ l. take 2 (ahead s) ++ l) (sym far)

  mark_reads : (o : Option Mark) → IfSome o (λ m. take 2 (ahead s) ≡ letters_of m) → IfSome o (λ m. Unit {0} × Passed (letters_of m) s t)
  mark_reads None h = tt
  mark_reads (Some m) h = (tt, record { front = two_on ∙ ap (λ l. l ++ ahead t) h })

  pub mark_is : (o : Option Mark) → IfSome o (λ m. take 2 (ahead s) ≡ letters_of m) → ((m : Mark) → take 2 (ahead s) ≡ letters_of m → o ≡ Some m) → Read s t o
  mark_is o h f = record {
    reads = mark_reads o h;
    finds = λ m ys fits ends e. f m (ap (take 2) e ∙ take_at (letters_of m) ys 2 (two m));
  }
