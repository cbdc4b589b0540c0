-- A record's text has no byte 10, so the line that it begins ends with the record.
use Rattle.std.proofs.Common.{◌≡◌, ℕ, suc, ◌+◌, ◌<◌, eqb, List, [], ◌∷◌, ◌++◌, length, ℤ, pos, negsuc, Some, None, decimal, Option, sym, refl, ap, ◌∙◌, ⊎_elim, arith}
use Rattle.std.proofs.lemmas.Fmt.{digits_decimal}
use Rattle.std.proofs.ByRecursion.{All-append}
use Rattle.std.proofs.lemmas.List.{append_assoc, append_cancel_left}
use Rattle.std.proofs.lemmas.Str.Parse.{digit_from_value}
use Rattle.std.proofs.lemmas.Bool.{cases_Bool, cond-false, cond-true, ne_eqb}
use Rattle.std.specs.List.{flat_map, AllByRecursion}
use Rattle.std.specs.Str.Parse.{AllDigits}
use Rattle.std.specs.Fmt.{signed_decimal}
use Rattle.boxlist.specs.declared.cursor.Cursor.{Cursor}
use Rattle.boxlist.specs.declared.marks.Mark.{Mark}
use Rattle.boxlist.specs.declared.marks.Mark.TheVariants.{St, Cl, Bx, Gl, Kn, Pn, Nt, En}
use Rattle.boxlist.specs.declared.records.Record.{Record}
use Rattle.boxlist.specs.Lines.{line_of}
use Rattle.boxlist.specs.Marks.{letters_of}
use Rattle.boxlist.specs.Parts.{ahead, Exactly, Passed}
use Rattle.boxlist.specs.Texts.{field, mark_of, values_of, text_of, Fits, Small}
use Rattle.boxlist.proofs.Fields.{none_some, some_same}
use Rattle.boxlist.proofs.Numbers.{own}
use Rattle.boxlist.proofs.Passes.{shorter}

abbrev Above : ℕ → Type 0
Above b = 10 < b

letters_above : (m : Mark) → AllByRecursion Above (letters_of m)
letters_above St = (omega arith, (omega arith, tt))
letters_above Cl = (omega arith, (omega arith, tt))
letters_above Bx = (omega arith, (omega arith, tt))
letters_above Gl = (omega arith, (omega arith, tt))
letters_above Kn = (omega arith, (omega arith, tt))
letters_above Pn = (omega arith, (omega arith, tt))
letters_above Nt = (omega arith, (omega arith, tt))
letters_above En = (omega arith, (omega arith, tt))

digits_above : (ds : List ℕ) → AllDigits 10 ds → AllByRecursion Above ds
digits_above [] h = tt
digits_above (d ∷ ds) h = (omega (arith, digit_from_value d h.0), digits_above ds h.1)

signed_above : (z : ℤ) → Small z → AllByRecursion Above (signed_decimal z)
signed_above (pos n) h = digits_above (decimal n) (digits_decimal own n (omega arith))
signed_above (negsuc n) h = (omega arith, digits_above (decimal (suc n)) (digits_decimal own (suc n) (omega arith)))

fields_above : (zs : List ℤ) → AllByRecursion Small zs → AllByRecursion Above (flat_map field zs)
fields_above [] h = tt
fields_above (z ∷ zs) h = All-append Above (field z) (flat_map field zs) (omega arith, signed_above z h.0) (fields_above zs h.1)

text_above : (r : Record) → Fits r → AllByRecursion Above (text_of r)
text_above r h = All-append Above (letters_of (mark_of r)) (flat_map field (values_of r)) (letters_above (mark_of r)) (fields_above (values_of r) h)

ends_at : (bs ys : List ℕ) → AllByRecursion Above bs → line_of (bs ++ 10 ∷ ys) ≡ bs ++ 10 ∷ []
ends_at [] ys h = refl
ends_at (b ∷ bs) ys h = ap (λ l. b ∷ l) (cond-false (eqb b 10) [] (line_of (bs ++ 10 ∷ ys)) (ne_eqb b 10 (λ e. omega (arith, h.0))) ∙ ends_at bs ys h.1)

-- a text is its first line and what follows
rest : (xs : List ℕ) → (ys : List ℕ) × (xs ≡ line_of xs ++ ys)
rest [] = ([], refl)
rest (b ∷ bs) =
    let more = rest bs in
    ⊎_elim
    (λ e. (bs, ap (λ l. b ∷ (l ++ bs)) (sym (cond-true (eqb b 10) [] (line_of bs) e))))
    (λ e. (more.0, ap (λ l. b ∷ l) more.1 ∙ ap (λ l. b ∷ (l ++ more.0)) (sym (cond-false (eqb b 10) [] (line_of bs) e))))
    (cases_Bool (eqb b 10))

pub some_line : (xs : List ℕ) → 0 < length xs → 0 < length (line_of xs)
some_line [] h = h
some_line (b ∷ bs) h = omega arith

-- s is where a line begins, and t where reading a record ended
module _ (s t : Cursor) where
  abbrev Read : Option Record → Type 0
  Read o = Exactly text_of Fits s t o

  abbrev Line : Record → Type 0
  Line q = text_of q ++ 10 ∷ [] ≡ line_of (ahead s)

  line_read : (o : Option Record) → Read o → (q : Record) → Fits q → Line q → (ys : List ℕ) × (ahead s ≡ text_of q ++ (10 ∷ ys)) × (o ≡ Some q)
  line_read o x q fits e =
      let r = rest (ahead s) in
      let whole : ahead s ≡ text_of q ++ (10 ∷ r.0) = r.1 ∙ ap (λ l. l ++ r.0) (sym e) ∙ append_assoc (text_of q) (10 ∷ []) r.0 in
      (r.0, whole, x.finds q (10 ∷ r.0) fits (λ d. omega arith) whole)

  pub no_body : Read None → (q : Record) → Fits q → Line q → ⊥
  no_body x q fits e = none_some (line_read None x q fits e).2

  module _ (p : Record) (x : Read (Some p)) where
    pub same : (q : Record) → Fits q → Line q → p ≡ q
    same q fits e = some_same (line_read (Some p) x q fits e).2

    pub ends : (q : Record) → Fits q → Line q → (ys : List ℕ) × (ahead t ≡ 10 ∷ ys)
    ends q fits e =
        let r = line_read (Some p) x q fits e in
        (r.0, append_cancel_left (text_of p) (ahead t) (10 ∷ r.0) (sym x.reads.1.front ∙ r.1 ∙ ap (λ y. text_of y ++ (10 ∷ r.0)) (sym (same q fits e))))

-- a record and the byte 10 are passed, where the text goes on with xs
module _ {xs : List ℕ} (s u : Cursor) (e : ahead s ≡ xs) (p : Record) (fits : Fits p) (y : Passed (text_of p ++ 10 ∷ []) s u) where
  pub line_is : text_of p ++ 10 ∷ [] ≡ line_of xs
  line_is = sym (ap line_of (sym e ∙ y.front ∙ append_assoc (text_of p) (10 ∷ []) (ahead u)) ∙ ends_at (text_of p) (ahead u) (text_above p fits))

  pub line_far : length xs ≡ length (line_of xs) + length (ahead u)
  line_far = ap length (sym e) ∙ shorter (text_of p ++ 10 ∷ []) s u y ∙ ap (λ l. length l + length (ahead u)) line_is
