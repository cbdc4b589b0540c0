-- A front of digits against a written number: which of the two goes on, and when they are the same.
use Rattle.std.proofs.Common.{◌≡◌, ℕ, ◌+◌, ◌-◌, ◌*◌, ◌^◌, ◌<◌, ◌≤◌, List, [], ◌∷◌, ◌++◌, map, length, get_or, take, Some, None, decimal, sym, refl, ap, ◌∙◌, subst, ⊎_elim, arith, length-append}
use Rattle.std.proofs.lemmas.Fmt.{decimal_digit, decimal_nonempty, first_decimal, digits_decimal, digits_value-decimal, decimal-digits_value}
use Rattle.std.proofs.lemmas.Int.Digits.{number_after_append, number_after_ge, digits_value_is, digits_value_push, digits_push}
use Rattle.std.proofs.lemmas.List.{append-nil, map-append, nil_from_length, take_at}
use Rattle.std.proofs.lemmas.Str.Parse.{IsNumeralModel, numerals_by_value, tells_digits, digit_from_value}
use Rattle.std.proofs.lemmas.Bool.{cases_lt}
use Rattle.std.proofs.lemmas.Bool.Decides.{nat_tests}
use Rattle.std.specs.Str.Parse.{AllDigits, digits_value}
use Rattle.std.specs.Char.{digit_value}
use Rattle.std.specs.Int.Digits.{number_from_digits}
use Rattle.items.specs.Items.{most}
use Rattle.boxlist.specs.declared.cursor.Cursor.{Cursor}
use Rattle.boxlist.specs.Parts.{ahead, Exactly, LeadingZero, NoDigit, Passed, small}
use Rattle.boxlist.proofs.Passes.{passed_none, passed_both, shorter}

pub own : IsNumeralModel (AllDigits 10) (digits_value 10)
own = numerals_by_value (AllDigits 10) tells_digits

-- digits before which a number ends are a front of it
longer : (ds es xs ys : List ℕ) → AllDigits 10 ds → AllDigits 10 es → NoDigit ys → ds ++ xs ≡ es ++ ys → (cs : List ℕ) × (es ≡ ds ++ cs) × (xs ≡ cs ++ ys)
longer [] es xs ys p q n e = (es, refl, e)
longer (d ∷ ds) [] xs ys p q n e = absurd (subst NoDigit (sym e) n (digit_from_value d p.0))
longer (d ∷ ds) (x ∷ es) xs ys p q n e =
    let tails : ds ++ xs ≡ es ++ ys = cc in
    let heads : d ≡ x = cc in
    let r = longer ds es xs ys p.1 q.1 n tails in
    (r.0, (λ i. sym heads i ∷ r.1 i), r.2)

same_digits : (ds es xs ys : List ℕ) → AllDigits 10 ds → AllDigits 10 es → NoDigit xs → NoDigit ys → ds ++ xs ≡ es ++ ys → ds ≡ es
same_digits ds es xs ys p q m n e =
    let r = longer ds es xs ys p q n e in
    let s = longer es ds ys xs q p m (sym e) in
    let none = nil_from_length r.0 (omega (arith, simp length-append at (ap length r.1), simp length-append at (ap length s.1))) in
    sym (append-nil ds) ∙ ap (λ l. ds ++ l) (sym none) ∙ sym r.1

value_grows : (ds es : List ℕ) → digits_value 10 ds ≤ digits_value 10 (ds ++ es)
value_grows ds es =
    let front = digits_value_is 10 ds in
    let more = number_after_ge 10 (number_from_digits 10 (map digit_value ds)) (map digit_value es) (omega arith) in
    let whole = digits_value_is 10 (ds ++ es) ∙ ap (number_from_digits 10) (map-append digit_value ds es) ∙ number_after_append 10 0 (map digit_value ds) (map digit_value es) in
    omega (arith, front, more, whole)

module _ (ds zs : List ℕ) (ok : AllDigits 10 ds) (m : ℕ) (ys : List ℕ) (fits : small m) (ends : NoDigit ys) (e : ds ++ zs ≡ decimal m ++ ys) where
  below : m < 2 ^ 64
  below = omega arith

  pub not_above : digits_value 10 ds ≤ most
  not_above =
      let r = longer ds (decimal m) zs ys ok (digits_decimal own m below) ends e in
      omega (arith, value_grows ds r.0, ap (digits_value 10) r.1, digits_value-decimal own m below)

  module _ (stops : NoDigit zs) where
    pub is_number : ds ≡ decimal m
    is_number = same_digits ds (decimal m) zs ys ok (digits_decimal own m below) stops ends e

    pub is_value : digits_value 10 ds ≡ m
    is_value = ap (digits_value 10) is_number ∙ digits_value-decimal own m below

    pub is_some : 0 < length ds
    is_some = omega (arith, ap length is_number, decimal_nonempty m below)

    pub no_zero_first : LeadingZero ds → ⊥
    no_zero_first z =
        ⊎_elim
        (λ p. omega (arith, first_decimal m p below, ap (λ l. get_or l 0 0) is_number))
        (λ p. let zero : m ≡ 0 = omega arith in omega (arith, ap length (is_number ∙ ap decimal zero ∙ decimal_digit 0 (omega arith))))
        (cases_lt 0 m)

-- digits with no zero in front are the number that they write
written : (ds : List ℕ) → AllDigits 10 ds → 0 < length ds → (LeadingZero ds → ⊥) → digits_value 10 ds ≤ most → decimal (digits_value 10 ds) ≡ ds
written ds ok some first fits =
    decimal-digits_value own ds ok some
    (λ z. ⊎_elim (λ l. absurd (first (l, z))) (λ l. omega arith) (cases_lt 1 (length ds)))
    (omega arith)

-- the digits that a cursor passed from s to t, and the number so far
pub record Sofar (s t : Cursor) (n : ℕ) : Type 0 where
  pub ds : List ℕ
  pub passed : Passed ds s t
  pub digits : AllDigits 10 ds
  pub is : digits_value 10 ds ≡ n

pub start : (s : Cursor) → Sofar s s 0
start s = record { ds = []; passed = passed_none s; digits = tt; is = refl }

glyph : (d : ℕ) → d < 10 → digit_value (48 + d) ≡ d
glyph d h = grind (arith, nat_tests)

pub more : {s t u : Cursor} {n : ℕ} (x d : ℕ) → x ≡ d → Sofar s t n → (d < 10) × Passed ((48 + d) ∷ []) t u → Sofar s u (n * 10 + x)
more x d e h p =
    let g = glyph d p.0 in
    record {
      ds = h.ds ++ (48 + d) ∷ [];
      passed = passed_both h.passed p.1;
      digits = digits_push 10 h.ds (48 + d) h.digits (omega arith);
      is = digits_value_push 10 h.ds (48 + d) ∙ (omega (arith, h.is));
    }

-- u is t, before which no digit stands
pub at_end_lem : {s t u : Cursor} {n : ℕ} → Sofar s t n → NoDigit (ahead t) × (u ≡ t) → Sofar s u n × NoDigit (ahead u)
at_end_lem {s} {t} {u} {n} h e = subst (λ x. Sofar s x n × NoDigit (ahead x)) (sym e.1) (h, e.0)

-- s is where the digits begin, and t where they end
module _ {s t : Cursor} {n : ℕ} (h : Sofar s t n) where
  abbrev len : ℕ
  len = length (ahead s) - length (ahead t)

  long : len ≡ length h.ds
  long = omega (arith, shorter h.ds s t h.passed)

  part : take len (ahead s) ≡ h.ds
  part = ap (take len) h.passed.front ∙ take_at h.ds (ahead t) len (sym long)

  pub above : (small n → ⊥) → Exactly decimal small s t None
  above large = record {
    reads = tt;
    finds = λ m ys fits ends e. absurd (large (omega (arith, h.is, not_above h.ds (ahead t) h.digits m ys fits ends (sym h.passed.front ∙ e))));
  }

  module _ (stops : NoDigit (ahead t)) where
    pub empty : len ≡ 0 → Exactly decimal small s t None
    empty none = record {
      reads = tt;
      finds = λ m ys fits ends e. absurd (omega (arith, none, long, is_some h.ds (ahead t) h.digits m ys fits ends (sym h.passed.front ∙ e) stops));
    }

    pub zero_first : LeadingZero (take len (ahead s)) → Exactly decimal small s t None
    zero_first z = record {
      reads = tt;
      finds = λ m ys fits ends e. absurd (no_zero_first h.ds (ahead t) h.digits m ys fits ends (sym h.passed.front ∙ e) stops (subst LeadingZero part z));
    }

    pub number_is : small n → (len ≡ 0 → ⊥) → (LeadingZero (take len (ahead s)) → ⊥) → Exactly decimal small s t (Some n)
    number_is fits-n apart no_zero =
        let some : 0 < length h.ds = ⊎_elim (λ l. l) (λ l. absurd (apart (omega (arith, long)))) (cases_lt 0 (length h.ds)) in
        let same : decimal n ≡ h.ds = ap decimal (sym h.is) ∙ written h.ds h.digits some (λ z. no_zero (subst LeadingZero (sym part) z)) (omega (arith, h.is)) in
        record {
          reads = (fits-n, subst (λ l. Passed l s t) (sym same) h.passed);
          finds = λ m ys fits ends e. ap Some (sym h.is ∙ is_value h.ds (ahead t) h.digits m ys fits ends (sym h.passed.front ∙ e) stops);
        }
