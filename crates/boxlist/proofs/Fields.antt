-- Numbers behind a space or a minus: what is read of the number is read of the whole.
use Rattle.std.proofs.Common.{◌≡◌, ℕ, zero, suc, ◌+◌, ◌<◌, List, [], ◌∷◌, ◌++◌, map, length, get_or, take, drop, set, ℤ, pos, negsuc, ◌-ℤ◌, IfSome, Some, None, decimal, Option, sym, refl, ap, ◌∙◌, subst, arith, MatchOption}
use Rattle.std.proofs.lemmas.Fmt.{decimal_nonempty, digits_decimal}
use Rattle.std.proofs.ByRecursion.{All-get_or, All-push}
use Rattle.std.proofs.lemmas.List.{append_assoc, append_cancel_left, append-nil, drop_more, get_or_append_left, length-set, map_push, take_all, take_more, take_more_set}
use Rattle.std.proofs.lemmas.Grind.{flat_map-append}
use Rattle.std.proofs.lemmas.Str.Parse.{digit_at}
use Rattle.std.proofs.lemmas.Int.{ints}
use Rattle.std.specs.List.{flat_map, AllByRecursion}
use Rattle.boxlist.specs.declared.cursor.Cursor.{Cursor}
use Rattle.boxlist.specs.Parts.{ahead, Exactly, fields, NoDigit, Passed, small}
use Rattle.boxlist.specs.Texts.{field, Small}
use Rattle.boxlist.proofs.Numbers.{own}
use Rattle.boxlist.proofs.Passes.{passed_none, passed_both, same_rest}

pub none_some : {A : Type 0} {x : A} → None ≡ Some x → ⊥
none_some e = cc

pub some_same : {A : Type 0} {x y : A} → Some x ≡ Some y → x ≡ y
some_same e = cc

-- a written number has no minus in front
no_minus : (n : ℕ) (xs ys : List ℕ) → small n → 45 ∷ xs ≡ decimal n ++ ys → ⊥
no_minus n xs ys fits e =
    let some = decimal_nonempty n (omega arith) in
    let first = digit_at (decimal n) 0 (digits_decimal own n (omega arith)) some in
    omega (arith, ap (λ l. get_or l 0 0) e, get_or_append_left (decimal n) ys 0 0 some)

-- what stands behind a minus, as the number that is read there
abbrev pub negated : Option ℕ → Option ℤ
negated None = None
negated (Some zero) = None
negated (Some (suc n)) = Some (negsuc n)

module _ (s t u : Cursor) (p : Passed (32 ∷ 45 ∷ []) s t) where
  minus_reads : (o : Option ℕ) → IfSome o (λ n. small n × Passed (decimal n) t u) → IfSome (negated o) (λ z. Small z × Passed (field z) s u)
  minus_reads None h = tt
  minus_reads (Some zero) h = tt
  minus_reads (Some (suc n)) h = (h.0, passed_both p h.1)

  minus_finds : (o : Option ℕ) → Exactly decimal small t u o → (z : ℤ) (ys : List ℕ) → Small z → NoDigit ys → ahead s ≡ field z ++ ys → negated o ≡ Some z
  minus_finds o h (pos n) ys fits ends e = absurd (no_minus n (ahead t) ys fits (same_rest (sym p.front ∙ e)))
  minus_finds o h (negsuc n) ys fits ends e = ap negated (h.finds (suc n) ys fits ends (same_rest (same_rest (sym p.front ∙ e))))

  pub minus : (o : Option ℕ) → Exactly decimal small t u o → Exactly field Small s u (negated o)
  minus o h = record { reads = minus_reads o h.reads; finds = minus_finds o h }

pub negative_is : (n : ℕ) (r : Option ℤ) → MatchOption r (n ≡ 0) (λ z. (0 < n) × (z ≡ pos 0 -ℤ pos n)) → negated (Some n) ≡ r
negative_is zero None h = refl
negative_is zero (Some z) h = absurd (omega arith)
negative_is (suc n) None h = absurd (omega arith)
negative_is (suc n) (Some z) h = ap Some (omega (arith, ints, h.1))

-- the first i fields have been read into ns, of the n that are wanted
pub record Read (n : ℕ) (s t : Cursor) (i : ℕ) (ns : List ℕ) : Type 0 where
  pub long : length ns ≡ n
  pub smalls : AllByRecursion small (take i ns)
  pub passed : Passed (fields (take i ns)) s t
  pub kept : (vs ys : List ℕ) → length vs ≡ n → AllByRecursion small vs → NoDigit ys → ahead s ≡ fields vs ++ ys → (take i vs ≡ take i ns) × (ahead t ≡ fields (drop i vs) ++ ys)

pub ends_before : (zs : List ℤ) (ys : List ℕ) → NoDigit ys → NoDigit (flat_map field zs ++ ys)
ends_before [] ys h = h
ends_before (z ∷ zs) ys h = λ d. omega arith

fields_push : (ns : List ℕ) (n : ℕ) → fields (ns ++ n ∷ []) ≡ fields ns ++ field (pos n)
fields_push ns n = ap (flat_map field) (map_push pos ns n) ∙ flat_map-append field (map pos ns) (pos n ∷ []) ∙ ap (λ l. fields ns ++ l) (append-nil (field (pos n)))

pub none : (n : ℕ) (s : Cursor) (ns : List ℕ) → length ns ≡ n → Read n s s 0 ns
none n s ns long = record { long = long; smalls = tt; passed = passed_none s; kept = λ vs ys l a ends e. (refl, e) }

module _ {n i : ℕ} {s t : Cursor} {ns : List ℕ} (u : Cursor) (h : Read n s t i ns) (l : i < n) where
  -- what the next field is, where numbers stand there
  next_is : (o : Option ℕ) → Exactly (λ v. field (pos v)) small t u o → (vs ys : List ℕ) → length vs ≡ n → AllByRecursion small vs → NoDigit ys → ahead s ≡ fields vs ++ ys → (ahead t ≡ field (pos (get_or vs i 0)) ++ (fields (drop (i + 1) vs) ++ ys)) × (o ≡ Some (get_or vs i 0))
  next_is o x vs ys long a ends e =
      let here : ahead t ≡ field (pos (get_or vs i 0)) ++ (fields (drop (i + 1) vs) ++ ys) = (h.kept vs ys long a ends e).1 ∙ ap (λ r. fields r ++ ys) (drop_more vs i 0 (omega arith)) ∙ append_assoc (field (pos (get_or vs i 0))) (fields (drop (i + 1) vs)) ys in
      (here, x.finds (get_or vs i 0) (fields (drop (i + 1) vs) ++ ys) (All-get_or small vs i 0 (omega arith) a) (ends_before (map pos (drop (i + 1) vs)) ys ends) here)

  pub fails : Exactly (λ v. field (pos v)) small t u None → Exactly fields (λ vs. (length vs ≡ n) × AllByRecursion small vs) s u None
  fails x = record { reads = tt; finds = λ vs ys fits ends e. absurd (none_some (next_is None x vs ys fits.0 fits.1 ends e).1) }

  pub another : (v : ℕ) → Exactly (λ v. field (pos v)) small t u (Some v) → Read n s u (i + 1) (set ns i v)
  another v x =
      let front : take (i + 1) (set ns i v) ≡ take i ns ++ v ∷ [] = take_more_set ns i v (omega (arith, h.long)) in
      record {
        long = length-set ns i v ∙ h.long;
        smalls = subst (AllByRecursion small) (sym front) (All-push small (take i ns) v h.smalls x.reads.0);
        passed = subst (λ r. Passed r s u) (sym (ap fields front ∙ fields_push (take i ns) v)) (passed_both h.passed x.reads.1);
        kept = λ vs ys long a ends e.
            let q = next_is (Some v) x vs ys long a ends e in
            let same : v ≡ get_or vs i 0 = some_same q.1 in
            (take_more vs i 0 (omega arith) ∙ ap (λ r. r ++ get_or vs i 0 ∷ []) (h.kept vs ys long a ends e).0 ∙ ap (λ y. take i ns ++ y ∷ []) (sym same) ∙ sym front, append_cancel_left (field (pos v)) _ _ (sym x.reads.1.front ∙ q.0 ∙ ap (λ y. field (pos y) ++ (fields (drop (i + 1) vs) ++ ys)) (sym same)));
      }

pub whole : {n : ℕ} {s t : Cursor} {ns : List ℕ} → Read n s t n ns → Exactly fields (λ vs. (length vs ≡ n) × AllByRecursion small vs) s t (Some ns)
whole {n} {s} {t} {ns} h =
    let all = take_all n ns (omega (arith, h.long)) in
    record {
      reads = ((h.long, subst (AllByRecursion small) all h.smalls), subst (λ r. Passed (fields r) s t) all h.passed);
      finds = λ vs ys fits ends e. ap Some (sym all ∙ sym (h.kept vs ys fits.0 fits.1 ends e).0 ∙ take_all n vs (omega (arith, fits.0)));
    }
