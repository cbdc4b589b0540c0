-- Verdicts that split what was held and the body: all of it ships, or a column is set aside or stands before it.
use Rattle.std.proofs.Common.{◌≡◌, ℕ, ◌+◌, List, [], ◌++◌, length, take, drop, sym, ap, ◌∙◌, arith}
use Rattle.std.proofs.Math.Seq.{take-append-add, drop-append-add}
use Rattle.std.proofs.lemmas.List.{append_assoc, length-append, length-drop, length-take-le, take-append-drop}
use Rattle.policies.specs.declared.Verdict.{Verdict}
use Rattle.policies.specs.Policies.{Splits, shipped_of, returned_of}

pub all_ships : (before body : List ℕ) (v : Verdict) → length before + length body ≡ v.shipped → v.held ≡ 0 → Splits before body [] v
all_ships before body v e f =
    let n : v.shipped + v.held ≡ v.shipped = omega arith in
    record {
      within = omega (arith, length-append before body);
      joined = rw n (take-append-drop v.shipped (before ++ body));
    }

-- as many are held as the verdict says
pub held_count : (before body after : List ℕ) (v : Verdict) → Splits before body after v → length after ≡ v.held
held_count before body after v s =
    let all = before ++ body in
    let n = ap length s.joined in
    omega (arith, s.within, n, length-append (shipped_of all v) (after ++ returned_of all v), length-append after (returned_of all v), length-take-le v.shipped all (omega (arith, s.within)), length-drop (v.shipped + v.held) all)

pub column_aside : (before body after : List ℕ) (w v : Verdict) → Splits before body after w → v.shipped ≡ 0 → v.held ≡ w.shipped + w.held →
    Splits before body (shipped_of (before ++ body) w ++ after) v
column_aside before body after w v s e f =
    let all = before ++ body in
    let n : v.shipped + v.held ≡ w.shipped + w.held = omega arith in
    record {
      within = omega (arith, s.within);
      joined =
          ap (λ k. take k all ++ ((take w.shipped all ++ after) ++ returned_of all v)) e ∙
          append_assoc (take w.shipped all) after (returned_of all v) ∙
          ap (λ k. take w.shipped all ++ (after ++ drop k all)) n ∙ s.joined;
    }

pub column_before : (column before body after : List ℕ) (w v : Verdict) → Splits before body after w → v.shipped ≡ length column + w.shipped → v.held ≡ w.held →
    Splits (column ++ before) body after v
column_before column before body after w v s e f =
    let all = before ++ body in
    let n : v.shipped + v.held ≡ length column + (w.shipped + w.held) = omega arith in
    let first : take v.shipped (column ++ all) ≡ column ++ take w.shipped all = ap (λ k. take k (column ++ all)) e ∙ take-append-add column all w.shipped in
    let last : drop (v.shipped + v.held) (column ++ all) ≡ drop (w.shipped + w.held) all = ap (λ k. drop k (column ++ all)) n ∙ drop-append-add column all (w.shipped + w.held) in
    let shut = append_assoc column before body in
    record {
      within = omega (arith, s.within, ap length shut, length-append column all);
      joined =
          ap (λ zs. take v.shipped zs ++ (after ++ drop (v.shipped + v.held) zs)) shut ∙ ap (λ zs. zs ++ (after ++ drop (v.shipped + v.held) (column ++ all))) first ∙
          ap (λ zs. (column ++ take w.shipped all) ++ (after ++ zs)) last ∙ append_assoc column (take w.shipped all) (after ++ returned_of all w) ∙
          ap (λ zs. column ++ zs) s.joined ∙ sym shut;
    }
