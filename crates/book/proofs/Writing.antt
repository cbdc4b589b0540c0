-- A list written from a place on, entry after entry.
use Rattle.std.proofs.Common.{◌≡◌, ℕ, ◌+◌, ◌<◌, List, [], ◌∷◌, ◌++◌, map, length, get_or, take, drop, set, sym, ap, ◌∙◌, arith}
use Rattle.std.proofs.lemmas.List.{append_assoc, take_more_set, drop-set-lt, drop-drop, map_more}

-- the written entries are those of another list, one by one
pub written_more : {A B : Type 0} (f : B → A) (was now : List A) (from : List B) (at i : ℕ) (x : B) (v : A) → at + i < length now → i < length from →
    take (at + i) now ≡ take at was ++ map f (take i from) → v ≡ f (get_or from i x) → take (at + (i + 1)) (set now (at + i) v) ≡ take at was ++ map f (take (i + 1) from)
written_more f was now from at i x v l m e is =
    ap (λ n. take n (set now (at + i) v)) (omega arith) ∙ take_more_set now (at + i) v l ∙ ap (λ l. l ++ v ∷ []) e ∙ append_assoc (take at was) (map f (take i from)) (v ∷ []) ∙
    ap (λ y. take at was ++ (map f (take i from) ++ y ∷ [])) is ∙ ap (λ l. take at was ++ l) (sym (map_more f from i x m))

pub written_rest : {A : Type 0} (was now : List A) (j k : ℕ) (v : A) → k ≡ j + 1 → drop j now ≡ drop j was → drop k (set now j v) ≡ drop k was
written_rest {A} was now j k v next e = drop-set-lt k now j v (omega arith) ∙ one now ∙ ap (drop 1) e ∙ sym (one was)
  where
    one : (xs : List A) → drop k xs ≡ drop 1 (drop j xs)
    one xs = ap (λ n. drop n xs) next ∙ sym (drop-drop 1 j xs)
