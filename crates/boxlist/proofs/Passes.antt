-- How a cursor passes bytes, one part after another.
use Rattle.std.proofs.Common.{◌≡◌, ℕ, ◌+◌, List, [], ◌∷◌, ◌++◌, length, sym, refl, ap, ◌∙◌, length-append}
use Rattle.std.proofs.lemmas.List.{append_assoc}
use Rattle.boxlist.specs.declared.cursor.Cursor.{Cursor}
use Rattle.boxlist.specs.Parts.{ahead, Passed}

pub passed_none : (s : Cursor) → Passed [] s s
passed_none s = record { front = refl }

pub passed_both : {front bs : List ℕ} {s t u : Cursor} → Passed front s t → Passed bs t u → Passed (front ++ bs) s u
passed_both {front} {bs} {s} {t} {u} p q = record { front = p.front ∙ ap (λ l. front ++ l) q.front ∙ sym (append_assoc front bs (ahead u)) }

-- what is passed is no longer to be read
pub shorter : (bs : List ℕ) (s t : Cursor) → Passed bs s t → length (ahead s) ≡ length bs + length (ahead t)
shorter bs s t p = ap length p.front ∙ length-append bs (ahead t)

pub same_rest : {x y : ℕ} {xs ys : List ℕ} → x ∷ xs ≡ y ∷ ys → xs ≡ ys
same_rest e = cc
