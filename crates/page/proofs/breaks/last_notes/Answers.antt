-- Eight entries that agree are the whole list.
use Rattle.std.proofs.Common.{◌≡◌, ℕ, ◌<◌, List, map, length, get_or, None, Option, sym, ◌∙◌, arith, rules}
use Rattle.std.proofs.lemmas.List.{ext_get_or, get_or-map, length-map}
use Rattle.page.specs.declared.ClassSoFar.{ClassSoFar}
use Rattle.page.specs.Breaks.{last_note}
use Rattle.page.proofs.breaks.last_notes.Goals as goal

read : (last : List (Option ℕ)) (ks : List (Option ClassSoFar)) → length last ≡ 8 → length ks ≡ 8 → ((j : ℕ) → j < 8 → get_or last j None ≡ last_note (get_or ks j None)) → last ≡ map last_note ks
read last ks e f h =
    let n = length-map ks last_note in
    ext_get_or None last (map last_note ks) (omega arith) (λ j l. h j (omega arith) ∙ sym (get_or-map last_note ks j None None (omega arith)))

pub returns : goal.returns
returns c =
    let items = c.map.ensures.items in
    let eight : length c.args.classes ≡ 8 = search rules in
    read c.map.result c.args.classes items.long eight (λ j l. let h = (items.at j None None l).2 in search rules)
