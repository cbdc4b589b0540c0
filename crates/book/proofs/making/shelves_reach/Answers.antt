use Rattle.std.proofs.Common.{leb, length, rules, tests}
use Rattle.std.proofs.lemmas.Iterator.{YieldsList-from_slice}
use Rattle.std.proofs.lemmas.Iterator.Search.{all_from_yields_List}
use Rattle.std.proofs.lemmas.List.Folds.{list_all-map}
use Rattle.book.proofs.making.shelves_reach.Goals as goal

pub returns-clause-reach : goal.returns-clause-reach
returns-clause-reach c =
    rw (← c.each_ref.ensures.items)
    (simp list_all-map
    (all_from_yields_List (λ s. leb c.args.n (length s.now.now)) _ _ _ c.all.ensures.ran (YieldsList-from_slice c.each_ref.result cc) (λ x b q k. search (rules, tests))))
