-- The classes and the counts go by side by side.
use Rattle.std.proofs.Common.{◌&&◌, nat_lt, ◌∙◌, rules, tests}
use Rattle.std.proofs.lemmas.Iterator.{YieldsList-from_slice, YieldsList-from_zip}
use Rattle.std.proofs.lemmas.Iterator.Search.{any_from_yields_List}
use Rattle.policies.proofs.Shelves.{any_named}
use Rattle.policies.proofs.limited.judging.names_items.Goals as goal

pub returns : goal.returns
returns c =
    any_from_yields_List (λ p. p.0 && nat_lt 0 p.1) c.any.new.self _ c.any.result c.any.ensures.ran (YieldsList-from_zip (YieldsList-from_slice c.args.classes.now cc) (YieldsList-from_slice c.args.shelved.now cc)) (λ x b q k. search (rules, tests)) ∙
    any_named c.args.classes.now c.args.shelved.now
