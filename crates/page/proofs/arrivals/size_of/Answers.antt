-- The chain gives each row's size, and they add up.
use Rattle.std.proofs.Common.{◌≤◌, length, map, pos, ◌+ℤ◌, ◌∙◌, rules, arith}
use borrow.Author.Differences.{ints}
use borrow.Author.Tests.{tests}
use Rattle.std.proofs.lemmas.Iterator.{YieldsList-from_slice, YieldsList-from_map}
use Rattle.std.proofs.lemmas.Iterator.Adapters.{total_from_yields_List}
use Rattle.page.proofs.Added.{row_size, runs_fit, rows_small, rows_add, sizes_low}
use Rattle.page.proofs.arrivals.size_of.Goals as goal

pub sum-requires-clause-fits : goal.sum-requires-clause-fits
sum-requires-clause-fits c =
    let rows = c.args.content.rows.now in
    let small = rows_small rows c.args.content.within in
    let short : length rows ≤ 16384 = c.args.content.short in
    runs_fit _ (map row_size rows) c.map.result (YieldsList-from_map _ row_size (YieldsList-from_slice rows cc) c.map.ensures.closure (λ x r q k. search (rules, tests))) (omega arith)

pub returns : goal.returns
returns c =
    let rows = c.args.content.rows.now in
    let all = total_from_yields_List ◌+ℤ◌ (pos 0) c.sum.result c.sum.ensures.ran (YieldsList-from_map _ row_size (YieldsList-from_slice rows cc) c.map.ensures.closure (λ x r q k. search (rules, tests))) in
    let is = all ∙ rows_add rows (pos 0) in
    let low = sizes_low rows c.args.content.within c.args.content.short in
    record { size = omega (arith, ints); bound = omega (arith, ints) }
