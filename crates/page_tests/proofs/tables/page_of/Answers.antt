-- The galley is well formed, so that each number may arrive.
use Rattle.std.proofs.Common.{◌≤◌, length, get_or, take, ap, ◌∙◌, subst, rules}
use Rattle.std.specs.List.{AllByRecursion}
use Rattle.std.proofs.lemmas.List.{take_all}
use Rattle.page.specs.PageSoFar.{so_far}
use Rattle.page.specs.Standing.{Inside}
use Rattle.page_tests.specs.Galley.{galley}
use Rattle.page_tests.proofs.Steps.{standing, so_far_lem, arrives, one_more}
use Rattle.page_tests.proofs.tables.page_of.Goals as goal

pub add-requires : goal.add-requires
add-requires c =
    let g = c.args.basis.now in
    let numbers = c.args.numbers.now in
    let k = c.loop-x.x-index in
    let few : length numbers ≤ 8 = search rules in
    let x : Inside galley (get_or numbers k 0) = record { first = search rules; last = search rules } in
    record {
      standing = (take k numbers, so_far_lem g c.requires c.loop-x.page numbers k few c.galley-rows.result c.galley-rows.ensures c.loop-x.auto.x-index-end c.loop-x.invariant.1 c.loop-x.invariant.0);
      arriving = arrives g c.requires c.loop-x.page numbers k few c.galley-rows.result c.galley-rows.ensures c.loop-x-test.true x;
    }

pub loop-x-preserved : goal.loop-x-preserved
loop-x-preserved c =
    let g = c.args.basis.now in
    let numbers = c.args.numbers.now in
    let k = c.loop-x.x-index in
    let few : length numbers ≤ 8 = search rules in
    let x : Inside galley (get_or numbers k 0) = record { first = search rules; last = search rules } in
    one_more g c.requires c.loop-x.page numbers k few c.galley-rows.result c.galley-rows.ensures c.loop-x-test.true x c.add.new.self (c.add.ensures (take k numbers)) c.loop-x.invariant.0 c.loop-x.invariant.1

pub returns : goal.returns
returns c =
    let g = c.args.basis.now in
    let numbers = c.args.numbers.now in
    let few : length numbers ≤ 8 = search rules in
    let all = take_all c.loop-x.x-index numbers c.loop-x-test.false in
    standing g c.requires c.loop-x.page numbers few (subst (AllByRecursion (Inside galley)) all c.loop-x.invariant.1) (c.loop-x.invariant.0 ∙ ap (so_far g galley) all)
