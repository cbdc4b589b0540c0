use Rattle.std.proofs.Common.{◌≡◌, take}
use Rattle.std.specs.List.{AllByRecursion}
use Rattle.page.specs.PageSoFar.{so_far}
use Rattle.page.specs.Standing.{Inside}
use Rattle.page_tests.specs.Galley.{galley}
use Rattle.page_tests.proofs.tables.page_of.Given as goal

abbrev pub invariant-loop-x : goal.invariant-loop-x
invariant-loop-x l = (l.page ≡ so_far l.basis galley (take l.x-index l.numbers)) × AllByRecursion (Inside galley) (take l.x-index l.numbers)
