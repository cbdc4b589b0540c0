-- The total moves by a depth and a height.
use Rattle.std.proofs.Common.{◌^◌, ◌<◌, nat_abs, arith, rules}
use borrow.Author.Differences.{ints}
use Rattle.cost.proofs.sums.Sums.lower.Goals as goal

pub returns : goal.returns
returns c =
    let t : nat_abs c.args.self.now.total < 2 ^ 62 = c.requires.total in
    let d : c.args.self.now.depth < 2 ^ 32 = search rules in
    record { after = search rules; bound = omega (arith, ints, c.requires.height) }
