-- The cube of 1,290 is small.
use Rattle.std.proofs.Common.{◌+◌, ◌*◌, ◌≤◌, div-le_self, arith}
use Rattle.std.proofs.lemmas.Nat.{mul-le}
use Rattle.cost.proofs.badness.Goals as goal

pub overflow_cast-result : goal.overflow_cast-result
overflow_cast-result c =
    let r = c.ratio-r.result in
    let small = c.if-r-gt1290.false in
    let square : r * r ≤ 1290 * 1290 = mul-le r r 1290 1290 small small in
    let cube : r * r * r ≤ 1290 * 1290 * 1290 = mul-le (r * r) r (1290 * 1290) 1290 square small in
    let less = div-le_self (r * r * r + 131072) 262144 in
    record { fits = omega arith }
