-- Each turn reads one item more of the content.
use Rattle.std.proofs.Common.{◌≡◌, ◌+◌, ◌-◌, ◌<◌, length, ap, ◌∙◌, arith}
use Rattle.std.proofs.lemmas.Result.{err_from_is_err_and}
use Rattle.boxlist.specs.Order.{owing}
use Rattle.boxlist.proofs.Contents.{one_placed, one_onward, owing_less, gathered_more}
use Rattle.boxlist.proofs.list.BoxList.gather.Goals as goal

pub returns-in_err-table : goal.returns-in_err-table
returns-in_err-table c =
    let p = err_from_is_err_and c.from_residual.result c.from_residual.ensures.1 in
    rw (p.1, p.2) (c.loop-i.i, c.loop-i-test.true, c.loop-i.self, c.loop-i.invariant.0, c.in_err-table.ensures)

pub loop-i-preserved : goal.loop-i-preserved
loop-i-preserved c =
    let a = c.in_ok-table.ensures in
    let b = c.loop-i.invariant in
    let i = c.loop-i.i in
    let on = one_onward c.loop-i.self c.content_item.new.self a.0 a.1 in
    let same : length c.loop-i.self.reader.text.now ≡ length c.args.self.now.reader.text.now = ap (λ t. length t.now) b.3 in
    let room : i < length c.loop-i.table = omega (arith, c.requires.room, b.2) in
    let less =
    owing_less (c.args.count - i) c.loop-i.self.stage c.content_item.new.self.stage a.0 c.in_ok-table.field-0 (omega arith) (b.1 c.loop-i-test.true) a.2
    (one_placed c.loop-i.self c.content_item.new.self a.0 a.1) in
    let e : c.args.count - i - 1 ≡ c.args.count - (i + 1) = omega arith in (
      gathered_more c.args.self.now c.loop-i.self c.content_item.new.self c.args.table.now c.loop-i.table i a.0 c.in_ok-table.field-0 room b.0 a.1 a.2,
      (λ _. less ∙ ap owing e),
      omega (arith, b.2),
      a.1.text ∙ b.3,
    )
