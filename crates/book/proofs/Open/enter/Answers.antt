use Rattle.std.proofs.Common.{◌≤◌, [], ◌∷◌, ◌++◌, length, ap, ◌∙◌, arith}
use Rattle.queue.specs.Queues.{list_of}
use Rattle.book.specs.View.{lent}
use Rattle.book.proofs.Entering.{fed_is, kept_then}
use Rattle.book.proofs.Open.enter.Goals as goal

pub returns-clause-fed : goal.returns-clause-fed
returns-clause-fed c =
    let o = c.args.self.now in
    let used : o.rows ≤ length c.args.rows.now = omega (arith, c.requires.room) in
    let queued = c.push_back.ensures.list ∙ ap (λ k. list_of o.contributions c.args.contributions.now ++ k ∷ []) c.requires.number in
    λ page waiting shipped pages shelves. fed_is o (lent c.args.rows.now c.args.contributions.now page waiting shipped pages shelves) c.write_fed.new.rows c.push_back.new.cells
    c.args.item c.args.content.now c.push_back.new.self _ used (ap length c.content_of.ensures) c.write_fed.ensures.written queued

pub returns-clause-kept : goal.returns-clause-kept
returns-clause-kept c =
    let o = c.args.self.now in
    let used : o.rows ≤ length c.args.rows.now = omega (arith, c.requires.room) in
    let fed = c.write_fed.ensures in
    let queued = c.push_back.ensures.list ∙ ap (λ k. list_of o.contributions c.args.contributions.now ++ k ∷ []) c.requires.number in
    λ page waiting shipped pages shelves none k. kept_then o (lent c.args.rows.now c.args.contributions.now page waiting shipped pages shelves) c.write_fed.new.rows c.push_back.new.cells
    c.args.item c.args.content.now c.push_back.new.self _ used (ap length c.content_of.ensures) fed.written queued fed.length c.push_back.auto.cells c.push_back.ensures.within c.requires.room none k
