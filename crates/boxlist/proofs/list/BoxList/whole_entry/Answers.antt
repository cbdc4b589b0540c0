-- The record is read first, and then its content.
use Rattle.std.proofs.Common.{Err, subst, inr}
use Rattle.std.proofs.lemmas.Result.{err_from_is_err_and}
use Rattle.boxlist.specs.Reading.{Gathered, ReadContent}
use Rattle.boxlist.proofs.Contents.{entry_onward}
use Rattle.boxlist.proofs.list.BoxList.whole_entry.Goals as goal

pub returns-in_err-gather-clause-read : goal.returns-in_err-gather-clause-read
returns-in_err-gather-clause-read c =
    let p = err_from_is_err_and c.from_residual-in_err-gather.result c.from_residual-in_err-gather.ensures.1 in
    rw (p.1, p.2)
    (inr (
      c.in_ok-first.first,
      c.record.new.self,
      c.in_ok-first.ensures.read,
      subst (λ n. ReadContent c.record.new.self c.gather.new.self c.args.table.now c.gather.new.table n (Err c.in_err-gather.field-0.0)) c.to_come.ensures
          c.in_err-gather.ensures,
    ))

pub returns-clause-read : goal.returns-clause-read
returns-clause-read c = (
  c.record.new.self,
  c.in_ok-first.ensures.read,
  subst (λ n. Gathered c.record.new.self c.gather.new.self c.args.table.now c.gather.new.table n) c.to_come.ensures c.in_ok-gather.ensures,
)

pub returns-clause-onward : goal.returns-clause-onward
returns-clause-onward c = λ r e. entry_onward c.args.self.now c.record.new.self c.gather.new.self _ _ (c.in_ok-first.ensures.onward r e) c.in_ok-gather.ensures
