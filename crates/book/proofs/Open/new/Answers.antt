use Rattle.book.proofs.Lending.{empty_kept}
use Rattle.book.proofs.Open.new.Goals as goal

pub returns-clause-kept : goal.returns-clause-kept
returns-clause-kept c t fit eight = rw c.new-none.ensures.empty (empty_kept c.args.settings c.args.classes t c.requires.settings c.requires.classes c.requires.eight fit eight)
