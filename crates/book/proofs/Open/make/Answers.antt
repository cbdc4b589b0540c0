use Rattle.std.proofs.Common.{◌++◌, map, length, sym, refl, ap, ◌∙◌}
use Rattle.std.proofs.lemmas.List.{length-map}
use Rattle.calls.specs.Making.{tables_within}
use Rattle.book.specs.View.{Contents, lent, lengths_of}
use Rattle.book.proofs.Lending.{accepted}
use Rattle.book.proofs.Open.make.Goals as goal

pub returns : goal.returns
returns c =
    let t : Contents = lent c.args.rows.now c.args.contributions.now c.args.page.now c.args.waiting.now c.args.shipped.now c.args.pages.now (map (λ s. s.now) c.args.shelves.now) in
    let fit = ap (λ others. tables_within (length t.rows) (others ++ map length t.shelves)) (sym c.other_lengths-others.ensures) ∙ sym c.if-not-fit.ensures.within in
    let taken = accepted (length t.rows) (lengths_of t) c.args.settings c.args.classes fit (sym c.if-not-within_limits.ensures) c.classes_within_limits.ensures.eight (sym c.if-not-classes_within_limits.ensures.within) in
    record { made = (taken, c.new.ensures.empty t, c.new.ensures.kept t fit (length-map c.args.shelves.now (λ s. s.now) ∙ c.if-not-fit.ensures.eight refl)) }
