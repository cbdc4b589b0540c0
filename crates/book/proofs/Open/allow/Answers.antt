use Rattle.std.proofs.Common.{◌≡◌, None, Some, Option, MatchResult, refl}
use Rattle.std.proofs.lemmas.List.{length-take-le}
use Rattle.items.specs.declared.refusals.Refusal.{Refusal}
use Rattle.book.specs.Calls.{allowed}
use Rattle.book.proofs.Open.allow.Goals as goal

-- what is answered tells what is refused
told : (o : Option Refusal) → MatchResult (allowed o) (λ _. o ≡ None) (λ e. o ≡ Some e)
told None = refl
told (Some e) = refl

pub returns-clause-refusal : goal.returns-clause-refusal
returns-clause-refusal c = rw (c.allow_within.ensures, length-take-le c.args.self.now.rows c.args.tables.now.rows.now c.requires) (told _)
