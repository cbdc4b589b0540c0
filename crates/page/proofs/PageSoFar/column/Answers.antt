-- The smaller of two heights that are low is low.
use Rattle.std.proofs.Common.{◌≡◌, ℤ, ap, ◌∙◌, arith, w64, SFits, to_z, of_z}
use borrow.Author.Differences.{ints}
use Rattle.std.specs.Int.{int_min}
use Rattle.std.proofs.lemmas.Int.{to_z-of_z, clamps}
use Rattle.page.specs.PageSoFar.{room_on}
use Rattle.page.proofs.PageSoFar.column.Goals as goal

smaller : (r a b : ℤ) → SFits w64 r → SFits w64 a → SFits w64 b → r ≡ int_min (to_z w64 (of_z w64 a)) (to_z w64 (of_z w64 b)) → to_z w64 (of_z w64 r) ≡ int_min a b
smaller r a b f g h e = to_z-of_z w64 r f ∙ simp to_z-of_z at e

pub returns-clause-height : goal.returns-clause-height
returns-clause-height c =
    smaller c.min.result c.room.result c.room_in.result (record { sfits = c.min.type_inv }) (record { sfits = c.room.type_inv }) (record { sfits = c.room_in.type_inv }) c.min.ensures.value ∙
    ap (λ a. int_min a c.room_in.result) c.room.ensures.room ∙ ap (int_min (room_on c.args.self.now)) c.room_in.ensures.room

pub invariant_of-result : goal.invariant_of-result
invariant_of-result c = omega (arith, ints, clamps)
