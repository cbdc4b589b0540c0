-- The digits that are passed write the number, and no other number stands there.
use Rattle.std.proofs.Common.{refl}
use Rattle.std.proofs.lemmas.Bool.{false≢true}
use Rattle.boxlist.proofs.Numbers.{more, at_end_lem, above, empty, zero_first, number_is}
use Rattle.boxlist.proofs.cursor.Cursor.number.Goals as goal
use Rattle.boxlist.proofs.cursor.Cursor.number.Goals.{then-len-eq0-via-then-len-eq0, then-len-eq0-via-else-len-eq0+then-has_leading_zero}

pub loop-digit-preserved : goal.loop-digit-preserved
loop-digit-preserved c = (more _ _ c.from.ensures c.loop-digit.invariant.0 c.in-Some.ensures, c.if-not-is_small.ensures.0 refl)

pub returns-then-not-is_small : goal.returns-then-not-is_small
returns-then-not-is_small c = above (more _ _ c.from.ensures c.loop-digit.invariant.0 c.in-Some.ensures) (λ h. false≢true (c.if-not-is_small.ensures.1 h))

pub returns-then-len-eq0 : goal.returns-then-len-eq0
returns-then-len-eq0 c =
    let h = at_end_lem c.loop-digit.invariant.0 c.in_default.ensures in
    elim c.then-len-eq0.branch [
      | then-len-eq0-via-then-len-eq0 w ↦ empty h.0 h.1 w.if-len-eq0.true
      | then-len-eq0-via-else-len-eq0+then-has_leading_zero w ↦ zero_first h.0 h.1 (w.if-has_leading_zero.ensures.0 refl)
    ]

pub returns : goal.returns
returns c =
    let h = at_end_lem c.loop-digit.invariant.0 c.in_default.ensures in
    number_is h.0 h.1 c.loop-digit.invariant.1 c.if-len-eq0.false (λ z. false≢true (c.if-has_leading_zero.ensures.1 z))
