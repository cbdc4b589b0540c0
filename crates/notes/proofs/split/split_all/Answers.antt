-- Each turn splits one more part off.
use Rattle.std.proofs.Common.{◌≡◌, ◌<◌, length, get_or, pos, ap, ◌∙◌, inl, arith, w32, w64, SFits, rules}
use Rattle.std.proofs.lemmas.List.{length-map}
use Rattle.std.proofs.lemmas.Int.{to_z-of_z}
use Rattle.items.specs.Items.{items_of}
use Rattle.notes.specs.Split.{part_from}
use Rattle.notes.proofs.Splitting.{splitting_more, splitting_all}
use Rattle.notes.proofs.split.split_all.Goals as goal

pub loop-count-preserved : goal.loop-count-preserved
loop-count-preserved c =
    let items = items_of c.args.content.rows.now in
    let ws = c.args.wanted.now in
    let f : SFits w32 (get_or ws c.loop-count.count (pos 0)) = search rules in
    let same : c.from-height.result ≡ get_or ws c.loop-count.count (pos 0) = simp to_z-of_z at c.from-height.ensures in
    let g : SFits w64 c.from-height.result = search rules in
    let left : c.loop-count.rest < length c.args.content.rows.now = omega (arith, simp length-map at c.loop-count.invariant.rest) in
    splitting_more items ws c.args.depth c.args.parts.now c.loop-count.parts _ c.loop-count.invariant c.loop-count.auto.parts c.requires.room c.split_off-part.result
    c.loop-count-test.true (simp length-map left) (simp length-map c.split_off-part.ensures.end) (simp to_z-of_z at c.split_off-part.ensures.part ∙ ap (λ h. part_from items h c.args.depth c.loop-count.rest) same)

pub returns-then-rest-content-clause-split : goal.returns-then-rest-content-clause-split
returns-then-rest-content-clause-split c =
    splitting_all (items_of c.args.content.rows.now) c.args.wanted.now c.args.depth c.args.parts.now c.loop-count.parts _ c.loop-count.invariant
    c.loop-count.auto.parts c.requires.room (inl (simp length-map (omega arith)))
