-- What the least-cost rule keeps is one of the two, so what holds of both holds of it.
use Rattle.std.proofs.Common.{Bool, true, false, cond, List, [], ◌∷◌, ℤ, pos, IfSome, Some, None, fold, Option}
use lib.Signed.{le_z}
use Rattle.std.specs.List.{AllByRecursion}
use Rattle.items.specs.Items.{most}
use Rattle.cost.specs.Least.{least}

module _ {C : Type 0} (price : C → ℤ) (P : C → Type 0) where
  -- true of a candidate, if there is one
  abbrev pub Perhaps : Option C → Type 0
  Perhaps o = IfSome o P

  least_keeps : (best : Option C) (here : C) → Perhaps best → P here → Perhaps (least price best here)
  least_keeps None here h k = go (le_z (price here) (pos most))
    where
      go : (t : Bool) → Perhaps (cond t (Some here) None)
      go true = k
      go false = tt
  least_keeps (Some best) here h k = go (le_z (price here) (price best))
    where
      go : (t : Bool) → Perhaps (cond t (Some here) (Some best))
      go true = k
      go false = h

  pub leasts_keep : (best : Option C) (found : List C) → Perhaps best → AllByRecursion P found → Perhaps (fold (least price) best found)
  leasts_keep best [] h k = h
  leasts_keep best (x ∷ xs) h k = leasts_keep (least price best x) xs (least_keeps best x h k.0) k.1
