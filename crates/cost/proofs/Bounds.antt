-- The sums of n items within their limits are small, so that none can wrap while n is below 2 ^ 29.
use Rattle.std.proofs.Common.{◌≡◌, ℕ, ◌+◌, ◌-◌, ◌*◌, ◌^◌, ◌<◌, ◌≤◌, Bool, true, false, cond, ltb, length, get_or, ℤ, pos, ◌+ℤ◌, nat_abs, refl, arith}
use borrow.Author.Differences.{ints}
use Rattle.std.specs.List.{AllByRecursion}
use Rattle.std.proofs.lemmas.Bool.{ltb-true}
use Rattle.std.proofs.lemmas.List.{length-set}
use Rattle.std.proofs.ByRecursion.{All-weaker, All-set, All-get_or}
use Rattle.items.specs.declared.Item.{Item}
use Rattle.items.specs.declared.Item.TheVariants.{Box, Glue, Kern, Penalty, Note}
use Rattle.items.specs.Items.{most, within_limits}
use Rattle.cost.specs.declared.sums.Sums.{Sums}
use Rattle.cost.specs.Sums.{Roomy, none, below, giving, capped, weighed}
use Rattle.cost.proofs.Within.{box_within, glue_within, kern_within}

-- a total up to b, a depth of one item, and up to n items' stretch and shrink
pub record Small (n b : ℕ) (s : Sums) : Type 0 where
  pub total : nat_abs s.total ≤ b
  pub depth : s.depth ≤ most
  pub four : length s.stretch ≡ 4
  pub stretch : AllByRecursion (λ x. x ≤ n * 2 ^ 30) s.stretch
  pub shrink : s.shrink ≤ n * 2 ^ 30

abbrev pub Bounded : ℕ → Sums → Type 0
Bounded n s = Small n (n * 2 ^ 32) s

pub bounded_none : Bounded 0 none
bounded_none = record { total = omega arith; depth = omega arith; four = refl; stretch = (omega arith, (omega arith, (omega arith, (omega arith, tt)))); shrink = omega arith }

pub bounded_roomy : (n : ℕ) (s : Sums) → n ≤ 2 ^ 29 → Bounded n s → Roomy s
bounded_roomy n s l h =
    record {
      total = omega (arith, h.total);
      stretch = All-weaker (λ x. x ≤ n * 2 ^ 30) (λ x. x < 2 ^ 62) (λ x k. omega arith) s.stretch h.stretch;
      shrink = omega (arith, h.shrink);
    }

module _ (n : ℕ) (s : Sums) where
  -- one more item's place among the stretch and shrink
  more : (b c : ℕ) → b ≤ c → Small n b s → Small (n + 1) c s
  more b c l h =
      record {
        total = omega (arith, h.total);
        depth = h.depth;
        four = h.four;
        stretch = All-weaker (λ x. x ≤ n * 2 ^ 30) (λ x. x ≤ (n + 1) * 2 ^ 30) (λ x k. omega arith) s.stretch h.stretch;
        shrink = omega (arith, h.shrink);
      }

  capped_small : (d b : ℕ) → Small n b s → Small n (b + most) (capped d s)
  capped_small d b h = go (ltb d s.depth) refl
    where
      go : (t : Bool) → ltb d s.depth ≡ t →
          Small n (b + most) (cond t (record { total = s.total +ℤ pos (s.depth - d); depth = d; stretch = s.stretch; shrink = s.shrink }) s)
      go true e = let l = ltb-true d s.depth e in
          record { total = omega (arith, ints, h.total, h.depth); depth = omega (arith, h.depth); four = h.four; stretch = h.stretch; shrink = h.shrink }
      go false e = record { total = omega (arith, h.total); depth = h.depth; four = h.four; stretch = h.stretch; shrink = h.shrink }

  below_small : (b e : ℕ) (height : ℤ) (depth : ℕ) → nat_abs height ≤ e → depth ≤ most → Small n b s → Small n (b + most + e) (below s height depth)
  below_small b e height depth l m h =
      record { total = omega (arith, ints, h.total, h.depth); depth = m; four = h.four; stretch = h.stretch; shrink = h.shrink }

  giving_small : (b st o sh : ℕ) → st ≤ most → o ≤ 3 → sh ≤ most → Small n b s → Small (n + 1) b (giving s st o sh)
  giving_small b st o sh l i m h =
      let old : get_or s.stretch o 0 ≤ n * 2 ^ 30 = All-get_or (λ x. x ≤ n * 2 ^ 30) s.stretch o 0 (omega (arith, h.four)) h.stretch in
      let wider = more b b (omega arith) h in
      record {
        total = h.total;
        depth = h.depth;
        four = simp length-set h.four;
        stretch = All-set (λ x. x ≤ (n + 1) * 2 ^ 30) s.stretch o _ (omega arith) wider.stretch;
        shrink = omega (arith, h.shrink);
      }

pub bounded_weighed : (n d : ℕ) (s : Sums) (x : Item) → within_limits x ≡ true → Bounded n s → Bounded (n + 1) (weighed d s x)
bounded_weighed n d s (Box h e) w b =
    let l = box_within h e w in
    let r = below_small n s (n * 2 ^ 32) most (pos h) e l.0 l.1 b in
    more n (weighed d s (Box h e)) _ ((n + 1) * 2 ^ 32) (omega arith) (capped_small n _ d _ r)
bounded_weighed n d s (Glue g st o sh) w b =
    let l = glue_within g st o sh w in
    let r = below_small n s (n * 2 ^ 32) most g 0 l.0 (omega arith) b in
    let t = capped_small (n + 1) _ d _ (giving_small n (below s g 0) _ st o sh l.1 l.2 l.3 r) in
    record { total = omega (arith, t.total); depth = t.depth; four = t.four; stretch = t.stretch; shrink = t.shrink }
bounded_weighed n d s (Kern g) w b =
    let r = below_small n s (n * 2 ^ 32) most g 0 (kern_within g w) (omega arith) b in
    more n (weighed d s (Kern g)) _ ((n + 1) * 2 ^ 32) (omega arith) (capped_small n _ d _ r)
bounded_weighed n d s (Penalty v) w b = more n (weighed d s (Penalty v)) _ ((n + 1) * 2 ^ 32) (omega arith) (capped_small n s d _ b)
bounded_weighed n d s (Note c k) w b = more n (weighed d s (Note c k)) _ ((n + 1) * 2 ^ 32) (omega arith) (capped_small n s d _ b)
