-- The meaning of a page policy, and the rules of the four.
use Rattle.std.specs.Prelude.{◌≡◌, ℕ, ◌+◌, ◌<◌, ◌≤◌, Bool, true, false, cond, ◌⊎◌, List, [], ◌∷◌, ◌++◌, length, take, drop, replicate, ℤ, ◌==◌}
use Rattle.items.specs.declared.Row.{Row}
use Rattle.policies.specs.declared.FiredPage.{FiredPage}
use Rattle.policies.specs.declared.Verdict.{Verdict}
use Rattle.policies.specs.declared.plain.Plain.{Plain}
use Rattle.policies.specs.declared.footnoted.Footnoted.{Footnoted}
use Rattle.policies.specs.declared.paired.Paired.{Paired}
use Rattle.policies.specs.declared.limited.Limited.{Limited}

-- what a policy is given to judge: the fired body, how many items lie on each shelf, the output penalty, the item table
pub record Given : Type 0 where
  pub body : List ℕ
  pub shelved : List ℕ
  pub penalty : ℤ
  pub rows : List Row

-- the same, of the values that a fired page refers to
abbrev pub given : FiredPage → Given
given page = record { body = page.body.now; shelved = page.shelved.now; penalty = page.penalty; rows = page.rows.now }

abbrev pub shipped_of : List ℕ → Verdict → List ℕ
shipped_of all v = take v.shipped all

abbrev pub returned_of : List ℕ → Verdict → List ℕ
returned_of all v = drop (v.shipped + v.held) all

-- shipped, held and returned, joined, are what was held and the body, in order
pub record Splits (before body after : List ℕ) (v : Verdict) : Type 0 where
  pub within : v.shipped + v.held ≤ length (before ++ body)
  pub joined : shipped_of (before ++ body) v ++ (after ++ returned_of (before ++ body) v) ≡ before ++ body

-- what a policy answers and then is, from what it was and what it was given
abbrev pub Rule : Type 0 → Type 1
Rule P = P → Given → Verdict → P → Type 0

abbrev pub every_class : List Bool
every_class = replicate 8 true

abbrev pub no_class : List Bool
no_class = replicate 8 false

-- how many items of the shelves the named classes have
abbrev pub named : List Bool → List ℕ → ℕ
named [] ns = 0
named (t ∷ ts) [] = 0
named (t ∷ ts) (n ∷ ns) = cond t n 0 + named ts ns

abbrev pub ships_nothing : Given → Verdict → Bool
ships_nothing g v = v.shipped + named v.classes g.shelved == 0

-- all of the body, and no class or every class
abbrev pub PlainRule : Rule Plain
PlainRule p g v q = (v.shipped ≡ length g.body) × (v.held ≡ 0) × (v.classes ≡ no_class)

abbrev pub FootnotedRule : Rule Footnoted
FootnotedRule p g v q = (v.shipped ≡ length g.body) × (v.held ≡ 0) × (v.classes ≡ every_class)

module _ {P : Type 0} (held : P → List ℕ) (rule : Rule P) where
  abbrev pub column_of : Paired P → List ℕ
  column_of p = p.column.items

  abbrev pub held_by_paired : Paired P → List ℕ
  held_by_paired p = column_of p ++ held p.below

  -- with no column yet, 1 to 512 items that ship below become the column and nothing ships; else column and shipped items ship
  pub data PairedRule : Paired P → Given → Verdict → Paired P → Type 0 where
    sets_aside : {p q : Paired P} {g : Given} {v : Verdict} (w : Verdict) → rule p.below g w q.below →
        column_of p ≡ [] → 1 ≤ w.shipped → w.shipped ≤ 512 → column_of q ≡ shipped_of (held p.below ++ g.body) w →
        v.shipped ≡ 0 → v.held ≡ w.shipped + w.held → v.classes ≡ no_class → PairedRule p g v q
    ships : {p q : Paired P} {g : Given} {v : Verdict} (w : Verdict) → rule p.below g w q.below →
        ((0 < length (column_of p)) ⊎ ((w.shipped ≡ 0) ⊎ (512 < w.shipped))) → column_of q ≡ [] →
        v.shipped ≡ length (column_of p) + w.shipped → v.held ≡ w.held → v.classes ≡ w.classes → PairedRule p g v q

  abbrev pub held_by_limited : Limited P → List ℕ
  held_by_limited l = held l.below

  -- below its bound the limiter asks the policy below; at the bound all that is held, the body and all classes ship
  pub data LimitedRule : Limited P → Given → Verdict → Limited P → Type 0 where
    asks : {l m : Limited P} {g : Given} {v : Verdict} → l.count < l.bound → rule l.below g v m.below →
        m.bound ≡ l.bound → m.count ≡ cond (ships_nothing g v) (l.count + 1) 0 → LimitedRule l g v m
    acts : {l m : Limited P} {g : Given} {v : Verdict} → l.count ≡ l.bound → v.shipped ≡ length (held l.below ++ g.body) → v.held ≡ 0 →
        v.classes ≡ every_class → held m.below ≡ [] → m.bound ≡ l.bound → m.count ≡ 0 → LimitedRule l g v m
