-- What is said of a part of a record that is read at a cursor.
use Rattle.std.specs.Prelude.{◌≡◌, ℕ, ◌<◌, ◌≤◌, List, [], ◌∷◌, ◌++◌, map, length, pos, IfSome, Some, Option, slice_index}
use Rattle.std.specs.List.{flat_map, AllByRecursion}
use Rattle.std.specs.Option.{option_map}
use Rattle.std.specs.Int.{IsInRange}
use Rattle.items.specs.Items.{most}
use Rattle.boxlist.specs.declared.cursor.Cursor.{Cursor}
use Rattle.boxlist.specs.declared.marks.Mark.{Mark}
use Rattle.boxlist.specs.declared.records.Record.{Record}
use Rattle.boxlist.specs.Texts.{field, mark_of, values_of, Fits}

abbrev pub small : ℕ → Type 0
small n = n ≤ most

abbrev pub fields : List ℕ → List ℕ
fields ns = flat_map field (map pos ns)

-- the text that is still to be read
abbrev pub ahead : Cursor → List ℕ
ahead s = s.rest.now

-- a cursor went from s to t over the bytes bs
pub record Passed (bs : List ℕ) (s t : Cursor) : Type 0 where
  pub front : ahead s ≡ bs ++ ahead t

-- a number that stands before these bytes ends there
abbrev pub NoDigit : List ℕ → Type 0
NoDigit [] = Unit {0}
NoDigit (b ∷ bs) = IsInRange 48 57 b → ⊥

-- a zero before other digits
abbrev pub LeadingZero : List ℕ → Type 0
LeadingZero ds = (1 < length ds) × (slice_index ds 0 ≡ 48)

-- o is what stands at s in this writing, and no other: t is the cursor behind it
pub record Exactly {A : Type 0} (write : A → List ℕ) (Fit : A → Type 0) (s t : Cursor) (o : Option A) : Type 0 where
  pub reads : IfSome o (λ a. Fit a × Passed (write a) s t)
  pub finds : (a : A) (ys : List ℕ) → Fit a → NoDigit ys → ahead s ≡ write a ++ ys → o ≡ Some a

-- o is the record of this mark whose values stand at s
abbrev pub Behind : Mark → Cursor → Cursor → Option Record → Type 0
Behind m s t o = Exactly (λ r. flat_map field (values_of r)) (λ r. (mark_of r ≡ m) × Fits r) s t o

-- o is what is made of n numbers that stand at s
pub record MadeOf (n : ℕ) (make : List ℕ → Record) (s t : Cursor) (o : Option Record) : Type 0 where
  pub numbers : Option (List ℕ)
  pub stand : Exactly fields (λ ns. (length ns ≡ n) × AllByRecursion small ns) s t numbers
  pub made : o ≡ option_map make numbers
