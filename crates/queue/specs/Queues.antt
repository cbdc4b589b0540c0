-- What a ring queue over cells is: a list.
use Rattle.std.specs.Prelude.{ℕ, ◌+◌, ◌-◌, ◌<◌, ◌≤◌, cond, List, ◌++◌, length, take, drop, ◌==◌, nat_lt}
use Rattle.queue.specs.declared.Queue.{Queue}

abbrev pub none : Queue
none = record { head = 0; len = 0 }

-- the queue lies within its cells
pub record Within {T : Type 0} (q : Queue) (cells : List T) : Type 0 where
  pub head : q.head < length cells
  pub len : q.len ≤ length cells

-- the cells from a place on, going round at their end
abbrev pub round : {T : Type 0} → ℕ → List T → List T
round h cells = drop h cells ++ take h cells

-- the entries, from the front to the back
abbrev pub list_of : {T : Type 0} → Queue → List T → List T
list_of q cells = take q.len (round q.head cells)

-- the cell of the k-th entry among n cells
abbrev pub place_of : ℕ → ℕ → ℕ → ℕ
place_of n h k = cond (nat_lt k (n - h)) (h + k) (k - (n - h))

-- the cell after one among n cells, and the one before it
abbrev pub next : ℕ → ℕ → ℕ
next n h = cond (nat_lt (h + 1) n) (h + 1) 0

abbrev pub previous : ℕ → ℕ → ℕ
previous n h = cond (h == 0) (n - 1) (h - 1)
