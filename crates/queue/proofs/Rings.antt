-- A ring queue's entries stand in the cells that its places name; each place is that of one entry.
use Rattle.std.proofs.Common.{◌≡◌, ℕ, zero, suc, ◌+◌, ◌-◌, ◌<◌, ◌≤◌, true, false, ltb, ◌≢◌, ◌⊎◌, List, [], ◌∷◌, ◌++◌, length, get_or, take, drop, set, sym, ap, ◌∙◌, ap₂, inl, inr, arith}
use Rattle.std.proofs.lemmas.List.{length-append, length-drop, length-take-le, length-set, length_push, get_or-take, get_or-drop, get_or_append_left, get_or-append_right, get_or-set_same, get_or-set_other, get_or_push, get_or_default, get_or_read, same_lists}
use Rattle.std.proofs.lemmas.Bool.{cases_lt, cases_eq, lt-ltb, le-ltb}
use Rattle.std.proofs.lemmas.Bool.Decides.{nat_tests}
use Rattle.queue.specs.declared.Queue.{Queue}
use Rattle.queue.specs.Queues.{Within, round, list_of, place_of, next, previous}

place_low : (n h k : ℕ) → k < n - h → place_of n h k ≡ h + k
place_low n h k l = let t : ltb k (n - h) ≡ true = lt-ltb k (n - h) l in rw t

place_high : (n h k : ℕ) → n - h ≤ k → place_of n h k ≡ k - (n - h)
place_high n h k l = let t : ltb k (n - h) ≡ false = le-ltb k (n - h) l in rw t

-- whatever is to be shown of a place, by the two sides of the cells' end
by_side : (n h k : ℕ) (P : ℕ → Type 0) → (k < n - h → P (h + k)) → (n - h ≤ k → P (k - (n - h))) → P (place_of n h k)
by_side n h k P low high = go (cases_lt k (n - h))
  where
    go : (k < n - h) ⊎ (n - h ≤ k) → P (place_of n h k)
    go (inl l) = rw (place_low n h k l) (low l)
    go (inr l) = rw (place_high n h k l) (high l)

pub place_within : (n h k : ℕ) → h < n → k < n → place_of n h k < n
place_within n h k l m = by_side n h k (λ p. p < n) (λ a. omega arith) (λ a. omega arith)

pub place_first : (n h : ℕ) → h < n → place_of n h 0 ≡ h
place_first n h l = by_side n h 0 (λ p. p ≡ h) (λ a. omega arith) (λ a. omega arith)

place_apart : (n h j k : ℕ) → h < n → j < n → k < n → j ≢ k → place_of n h j ≢ place_of n h k
place_apart n h j k l p q ne =
    by_side n h j (λ x. x ≢ place_of n h k) (λ a. by_side n h k (λ y. h + j ≢ y) (λ b. omega arith) (λ b. omega arith))
    (λ a. by_side n h k (λ y. j - (n - h) ≢ y) (λ b. omega arith) (λ b. omega arith))

place_next : (n h k : ℕ) → h < n → k + 1 < n → place_of n (next n h) k ≡ place_of n h (k + 1)
place_next n h k l m = go (cases_lt (h + 1) n)
  where
    same : (a : ℕ) → ((a ≡ h + 1) × (h + 1 < n)) ⊎ ((a ≡ 0) × (h + 1 ≡ n)) → place_of n a k ≡ place_of n h (k + 1)
    same a (inl e) = by_side n a k (λ p. p ≡ place_of n h (k + 1)) (λ u. by_side n h (k + 1) (λ p. a + k ≡ p) (λ v. omega arith) (λ v. omega arith))
        (λ u. by_side n h (k + 1) (λ p. k - (n - a) ≡ p) (λ v. omega arith) (λ v. omega arith))
    same a (inr e) = by_side n a k (λ p. p ≡ place_of n h (k + 1)) (λ u. by_side n h (k + 1) (λ p. a + k ≡ p) (λ v. omega arith) (λ v. omega arith))
        (λ u. by_side n h (k + 1) (λ p. k - (n - a) ≡ p) (λ v. omega arith) (λ v. omega arith))

    go : (h + 1 < n) ⊎ (n ≤ h + 1) → place_of n (next n h) k ≡ place_of n h (k + 1)
    go (inl a) = let t : ltb (h + 1) n ≡ true = lt-ltb (h + 1) n a in same (next n h) (inl (rw t, a))
    go (inr a) = let t : ltb (h + 1) n ≡ false = le-ltb (h + 1) n a in same (next n h) (inr (rw t, omega arith))

place_last : (n h : ℕ) → h < n → place_of n h (n - 1) ≡ previous n h
place_last n h l = by_side n h (n - 1) (λ p. p ≡ previous n h) (λ a. grind (arith, nat_tests)) (λ a. grind (arith, nat_tests))

pub next_within : (n h : ℕ) → h < n → next n h < n
next_within n h l = grind (arith, nat_tests)

pub previous_within : (n h : ℕ) → h < n → previous n h < n
previous_within n h l = grind (arith, nat_tests)

next_previous : (n h : ℕ) → h < n → next n (previous n h) ≡ h
next_previous n h l = grind (arith, nat_tests)

module _ {T : Type 0} where
  round_length : (h : ℕ) (cells : List T) → h < length cells → length (round h cells) ≡ length cells
  round_length h cells l = length-append (drop h cells) (take h cells) ∙ omega (arith, length-drop h cells, length-take-le h cells (omega arith))

  round_at : (h k : ℕ) (cells : List T) (d : T) → h < length cells → k < length cells → get_or (round h cells) k d ≡ get_or cells (place_of (length cells) h k) d
  round_at h k cells d l m =
      by_side (length cells) h k (λ p. get_or (round h cells) k d ≡ get_or cells p d)
      (λ a. get_or_append_left (drop h cells) (take h cells) d k (omega (arith, length-drop h cells)) ∙ get_or-drop h cells k d)
      (λ a. get_or-append_right (drop h cells) (take h cells) (length cells - h) k d (length-drop h cells) a ∙ get_or-take h cells (k - (length cells - h)) d (omega arith))

  module _ (q : Queue) (cells : List T) (w : Within q cells) where
    pub list_length : length (list_of q cells) ≡ q.len
    list_length = length-take-le q.len (round q.head cells) (omega (arith, round_length q.head cells w.head, w.len))

    pub list_at : (k : ℕ) (d : T) → k < q.len → get_or (list_of q cells) k d ≡ get_or cells (place_of (length cells) q.head k) d
    list_at k d l = get_or-take q.len (round q.head cells) k d l ∙ round_at q.head k cells d w.head (omega (arith, w.len))

  module _ (q : Queue) (cells : List T) (x : T) (w : Within q cells) where
    set_within : (p : ℕ) → Within q (set cells p x)
    set_within p = record { head = simp length-set w.head; len = simp length-set w.len }

    -- a cell is written: its entry is x, and the others are as they were
    written : (j : ℕ) (d : T) → j < q.len → get_or (list_of q (set cells (place_of (length cells) q.head j) x)) j d ≡ x
    written j d l =
        let p = place_of (length cells) q.head j in
        let in' : p < length cells = place_within (length cells) q.head j w.head (omega (arith, w.len)) in
        list_at q (set cells p x) (set_within p) j d l ∙ ap (λ n. get_or (set cells p x) (place_of n q.head j) d) (length-set cells p x) ∙ get_or-set_same cells p x d in'

    kept : (j k : ℕ) (d : T) → j < length cells → k < q.len → k ≢ j → get_or (list_of q (set cells (place_of (length cells) q.head j) x)) k d ≡ get_or (list_of q cells) k d
    kept j k d m l ne =
        let p = place_of (length cells) q.head j in
        let apart = place_apart (length cells) q.head k j w.head (omega (arith, w.len)) m ne in
        list_at q (set cells p x) (set_within p) k d l ∙ ap (λ n. get_or (set cells p x) (place_of n q.head k) d) (length-set cells p x) ∙
        get_or-set_other cells p (place_of (length cells) q.head k) x d apart ∙ sym (list_at q cells w k d l)

  pub pushed_back : (q : Queue) (cells : List T) (x : T) → Within q cells → q.len < length cells →
      list_of (record { head = q.head; len = q.len + 1 }) (set cells (place_of (length cells) q.head q.len) x) ≡ list_of q cells ++ x ∷ []
  pushed_back q cells x w l =
      same_lists _ _ (list_length r (set cells p x) (set_within r cells x u p) ∙ sym (length_push (list_of q cells) x ∙ ap (λ n. n + 1) (list_length q cells w)))
      (λ k d m. at k d (omega (arith, list_length r (set cells p x) (set_within r cells x u p))))
    where
      r : Queue
      r = record { head = q.head; len = q.len + 1 }

      p : ℕ
      p = place_of (length cells) q.head q.len

      u : Within r cells
      u = record { head = w.head; len = omega arith }

      at : (k : ℕ) (d : T) → k < q.len + 1 → get_or (list_of r (set cells p x)) k d ≡ get_or (list_of q cells ++ x ∷ []) k d
      at k d m = go (cases_eq k q.len)
        where
          go : (k ≡ q.len) ⊎ (k ≢ q.len) → get_or (list_of r (set cells p x)) k d ≡ get_or (list_of q cells ++ x ∷ []) k d
          go (inl e) = ap (λ n. get_or (list_of r (set cells p x)) n d) e ∙ written r cells x u q.len d (omega arith) ∙ sym (get_or_push (list_of q cells) x d k (list_length q cells w ∙ sym e))
          go (inr ne) =
              kept r cells x u q.len k d l m ne ∙ list_at r cells u k d m ∙ sym (list_at q cells w k d (omega arith)) ∙
              sym (get_or_append_left (list_of q cells) (x ∷ []) d k (omega (arith, list_length q cells w)))

  -- the rest of a queue after its first entry, one place on
  pub popped : (q : Queue) (cells : List T) (d : T) → Within q cells → 0 < q.len →
      list_of q cells ≡ get_or cells q.head d ∷ list_of (record { head = next (length cells) q.head; len = q.len - 1 }) cells
  popped q cells d w l =
      same_lists _ _ (list_length q cells w ∙ omega (arith, list_length r cells u)) at
    where
      r : Queue
      r = record { head = next (length cells) q.head; len = q.len - 1 }

      u : Within r cells
      u = record { head = next_within (length cells) q.head w.head; len = omega (arith, w.len) }

      at : (k : ℕ) (e : T) → k < length (list_of q cells) → get_or (list_of q cells) k e ≡ get_or (get_or cells q.head d ∷ list_of r cells) k e
      at zero e m =
          list_at q cells w 0 e l ∙ ap (λ p. get_or cells p e) (place_first (length cells) q.head w.head) ∙ get_or_default cells q.head e d w.head
      at (suc k) e m =
          let in' : suc k < q.len = omega (arith, list_length q cells w) in
          let f : suc k ≡ k + 1 = omega arith in
          list_at q cells w (suc k) e in' ∙ ap (λ n. get_or cells (place_of (length cells) q.head n) e) f ∙
          ap (λ p. get_or cells p e) (sym (place_next (length cells) q.head k w.head (omega (arith, w.len)))) ∙ sym (list_at r cells u k e (omega arith))

  pub pushed_front : (q : Queue) (cells : List T) (x : T) → Within q cells → q.len < length cells →
      list_of (record { head = previous (length cells) q.head; len = q.len + 1 }) (set cells (previous (length cells) q.head) x) ≡ x ∷ list_of q cells
  pushed_front q cells x w l =
      popped r after x (set_within r cells x u r.head) (omega arith) ∙ ap (λ y. y ∷ list_of s after) (get_or-set_same cells r.head x x u.head) ∙
      ap (λ t. x ∷ list_of t after) same ∙ ap (λ xs. x ∷ xs) untouched
    where
      r : Queue
      r = record { head = previous (length cells) q.head; len = q.len + 1 }

      u : Within r cells
      u = record { head = previous_within (length cells) q.head w.head; len = omega arith }

      after : List T
      after = set cells r.head x

      s : Queue
      s = record { head = next (length after) r.head; len = q.len + 1 - 1 }

      same : ◌≡◌ {A = Queue} s q
      same =
          let e : next (length after) r.head ≡ q.head = ap (λ n. next n r.head) (length-set cells r.head x) ∙ next_previous (length cells) q.head w.head in
          let f : q.len + 1 - 1 ≡ q.len = omega arith in
          ap (λ h. record { head = h; len = q.len + 1 - 1 }) e ∙ ap (λ n. record { head = q.head; len = n }) f

      -- the cell before the front is that of no entry
      untouched : list_of q after ≡ list_of q cells
      untouched =
          let p = place_of (length cells) q.head (length cells - 1) in
          let e : p ≡ r.head = place_last (length cells) q.head w.head in
          let h : list_of q (set cells p x) ≡ list_of q cells =
          same_lists _ _ (list_length q (set cells p x) (set_within q cells x w p) ∙ sym (list_length q cells w))
          (λ k d m. kept q cells x w (length cells - 1) k d (omega arith) (omega (arith, list_length q (set cells p x) (set_within q cells x w p))) (omega (arith, list_length q (set cells p x) (set_within q cells x w p)))) in
          ap (λ j. list_of q (set cells j x)) (sym e) ∙ h

  pub rest_is : (q : Queue) (cells : List T) → Within q cells → 0 < q.len →
      list_of (record { head = next (length cells) q.head; len = q.len - 1 }) cells ≡ drop 1 (list_of q cells)
  rest_is q cells w l = go cells w
    where
      go : (xs : List T) → Within q xs → list_of (record { head = next (length xs) q.head; len = q.len - 1 }) xs ≡ drop 1 (list_of q xs)
      go [] u = absurd (omega (arith, u.head))
      go (x ∷ xs) u = sym (ap (drop 1) (popped q (x ∷ xs) x u l))

  -- the entries that begin at the next cell
  pub rest_at : (cells : List T) (a l h n : ℕ) → h ≡ next (length cells) a → n ≡ l - 1 → Within (record { head = a; len = l }) cells → 0 < l →
      list_of (record { head = h; len = n }) cells ≡ drop 1 (list_of (record { head = a; len = l }) cells)
  rest_at cells a l h n e f w o = ap₂ (λ h n. list_of (record { head = h; len = n }) cells) e f ∙ rest_is (record { head = a; len = l }) cells w o

-- what is read at the place of the k-th entry is that entry
pub read_at : {T : Type 0} (q : Queue) (cells : List T) (k p : ℕ) (x d : T) → Within q cells → k < q.len → p ≡ place_of (length cells) q.head k → p < length cells → x ≡ get_or cells p x → x ≡ get_or (list_of q cells) k d
read_at q cells k p x d w l e m is = get_or_read cells p x m is d ∙ ap (λ i. get_or cells i d) e ∙ sym (list_at q cells w k d l)
