-- After n items every number of a page is within n steps of its start, so that none can wrap while a page has at
-- most 16,384 items.
use Rattle.std.proofs.Common.{◌≡◌, ℕ, zero, suc, ◌+◌, ◌-◌, ◌*◌, ◌^◌, ◌<◌, ◌≤◌, Bool, true, false, cond, List, [], ◌∷◌, length, get_or, pos, nat_abs, Some, None, fold, Option, unwrap_or, sym, refl, subst, add-zero, zero-add, arith}
use borrow.Author.Differences.{ints}
use Rattle.std.specs.List.{AllByRecursion}
use Rattle.std.specs.Option.{is_some, option_map}
use Rattle.std.proofs.ByRecursion.{All-weaker, All-set}
use Rattle.std.proofs.lemmas.Bool.Decides.{nat_tests}
use Rattle.items.specs.declared.Item.{Item}
use Rattle.items.specs.declared.Item.TheVariants.{Box, Glue, Kern, Penalty, Note}
use Rattle.items.specs.declared.Row.{Row}
use Rattle.items.specs.declared.Settings.{Settings}
use Rattle.items.specs.declared.Class.{Class}
use Rattle.items.specs.Items.{most, within_limits}
use Rattle.items.specs.Limits.{settings_within, class_within, declared_within, undeclared}
use Rattle.items.specs.Table.{item_at, WellFormed}
use Rattle.cost.specs.declared.sums.Sums.{Sums}
use Rattle.cost.proofs.Bounds.{Bounded, bounded_none, bounded_roomy, bounded_weighed}
use Rattle.notes.specs.declared.NoteBreak.{NoteBreak}
use Rattle.notes.specs.Break.{Within}
use Rattle.page.specs.declared.Ground.{Ground}
use Rattle.page.specs.declared.ClassSoFar.{ClassSoFar}
use Rattle.page.specs.declared.PageSoFar.{PageSoFar}
use Rattle.page.specs.declared.Taken.{Taken}
use Rattle.page.specs.PageSoFar.{sizes, fresh, led, with_lead, with_box, with_text, class_of, rules_of, shelf_size, height_of, begins, begin, items_left, all_of, takes, broken, floats, is_split, stays_whole, break_for, with_note, with_item, next, so_far}
use Rattle.page.specs.Low.{Low, Ready}
use Rattle.page.specs.Standing.{Grounded, Inside, Standing}
use Rattle.page.proofs.Sizes.{sizes_small}
use Rattle.page.proofs.Heights.{break_modest}
use Rattle.page.proofs.Contents.{left_within, left_short}

-- what holds of a list's elements and of the default holds wherever the list is read
all_read : {A : Type 0} (P : A → Type 0) (xs : List A) (i : ℕ) (d : A) → P d → AllByRecursion P xs → P (get_or xs i d)
all_read P [] i d h k = h
all_read P (x ∷ xs) zero d h k = k.0
all_read P (x ∷ xs) (suc i) d h k = all_read P xs i d h k.1

-- how high a class is, and 0 before its first note
abbrev size_on : Option ClassSoFar → ℕ
size_on None = 0
size_on (Some k) = nat_abs k.height

-- sums and notes of up to n items, and a goal and heights up to b
pub record Small (n b : ℕ) (m : PageSoFar) : Type 0 where
  pub goal : nat_abs m.goal ≤ b
  pub heights : AllByRecursion (λ k. size_on k ≤ b) m.classes
  pub sums : Bounded (2 * n) m.sums
  pub notes : nat_abs m.notes ≤ n * 10000

abbrev pub After : ℕ → PageSoFar → Type 0
After n m = Small n (n * 2 ^ 47 + 2 ^ 30) m

bounded_more : (n k : ℕ) (s : Sums) → n ≤ k → Bounded n s → Bounded k s
bounded_more n k s l h =
    record {
      total = omega (arith, h.total);
      depth = h.depth;
      four = h.four;
      stretch = All-weaker (λ x. x ≤ n * 2 ^ 30) (λ x. x ≤ k * 2 ^ 30) (λ x j. omega arith) s.stretch h.stretch;
      shrink = omega (arith, h.shrink);
    }

bounded_led : (n k : ℕ) (s : Sums) → k ≤ most → Bounded n s → Bounded (n + 1) (led s k)
bounded_led n k s l h =
    let wider = bounded_more n (n + 1) s (omega arith) h in
    record { total = omega (arith, ints, h.total); depth = h.depth; four = h.four; stretch = wider.stretch; shrink = wider.shrink }

more_heights : (b c : ℕ) (ks : List (Option ClassSoFar)) → b ≤ c → AllByRecursion (λ k. size_on k ≤ b) ks → AllByRecursion (λ k. size_on k ≤ c) ks
more_heights b c ks l h = All-weaker _ _ (λ k j. omega (arith, j)) ks h

small_more : (n b c : ℕ) (m : PageSoFar) → b ≤ c → Small n b m → Small n c m
small_more n b c m l h = record { goal = omega (arith, h.goal); heights = more_heights b c m.classes l h.heights; sums = h.sums; notes = h.notes }

settings_within_lem : (s : Settings) → settings_within s ≡ true → (s.size ≤ most) × (s.top ≤ most)
settings_within_lem s e = grind (arith, nat_tests)

class_within_lem : (k : Class) → class_within k ≡ true → (k.floating ≤ 10000) × (k.skip ≤ most)
class_within_lem k e = grind (arith, nat_tests)

declared_within_lem : (k : Option Class) → declared_within k ≡ true → class_within (unwrap_or k undeclared) ≡ true
declared_within_lem None e = refl
declared_within_lem (Some k) e = e

module _ (g : Ground) (h : Grounded g) where
  rules_within : (c : ℕ) → ((rules_of g c).floating ≤ 10000) × ((rules_of g c).skip ≤ most)
  rules_within c = class_within_lem (rules_of g c) (declared_within_lem (get_or g.classes c None) (all_read (λ k. declared_within k ≡ true) g.classes c None refl h.classes))

  shelf_within : (c : ℕ) → nat_abs (shelf_size g c) ≤ 2 ^ 45
  shelf_within c = all_read (λ z. nat_abs z ≤ 2 ^ 45) g.shelved c (pos 0) (omega arith) h.shelved

  fresh_small : After 0 (fresh g)
  fresh_small =
      let l = settings_within_lem g.settings h.settings in
      let z : 0 ≤ 2 ^ 30 = omega arith in
      record { goal = omega arith; heights = (z, (z, (z, (z, (z, (z, (z, (z, tt)))))))); sums = bounded_none; notes = omega arith }

  module _ (n b : ℕ) (m : PageSoFar) (s : Small n b m) where
    text_small : (x : Item) → within_limits x ≡ true → Small (n + 1) b (with_text g.settings m x)
    text_small x w =
        record {
          goal = s.goal;
          heights = s.heights;
          sums = bounded_more (2 * n + 1) (2 * (n + 1)) _ (omega arith) (bounded_weighed (2 * n) g.settings.depth m.sums x w s.sums);
          notes = omega (arith, s.notes);
        }

    lead_small : (height : ℕ) → Bounded (2 * n + 1) (with_lead g.settings m height)
    lead_small height = go m.boxes
      where
        top : g.settings.top - height ≤ most
        top = omega (arith, (settings_within_lem g.settings h.settings).1)

        go : (t : Bool) → Bounded (2 * n + 1) (cond t m.sums (led m.sums (g.settings.top - height)))
        go true = bounded_more (2 * n) (2 * n + 1) m.sums (omega arith) s.sums
        go false = bounded_led (2 * n) (g.settings.top - height) m.sums top s.sums

    box_small : (height depth : ℕ) → within_limits (Box height depth) ≡ true → Small (n + 1) b (with_box g.settings m height depth)
    box_small height depth w =
        record {
          goal = s.goal;
          heights = s.heights;
          sums = bounded_more (2 * n + 1 + 1) (2 * (n + 1)) _ (omega arith) (bounded_weighed (2 * n + 1) g.settings.depth _ (Box height depth) w (lead_small height));
          notes = omega (arith, s.notes);
        }

    begins_small : (c : ℕ) → Small n (b + 2 ^ 45 + 2 ^ 30) (begins g m c)
    begins_small c =
        let shelf = shelf_within c in
        let skip = (rules_within c).1 in
        record {
          goal = omega (arith, ints, s.goal);
          heights = more_heights b (b + 2 ^ 45 + 2 ^ 30) m.classes (omega arith) s.heights;
          sums = s.sums;
          notes = s.notes;
        }

    pub begin_small : (c : ℕ) → Small n (b + 2 ^ 45 + 2 ^ 30) (begin g m c)
    begin_small c = go (is_some (class_of m c))
      where
        go : (t : Bool) → Small n (b + 2 ^ 45 + 2 ^ 30) (cond t m (begins g m c))
        go true = small_more n b (b + 2 ^ 45 + 2 ^ 30) m (omega arith) s
        go false = begins_small c

    class_small : (c : ℕ) → nat_abs (height_of g m c) ≤ b + 2 ^ 45
    class_small c = go (class_of m c) (all_read (λ k. size_on k ≤ b) m.classes c None (omega arith) s.heights)
      where
        go : (k : Option ClassSoFar) → size_on k ≤ b → nat_abs (unwrap_or (option_map (λ k. k.height) k) (shelf_size g c)) ≤ b + 2 ^ 45
        go None l = omega (arith, shelf_within c)
        go (Some k) l = omega arith

    -- also once it is begun
    begun_small : (c : ℕ) → nat_abs (height_of g (begin g m c) c) ≤ b + 2 ^ 45
    begun_small c = go (is_some (class_of m c))
      where
        go : (t : Bool) → nat_abs (height_of g (cond t m (begins g m c)) c) ≤ b + 2 ^ 45
        go true = class_small c
        go false = class_small c

    takes_small : (e c x : ℕ) (t : Taken) → nat_abs (height_of g m c) ≤ b → nat_abs t.height ≤ e → nat_abs t.adds ≤ 10000 → Small (n + 1) (b + e) (takes g m c x t)
    takes_small e c x t k l a =
        record {
          goal = omega (arith, ints, s.goal);
          heights = All-set (λ k. size_on k ≤ b + e) m.classes c _ (omega (arith, ints)) (more_heights b (b + e) m.classes (omega arith) s.heights);
          sums = bounded_more (2 * n) (2 * (n + 1)) m.sums (omega arith) s.sums;
          notes = omega (arith, ints, s.notes);
        }

    still_small : (e : ℕ) → Small (n + 1) (b + e) m
    still_small e =
        record {
          goal = omega (arith, s.goal);
          heights = more_heights b (b + e) m.classes (omega arith) s.heights;
          sums = bounded_more (2 * n) (2 * (n + 1)) m.sums (omega arith) s.sums;
          notes = omega (arith, s.notes);
        }

    floats_small : (e c : ℕ) → Small (n + 1) (b + e) (floats g m c)
    floats_small e c = let w = still_small e in
        let l = (rules_within c).0 in
        record { goal = w.goal; heights = w.heights; sums = w.sums; notes = omega (arith, ints, s.notes) }

    module _ (x c : ℕ) (items : List Item) (w : Within items) (l : length items ≤ 16384) (high : nat_abs (height_of g m c) ≤ b) where
      broken_small : (o : Option NoteBreak) → o ≡ break_for g m c items → Small (n + 1) (b + (2 ^ 46 + 2 ^ 30)) (broken g m c x o)
      broken_small None e = still_small (2 ^ 46 + 2 ^ 30)
      broken_small (Some k) e = let r = break_modest items _ _ k w l e in takes_small (2 ^ 46 + 2 ^ 30) c x _ high r.height r.penalty

      placed_small : (t : Bool) → Small (n + 1) (b + (2 ^ 46 + 2 ^ 30)) (cond t (takes g m c x (all_of items)) (broken g m c x (break_for g m c items)))
      placed_small true = takes_small (2 ^ 46 + 2 ^ 30) c x (all_of items) high (omega (arith, sizes_small items w)) (omega arith)
      placed_small false = broken_small (break_for g m c items) refl

      note_small : Small (n + 1) (b + (2 ^ 46 + 2 ^ 30)) (with_note g m x c items)
      note_small = go (is_split (class_of m c))
        where
          go : (t : Bool) → Small (n + 1) (b + (2 ^ 46 + 2 ^ 30)) (cond t (floats g m c) (cond (stays_whole g m c (sizes items)) (takes g m c x (all_of items)) (broken g m c x (break_for g m c items))))
          go true = floats_small (2 ^ 46 + 2 ^ 30) c
          go false = placed_small (stays_whole g m c (sizes items))

  module _ (rows : List Row) (t : WellFormed rows) (short : length rows ≤ 16384) where
    item_small : (n b : ℕ) (m : PageSoFar) (x : ℕ) → 1 ≤ x → Small n b m → (it : Item) → within_limits it ≡ true → Small (n + 1) (b + 2 ^ 47) (with_item g rows m x it)
    item_small n b m x f s (Box a d) w = small_more (n + 1) b (b + 2 ^ 47) _ (omega arith) (box_small n b m s a d w)
    item_small n b m x f s (Glue a st o sh) w = small_more (n + 1) b (b + 2 ^ 47) _ (omega arith) (text_small n b m s (Glue a st o sh) w)
    item_small n b m x f s (Kern a) w = small_more (n + 1) b (b + 2 ^ 47) _ (omega arith) (text_small n b m s (Kern a) w)
    item_small n b m x f s (Penalty v) w = small_more (n + 1) b (b + 2 ^ 47) _ (omega arith) (text_small n b m s (Penalty v) w)
    item_small n b m x f s (Note c k) w =
        small_more (n + 1) (b + 2 ^ 45 + 2 ^ 30 + (2 ^ 46 + 2 ^ 30)) (b + 2 ^ 47) _ (omega arith)
        (note_small n (b + 2 ^ 45 + 2 ^ 30) (begin g m c) (begin_small n b m s c) x c (items_left rows x) (left_within rows t x f) (left_short rows t x f short) (omega (arith, begun_small n b m s c)))

    pub next_small : (n : ℕ) (m : PageSoFar) (x : ℕ) → 1 ≤ x → After n m → After (n + 1) (next g rows m x)
    next_small n m x f s = small_more (n + 1) (n * 2 ^ 47 + 2 ^ 30 + 2 ^ 47) ((n + 1) * 2 ^ 47 + 2 ^ 30) _ (omega arith) (item_small n (n * 2 ^ 47 + 2 ^ 30) m x f s (item_at rows x) (t.values x f))

    all_small : (n : ℕ) (m : PageSoFar) (xs : List ℕ) → AllByRecursion (Inside rows) xs → After n m → After (n + length xs) (fold (next g rows) m xs)
    all_small n m [] i s = rw add-zero s
    all_small n m (x ∷ xs) i s =
        let e : n + 1 + length xs ≡ n + suc (length xs) = omega arith in
        subst (λ k. After k (fold (next g rows) m (x ∷ xs))) e (all_small (n + 1) (next g rows m x) xs i.1 (next_small n m x i.0.first s))

    pub page_small : (xs : List ℕ) → AllByRecursion (Inside rows) xs → After (length xs) (so_far g rows xs)
    page_small xs i = subst (λ k. After k (so_far g rows xs)) (zero-add (length xs)) (all_small 0 (fresh g) xs i fresh_small)

  small_low : (n b c : ℕ) (m : PageSoFar) → n ≤ 16384 → b + 2 ^ 45 < 3 * 2 ^ 60 → c < 8 → Small n b m → Low g m c
  small_low n b c m l k j s =
      let height = class_small n b m s c in
      record {
        class = j;
        floating = (rules_within c).0;
        shelved = omega (arith, shelf_within c);
        goal = omega (arith, s.goal);
        total = omega (arith, s.sums.total);
        shrink = omega (arith, s.sums.shrink);
        notes = omega (arith, s.notes);
        height = omega arith;
      }

module _ (g : Ground) (rows : List Row) (page : List ℕ) (m : PageSoFar) (h : Standing g rows page m) where
  standing_small : After (length page) m
  standing_small = subst (After (length page)) (sym h.is) (page_small g h.basis rows h.table h.short page h.numbers)

  -- the numbers of a page fit its goal
  pub standing_goal : nat_abs m.goal < 2 ^ 62
  standing_goal = omega (arith, standing_small.goal, h.few)

  pub standing_total : nat_abs m.sums.total < 2 ^ 62
  standing_total = omega (arith, standing_small.sums.total, h.few)

  -- and one more item wraps none of them
  pub standing_ready : (x : ℕ) → 1 ≤ x → Ready g rows m x
  standing_ready x f =
      let n = length page in
      let s = standing_small in
      let few = h.few in
      record {
        total = omega (arith, s.sums.total);
        roomy = bounded_roomy (2 * n) m.sums (omega arith) s.sums;
        within = h.table.values x f;
        arrived = λ c k e. small_low g h.basis n (n * 2 ^ 47 + 2 ^ 30) c m few (omega arith) (h.table.classes x c k f e) s;
        begun = λ c k e. small_low g h.basis n (n * 2 ^ 47 + 2 ^ 30 + 2 ^ 45 + 2 ^ 30) c (begin g m c) few (omega arith) (h.table.classes x c k f e) (begin_small g h.basis n _ m s c);
      }
