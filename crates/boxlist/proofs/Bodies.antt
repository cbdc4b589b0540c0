-- A record as its mark, its signed values and its numbers, in the order in which they are read.
use Rattle.std.proofs.Common.{◌≡◌, ℕ, List, [], ◌∷◌, ◌++◌, map, length, get_or, ℤ, pos, Some, None, Option, sym, refl, ap, ◌∙◌, subst, arith}
use Rattle.std.proofs.ByRecursion.{All-append, All-map}
use Rattle.std.proofs.lemmas.Grind.{flat_map-append}
use Rattle.std.proofs.lemmas.Slice.Eq.{text_from_reads}
use Rattle.std.proofs.lemmas.List.{append-nil, nil_from_length}
use Rattle.std.specs.List.{flat_map, AllByRecursion}
use Rattle.std.specs.Option.{option_map}
use Rattle.boxlist.specs.declared.cursor.Cursor.{Cursor}
use Rattle.boxlist.specs.declared.marks.Mark.{Mark}
use Rattle.boxlist.specs.declared.marks.Mark.TheVariants.{St, Cl, Bx, Gl, Kn, Pn, Nt, En}
use Rattle.boxlist.specs.declared.records.Record.{Record}
use Rattle.boxlist.specs.declared.records.Record.TheVariants.{Settings, Class, Box, Glue, Kern, Penalty, Note, End}
use Rattle.boxlist.specs.Marks.{letters_of}
use Rattle.boxlist.specs.Parts.{Behind, Exactly, fields, MadeOf, NoDigit, small}
use Rattle.boxlist.specs.Texts.{field, mark_of, values_of, text_of, Fits, Small}
use Rattle.boxlist.proofs.Fields.{ends_before}
use Rattle.boxlist.proofs.Sequences.{first_fails, then, made, nothing}

abbrev pub rebuilt : Mark → List ℤ → List ℕ → Record
rebuilt St zs ns = Settings (get_or ns 0 0) (get_or ns 1 0) (get_or ns 2 0) (get_or ns 3 0) (get_or ns 4 0)
rebuilt Cl zs ns = Class (get_or ns 0 0) (get_or ns 1 0) (get_or ns 2 0) (get_or ns 3 0) (get_or ns 4 0)
rebuilt Bx zs ns = Box (get_or ns 0 0) (get_or ns 1 0)
rebuilt Gl zs ns = Glue (get_or zs 0 (pos 0)) (get_or ns 0 0) (get_or ns 1 0) (get_or ns 2 0)
rebuilt Kn zs ns = Kern (get_or zs 0 (pos 0))
rebuilt Pn zs ns = Penalty (get_or zs 0 (pos 0))
rebuilt Nt zs ns = Note (get_or ns 0 0) (get_or ns 1 0)
rebuilt En zs ns = End

-- how many values of either kind a mark has
abbrev signs : Mark → ℕ
signs St = 0
signs Cl = 0
signs Bx = 0
signs Gl = 1
signs Kn = 1
signs Pn = 1
signs Nt = 0
signs En = 0

abbrev numbers : Mark → ℕ
numbers St = 5
numbers Cl = 5
numbers Bx = 2
numbers Gl = 3
numbers Kn = 0
numbers Pn = 0
numbers Nt = 2
numbers En = 0

abbrev leads : Record → List ℤ
leads (Settings a b c d e) = []
leads (Class a b c d e) = []
leads (Box a b) = []
leads (Glue w a b c) = w ∷ []
leads (Kern w) = w ∷ []
leads (Penalty w) = w ∷ []
leads (Note a b) = []
leads End = []

abbrev counts : Record → List ℕ
counts (Settings a b c d e) = a ∷ b ∷ c ∷ d ∷ e ∷ []
counts (Class a b c d e) = a ∷ b ∷ c ∷ d ∷ e ∷ []
counts (Box a b) = a ∷ b ∷ []
counts (Glue w a b c) = a ∷ b ∷ c ∷ []
counts (Kern w) = []
counts (Penalty w) = []
counts (Note a b) = a ∷ b ∷ []
counts End = []

-- what a record is made of, by its mark
record Made (r : Record) : Type 0 where
  values : values_of r ≡ leads r ++ map pos (counts r)
  signs_are : length (leads r) ≡ signs (mark_of r)
  numbers_are : length (counts r) ≡ numbers (mark_of r)
  whole : rebuilt (mark_of r) (leads r) (counts r) ≡ r

made_of : (r : Record) → Made r
made_of (Settings a b c d e) = record { values = refl; signs_are = refl; numbers_are = refl; whole = refl }
made_of (Class a b c d e) = record { values = refl; signs_are = refl; numbers_are = refl; whole = refl }
made_of (Box a b) = record { values = refl; signs_are = refl; numbers_are = refl; whole = refl }
made_of (Glue w a b c) = record { values = refl; signs_are = refl; numbers_are = refl; whole = refl }
made_of (Kern w) = record { values = refl; signs_are = refl; numbers_are = refl; whole = refl }
made_of (Penalty w) = record { values = refl; signs_are = refl; numbers_are = refl; whole = refl }
made_of (Note a b) = record { values = refl; signs_are = refl; numbers_are = refl; whole = refl }
made_of End = record { values = refl; signs_are = refl; numbers_are = refl; whole = refl }

one : (zs : List ℤ) → length zs ≡ 1 → zs ≡ get_or zs 0 (pos 0) ∷ []
one [] e = absurd (omega arith)
one (z ∷ zs) e = ap (λ l. z ∷ l) (nil_from_length zs (omega arith))

two : (ns : List ℕ) → length ns ≡ 2 → ns ≡ get_or ns 0 0 ∷ get_or ns 1 0 ∷ []
two ns e = text_from_reads ns (get_or ns 0 0 ∷ get_or ns 1 0 ∷ []) e (refl, (refl, tt))

three : (ns : List ℕ) → length ns ≡ 3 → ns ≡ get_or ns 0 0 ∷ get_or ns 1 0 ∷ get_or ns 2 0 ∷ []
three ns e = text_from_reads ns (get_or ns 0 0 ∷ get_or ns 1 0 ∷ get_or ns 2 0 ∷ []) e (refl, (refl, (refl, tt)))

five : (ns : List ℕ) → length ns ≡ 5 → ns ≡ get_or ns 0 0 ∷ get_or ns 1 0 ∷ get_or ns 2 0 ∷ get_or ns 3 0 ∷ get_or ns 4 0 ∷ []
five ns e = text_from_reads ns (get_or ns 0 0 ∷ get_or ns 1 0 ∷ get_or ns 2 0 ∷ get_or ns 3 0 ∷ get_or ns 4 0 ∷ []) e (refl, (refl, (refl, (refl, (refl, tt)))))

joins : {zs ws : List ℤ} {ns ms : List ℕ} → zs ≡ ws → ns ≡ ms → zs ++ map pos ns ≡ ws ++ map pos ms
joins p q = λ i. p i ++ map pos (q i)

rebuilt_values : (m : Mark) (zs : List ℤ) (ns : List ℕ) → length zs ≡ signs m → length ns ≡ numbers m → zs ++ map pos ns ≡ values_of (rebuilt m zs ns)
rebuilt_values St zs ns p q = joins (nil_from_length zs p) (five ns q)
rebuilt_values Cl zs ns p q = joins (nil_from_length zs p) (five ns q)
rebuilt_values Bx zs ns p q = joins (nil_from_length zs p) (two ns q)
rebuilt_values Gl zs ns p q = joins (one zs p) (three ns q)
rebuilt_values Kn zs ns p q = joins (one zs p) (nil_from_length ns q)
rebuilt_values Pn zs ns p q = joins (one zs p) (nil_from_length ns q)
rebuilt_values Nt zs ns p q = joins (nil_from_length zs p) (two ns q)
rebuilt_values En zs ns p q = joins (nil_from_length zs p) (nil_from_length ns q)

rebuilt_mark : (m : Mark) (zs : List ℤ) (ns : List ℕ) → m ≡ mark_of (rebuilt m zs ns)
rebuilt_mark St zs ns = refl
rebuilt_mark Cl zs ns = refl
rebuilt_mark Bx zs ns = refl
rebuilt_mark Gl zs ns = refl
rebuilt_mark Kn zs ns = refl
rebuilt_mark Pn zs ns = refl
rebuilt_mark Nt zs ns = refl
rebuilt_mark En zs ns = refl

-- the values behind a mark
abbrev Values : Type 0
Values = List ℤ × List ℕ

abbrev written : Values → List ℕ
written q = flat_map field q.0 ++ fields q.1

abbrev Fit : Mark → Values → Type 0
Fit m q = ((length q.0 ≡ signs m) × AllByRecursion Small q.0) × ((length q.1 ≡ numbers m) × AllByRecursion small q.1)

to_record : (m : Mark) (q : Values) → Fit m q → ((mark_of (rebuilt m q.0 q.1) ≡ m) × Fits (rebuilt m q.0 q.1)) × (written q ≡ flat_map field (values_of (rebuilt m q.0 q.1)))
to_record m q f =
    let same = rebuilt_values m q.0 q.1 f.0.0 f.1.0 in (
      (sym (rebuilt_mark m q.0 q.1), subst (AllByRecursion Small) same (All-append Small q.0 (map pos q.1) f.0.1 (All-map Small pos q.1 f.1.1))),
      sym (flat_map-append field q.0 (map pos q.1)) ∙ ap (flat_map field) same,
    )

split_all : (zs : List ℤ) (ns : List ℕ) → AllByRecursion Small (zs ++ map pos ns) → AllByRecursion Small zs × AllByRecursion small ns
split_all [] [] h = (tt, tt)
split_all [] (n ∷ ns) h = (tt, (h.0, (split_all [] ns h.1).1))
split_all (z ∷ zs) ns h = let r = split_all zs ns h.1 in ((h.0, r.0), r.1)

of_record : (m : Mark) (r : Record) → (mark_of r ≡ m) × Fits r → (q : Values) × Fit m q × (rebuilt m q.0 q.1 ≡ r)
of_record m r f =
    let k = made_of r in
    let a = split_all (leads r) (counts r) (subst (AllByRecursion Small) k.values f.1) in
    subst (λ y. (q : Values) × Fit y q × (rebuilt y q.0 q.1 ≡ r)) f.0 ((leads r, counts r), ((k.signs_are, a.0), (k.numbers_are, a.1)), k.whole)

-- one signed value, as a list of such
lead : (t v : Cursor) (o : Option ℤ) → Exactly field Small t v o → Exactly (flat_map field) (λ zs. (length zs ≡ 1) × AllByRecursion Small zs) t v (option_map (λ z. z ∷ []) o)
lead t v = made field (flat_map field) Small _ (λ z. z ∷ []) (λ z fits. ((refl, (fits, tt)), sym (append-nil (field z)))) (λ zs fits. (get_or zs 0 (pos 0), (subst (AllByRecursion Small) (one zs fits.0) fits.1).0, sym (one zs fits.0))) t v

module _ (m : Mark) (t : Cursor) where
  abbrev Signs : Cursor → Option (List ℤ) → Type 0
  Signs v o = Exactly (flat_map field) (λ zs. (length zs ≡ signs m) × AllByRecursion Small zs) t v o

  abbrev Counts : Cursor → Cursor → Option (List ℕ) → Type 0
  Counts v u o = Exactly fields (λ ns. (length ns ≡ numbers m) × AllByRecursion small ns) v u o

  made_behind : (u : Cursor) (o : Option Values) → Exactly written (Fit m) t u o → Behind m t u (option_map (λ q. rebuilt m q.0 q.1) o)
  made_behind u o x = made written _ (Fit m) _ (λ q. rebuilt m q.0 q.1) (to_record m) (of_record m) t u o x

  both_behind : (v u : Cursor) (zs : List ℤ) → Signs v (Some zs) → (o : Option (List ℕ)) → Counts v u o → Exactly written (Fit m) t u (option_map (λ ns. (zs, ns)) o)
  both_behind v u zs y o h = then (flat_map field) fields _ (λ _ ns. (length ns ≡ numbers m) × AllByRecursion small ns) (λ ns. ends_before (map pos ns)) t v u zs y o h

  values_are : (v u : Cursor) (zs : List ℤ) → Signs v (Some zs) → (o : Option (List ℕ)) → Counts v u o → Behind m t u (option_map (rebuilt m zs) o)
  values_are v u zs y None h = made_behind u None (both_behind v u zs y None h)
  values_are v u zs y (Some ns) h = made_behind u (Some (zs, ns)) (both_behind v u zs y (Some ns) h)

  plain : 0 ≡ signs m → (u : Cursor) (o : Option (List ℕ)) → Counts t u o → Behind m t u (option_map (rebuilt m []) o)
  plain none u o h = values_are t u [] (subst (λ n. Exactly (flat_map field) (λ zs. (length zs ≡ n) × AllByRecursion Small zs) t t (Some [])) none (nothing (flat_map field) Small t refl)) o h

  module _ (one_sign : 1 ≡ signs m) (v : Cursor) where
    sign : (o : Option ℤ) → Exactly field Small t v o → Signs v (option_map (λ z. z ∷ []) o)
    sign o y = subst (λ n. Exactly (flat_map field) (λ zs. (length zs ≡ n) × AllByRecursion Small zs) t v (option_map (λ z. z ∷ []) o)) one_sign (lead t v o y)

    pub no_lead : Exactly field Small t v None → Behind m t v None
    no_lead y = made_behind v None (first_fails (flat_map field) fields _ (λ _ ns. (length ns ≡ numbers m) × AllByRecursion small ns) (λ ns. ends_before (map pos ns)) t v (sign None y))

    pub led : (u : Cursor) (z : ℤ) → Exactly field Small t v (Some z) → (o : Option (List ℕ)) → Counts v u o → Behind m t u (option_map (rebuilt m (z ∷ [])) o)
    led u z y o h = values_are v u (z ∷ []) (sign (Some z) y) o h

-- a mark, and a record of that mark
abbrev behind : Record → List ℕ
behind r = flat_map field (values_of r)

abbrev Of : Mark → Record → Type 0
Of m r = (mark_of r ≡ m) × Fits r

abbrev Letters : Cursor → Cursor → Option Mark → Type 0
Letters s t o = Exactly letters_of (λ _. Unit {0}) s t o

whole : (s u : Cursor) (o : Option (Mark × Record)) → Exactly (λ p. letters_of p.0 ++ behind p.1) (λ p. Unit {0} × Of p.0 p.1) s u o → Exactly text_of Fits s u (option_map (λ p. p.1) o)
whole s u o x =
    made (λ p. letters_of p.0 ++ behind p.1) text_of (λ p. Unit {0} × Of p.0 p.1) Fits (λ p. p.1)
    (λ p f. (f.1.1, ap (λ m. letters_of m ++ behind p.1) (sym f.1.0)))
    (λ r f. ((mark_of r, r), (tt, (refl, f)), refl))
    s u o x

apart : (r : Record) (ys : List ℕ) → NoDigit ys → NoDigit (behind r ++ ys)
apart r = ends_before (values_of r)

pub no_mark : (s t : Cursor) → Letters s t None → Exactly text_of Fits s t None
no_mark s t x = whole s t None (first_fails letters_of behind (λ _. Unit {0}) Of apart s t x)

-- m is the mark that was read, and k the same by another name
after_mark : (s t u : Cursor) (k m : Mark) → k ≡ m → Letters s t (Some k) → (o : Option Record) → Behind m t u o → Exactly text_of Fits s u o
after_mark s t u k m e x None y = whole s u None (then letters_of behind (λ _. Unit {0}) Of apart s t u m (subst (λ j. Letters s t (Some j)) e x) None y)
after_mark s t u k m e x (Some r) y = whole s u (Some (m, r)) (then letters_of behind (λ _. Unit {0}) Of apart s t u m (subst (λ j. Letters s t (Some j)) e x) (Some r) y)

pub numbers_behind : {s t u : Cursor} {k : Mark} {o : Option Record} (m : Mark) → k ≡ m → 0 ≡ signs m → Letters s t (Some k) → MadeOf (numbers m) (rebuilt m []) t u o → Exactly text_of Fits s u o
numbers_behind {s} {t} {u} {k} {o} m is none x h = after_mark s t u k m is x o (subst (Behind m t u) (sym h.made) (plain m t none u h.numbers h.stand))
