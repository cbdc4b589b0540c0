-- Along every list of calls the invariant holds. Besides, the best break is a break of the page, and a book that is done has nothing left.
use Rattle.std.proofs.Common.{◌≡◌, ℕ, ◌+◌, ◌-◌, ◌≤◌, Bool, true, false, List, [], ◌∷◌, ◌++◌, length, get_or, Some, None, is_some, Option, sym, refl, ap, ◌∙◌, subst, ap₂, append_assoc, arith, length-append}
use Rattle.std.specs.List.{flat_map, AllByRecursion}
use Rattle.std.proofs.lemmas.List.{append-nil, get_or_append_left}
use Rattle.std.proofs.ByRecursion.{All-weaker}
use Rattle.std.proofs.lemmas.Bool.{both_ways}
use Rattle.items.specs.declared.Item.{Item}
use Rattle.items.specs.declared.Row.{Row}
use Rattle.items.specs.declared.Place.TheVariants.{Dropped}
use Rattle.items.specs.declared.Class.{Class}
use Rattle.items.specs.declared.Settings.{Settings}
use Rattle.items.specs.Items.{is_note, blank}
use Rattle.items.specs.Table.{item_at}
use Rattle.page.specs.declared.breaks.PageBreak.{PageBreak}
use Rattle.policies.specs.Policies.{Rule, shipped_of, returned_of, every_class}
use Rattle.calls.specs.Book.{Book, Output}
use Rattle.calls.specs.Making.{empty_book, acceptable}
use Rattle.calls.specs.Feeding.{content_for, counted, refusal, fed_rows, fed_book, closed_book}
use Rattle.calls.specs.OnPage.{best_here}
use Rattle.calls.specs.Firing.{note_class}
use Rattle.calls.specs.Stepping.{Answer, Step, stays, fires, stepped}
use Rattle.calls.specs.Settling.{Settled, judged, released}
use Rattle.calls.specs.Runs.{Call, fed, feed_refused, closed, close_refused, answered, fired, settled, State, is_open, is_fired, Onward, none, feed, refuse, close, close_again, step, fire, settle, Run, made}
use Rattle.calls.specs.Findings.{shelved, fed_by}
use Rattle.calls.proofs.ListLaws.{joined_append, all_each}
use Rattle.calls.proofs.Table.{Inside, Alike, alike_put}
use Rattle.calls.proofs.Invariant.{page_inside, Inv}
use Rattle.calls.proofs.Pages.{FirstNote, BestFor}
use Rattle.calls.proofs.Ships.{every_emptied}
use Rattle.calls.proofs.Settles.{inv_settle, like}
use Rattle.calls.proofs.Makes.{inv_made, inv_closed}
use Rattle.calls.proofs.Accepted.{fed_open}
use Rattle.calls.proofs.Feeds.{inv_feed}
use Rattle.calls.proofs.BestBreaks.{best_good}
use Rattle.calls.proofs.StepCases.{Does, has_done, waited, drops, moves, breaks, ends, does}
use Rattle.calls.proofs.Steps.{inv_step}

-- the last firing was settled
pub record Ended (b : Book) (held : List ℕ) : Type 0 where
  pub nothing : held ≡ []
  pub shelves : shelved b ≡ []
  pub page : b.page ≡ []
  pub contributions : b.contributions ≡ []
  pub closed : b.closed ≡ true

-- what holds beside the invariant
pub record OpenSound (b : Book) (held : List ℕ) : Type 0 where
  pub best : BestFor b.rows b.page b.best
  pub ended : b.done ≡ true → Ended b held

pub record FiredSound (b : Book) (out : Output) : Type 0 where
  pub best : BestFor b.rows b.page b.best
  pub undone : b.done ≡ false
  pub final : out.final ≡ true → (out.waiting ≡ []) × (b.contributions ≡ []) × (b.closed ≡ true)

abbrev pub Sound : State → List ℕ → Type 0
Sound (is_open b) held = OpenSound b held
Sound (is_fired b out) held = FiredSound b out

pub record Holds (F : List Item) (s : State) (held : List ℕ) : Type 0 where
  pub inv : Inv F s held
  pub sound : Sound s held

pub clash : {X : Type 0} (t : Bool) → t ≡ true → t ≡ false → X
clash t e f = absurd (both_ways t f e)

-- a page grows, and rows change
best_push : (rows : List Row) (page : List ℕ) (x : ℕ) (o : Option PageBreak) → BestFor rows page o → BestFor rows (page ++ x ∷ []) o
best_push rows page x None h = tt
best_push rows page x (Some at) h = record {
  some = h.some;
  within = omega (arith, h.within, length-append page (x ∷ []));
  first = go page h.some h.within h.first;
}
  where
    go : (page : List ℕ) → 1 ≤ at.place → at.place ≤ length page → FirstNote rows page at → FirstNote rows (page ++ x ∷ []) at
    go [] s w f = absurd (omega arith)
    go (y ∷ ys) s w f = f

first_same : (old new : List Row) (page : List ℕ) (at : PageBreak) → AllByRecursion (λ x. item_at new x ≡ item_at old x) page → FirstNote old page at →
    FirstNote new page at
first_same old new [] at a f = tt
first_same old new (x ∷ xs) at a f = λ n. subst (λ i. is_some (get_or at.last (note_class i) None) ≡ true) (sym a.0) (f (sym (ap is_note a.0) ∙ n))

best_same : (old new : List Row) (page : List ℕ) (o : Option PageBreak) → AllByRecursion (λ x. item_at new x ≡ item_at old x) page → BestFor old page o →
    BestFor new page o
best_same old new page None a h = tt
best_same old new page (Some at) a h = record { some = h.some; within = h.within; first = first_same old new page at a h.first }

best_alike : {R Q : List Row} → Alike R Q → (page : List ℕ) (o : Option PageBreak) → BestFor R page o → BestFor Q page o
best_alike {R} {Q} a page o h = best_same R Q page o (all_each (λ x. item_at Q x ≡ item_at R x) (λ x. ap (λ (it : ℕ → Item). it x) a.item) page) h

-- what each call leaves of that

fed_sound : (capacity : ℕ) (b : Book) (F : List Item) (held : List ℕ) (x : Item) (content : List Item) → Holds F (is_open b) held →
    refusal capacity b x content ≡ None → OpenSound (fed_book b x content) held
fed_sound capacity b F held x content h e = record {
  best =
      best_same b.rows (b.rows ++ fed_rows (length b.rows + 1) x content) b.page b.best
      (All-weaker (Inside b.rows) (λ y. item_at (b.rows ++ fed_rows (length b.rows + 1) x content) y ≡ item_at b.rows y) kept b.page
      (page_inside h.inv))
      h.sound.best;
  ended = λ d. clash b.closed (h.sound.ended d).closed (fed_open capacity b x content e);
}
  where
    kept : (y : ℕ) → Inside b.rows y → item_at (b.rows ++ fed_rows (length b.rows + 1) x content) y ≡ item_at b.rows y
    kept y n = ap (λ (r : Row). r.item) (get_or_append_left b.rows (fed_rows (length b.rows + 1) x content) blank (y - 1) (omega arith))

abbrev SoundAfter : List ℕ → Step → Type 0
SoundAfter held (stays a c) = OpenSound c held
SoundAfter held (fires c out) = FiredSound c out

step_sound : (b : Book) (F : List Item) (held : List ℕ) → Holds F (is_open b) held → {t : Step} → Does b t → SoundAfter held t
step_sound b F held h (has_done d) = h.sound
step_sound b F held h (waited c) = h.sound
step_sound b F held h (drops x rest d e g) = record {
  best = best_alike (alike_put Dropped b.rows (x ∷ [])) b.page b.best h.sound.best;
  ended = λ t. clash b.done t d;
}
step_sound b F held h (moves x rest d e) = record {
  best = best_push b.rows b.page x (best_here b) (best_good b F held h.inv h.sound.best);
  ended = λ t. clash b.done t d;
}
step_sound b F held h (breaks at d k) = record { best = tt; undone = d; final = λ f. clash false f refl }
step_sound b F held h (ends d c e p) = record { best = h.sound.best; undone = d; final = λ f. (refl, e, c) }

-- a step does one of the things that it may
pub does_next : {F : List Item} {b : Book} {held : List ℕ} → Holds F (is_open b) held → Does b (stepped b)
does_next {F} {b} {held} h = does b F held h.inv h.sound.best

module _ {P : Type 0} (held : P → List ℕ) (rule : Rule P) where
  settle_sound : {F : List Item} {b : Book} {out : Output} {p : P} {r : Option ℕ} {c : Book} {q : P} → Holds F (is_fired b out) (held p) →
      Settled held rule b out p r c q → OpenSound c (held q)
  settle_sound {F} {b} {out} {p} {q = q} h (judged v f g s) = record {
    best =
        best_alike
        (like b out F (held p) (shipped_of (held p ++ out.body) v) (held q) (returned_of (held p ++ out.body) v) v.classes s.joined h.inv)
        b.page b.best h.sound.best;
    ended = λ d. clash out.final d f;
  }
  settle_sound {F} {b} {out} {p} {q = q} h (released f e) = let g = h.sound.final f in record {
    best =
        best_alike (like b out F (held p) (held p) [] [] every_class (ap (λ l. held p ++ l) (sym (h.inv.ready.last f))) h.inv) b.page
        b.best h.sound.best;
    ended = λ d. record {
      nothing = e;
      shelves = every_emptied 8 b.shelves (let z = h.inv.shelves in omega arith);
      page = h.inv.ready.clear;
      contributions = ap₂ (λ (w c : List ℕ). w ++ c) g.0 g.1;
      closed = g.2;
    };
  }

-- each call keeps all of it

pub fed_holds : (capacity : ℕ) (b : Book) (F : List Item) (held : List ℕ) (x : Item) (content : List Item) → Holds F (is_open b) held →
    refusal capacity b x content ≡ None → Holds (F ++ (counted x content ∷ content_for x content)) (is_open (fed_book b x content)) held
fed_holds capacity b F held x content h e = record {
  inv = inv_feed capacity b x content F held e h.inv;
  sound = fed_sound capacity b F held x content h e;
}

pub closed_holds : {F : List Item} {b : Book} {held : List ℕ} → Holds F (is_open b) held → Holds F (is_open (closed_book b)) held
closed_holds {F} {b} {held} h = record {
  inv = inv_closed b F held h.inv;
  sound = record {
    best = h.sound.best;
    ended = λ d.
        let f = h.sound.ended d in
        record { nothing = f.nothing; shelves = f.shelves; page = f.page; contributions = f.contributions; closed = refl };
  };
}

pub step_holds : {F : List Item} {b c : Book} {a : Answer} {held : List ℕ} → Holds F (is_open b) held → stepped b ≡ stays a c →
    Holds F (is_open c) held
step_holds {F} {b} {held = held} h e =
    let w = subst (Does b) e (does_next h) in
    record { inv = inv_step b F held h.inv w; sound = step_sound b F held h w }

pub fire_holds : {F : List Item} {b c : Book} {out : Output} {held : List ℕ} → Holds F (is_open b) held → stepped b ≡ fires c out →
    Holds F (is_fired c out) held
fire_holds {F} {b} {held = held} h e =
    let w = subst (Does b) e (does_next h) in
    record { inv = inv_step b F held h.inv w; sound = step_sound b F held h w }

pub settle_holds : {P : Type 0} (held : P → List ℕ) (rule : Rule P) {F : List Item} {b c : Book} {out : Output} {p q : P} {r : Option ℕ} →
    Holds F (is_fired b out) (held p) → Settled held rule b out p r c q → Holds F (is_open c) (held q)
settle_holds held rule {F} h e = record { inv = inv_settle held rule F e h.inv; sound = settle_sound held rule h e }

-- Lists of calls

fed_more : (F : List Item) (h : List Call) (c : Call) → F ++ flat_map fed_by (h ++ c ∷ []) ≡ (F ++ flat_map fed_by h) ++ fed_by c
fed_more F h c =
    ap (λ l. F ++ l) (joined_append fed_by h (c ∷ []) ∙ ap (λ l. flat_map fed_by h ++ l) (append-nil (fed_by c))) ∙
    sym (append_assoc F (flat_map fed_by h) (fed_by c))

module _ (capacity : ℕ) {P : Type 0} (held : P → List ℕ) (rule : Rule P) where
  -- a call that feeds nothing
  more : {s : State} {p : P} (F : List Item) (h : List Call) (c : Call) → fed_by c ≡ [] → Holds (F ++ flat_map fed_by h) s (held p) →
      Holds (F ++ flat_map fed_by (h ++ c ∷ [])) s (held p)
  more {s} {p} F h c e i =
      subst (λ G. Holds G s (held p)) (sym (fed_more F h c ∙ ap (λ l. (F ++ flat_map fed_by h) ++ l) e ∙ append-nil (F ++ flat_map fed_by h))) i

  pub onward_holds : {F : List Item} {s₀ : State} {p₀ : P} {h : List Call} {s : State} {p : P} → Holds F s₀ (held p₀) →
      Onward capacity held rule s₀ p₀ h s p → Holds (F ++ flat_map fed_by h) s (held p)
  onward_holds {F} {s = s} {p = p} i none = subst (λ G. Holds G s (held p)) (sym (append-nil F)) i
  onward_holds {F} {p = p} i (feed {h = h} {b = b} x content r e) =
      subst (λ G. Holds G (is_open (fed_book b x content)) (held p)) (sym (fed_more F h (fed x content)))
      (fed_holds capacity b (F ++ flat_map fed_by h) (held p) x content (onward_holds i r) e)
  onward_holds {F} i (refuse {h = h} x content n r e) = more F h (feed_refused n) refl (onward_holds i r)
  onward_holds {F} i (close {h = h} r e) = more F h closed refl (closed_holds (onward_holds i r))
  onward_holds {F} i (close_again {h = h} r e) = more F h close_refused refl (onward_holds i r)
  onward_holds {F} i (step {h = h} {a = a} r e) = more F h (answered a) refl (step_holds (onward_holds i r) e)
  onward_holds {F} i (fire {h = h} r e) = more F h fired refl (fire_holds (onward_holds i r) e)
  onward_holds {F} i (settle {h = h} {r = n} r e) = more F h (settled n) refl (settle_holds held rule (onward_holds i r) e)

  pub made_holds : (others : List ℕ) (s : Settings) (cs : List (Option Class)) (p : P) → acceptable capacity others s cs ≡ true → held p ≡ [] →
      Holds [] (is_open (empty_book s cs)) (held p)
  made_holds others s cs p e f =
      subst (λ l. Holds [] (is_open (empty_book s cs)) l) (sym f)
      (record { inv = inv_made capacity others s cs e; sound = record { best = tt; ended = λ d. clash false d refl } })

  pub run_holds : {h : List Call} {s : State} {p : P} → Run capacity held rule h s p → Holds (flat_map fed_by h) s (held p)
  run_holds (made {p = p} others s cs e f r) = onward_holds (made_holds others s cs p e f) r
