-- One more call leads on from a book that calls lead to.
use Rattle.std.proofs.Common.{◌≡◌, ℕ, true, false, List, [], ◌∷◌, ◌++◌, None, Option, refl}
use Rattle.items.specs.declared.Item.{Item}
use Rattle.items.specs.declared.Settings.{Settings}
use Rattle.items.specs.declared.Class.{Class}
use Rattle.calls.specs.Book.{Book}
use Rattle.calls.specs.Making.{empty_book, acceptable}
use Rattle.calls.specs.Feeding.{refusal, fed_book, closed_book}
use Rattle.calls.specs.Runs.{Call, fed, closed, State, is_open, Onward, none, feed, close, Run, made, AnyRule, Reached}

pub reached_made : (capacity : ℕ) (others : List ℕ) (s : Settings) (cs : List (Option Class)) → acceptable capacity others s cs ≡ true → Reached capacity (empty_book s cs)
reached_made capacity others s cs e = record { held = []; calls = []; run = made others s cs e refl none }

-- the links of a list of calls
abbrev Links : ℕ → State → List ℕ → List Call → Book → List ℕ → Type 0
Links capacity s p h b q = Onward capacity (λ l. l) AnyRule s p h (is_open b) q

module _ (capacity : ℕ) (b c : Book) (more : List Call)
    (on : (s : State) (p : List ℕ) (h : List Call) (q : List ℕ) → Links capacity s p h b q → Links capacity s p (h ++ more) c q) where
  go_on : {h : List Call} {q : List ℕ} → Run capacity (λ l. l) AnyRule h (is_open b) q → Run capacity (λ l. l) AnyRule (h ++ more) (is_open c) q
  go_on {h} {q} (made {p = p} others s cs e f o) = made others s cs e f (on (is_open (empty_book s cs)) p h q o)

  then_on : Reached capacity b → Reached capacity c
  then_on r = record { held = r.held; calls = r.calls ++ more; run = go_on r.run }

pub reached_fed : (capacity : ℕ) (b : Book) (x : Item) (content : List Item) → refusal capacity b x content ≡ None → Reached capacity b →
    Reached capacity (fed_book b x content)
reached_fed capacity b x content e = then_on capacity b (fed_book b x content) (fed x content ∷ []) (λ s p h q o. feed x content o e)

pub reached_closed : (capacity : ℕ) (b : Book) → b.closed ≡ false → Reached capacity b → Reached capacity (closed_book b)
reached_closed capacity b e = then_on capacity b (closed_book b) (closed ∷ []) (λ s p h q o. close o e)
