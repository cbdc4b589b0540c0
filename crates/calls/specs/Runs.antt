-- Lists of calls on one book, one policy and one set of tables.
use Rattle.std.specs.Prelude.{◌≡◌, ℕ, true, false, List, [], ◌∷◌, ◌++◌, Some, None, Option}
use Rattle.items.specs.declared.Item.{Item}
use Rattle.items.specs.declared.Settings.{Settings}
use Rattle.items.specs.declared.Class.{Class}
use Rattle.items.specs.declared.refusals.Refusal.{Refusal}
use Rattle.policies.specs.Policies.{Rule}
use Rattle.calls.specs.Book.{Book, Output}
use Rattle.calls.specs.Making.{acceptable, empty_book}
use Rattle.calls.specs.Feeding.{refusal, fed_book, closed_book}
use Rattle.calls.specs.Stepping.{Answer, stepped, stays, fires}
use Rattle.calls.specs.Settling.{Settled}

-- a call and its answer
pub data Call : Type 0 where
  fed : Item → List Item → Call
  feed_refused : Refusal → Call
  closed : Call
  close_refused : Call
  answered : Answer → Call
  fired : Call
  settled : Option ℕ → Call

-- between two calls a book is open, or fired and due to be settled
pub data State : Type 0 where
  is_open : Book → State
  is_fired : Book → Output → State

-- over an item table of so many rows, and a policy by what it holds and how it judges
module _ (capacity : ℕ) {P : Type 0} (held : P → List ℕ) (rule : Rule P) where
  -- the calls that lead on from one state and policy
  pub data Onward (s₀ : State) (p₀ : P) : List Call → State → P → Type 0 where
    none : Onward s₀ p₀ [] s₀ p₀
    feed : {h : List Call} {b : Book} {p : P} (x : Item) (content : List Item) → Onward s₀ p₀ h (is_open b) p →
        refusal capacity b x content ≡ None → Onward s₀ p₀ (h ++ fed x content ∷ []) (is_open (fed_book b x content)) p
    refuse : {h : List Call} {b : Book} {p : P} (x : Item) (content : List Item) (r : Refusal) → Onward s₀ p₀ h (is_open b) p →
        refusal capacity b x content ≡ Some r → Onward s₀ p₀ (h ++ feed_refused r ∷ []) (is_open b) p
    close : {h : List Call} {b : Book} {p : P} → Onward s₀ p₀ h (is_open b) p → b.closed ≡ false →
        Onward s₀ p₀ (h ++ closed ∷ []) (is_open (closed_book b)) p
    close_again : {h : List Call} {b : Book} {p : P} → Onward s₀ p₀ h (is_open b) p → b.closed ≡ true →
        Onward s₀ p₀ (h ++ close_refused ∷ []) (is_open b) p
    step : {h : List Call} {b c : Book} {p : P} {a : Answer} → Onward s₀ p₀ h (is_open b) p → stepped b ≡ stays a c →
        Onward s₀ p₀ (h ++ answered a ∷ []) (is_open c) p
    fire : {h : List Call} {b c : Book} {out : Output} {p : P} → Onward s₀ p₀ h (is_open b) p → stepped b ≡ fires c out →
        Onward s₀ p₀ (h ++ fired ∷ []) (is_fired c out) p
    settle : {h : List Call} {b c : Book} {out : Output} {p q : P} {r : Option ℕ} → Onward s₀ p₀ h (is_fired b out) p →
        Settled held rule b out p r c q → Onward s₀ p₀ (h ++ settled r ∷ []) (is_open c) q

  -- a list of calls from the making on, where the policy holds nothing; `others` are the lengths of the other tables
  pub data Run : List Call → State → P → Type 0 where
    made : {h : List Call} {t : State} {p q : P} (others : List ℕ) (s : Settings) (cs : List (Option Class)) →
        acceptable capacity others s cs ≡ true → held p ≡ [] → Onward (is_open (empty_book s cs)) p h t q → Run h t q

-- any policy at all: it is what it holds, and may answer anything that loses nothing
abbrev pub AnyRule : Rule (List ℕ)
AnyRule p g v q = Unit {0}

-- an open book that some list of calls leads to, over some policy that then holds these items
pub record Reached (capacity : ℕ) (b : Book) : Type 0 where
  pub held : List ℕ
  pub calls : List Call
  pub run : Run capacity (λ l. l) AnyRule calls (is_open b) held
