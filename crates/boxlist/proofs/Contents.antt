-- What a record that is read says of the reading after it, and one more item of a note's content.
use Rattle.std.proofs.Common.{◌≡◌, ℕ, ◌+◌, ◌-◌, ◌<◌, ◌≤◌, Bool, true, false, cond, eqb, List, [], ◌∷◌, ◌++◌, map, length, take, drop, set, IsSome, Some, None, Ok, Err, Option, Result, sym, refl, ap, ◌∙◌, subst, arith}
use Rattle.std.proofs.lemmas.List.{map_push, take_more_set, drop-set-lt, drop-drop, length_push}
use Rattle.std.proofs.lemmas.Bool.{ne_eqb}
use Rattle.items.specs.declared.Item.{Item}
use Rattle.boxlist.specs.declared.faults.TextCause.TheVariants.{Limits}
use Rattle.boxlist.specs.declared.list.BoxList.{BoxList}
use Rattle.boxlist.specs.declared.order.Stage.{Stage}
use Rattle.boxlist.specs.declared.order.Stage.TheVariants.{Start, Classes, Entries, Content, Ended}
use Rattle.boxlist.specs.declared.reader.NoRecord.{NoRecord}
use Rattle.boxlist.specs.declared.records.Record.{Record}
use Rattle.boxlist.specs.declared.records.Record.TheVariants.{Settings, Class, Box, Glue, Kern, Penalty, Note, End}
use Rattle.boxlist.specs.Lines.{lines_passed}
use Rattle.boxlist.specs.Order.{owing, after_content, stage_after, head_within, item_of}
use Rattle.boxlist.specs.Reading.{after_end, in_place, outcome_of, answer_of, stage_of, InContent, ReadOne, ReadMany, Gathered, Onward}

-- a record is told only where one stands, in its place
pub record Told (s : Stage) (read : Result (Option Record) NoRecord) (r : Record) (after : Stage) : Type 0 where
  pub passes : lines_passed read ≡ 1
  pub placed : stage_after s r ≡ Some after

no_end : {X : Type 0} (line : ℕ) (s : Stage) (r : Record) → Ok (Some r) ≡ answer_of line (after_end s) → X
no_end line Start r e = cc
no_end line (Classes above) r e = cc
no_end line Entries r e = cc
no_end line (Content left) r e = cc
no_end line Ended r e = cc

told : (s after : Stage) (line : ℕ) (read : Result (Option Record) NoRecord) (r : Record) → Ok (Some r) ≡ answer_of line (outcome_of s read) → after ≡ stage_of s (outcome_of s read) → Told s read r after
told s after line (Err none) r e f = cc
told s after line (Ok None) r e f = no_end line s r e
told s after line (Ok (Some q)) r e f = go (stage_after s q) refl e f
  where
    limited : (t : Bool) (s' : Stage) → stage_after s q ≡ Some s' →
        Ok (Some r) ≡ answer_of line (cond t (Ok (Some (record { read = q; stage = s' }))) (Err Limits)) →
        after ≡ stage_of s (cond t (Ok (Some (record { read = q; stage = s' }))) (Err Limits)) → Told s (Ok (Some q)) r after
    limited true s' p e f = let same : r ≡ q = cc in record { passes = refl; placed = ap (stage_after s) same ∙ p ∙ ap Some (sym f) }
    limited false s' p e f = cc

    go : (o : Option Stage) → stage_after s q ≡ o → Ok (Some r) ≡ answer_of line (in_place q o) → after ≡ stage_of s (in_place q o) → Told s (Ok (Some q)) r after
    go None p e f = cc
    go (Some s') p e f = limited (head_within q) s' p e f

module _ (before after : BoxList) (r : Record) (h : ReadOne before after (Ok (Some r))) where
  is_told : Told before.stage h.read r after.stage
  is_told = told before.stage after.stage before.reader.line h.read r h.told h.stage

  pub one_placed : stage_after before.stage r ≡ Some after.stage
  one_placed = is_told.placed

  pub one_onward : (before.reader.pos < after.reader.pos) × (after.reader.pos ≤ length before.reader.text.now)
  one_onward = h.onward (omega (arith, is_told.passes))

-- what stands in content is an item
pub item_stands : (s after : Stage) (r : Record) → InContent s → stage_after s r ≡ Some after → IsSome (item_of r)
item_stands Start after r h p = absurd h
item_stands (Classes above) after r h p = absurd h
item_stands Entries after r h p = absurd h
item_stands (Content left) after (Settings size depth top bound policy) h p = cc
item_stands (Content left) after (Class class limit skip floating depth) h p = cc
item_stands (Content left) after (Box height depth) h p = refl
item_stands (Content left) after (Glue width stretch order shrink) h p = refl
item_stands (Content left) after (Kern width) h p = refl
item_stands (Content left) after (Penalty value) h p = refl
item_stands (Content left) after (Note class count) h p = refl
item_stands (Content left) after End h p = cc
item_stands Ended after r h p = absurd h

-- in content, one item fewer is to come
pub owing_less : (n : ℕ) (s after : Stage) (r : Record) (x : Item) → 0 < n → s ≡ owing n → item_of r ≡ Some x → stage_after s r ≡ Some after → after ≡ owing (n - 1)
owing_less n s after r x l e i p =
    let t : eqb n 0 ≡ false = ne_eqb n 0 (λ q. omega arith) in
    let c : s ≡ Content n = e ∙ ap (λ b. cond b Entries (Content n)) t in
    content r i (ap (λ u. stage_after u r) (sym c) ∙ p)
  where
    content : (q : Record) → item_of q ≡ Some x → after_content n q ≡ Some after → after ≡ owing (n - 1)
    content (Settings size depth top bound policy) i p = cc
    content (Class class limit skip floating depth) i p = cc
    content (Box height depth) i p = cc
    content (Glue width stretch order shrink) i p = cc
    content (Kern width) i p = cc
    content (Penalty value) i p = cc
    content (Note class count) i p = cc
    content End i p = cc

many_more : (before between after : BoxList) (rs : List Record) (r : Record) → ReadMany before rs between → ReadOne between after (Ok (Some r)) → ReadMany before (rs ++ r ∷ []) after
many_more before between after [] r e h = (after, subst (λ b. ReadOne b after (Ok (Some r))) (sym e) h, refl)
many_more before between after (q ∷ rs) r (m, one, many) h = (m, one, many_more m between after rs r many h)

pub gathered_more : (before between after : BoxList) (was table : List Item) (n : ℕ) (r : Record) (x : Item) → n < length table → Gathered before between was table n →
    ReadOne between after (Ok (Some r)) → item_of r ≡ Some x → Gathered before after was (set table n x) (n + 1)
gathered_more before between after was table n r x l g h i =
    record {
      records = g.records ++ r ∷ [];
      read = many_more before between after g.records r g.read h;
      count = length_push g.records r ∙ ap (λ k. k + 1) g.count;
      front =
          map_push item_of g.records r ∙ ap (λ os. os ++ item_of r ∷ []) g.front ∙ ap (λ o. map Some (take n table) ++ o ∷ []) i ∙
          sym (map_push Some (take n table) x) ∙ ap (map Some) (sym (take_more_set table n x l));
      rest = drop-set-lt (n + 1) table n x (omega arith) ∙ sym (drop-drop 1 n table) ∙ ap (drop 1) g.rest ∙ drop-drop 1 n was;
    }

many_onward : (before after : BoxList) (rs : List Record) → ReadMany before rs after → before.reader.pos ≤ length before.reader.text.now →
    (before.reader.pos ≤ after.reader.pos) × (after.reader.pos ≤ length before.reader.text.now) × (after.reader.text ≡ before.reader.text)
many_onward before after [] e l = subst (λ b. (before.reader.pos ≤ b.reader.pos) × (b.reader.pos ≤ length before.reader.text.now) × (b.reader.text ≡ before.reader.text)) e (omega arith, l, refl)
many_onward before after (r ∷ rs) h l =
    let one = one_onward before h.0 r h.1 in
    let same = ap (λ t. length t.now) h.1.text in
    let more = many_onward h.0 after rs h.2 (omega (arith, one, same)) in
    (omega (arith, one, more), omega (arith, same, more), more.2 ∙ h.1.text)

-- an entry goes on as its record does
pub entry_onward : {n : ℕ} (before between after : BoxList) (was table : List Item) → Onward before between → Gathered between after was table n → Onward before after
entry_onward before between after was table one g =
    let same = ap (λ t. length t.now) one.2 in
    let more = many_onward between after g.records g.read (omega (arith, one, same)) in
    (omega (arith, one, more), omega (arith, same, more), more.2 ∙ one.2)
