-- What is told of each line of a box list.
use Rattle.std.specs.Prelude.{◌≡◌, ℕ, ◌+◌, ◌*◌, ◌<◌, ◌≤◌, cond, ◌⊎◌, List, [], ◌∷◌, map, length, take, drop, Some, None, Ok, Err, Option, Result}
use Rattle.boxlist.specs.declared.faults.Fault.{Fault}
use Rattle.boxlist.specs.declared.faults.TextCause.{TextCause}
use Rattle.boxlist.specs.declared.faults.TextCause.TheVariants as cause
use Rattle.boxlist.specs.Faults.{text_fault}
use Rattle.boxlist.specs.declared.list.Placed.{Placed}
use Rattle.boxlist.specs.declared.order.Stage.{Stage}
use Rattle.boxlist.specs.declared.order.Stage.TheVariants.{Start, Classes, Entries, Content, Ended}
use Rattle.boxlist.specs.declared.reader.NoRecord.{NoRecord}
use Rattle.boxlist.specs.declared.records.Record.{Record}
use Rattle.items.specs.declared.Item.{Item}
use Rattle.boxlist.specs.declared.list.BoxList.{BoxList}
use Rattle.boxlist.specs.Lines.{Answers, line_at, lines_passed}
use Rattle.boxlist.specs.Order.{to_come, stage_after, head_within, item_of}

abbrev pub after_end : Stage → Result (Option Placed) TextCause
after_end Start = Err cause.OutOfPlace
after_end (Classes above) = Err cause.OutOfPlace
after_end Entries = Err cause.OutOfPlace
after_end (Content left) = Err cause.OutOfPlace
after_end Ended = Ok None

abbrev pub in_place : Record → Option Stage → Result (Option Placed) TextCause
in_place r None = Err cause.OutOfPlace
in_place r (Some s) = cond (head_within r) (Ok (Some (record { read = r; stage = s }))) (Err cause.Limits)

-- no record is tested first, then its place, then the limits of settings and classes; the text may end only after the
-- end's record
abbrev pub outcome_of : Stage → Result (Option Record) NoRecord → Result (Option Placed) TextCause
outcome_of s (Err none) = Err cause.NoRecord
outcome_of s (Ok None) = after_end s
outcome_of s (Ok (Some r)) = in_place r (stage_after s r)

-- what is answered at a line, and the stage after it, from what is told
abbrev pub answer_of : ℕ → Result (Option Placed) TextCause → Result (Option Record) Fault
answer_of line (Ok None) = Ok None
answer_of line (Ok (Some p)) = Ok (Some p.read)
answer_of line (Err cause) = Err (text_fault line cause)

abbrev pub stage_of : Stage → Result (Option Placed) TextCause → Stage
stage_of s (Ok None) = s
stage_of s (Ok (Some p)) = p.stage
stage_of s (Err cause) = s

-- one line is read: what stands there, what is told of it, and where the reading is then
pub record ReadOne (before after : BoxList) (answer : Result (Option Record) Fault) : Type 0 where
  pub read : Result (Option Record) NoRecord
  pub stands : Answers (line_at before.reader.pos before.reader.text.now) read
  pub told : answer ≡ answer_of before.reader.line (outcome_of before.stage read)
  pub stage : after.stage ≡ stage_of before.stage (outcome_of before.stage read)
  pub pos : after.reader.pos ≡ before.reader.pos + lines_passed read * length (line_at before.reader.pos before.reader.text.now)
  pub line : after.reader.line ≡ before.reader.line + lines_passed read
  pub text : after.reader.text ≡ before.reader.text
  pub onward : 0 < lines_passed read → (before.reader.pos < after.reader.pos) × (after.reader.pos ≤ length before.reader.text.now)

-- the reading went on, within the text
abbrev pub Onward : BoxList → BoxList → Type 0
Onward before after = (before.reader.pos < after.reader.pos) × (after.reader.pos ≤ length before.reader.text.now) × (after.reader.text ≡ before.reader.text)

-- items of a note's content are to come
abbrev pub InContent : Stage → Type 0
InContent Start = ⊥
InContent (Classes above) = ⊥
InContent Entries = ⊥
InContent (Content left) = 0 < left
InContent Ended = ⊥

-- one item of a note's content is read, or what is told instead
abbrev pub ReadItem : BoxList → BoxList → Result Item Fault → Type 0
ReadItem before after (Ok x) = (r : Record) × ReadOne before after (Ok (Some r)) × (item_of r ≡ Some x)
ReadItem before after (Err f) = ReadOne before after (Err f)

-- records read one after another, each in its place
abbrev pub ReadMany : BoxList → List Record → BoxList → Type 0
ReadMany before [] after = before ≡ after
ReadMany before (r ∷ rs) after = (between : BoxList) × ReadOne before between (Ok (Some r)) × ReadMany between rs after

-- some items of content are read, one for each record, to the front of a table
pub record Gathered (before after : BoxList) (was table : List Item) (n : ℕ) : Type 0 where
  pub records : List Record
  pub read : ReadMany before records after
  pub count : length records ≡ n
  pub front : map item_of records ≡ map Some (take n table)
  pub rest : drop n table ≡ drop n was

-- a note's content is read, or a fault is met after some of it
abbrev pub ReadContent : BoxList → BoxList → List Item → List Item → ℕ → Result (Unit {0}) Fault → Type 0
ReadContent before after was table n (Ok u) = Gathered before after was table n
ReadContent before after was table n (Err f) = (k : ℕ) × (k < n) × (between : BoxList) × Gathered before between was table k × ReadOne between after (Err f)

-- a record is read with all the content that is to come after it, which stands at the front of the table; a fault is that
-- of the record, or of one in its content
abbrev pub ReadEntry : BoxList → BoxList → List Item → List Item → Result (Option Record) Fault → Type 0
ReadEntry before after was table (Ok o) = (between : BoxList) × ReadOne before between (Ok o) × Gathered between after was table (to_come between.stage)
ReadEntry before after was table (Err f) =
    (ReadOne before after (Err f) × (table ≡ was)) ⊎
    ((o : Option Record) × (between : BoxList) × ReadOne before between (Ok o) × ReadContent between after was table (to_come between.stage) (Err f))
