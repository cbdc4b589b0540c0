-- What is refused, by number, and what is refused of a note's content.
use Rattle.std.specs.Prelude.{ℕ, ◌+◌, cond, not, List, length, Some, None, Option, nat_lt}
use Rattle.std.specs.List.{prefix_len}
use Rattle.items.specs.declared.Item.{Item}
use Rattle.items.specs.declared.refusals.Refusal.{Refusal}
use Rattle.items.specs.declared.refusals.Cause.{Cause}
use Rattle.items.specs.declared.refusals.Cause.TheVariants.{Limits, Closed, NoContent, Undeclared, Nested, Value, Full}
use Rattle.items.specs.Items.{is_note, within_limits}

abbrev pub number_of : Cause → ℕ
number_of Limits = 1
number_of Closed = 2
number_of NoContent = 3
number_of Undeclared = 4
number_of Nested = 5
number_of Value = 6
number_of Full = 7

-- the refusal of an item, a note or a call as a whole
abbrev pub of_the_whole : Cause → Refusal
of_the_whole cause = record { cause = cause; offset = 0 }

-- a refusal at the item after the first k, where there is one
abbrev pub refused_after : Cause → ℕ → List Item → Option Refusal → Option Refusal
refused_after cause k items otherwise = cond (nat_lt k (length items)) (Some (record { cause = cause; offset = k + 1 })) otherwise

-- content holds no note, and then no value outside its limits; items are counted from 1
abbrev pub content_refusal : List Item → Option Refusal
content_refusal items =
    refused_after Nested (prefix_len (λ x. not (is_note x)) items) items
    (refused_after Value (prefix_len within_limits items) items None)
