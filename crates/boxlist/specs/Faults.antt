-- The faults of a box list: where they stand, their numbers, and how they are printed.
use Rattle.std.specs.Prelude.{ℕ, ◌+◌, ◌-◌, ◌^◌, min, cond, List, ◌++◌, Some, None, Option, nat_lt, codes, decimal}
use Rattle.items.specs.Refusals.{number_of}
use Rattle.boxlist.specs.declared.faults.Fault.{Fault}
use Rattle.boxlist.specs.declared.faults.Layer.{Layer}
use Rattle.boxlist.specs.declared.faults.Layer.TheVariants.{Text, Galley}
use Rattle.boxlist.specs.declared.faults.TextCause.{TextCause}
use Rattle.boxlist.specs.declared.faults.TextCause.TheVariants.{Limits, TooLong, NoRecord, OutOfPlace}

abbrev pub text_fault : ℕ → TextCause → Fault
text_fault line cause = record { line = line; layer = Text cause }

abbrev pub line_in : ℕ → Layer → ℕ
line_in line (Text cause) = line
line_in line (Galley refusal) = min (line + refusal.offset) (2 ^ 64 - 1)

abbrev pub line_of_fault : Fault → ℕ
line_of_fault f = line_in f.line f.layer

abbrev pub text_number : TextCause → ℕ
text_number Limits = 1
text_number TooLong = 7
text_number NoRecord = 8
text_number OutOfPlace = 9

abbrev pub number_in : Layer → ℕ
number_in (Text cause) = text_number cause
number_in (Galley refusal) = number_of refusal.cause

abbrev pub cause_of : Fault → ℕ
cause_of f = number_in f.layer

abbrev pub letter_in : Layer → List ℕ
letter_in (Text cause) = codes "T"
letter_in (Galley refusal) = codes "G"

abbrev pub printed : Fault → List ℕ
printed f = codes "FA " ++ (decimal (line_of_fault f) ++ (codes " " ++ (letter_in f.layer ++ (codes " " ++ decimal (cause_of f)))))

-- a text of more than 8,192 bytes is not read
abbrev pub length_fault : ℕ → Option Fault
length_fault n = cond (nat_lt 8192 n) (Some (text_fault 0 TooLong)) None
