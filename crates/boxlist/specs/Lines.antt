-- The lines of a text, and what is answered of one.
use Rattle.std.specs.Prelude.{◌≡◌, ℕ, ◌<◌, cond, List, [], ◌∷◌, ◌++◌, length, drop, Some, None, Ok, Err, Option, Result, ◌==◌, ◌≢◌}
use Rattle.boxlist.specs.declared.reader.NoRecord.{NoRecord}
use Rattle.boxlist.specs.declared.records.Record.{Record}
use Rattle.boxlist.specs.Texts.{text_of, Fits}

-- the first line of a text, up to and with the byte 10, or all of it where there is none
abbrev pub line_of : List ℕ → List ℕ
line_of [] = []
line_of (b ∷ bs) = b ∷ cond (b == 10) [] (line_of bs)

-- the line that begins at a position
abbrev pub line_at : ℕ → List ℕ → List ℕ
line_at pos text = line_of (drop pos text)

-- a text has ended where it has no line
abbrev pub Answers : List ℕ → Result (Option Record) NoRecord → Type 0
Answers line (Ok (Some r)) = Fits r × (text_of r ++ 10 ∷ [] ≡ line)
Answers line (Ok None) = line ≡ []
Answers line (Err none) = (0 < length line) × ((r : Record) → Fits r → text_of r ++ 10 ∷ [] ≢ line)

abbrev pub lines_passed : Result (Option Record) NoRecord → ℕ
lines_passed (Ok (Some r)) = 1
lines_passed (Ok None) = 0
lines_passed (Err none) = 0
