use Rattle.std.proofs.Common.{◌≡◌, ◌+◌, ◌++◌, map, take, drop, Some}
use Rattle.items.specs.Items.{fed_row}
use Rattle.book.proofs.feeding.write_content.Given as goal

-- the rows of the items so far stand, and those behind are as they were
abbrev pub invariant-loop-i : goal.invariant-loop-i
invariant-loop-i l = record {
  written : take (l.at + l.i) l.rows ≡ take l.at l.initial.rows ++ map (λ y. fed_row y (Some l.note)) (take l.i l.content);
  rest : drop (l.at + l.i) l.rows ≡ drop (l.at + l.i) l.initial.rows;
}
