-- A record as the box list writes it, without the byte 10 that ends its line.
use Rattle.std.specs.Prelude.{ℕ, ◌≤◌, List, [], ◌∷◌, ◌++◌, ℤ, pos, unsigned_abs}
use Rattle.std.specs.List.{flat_map, AllByRecursion}
use Rattle.std.specs.Fmt.{signed_decimal}
use Rattle.items.specs.Items.{most}
use Rattle.boxlist.specs.declared.marks.Mark.{Mark}
use Rattle.boxlist.specs.declared.marks.Mark.TheVariants.{St, Cl, Bx, Gl, Kn, Pn, Nt, En}
use Rattle.boxlist.specs.declared.records.Record.{Record}
use Rattle.boxlist.specs.declared.records.Record.TheVariants.{Settings, Class, Box, Glue, Kern, Penalty, Note, End}
use Rattle.boxlist.specs.Marks.{letters_of}

abbrev pub mark_of : Record → Mark
mark_of (Settings size depth top bound policy) = St
mark_of (Class class limit skip floating depth) = Cl
mark_of (Box height depth) = Bx
mark_of (Glue width stretch order shrink) = Gl
mark_of (Kern width) = Kn
mark_of (Penalty value) = Pn
mark_of (Note class count) = Nt
mark_of End = En

abbrev pub values_of : Record → List ℤ
values_of (Settings size depth top bound policy) = pos size ∷ pos depth ∷ pos top ∷ pos bound ∷ pos policy ∷ []
values_of (Class class limit skip floating depth) = pos class ∷ pos limit ∷ pos skip ∷ pos floating ∷ pos depth ∷ []
values_of (Box height depth) = pos height ∷ pos depth ∷ []
values_of (Glue width stretch order shrink) = width ∷ pos stretch ∷ pos order ∷ pos shrink ∷ []
values_of (Kern width) = width ∷ []
values_of (Penalty value) = value ∷ []
values_of (Note class count) = pos class ∷ pos count ∷ []
values_of End = []

-- a value after a space
abbrev pub field : ℤ → List ℕ
field z = 32 ∷ signed_decimal z

abbrev pub text_of : Record → List ℕ
text_of r = letters_of (mark_of r) ++ flat_map field (values_of r)

-- no value is larger than the largest length
abbrev pub Small : ℤ → Type 0
Small z = unsigned_abs z ≤ most

abbrev pub Fits : Record → Type 0
Fits r = AllByRecursion Small (values_of r)
