-- The two letters of each mark.
use Rattle.std.specs.Prelude.{ℕ, List, codes}
use Rattle.boxlist.specs.declared.marks.Mark.{Mark}
use Rattle.boxlist.specs.declared.marks.Mark.TheVariants.{St, Cl, Bx, Gl, Kn, Pn, Nt, En}

abbrev pub letters_of : Mark → List ℕ
letters_of St = codes "ST"
letters_of Cl = codes "CL"
letters_of Bx = codes "BX"
letters_of Gl = codes "GL"
letters_of Kn = codes "KN"
letters_of Pn = codes "PN"
letters_of Nt = codes "NT"
letters_of En = codes "EN"
