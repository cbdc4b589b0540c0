-- The limits of settings and of note classes.
use Rattle.std.specs.Prelude.{Bool, true, ◌&&◌, Some, None, Option, nat_le}
use Rattle.items.specs.declared.Settings.{Settings}
use Rattle.items.specs.declared.Class.{Class}
use Rattle.items.specs.Items.{most}

abbrev pub settings_within : Settings → Bool
settings_within s = nat_le 1 s.size && nat_le s.size most && nat_le s.depth most && nat_le s.top most

abbrev pub class_within : Class → Bool
class_within c = nat_le c.floating 10000 && nat_le c.limit most && nat_le c.skip most && nat_le c.depth most

-- of each of the eight classes: if it is declared, it is within its limits
abbrev pub declared_within : Option Class → Bool
declared_within None = true
declared_within (Some c) = class_within c

-- what counts for a class of which nothing is declared
abbrev pub undeclared : Class
undeclared = record { floating = 0; limit = 0; skip = 0; depth = 0 }
