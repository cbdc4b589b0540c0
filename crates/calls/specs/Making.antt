-- Making a book.
use Rattle.std.specs.Prelude.{ℕ, Bool, false, cond, ◌&&◌, List, [], length, replicate, Some, None, Option, ◌==◌, nat_le}
use Rattle.std.specs.List.{list_all}
use Rattle.items.specs.declared.Settings.{Settings}
use Rattle.items.specs.declared.Class.{Class}
use Rattle.items.specs.declared.refusals.Refusal.{Refusal}
use Rattle.items.specs.declared.refusals.Cause.TheVariants.{Limits}
use Rattle.items.specs.Limits.{settings_within, declared_within}
use Rattle.calls.specs.Book.{Book}

abbrev pub empty_book : Settings → List (Option Class) → Book
empty_book s cs = record {
  settings = s;
  classes = cs;
  rows = [];
  contributions = [];
  page = [];
  best = None;
  shelves = replicate 8 [];
  shipped = [];
  pages = [];
  firings = 0;
  closed = false;
  done = false;
}

-- 1 to 16,384 rows, and no other table shorter than they are
abbrev pub tables_within : ℕ → List ℕ → Bool
tables_within rows others = nat_le 1 rows && nat_le rows 16384 && list_all (nat_le rows) others

-- what a making takes: the tables' lengths, the settings, and those of eight classes that are declared, within their limits
abbrev pub acceptable : ℕ → List ℕ → Settings → List (Option Class) → Bool
acceptable rows others s cs = tables_within rows others && settings_within s && length cs == 8 && list_all declared_within cs

abbrev pub making_refusal : ℕ → List ℕ → Settings → List (Option Class) → Option Refusal
making_refusal rows others s cs = cond (acceptable rows others s cs) None (Some (record { cause = Limits; offset = 0 }))
