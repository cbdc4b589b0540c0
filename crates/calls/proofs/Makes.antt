-- A book just made satisfies the invariant, and a close keeps it.
use Rattle.std.proofs.Common.{◌≡◌, ℕ, zero, suc, true, ◌&&◌, eqb, List, [], ◌++◌, length, get_or, replicate, Option, refl, ap, arith}
use Rattle.std.specs.List.{list_all}
use Rattle.std.proofs.lemmas.Bool.{eqb-true, and_parts, false≢true}
use Rattle.items.specs.declared.Item.{Item}
use Rattle.items.specs.declared.Item.TheVariants.{Box, Note}
use Rattle.items.specs.declared.Piece.{Piece}
use Rattle.items.specs.declared.Settings.{Settings}
use Rattle.items.specs.declared.Class.{Class}
use Rattle.items.specs.Limits.{settings_within, declared_within}
use Rattle.items.specs.Table.{shelf_items}
use Rattle.calls.specs.Book.{Book}
use Rattle.calls.specs.Making.{empty_book, tables_within, acceptable}
use Rattle.calls.specs.Feeding.{closed_book}
use Rattle.calls.specs.Runs.{is_open}
use Rattle.calls.proofs.Table.{place_at}
use Rattle.calls.proofs.Invariant.{Inv, lies_still}

no_shelf : (n c : ℕ) → ◌≡◌ {A = List Piece} (get_or (replicate n []) c []) []
no_shelf zero c = refl
no_shelf (suc n) zero = refl
no_shelf (suc n) (suc c) = no_shelf n c

pub inv_made : (capacity : ℕ) (others : List ℕ) (s : Settings) (cs : List (Option Class)) → acceptable capacity others s cs ≡ true →
    Inv [] (is_open (empty_book s cs)) []
inv_made capacity others s cs e = record {
  listed = refl;
  eight = eqb-true (length cs) 8 (and_parts (tables_within capacity others && settings_within s) (eqb (length cs) 8) front.0).1;
  shelves = refl;
  formed = record {
    content = λ x c k h f. absurd (no_note f);
    classes = λ x c k h f. absurd (no_note f);
    owners = λ x h. omega arith;
    values = λ x h. refl;
  };
  ready = tt;
  inside = tt;
  left = tt;
  apart = λ x. omega arith;
  discarded = λ x h f. absurd (false≢true f);
  placed = λ x h. absurd (omega arith);
  bodies = refl;
  classes = λ c. ap (λ l. shelf_items l ++ []) (no_shelf 8 c);
  pages = tt;
}
  where
    front : ((tables_within capacity others && settings_within s && eqb (length cs) 8) ≡ true) × (list_all declared_within cs ≡ true)
    front = and_parts (tables_within capacity others && settings_within s && eqb (length cs) 8) (list_all declared_within cs) e

    no_note : {c k : ℕ} → Box 0 0 ≡ Note c k → ⊥
    no_note f = let z : ◌≡◌ {A = ℕ} 0 1 = cc in omega arith

pub inv_closed : (b : Book) (F : List Item) (held : List ℕ) → Inv F (is_open b) held → Inv F (is_open (closed_book b)) held
inv_closed b F held i = record {
  listed = i.listed;
  eight = i.eight;
  shelves = i.shelves;
  formed = i.formed;
  ready = tt;
  inside = i.inside;
  left = i.left;
  apart = i.apart;
  discarded = i.discarded;
  placed = λ y h. lies_still (is_open b) (is_open (closed_book b)) held y (λ o. o) refl refl refl (place_at b.rows y) (i.placed y h);
  bodies = i.bodies;
  classes = i.classes;
  pages = i.pages;
}
