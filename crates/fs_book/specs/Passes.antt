-- What a pass knows, and which book it is of.
use Rattle.std.specs.Prelude.{◌≡◌, ℕ, ◌+◌, ◌^◌, List, [], Some}
use Rattle.fs_book.specs.declared.turned.Turned.{Ghosts}
use Rattle.fs_book.specs.declared.book.Book.{Book}
use Rattle.fs_book.specs.declared.pass.Pass.{Pass}

module _ {M B O E A R : Type 0} {g : Ghosts M B O E A R} where
  -- the journal, as far as its holder has seen it
  abbrev pub seen : Pass M B O E A R g → List E
  seen pass = pass.seat.me.0.seen

  -- the places of its own entries
  abbrev pub mine : Pass M B O E A R g → List ℕ
  mine pass = pass.seat.me.0.mine

  -- the places of each pass that was met into it, each list by itself
  abbrev pub met : Pass M B O E A R g → List (List ℕ)
  met pass = pass.seat.me.0.met

  abbrev pub parts : Pass M B O E A R g → ℕ
  parts pass = pass.seat.me.0.parts

  -- it has seen nothing, has made nothing, and has all parts
  abbrev pub IsFirstPass : Pass M B O E A R g → Type 0
  IsFirstPass pass = (seen pass ≡ []) × (mine pass ≡ []) × (met pass ≡ []) × (parts pass ≡ 2 ^ 62)

  -- it gave so many of its parts away, and is else as it was
  abbrev pub GivesParts : ℕ → Pass M B O E A R g → Pass M B O E A R g → Type 0
  GivesParts count old new = (seen new ≡ seen old) × (mine new ≡ mine old) × (met new ≡ met old) × (parts new + count ≡ parts old)

  -- the lists and parts are as they were
  abbrev pub KeepsLists : Pass M B O E A R g → Pass M B O E A R g → Type 0
  KeepsLists old new = (mine new ≡ mine old) × (met new ≡ met old) × (parts new ≡ parts old)

-- the state with which the book was started
abbrev pub opening_state : {M B O E A R : Type 0} → Book M B O E A R → M
opening_state book = book.desk.shared.key.value

-- the pass is of this book
abbrev pub IsPassOf : {M B O E A R : Type 0} {g : Ghosts M B O E A R} → (M → B) → Book M B O E A R → Pass M B O E A R g → Type 0
IsPassOf start book pass = (pass.seat.table_id ≡ book.desk.shared.table_id) × (pass.seat.me.0.start ≡ Some (start (opening_state book)))
