use Rattle.std.proofs.Common.{◌≡◌, ◌∷◌, [], ℕ, None, length}
use Rattle.std.specs.List.{All}
use Rattle.fs_book.specs.Passes.{seen, mine, met, parts, opening_state, IsPassOf}
use Rattle.fs_machine.specs.Turned.{configured}
use Rattle.fs_top.specs.Lanes.{Keeps, Enters}
use Rattle.fs_session.specs.Loading.{Store}
use Rattle.fs_top.specs.Reloading.{store, HasNoted}
use Rattle.fs_top.specs.Standing.{DeskStands, Stands, ArePlaced, HaveFailed}
use Rattle.fs_top.proofs.beside.run_beside.Given as goal

abbrev pub invariant-rounds : goal.invariant-rounds
invariant-rounds g l = record {
  book : IsPassOf configured l.fn.book l.pass;
  parts_kept : parts l.pass ≡ parts l.fn.pass;
  door_kept : l.door ≡ l.fn.door;
  keeps : Keeps g.D.Link.Port.input g.D.Link.Port.output (Enters (g.C.Clock.tells l.fn.clock) ⊥ None) (configured (opening_state l.fn.book))
      (seen l.pass) (mine l.pass ∷ met l.pass) [];
  desk : DeskStands g.D.Link.Port.input g.D.Link.Port.output (g.C.Clock.tells l.fn.clock) l.fn.book l.desk;
  loads : (first : Store) →
      HasNoted first (store (g.F.Store.loads l.fn.files l.fn.name) (g.F.Store.counts l.fn.files) (g.F.Store.sizes l.fn.files)) l.fn.desk →
      HasNoted first (store (g.F.Store.loads l.files l.fn.name) (g.F.Store.counts l.files) (g.F.Store.sizes l.files)) l.desk;
  count : length l.lanes ≡ length l.fn.lanes;
  stand : All (Stands g.D.Link.Port.input g.D.Link.Port.output (g.C.Clock.tells l.fn.clock) l.fn.book) l.lanes;
  placed : (slots : ℕ) → ArePlaced slots l.fn.lanes → ArePlaced slots l.lanes;
  failed : (from : ℕ) → HaveFailed g.O.Dialer.dial_faults from l.fn.lanes → HaveFailed g.O.Dialer.dial_faults from l.lanes;
}
