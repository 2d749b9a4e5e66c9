-- A pass and a lane over the machine may go to another thread, and a book of it may be shared.
use denote.RattleType.{RattleType}
use mathlib.Core.List.{[], ◌∷◌}
use mir.Syntax.{Sym}
use denote.Ref.{NamedLft, ShrRef, MutRef}
use denote.Slice.{MutSlice}
use denote.Struct.Tuple.{TupleAt, type_at}
use denote.Struct.Field.{row_field}
use denote.Param.Send.{IsSend, IsSync, shr_send, shr_sync, mut_send, mut_slice_send, sendable}
use denote.Param.SendFields.{declared_send, declared_sync, variants_send, as_row_send, as_row_sync}
use denote.Builtin.{u32}
use Rattle.std.specs.Prelude.{codes}
use Rattle.std.specs.contracts.alloc.Global as Global
use Rattle.std.below.core.specs.contracts.marker.ClosureMark as Mark
use Rattle.std.proofs.Crossing.{crosses, Arc-send, Vec-send}
use Rattle.fs_ports.specs.declared.port.Port as port
use Rattle.fs_book.proofs.pass.Pass.TheSendSync as passes
use Rattle.fs_book.proofs.book.Book.TheSendSync as books
use Rattle.fs_book.specs.contracts.pass.Pass as Pass
use Rattle.fs_book.specs.contracts.book.Book as Book
use Rattle.fs_doc.specs.contracts.config.Config as Config
use Rattle.fs_machine.specs.contracts.answer.Answer as Answer
use Rattle.fs_machine.specs.contracts.entry.Entry as Entry
use Rattle.fs_machine.specs.contracts.machine.Machine as Machine
use Rattle.fs_machine.specs.contracts.offer.Offer as Offer
use Rattle.fs_machine.specs.contracts.refusal.RouteRefusal as Refusal
use Rattle.fs_machine.specs.contracts.turned.MachineTurned.TheImpl.{ghosts}
use Rattle.fs_text.proofs.text.Txt.TheSendSync as text
use Rattle.fs_text.specs.contracts.text.Txt as Txt
use Rattle.fs_top.specs.contracts.desk.Desk as Desk
use Rattle.fs_top.specs.contracts.lanes.Lane as Lane
use Rattle.fs_top.specs.contracts.lanes.Staff as Staff
use Rattle.fs_top.specs.contracts.slots.SlotLane as SlotLane
use Rattle.fs_top.specs.contracts.conns.Conn as Conn
use Rattle.fs_top.specs.contracts.came.Came as Came
use Rattle.fs_top.proofs.came.Came.TheSendSync as came
use Rattle.fs_top.specs.contracts.muster.Muster as Muster
use Rattle.fs_top.proofs.muster.Muster.TheSendSync as muster
use Rattle.fs_top.proofs.CrossingLemmas.{machine_send}

pub pass_send : IsSend (Pass.the_row Machine.the_row Config.the_row Offer.the_row Entry.the_row Answer.the_row Refusal.the_row ghosts)
pass_send = search (machine_send, passes.the_send, crosses, sendable) depth 20

pub book_sync : IsSync (Book.the_row Machine.the_row Config.the_row Offer.the_row Entry.the_row Answer.the_row Refusal.the_row ghosts)
book_sync = search (machine_send, books.the_sync, crosses, sendable) depth 20

pub muster_sync : IsSync Muster.the_row
muster_sync = muster.the_sync

pub global_sync : IsSync Global.the_row
global_sync = search (crosses, sendable) depth 20

pub number_sync : IsSync u32
number_sync = search sendable depth 20

pub text_sync : IsSync Txt.the_row
text_sync = text.the_sync

pub desk_send : IsSend Desk.the_row
desk_send = declared_send Desk.the_type (search (crosses, sendable) depth 20, (pass_send, tt))

pub conn_send : (T : RattleType) → IsSend T → IsSend (Conn.the_row T)
conn_send T s = declared_send (Conn.the_type T) (search sendable depth 20, (as_row_send (row_field T) s, (search sendable depth 20, tt)))

pub staff_send : (T : RattleType) (g : port.Ghosts T.Denot) → IsSend T → IsSend (Staff.the_row T g)
staff_send T g s = declared_send (Staff.the_type T g) (
  search (crosses, sendable) depth 20,
  (
    search sendable depth 20,
    (
      Arc-send (Came.the_row T g) (came.the_send T g s) (came.the_sync T g s),
      (pass_send, (Vec-send (Conn.the_row T) (conn_send T s), tt)),
    ),
  ),
)

pub slot_send : (T O : RattleType) → IsSend T → IsSend O → IsSend (SlotLane.the_row T O)
slot_send T O s o = declared_send (SlotLane.the_type T O) (
  search (crosses, sendable) depth 20,
  (
    search sendable depth 20,
    (pass_send, (as_row_send (row_field O) o, (Vec-send (Conn.the_row T) (conn_send T s), tt))),
  ),
)

pub lane_send : (T O : RattleType) (g : port.Ghosts T.Denot) → IsSend T → IsSend O → IsSend (Lane.the_row T O g)
lane_send T O g s o = variants_send (Lane.enum T O g) ((slot_send T O s o, tt), ((staff_send T g s, tt), tt))

-- what a closure captures: a `&` to each of five
pub captures_sync : (ν : Sym) (A B C D E : RattleType) (ℓ ℓ' ℓ'' ℓ''' κ : NamedLft) → IsSync A → IsSync B → IsSync C → IsSync D → IsSync E →
    IsSync (TupleAt ν (ShrRef ℓ.mir ℓ.lft A ∷ ShrRef ℓ'.mir ℓ'.lft B ∷ ShrRef ℓ''.mir ℓ''.lft C ∷ ShrRef ℓ'''.mir ℓ'''.lft D
    ∷ ShrRef κ.mir κ.lft E ∷ []))
captures_sync ν A B C D E ℓ ℓ' ℓ'' ℓ''' κ a b c d e =
    declared_sync
    (type_at ν (ShrRef ℓ.mir ℓ.lft A ∷ ShrRef ℓ'.mir ℓ'.lft B ∷ ShrRef ℓ''.mir ℓ''.lft C ∷ ShrRef ℓ'''.mir ℓ'''.lft D
    ∷ ShrRef κ.mir κ.lft E ∷ [])) (
      as_row_sync (row_field (ShrRef ℓ.mir ℓ.lft A)) (shr_sync ℓ.mir ℓ.lft A a),
      (
        as_row_sync (row_field (ShrRef ℓ'.mir ℓ'.lft B)) (shr_sync ℓ'.mir ℓ'.lft B b),
        (
          as_row_sync (row_field (ShrRef ℓ''.mir ℓ''.lft C)) (shr_sync ℓ''.mir ℓ''.lft C c),
          (
            as_row_sync (row_field (ShrRef ℓ'''.mir ℓ'''.lft D)) (shr_sync ℓ'''.mir ℓ'''.lft D d),
            (as_row_sync (row_field (ShrRef κ.mir κ.lft E)) (shr_sync κ.mir κ.lft E e), tt),
          ),
        ),
      ),
    )

-- what a closure captures: a `&` to each of five, and a `&mut` slice
pub slice_captures_send : (ν : Sym) (A B C D E F : RattleType) (ℓ ℓ' ℓ'' ℓ''' κ κ' : NamedLft) → IsSync A → IsSync B → IsSync C → IsSync D →
    IsSync E → IsSend F →
    IsSend (TupleAt ν (ShrRef ℓ.mir ℓ.lft A ∷ ShrRef ℓ'.mir ℓ'.lft B ∷ ShrRef ℓ''.mir ℓ''.lft C
    ∷ ShrRef ℓ'''.mir ℓ'''.lft D ∷ ShrRef κ.mir κ.lft E ∷ MutSlice κ'.mir κ'.lft F ∷ []))
slice_captures_send ν A B C D E F ℓ ℓ' ℓ'' ℓ''' κ κ' a b c d e f =
    declared_send
    (type_at ν (ShrRef ℓ.mir ℓ.lft A ∷ ShrRef ℓ'.mir ℓ'.lft B ∷ ShrRef ℓ''.mir ℓ''.lft C
    ∷ ShrRef ℓ'''.mir ℓ'''.lft D ∷ ShrRef κ.mir κ.lft E ∷ MutSlice κ'.mir κ'.lft F ∷ [])) (
      as_row_send (row_field (ShrRef ℓ.mir ℓ.lft A)) (shr_send ℓ.mir ℓ.lft A a),
      (
        as_row_send (row_field (ShrRef ℓ'.mir ℓ'.lft B)) (shr_send ℓ'.mir ℓ'.lft B b),
        (
          as_row_send (row_field (ShrRef ℓ''.mir ℓ''.lft C)) (shr_send ℓ''.mir ℓ''.lft C c),
          (
            as_row_send (row_field (ShrRef ℓ'''.mir ℓ'''.lft D)) (shr_send ℓ'''.mir ℓ'''.lft D d),
            (
              as_row_send (row_field (ShrRef κ.mir κ.lft E)) (shr_send κ.mir κ.lft E e),
              (as_row_send (row_field (MutSlice κ'.mir κ'.lft F)) (mut_slice_send κ'.mir κ'.lft F f), tt),
            ),
          ),
        ),
      ),
    )

-- what a closure has of a type that it names and captures nothing of
abbrev pub named : RattleType → RattleType
named T = Mark.the_row (TupleAt (codes "(_,)") (T ∷ []))

named_send : (T : RattleType) → IsSend (named T)
named_send T = declared_send (Mark.the_type (TupleAt (codes "(_,)") (T ∷ []))) tt

-- what a closure captures: a `&` to each of four, a `&mut`, a `&` and a `&mut`; and it names a type more
pub desk_captures_send : (ν : Sym) (A B C D E F G H : RattleType) (ℓ ℓ' ℓ'' ℓ''' κ κ' κ'' : NamedLft) → IsSync A → IsSync B → IsSync C →
    IsSync D → IsSend E → IsSync F → IsSend G →
    IsSend (TupleAt ν (ShrRef ℓ.mir ℓ.lft A ∷ ShrRef ℓ'.mir ℓ'.lft B ∷ ShrRef ℓ''.mir ℓ''.lft C ∷ ShrRef ℓ'''.mir ℓ'''.lft D
    ∷ MutRef κ.mir κ.lft E ∷ ShrRef κ'.mir κ'.lft F ∷ MutRef κ''.mir κ''.lft G ∷ named H ∷ []))
desk_captures_send ν A B C D E F G H ℓ ℓ' ℓ'' ℓ''' κ κ' κ'' a b c d e f g =
    declared_send
    (type_at ν (ShrRef ℓ.mir ℓ.lft A ∷ ShrRef ℓ'.mir ℓ'.lft B ∷ ShrRef ℓ''.mir ℓ''.lft C ∷ ShrRef ℓ'''.mir ℓ'''.lft D
    ∷ MutRef κ.mir κ.lft E ∷ ShrRef κ'.mir κ'.lft F ∷ MutRef κ''.mir κ''.lft G ∷ named H ∷ [])) (
      as_row_send (row_field (ShrRef ℓ.mir ℓ.lft A)) (shr_send ℓ.mir ℓ.lft A a),
      (
        as_row_send (row_field (ShrRef ℓ'.mir ℓ'.lft B)) (shr_send ℓ'.mir ℓ'.lft B b),
        (
          as_row_send (row_field (ShrRef ℓ''.mir ℓ''.lft C)) (shr_send ℓ''.mir ℓ''.lft C c),
          (
            as_row_send (row_field (ShrRef ℓ'''.mir ℓ'''.lft D)) (shr_send ℓ'''.mir ℓ'''.lft D d),
            (
              as_row_send (row_field (MutRef κ.mir κ.lft E)) (mut_send κ.mir κ.lft E e),
              (
                as_row_send (row_field (ShrRef κ'.mir κ'.lft F)) (shr_send κ'.mir κ'.lft F f),
                (
                  as_row_send (row_field (MutRef κ''.mir κ''.lft G)) (mut_send κ''.mir κ''.lft G g),
                  (as_row_send (row_field (named H)) (named_send H), tt),
                ),
              ),
            ),
          ),
        ),
      ),
    )

-- what a closure captures: a `&` to each of three, a `&mut`, and a `&`, a `&mut` and a `&` more
pub talk_captures_send : (ν : Sym) (A B C D E F G : RattleType) (ℓ ℓ' ℓ'' ℓ''' κ κ' κ'' : NamedLft) → IsSync A → IsSync B → IsSync C →
    IsSend D → IsSync E → IsSend F → IsSync G →
    IsSend (TupleAt ν (ShrRef ℓ.mir ℓ.lft A ∷ ShrRef ℓ'.mir ℓ'.lft B ∷ ShrRef ℓ''.mir ℓ''.lft C ∷ MutRef ℓ'''.mir ℓ'''.lft D
    ∷ ShrRef κ.mir κ.lft E ∷ MutRef κ'.mir κ'.lft F ∷ ShrRef κ''.mir κ''.lft G ∷ []))
talk_captures_send ν A B C D E F G ℓ ℓ' ℓ'' ℓ''' κ κ' κ'' a b c d e f g =
    declared_send
    (type_at ν (ShrRef ℓ.mir ℓ.lft A ∷ ShrRef ℓ'.mir ℓ'.lft B ∷ ShrRef ℓ''.mir ℓ''.lft C ∷ MutRef ℓ'''.mir ℓ'''.lft D
    ∷ ShrRef κ.mir κ.lft E ∷ MutRef κ'.mir κ'.lft F ∷ ShrRef κ''.mir κ''.lft G ∷ [])) (
      as_row_send (row_field (ShrRef ℓ.mir ℓ.lft A)) (shr_send ℓ.mir ℓ.lft A a),
      (
        as_row_send (row_field (ShrRef ℓ'.mir ℓ'.lft B)) (shr_send ℓ'.mir ℓ'.lft B b),
        (
          as_row_send (row_field (ShrRef ℓ''.mir ℓ''.lft C)) (shr_send ℓ''.mir ℓ''.lft C c),
          (
            as_row_send (row_field (MutRef ℓ'''.mir ℓ'''.lft D)) (mut_send ℓ'''.mir ℓ'''.lft D d),
            (
              as_row_send (row_field (ShrRef κ.mir κ.lft E)) (shr_send κ.mir κ.lft E e),
              (
                as_row_send (row_field (MutRef κ'.mir κ'.lft F)) (mut_send κ'.mir κ'.lft F f),
                (as_row_send (row_field (ShrRef κ''.mir κ''.lft G)) (shr_send κ''.mir κ''.lft G g), tt),
              ),
            ),
          ),
        ),
      ),
    )
