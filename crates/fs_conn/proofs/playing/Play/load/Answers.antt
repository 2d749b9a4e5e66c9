use Rattle.std.proofs.Common.{[], Some, Ok, refl, sym, ◌∙◌}
use Rattle.std.proofs.lemmas.Result.{err_from_is_err_and}
use Rattle.fs_machine.specs.declared.entry.Act.TheVariants.{Loaded}
use Rattle.fs_conn.specs.Play.{switch_of}
use Rattle.fs_conn.specs.Playing.{seen, so_far}
use Rattle.fs_conn.proofs.StepLemmas.{play_at, accepts, works_enters}
use Rattle.fs_conn.proofs.NoteLemmas.{adds_loaded, adds_begun, adds_unnoted}
use Rattle.fs_conn.proofs.LoadLemmas.{full_told, room_told, full_stops, never_refused, loaded_does, unloaded_does}
use Rattle.fs_conn.proofs.playing.Play.load.Goals as goal

pub returns-in-JournalFull-clause-does : goal.returns-in-JournalFull-clause-does
returns-in-JournalFull-clause-does g c = λ notes are.
    let old = seen c.args.self.now in
    let full = c.in-JournalFull in
    let told = full_told (switch_of (so_far old)) c.full_for_load.result c.in-Some.refusal c.full_for_load.ensures c.in-Some.is in
    full_stops notes old c.args.job full.cost full.limit told.0 (sym full.is ∙ told.1)

pub unreachable-requires : goal.unreachable-requires
unreachable-requires g c =
    let told =
    full_told (switch_of (so_far (seen c.args.self.now))) c.full_for_load.result c.in-Some.refusal c.full_for_load.ensures c.in-Some.is in
    c.in_default.not-JournalFull _ _ told.1

pub returns-in_err-load-clause-loads : goal.returns-in_err-load-clause-loads
returns-in_err-load-clause-loads g c =
    let p = err_from_is_err_and c.from_residual.result c.from_residual.ensures.1 in
    rw (p.1, p.2) (adds_begun (seen c.args.self.now) _ refl c.in_err-load.ensures.loads)

pub returns-in-Ok-clause-does : goal.returns-in-Ok-clause-does
returns-in-Ok-clause-does g c = λ notes are.
    let did = c.in-Ok.ensures in
    let old = c.args.self.now.machine.now in
    loaded_does notes old c.apply_load.new.self c.args.self.now.clock c.args.job c.in_ok-load.load.note c.in-Ok.field-0
    (accepts notes old c.apply_load.new.self c.args.self.now.clock (Loaded c.args.job c.in_ok-load.load.note) c.in-Ok.field-0 did.config
    did.journal did.defined did.reply did.cost did.free) are

pub returns-in-Ok-clause-works : goal.returns-in-Ok-clause-works
returns-in-Ok-clause-works g c =
    let did = c.in-Ok.ensures in
    let old = c.args.self.now.machine.now in
    let act = Loaded c.args.job c.in_ok-load.load.note in
    let clock = c.args.self.now.clock in
    works_enters act (play_at [] old clock) (play_at [] c.apply_load.new.self clock) (Ok (Some c.in-Ok.field-0)) refl
    (accepts [] old c.apply_load.new.self clock act c.in-Ok.field-0 did.config did.journal did.defined did.reply did.cost did.free)

pub returns-in-Ok-clause-loads : goal.returns-in-Ok-clause-loads
returns-in-Ok-clause-loads g c =
    adds_loaded _ _ c.args.self.now.clock c.args.job c.in_ok-load.load c.in-Ok.ensures.journal c.in_ok-load.ensures.loads

pub returns-in-Memory-clause-does : goal.returns-in-Memory-clause-does
returns-in-Memory-clause-does g c = λ notes are.
    unloaded_does notes c.args.self.now.machine.now c.apply_load.new.self c.args.self.now.clock c.args.job c.in-Err.ensures.refused

pub returns-in-Memory-clause-loads : goal.returns-in-Memory-clause-loads
returns-in-Memory-clause-loads g c =
    adds_unnoted _ _ c.in_ok-load.load c.in-Err.ensures.refused.journal c.in_ok-load.ensures.loads

pub unreachable-requires-in_default-refusal : goal.unreachable-requires-in_default-refusal
unreachable-requires-in_default-refusal g c =
    let old = seen c.args.self.now in
    never_refused old c.args.job c.in_ok-load.load.note c.in-Err.refusal c.requires.turn
    (room_told (switch_of (so_far old)) c.full_for_load.result c.full_for_load.ensures c.in-None.is) c.in-Err.ensures.cause
    c.in_default-refusal.not-Memory
