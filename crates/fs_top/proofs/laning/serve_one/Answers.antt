use Rattle.std.proofs.Common.{◌≡◌, List, ℕ, ◌∷◌, None, refl, ◌∙◌, subst}
use Rattle.fs_book.specs.Opened.{Owned}
use Rattle.fs_book.specs.Passes.{seen, mine, met}
use Rattle.fs_machine.specs.declared.entry.Act.TheVariants.{Arrive}
use Rattle.fs_machine.specs.Turned.{opens, names}
use Rattle.fs_conn.specs.Owning.{entry_at}
use Rattle.fs_top.proofs.LaneLemmas.{keeps_served, keeps_looked}
use Rattle.fs_top.proofs.laning.serve_one.Goals as goal

pub returns-in_err-number-clause-keeps : goal.returns-in_err-number-clause-keeps
returns-in_err-number-clause-keeps g c =
    let old = c.args.pass.now in
    let new = c.welcome.new.pass in
    let away = c.in_err-number.ensures.turned_away in
    keeps_looked _ _ _ _ new.seat.me.0.start (seen old) (seen new) (mine old) (mine new) (met old) (met new) _ c.welcome.ensures.book.1
    away.front away.same c.in_err-number.ensures.kept.0 old.sound.places new.sound.owned away.refuses.before c.requires.keeps

pub serve_conn-end-requires-clause-owns : goal.serve_conn-end-requires-clause-owns
serve_conn-end-requires-clause-owns g c = λ _ _. c.in_ok-number.ensures.welcomed.owns

pub returns-clause-keeps : goal.returns-clause-keeps
returns-clause-keeps g c =
    let old = c.args.pass.now in
    let new = c.serve_conn-end.new.pass in
    let welcomed = c.in_ok-number.ensures.welcomed in
    let talks = c.serve_conn-end.ensures.talks in
    let met_is : met new ≡ met old = c.serve_conn-end.ensures.kept.0 ∙ c.in_ok-number.ensures.kept.0 in
    rw c.keep.ensures
    (rw met_is
    (keeps_served (g.C.Clock.tells c.args.clock.now) ⊥ None _ new.seat.me.0.start c.serve_conn-end.ensures.book.1 (seen old) _ (seen new)
    (mine old) _ (mine new) (met old) old.sound.places c.in_ok-number.number welcomed.before (entry_at welcomed.moment Arrive) welcomed.front
    welcomed.sees welcomed.more welcomed.opened refl
    ((welcomed.told, λ halted. absurd (cc halted), tt), λ slot linked dialed. absurd (cc dialed), λ job note loaded. absurd (cc loaded)) talks.later
    talks.gains
    (subst (λ (ms : List (List ℕ)). Owned opens names new.seat.me.0.start (mine new ∷ ms) (seen new)) met_is new.sound.owned)
    g.L.Port.input g.L.Port.output _ _ _ _ _ _ refl refl refl c.requires.keeps c.requires.new talks.told.run c.serve_conn-end.ensures.owns
    talks.told))
