use Rattle.std.proofs.Common.{◌≡◌, ℕ, ◌/◌, ℤ, pos, w64, FitsSigned, List, Option, None, rules, sym, subst, ap, ◌∙◌}
use Rattle.std.proofs.lemmas.Int.{to_z-of_z}
use Rattle.fs_text.specs.Texts.{Text}
use Rattle.fs_vars.specs.Variables.{Variables}
use Rattle.fs_vars.specs.declared.profile.Profile.{Profile}
use Rattle.fs_doc.specs.Dialplans.{Context}
use Rattle.fs_plan.specs.declared.hunt.Hunt.{Hunt}
use Rattle.fs_plan.specs.Hunting.{hunted}
use Rattle.fs_state.specs.Drafts.{drafted}
use Rattle.fs_machine.specs.Work.{found_in, wall_of}
use Rattle.fs_machine.proofs.work.hunt_for.Goals as goal

pub returns-in-Err-TooLong : goal.returns-in-Err-TooLong
returns-in-Err-TooLong c =
    let chan = c.args.chan.now in
    let s = drafted c.args.draft.now in
    let lent = c.deref-vars.result.now in
    let known_as = c.deref-profile.result.now in
    let wall = c.wall_of-wall.result in
    let found : List Context → Text → Profile → Variables → Variables → ℤ → Option Hunt =
    λ contexts context profile vars known minute. found_in (hunted contexts context profile vars known minute) in
    let fits : FitsSigned w64 wall = search rules in
    let of_passed : ℤ → Type 0 = λ minute. None ≡ found c.args.dialplan.now c.as_bytes-context.result.now known_as lent c.globals.result.now minute in
    let of_globals : Variables → Type 0 = λ known. None ≡ found c.args.dialplan.now c.as_bytes-context.result.now known_as lent known wall in
    let of_context : Text → Type 0 = λ context. None ≡ found c.args.dialplan.now context known_as lent s.globals wall in
    let of_profile : Profile → Type 0 = λ profile. None ≡ found c.args.dialplan.now profile.context profile lent s.globals wall in
    let of_vars : Variables → Type 0 = λ vars. None ≡ found c.args.dialplan.now chan.profile.context chan.profile vars s.globals wall in
    let of_dialplan : List Context → Type 0 = λ contexts. None ≡ found contexts chan.profile.context chan.profile chan.vars s.globals wall in
    let of_wall : ℤ → Type 0 = λ minute. None ≡ found s.contexts chan.profile.context chan.profile chan.vars s.globals minute in
    let told = ap found_in (c.in-Err-TooLong.ensures.too_long c.in-Err-TooLong.field-0-0 c.in-Err-TooLong.field-0-is) in
    let passed = subst of_passed (to_z-of_z w64 wall fits) (sym told) in
    let by_context = subst of_context c.as_bytes-context.ensures (subst of_globals c.globals.ensures passed) in
    let by_profile = subst of_profile c.deref-profile.ensures by_context in
    let by_dialplan = subst of_dialplan c.requires.dialplan (subst of_vars c.deref-vars.ensures by_profile) in
    let minute : wall ≡ wall_of s = c.wall_of-wall.ensures ∙ ap (λ (moment : ℕ). pos (moment / 60000000)) c.moment.ensures in
    subst of_wall minute by_dialplan
