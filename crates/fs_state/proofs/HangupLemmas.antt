-- Channels hung up one after another.
use Rattle.std.proofs.Common.{◌≡◌, ℕ, ◌+◌, ◌<◌, ◌≤◌, false, cond, List, [], ◌∷◌, length, drop, get_or, ap, sym, ◌∙◌}
use Rattle.std.proofs.lemmas.List.{at_drop_more, at_drop_all}
use Rattle.fs_text.specs.declared.causes.Cause.{Cause}
use Rattle.fs_bridge.specs.Closure.{Member, Members, members_of, ends_of, closure_of}
use Rattle.fs_bridge.proofs.RoundLemmas.{none_more}
use Rattle.fs_state.specs.Switch.{Switch}
use Rattle.fs_state.specs.Hangups.{Ended, lives_at, world_of, living_of, untold_by, after_member, after_members, after_closure}
use Rattle.fs_state.specs.Hangups.{after_hangups, after_hangup}

-- the next one
pub members_next : (untold : List Ended) (members : Members) (i : ℕ) (d : Member) (s : Switch) → i < length members →
    after_members untold (drop i members) s
    ≡ after_members (untold_by (get_or members i d).0 untold) (drop (i + 1) members) (after_member untold (get_or members i d) s)
members_next untold members i d s within = at_drop_more (λ left. after_members untold left s) members i d within

-- all are
pub members_done : (untold : List Ended) (members : Members) (i : ℕ) (s : Switch) → length members ≤ i →
    after_members untold (drop i members) s ≡ s
members_done untold members i s past = at_drop_all (λ left. after_members untold left s) members i past

pub ruleset member_rules = (members_next, members_done)

-- nobody is hung up where the channel that is named is not live
pub nobody_hung : (cause : Cause) (slot : ℕ) (s : Switch) → lives_at s slot ≡ false → s ≡ after_hangup cause slot s
unfolding after_hangups members_of
nobody_hung cause slot s dead =
    let named : living_of s ((slot, cause) ∷ []) ≡ [] = ap (λ live. cond live ((slot, cause) ∷ []) []) dead in
    let members : members_of (world_of s) [] ≡ [] = none_more (world_of s) (world_of s).slots [] in
    sym (ap (λ some. after_closure (closure_of (world_of s) some) s) named ∙ ap (λ all. after_closure (ends_of (world_of s) all) s) members)
