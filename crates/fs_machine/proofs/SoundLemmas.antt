-- In every run live channels have partners, which agree, the texts of channels keep their limits, identifiers differ, legs are channels,
-- an origination that fails is told why, bridges and channels agree, so do channels and the connections that hold them, and whoever dials
-- waits for what it owns.
use Rattle.std.proofs.Common.{◌≡◌, ℕ, ◌+◌, ◌-◌, ◌*◌, ◌<◌, ◌≤◌, ◌^◌, true, IsSome, List, [], ◌∷◌, length, Option, None, Some}
use Rattle.std.proofs.Common.{is_some, option_and_then, option_map, refl, sym, ap, subst, ◌∙◌, arith, ◌⊎◌, inl, inr}
use Rattle.std.proofs.lemmas.Bool.{false≢true, ltb-false}
use Rattle.fs_text.proofs.NamingLemmas.{naming_none}
use Rattle.fs_doc.specs.Limits.{AreInRange, IsWithin}
use Rattle.fs_doc.specs.Reading.{Configuration}
use Rattle.fs_chan.specs.declared.chan.Chan.{Chan}
use Rattle.fs_chan.specs.Changes.{is_live}
use Rattle.fs_orig.specs.declared.orig.Orig.{Orig}
use Rattle.fs_orig.specs.Meaning.{IsWithCauses}
use Rattle.fs_orig.proofs.VerdictLemmas.{failed_is}
use Rattle.fs_seats.specs.declared.numbered.Numbered.{Numbered}
use Rattle.fs_seats.proofs.HeldLemmas.{nothing_held}
use Rattle.fs_seats.proofs.TableLemmas.{taken_in, taken_most}
use Rattle.fs_doc.specs.declared.settings.Settings.{Settings}
use Rattle.fs_state.specs.declared.job.Job.{Job}
use Rattle.fs_state.specs.Posting.{with_posts}
use Rattle.fs_state.specs.Switch.{Switch, empty, chan_at, orig_of, at_moment, after_entry}
use Rattle.fs_state.specs.Moves.{partner_of}
use Rattle.fs_state.proofs.SlotLemmas.{no_seats_length}
use Rattle.fs_machine.specs.declared.entry.Entry.{Entry}
use Rattle.fs_machine.specs.declared.entry.Act.{Act}
use Rattle.fs_machine.specs.Entries.{cost_of}
use Rattle.fs_machine.specs.Step.{refusal_of, act_done, step}
use Rattle.fs_machine.specs.Runs.{run_from, IsRunFrom}
use Rattle.fs_machine.specs.Sound.{HasPartner, PartnersAgree, HasLivePartner, LiveHasPartner, ProfilesAreShort, IdentifiersDiffer}
use Rattle.fs_machine.specs.Sound.{LegsAreChannels, LegsAreUndecided, FailuresAreTold, IsOwnedBy, RowsAgree, BridgedWait, OwnersWait}
use Rattle.fs_machine.specs.Sound.{HoldersAgree}
use Rattle.fs_machine.proofs.Kept.{IsApt}
use Rattle.fs_machine.proofs.TieLemmas.{lives_as, named_in, Ties}
use Rattle.fs_machine.proofs.FrameLemmas.{some_cost}
use Rattle.fs_machine.proofs.OrderLemmas.{acted_cost, acted_settings, not_full, Orderly, room_left, entry_orderly, empty_orderly}
use Rattle.fs_machine.proofs.WaitingLemmas.{number_new}
use Rattle.fs_machine.proofs.FramesLaws.{settings_step}
use Rattle.fs_machine.proofs.ActWalk.{acted_kept}
use Rattle.fs_chan.specs.Bridging.{awaited_by}
use Rattle.fs_machine.proofs.AwaitedTables.{HasOwner}
use Rattle.fs_machine.proofs.AwaitedLemmas.{Awaits}
use Rattle.fs_machine.proofs.BondTables.{NoSlot}
use Rattle.fs_machine.proofs.BondLaws.{rows_agree}
use Rattle.fs_machine.proofs.HoldMoves.{hold_bridged}
use Rattle.fs_machine.proofs.BerthTables.{leg_in}
use Rattle.fs_machine.proofs.BerthLemmas.{berth_now}
use Rattle.fs_machine.proofs.OwnerMoves.{Owners, owners_of}
use Rattle.fs_machine.proofs.StandingLemmas.{nothing_paired, step_pairs, Standing, standing_empty, standing_step, standing_run}
use Rattle.fs_machine.proofs.PartnerMoves.{ArePaired}
use Rattle.fs_machine.proofs.SeenLemmas.{seen, uuid_of, uuid_in, Named, Numbers, numbers_stay}
use Rattle.fs_machine.proofs.IdentifierMoves.{NumbersFrom, numbers_moves}
use Rattle.fs_machine.proofs.LegLemmas.{roles_of, LegsStand}
use Rattle.fs_machine.proofs.LegHangups.{legs_are_channels}
use Rattle.fs_machine.proofs.CauseMoves.{ToldIn, AllTold, Told, told_there, with_causes, told_moves}
use Rattle.fs_machine.proofs.WinnerMoves.{ShortIn, WinnersAreShort, Winners, winners_moves}
use Rattle.fs_machine.proofs.ChannelMoves.{FitsIn, AllFit, Fit, fit_there, fit_moves}
use Rattle.fs_machine.proofs.ControlMoves.{Holds, IsNew, Held, held_moves, nobody_holds, holders_agree}

-- ---- partners

run_agrees : (s : Switch) (entries : List Entry) → ArePaired s → ArePaired (run_from s entries)
run_agrees s [] h = h
run_agrees s (entry ∷ entries) h = run_agrees (step s entry).state entries (step_pairs s entry h)

-- as the definition has it
named_back : (s : Switch) → Ties partner_of s.channels → PartnersAgree s
named_back s h = record { back = λ slot other has. by_chan slot other has }
  where
    there_as : (slot other : ℕ) (found : Option Chan) → chan_at s other ≡ found → option_and_then partner_of found ≡ Some slot →
        lives_as found ≡ true → HasPartner s other slot
    there_as slot other None is named live = absurd (cc)
    there_as slot other (Some d) is named live = record { chan = d; there = is; live = live; partner = named }

    by_chan : (slot other : ℕ) → HasPartner s slot other → HasPartner s other slot
    by_chan slot other has =
        let named : named_in partner_of s.channels slot ≡ Some other = ap (option_and_then partner_of) has.there ∙ has.partner in
        let back : named_in partner_of s.channels other ≡ Some slot = h.back slot other named in
        there_as slot other (chan_at s other) refl back (h.live other slot back)

pub partners_agree : (config : Configuration) (entries : List Entry) → PartnersAgree (run_from (empty config) entries)
partners_agree config entries =
    named_back (run_from (empty config) entries) (run_agrees (empty config) entries (nothing_paired config)).ties

-- ---- what originations and jobs tell, and channels

record Stands (s : Switch) : Type 0 where
  told : AllTold s.origs
  winners : WinnersAreShort s.jobs
  fit : AllFit s.channels

nothing_stands : (config : Configuration) → Stands (empty config)
nothing_stands config = record {
  told = λ seat. subst ToldIn (sym (nothing_held (Numbered Orig) 1280 seat)) tt;
  winners = λ seat. subst ShortIn (sym (nothing_held (Numbered Job) 1024 seat)) tt;
  fit = λ slot. subst FitsIn (sym (nothing_held Chan (config.settings.max_sessions + 1) slot)) tt;
}

step_stands : (s : Switch) (entry : Entry) → LegsStand (roles_of s) → Stands s → Stands (step s entry).state
unfolding step
step_stands s entry legs h =
    let now : Switch = at_moment entry.moment s in
    record {
      told = acted_kept now Told (told_moves now) entry.act (λ loads config t k. k) h.told;
      winners = acted_kept now Winners (winners_moves now) entry.act (λ loads config t k. k) h.winners;
      fit = acted_kept now Fit (fit_moves now legs h.winners) entry.act (λ loads config t k. k) h.fit;
    }

run_stands : (s : Switch) (entries : List Entry) → IsRunFrom s entries → Standing s → Stands s → Stands (run_from s entries)
run_stands s [] run standing h = h
run_stands s (entry ∷ entries) run standing h =
    run_stands (step s entry).state entries run.1 (standing_step s entry run.0 standing) (step_stands s entry standing.legs h)

all_stand : (config : Configuration) (entries : List Entry) → IsWithin config → IsRunFrom (empty config) entries →
    Stands (run_from (empty config) entries)
all_stand config entries within run = run_stands (empty config) entries run (standing_empty config within) (nothing_stands config)

-- as the definitions have it
live_partner : (s : Switch) → PartnersAgree s → AllFit s.channels → LiveHasPartner s
live_partner s agree fit =
    record { each = λ slot c there live. by slot c there live c.partner refl ((fit_there s slot c there fit).partner live) }
  where
    by : (slot : ℕ) (c : Chan) → chan_at s slot ≡ Some c → is_live c ≡ true → (partner : Option ℕ) → c.partner ≡ partner → IsSome partner →
        HasLivePartner s slot c
    by slot c there live None is some = absurd (false≢true some)
    by slot c there live (Some other) is some =
        record { other = other; partner = is; back = agree.back slot other (record { chan = c; there = there; live = live; partner = is }) }

pub run_has_legs : (config : Configuration) (entries : List Entry) → IsWithin config → IsRunFrom (empty config) entries →
    LegsAreChannels (run_from (empty config) entries)
run_has_legs config entries within run =
    let s : Switch = run_from (empty config) entries in
    let h : Standing s = standing_run config entries within run in
    legs_are_channels s h.legs
    (λ slot number c there names. leg_in s number slot h.legs.distinct (berth_now s h.berths slot number c there names))

pub run_legs_undecided : (config : Configuration) (entries : List Entry) → IsWithin config → IsRunFrom (empty config) entries →
    LegsAreUndecided (run_from (empty config) entries)
run_legs_undecided config entries within run = record {
  each = λ slot number c there names.
      let apt : IsApt c = (standing_run config entries within run).bonds.apt slot c there in
      let some : is_some c.leg_of ≡ true = ap is_some names in
      record { outbound = apt.outbound some; idle = apt.idle some; dials = apt.free some };
}

pub failures_are_told : (config : Configuration) (entries : List Entry) → IsWithin config → IsRunFrom (empty config) entries →
    FailuresAreTold (run_from (empty config) entries)
failures_are_told config entries within run = record {
  causes = has_causes;
  last = λ number now o cause there fails. failed_is now cause o fails (has_causes number o there);
}
  where
    has_causes : (number : ℕ) (o : Orig) → orig_of (run_from (empty config) entries) number ≡ Some o → IsWithCauses o.legs
    has_causes number o there =
        with_causes o (told_there (run_from (empty config) entries).origs number o there (all_stand config entries within run).told)

pub live_has_partner : (config : Configuration) (entries : List Entry) → IsWithin config → IsRunFrom (empty config) entries →
    LiveHasPartner (run_from (empty config) entries)
live_has_partner config entries within run =
    live_partner (run_from (empty config) entries) (partners_agree config entries) (all_stand config entries within run).fit

pub profiles_are_short : (config : Configuration) (entries : List Entry) → IsWithin config → IsRunFrom (empty config) entries →
    ProfilesAreShort (run_from (empty config) entries)
profiles_are_short config entries within run =
    record {
      each =
          λ slot c there. (fit_there (run_from (empty config) entries) slot c there (all_stand config entries within run).fit).short;
    }

-- ---- bridges, and what channels dial

pub run_rows_agree : (config : Configuration) (entries : List Entry) → IsWithin config → IsRunFrom (empty config) entries →
    RowsAgree (run_from (empty config) entries)
run_rows_agree config entries within run =
    rows_agree (run_from (empty config) entries) (standing_run config entries within run).bonds

pub run_waits_bridged : (config : Configuration) (entries : List Entry) → IsWithin config → IsRunFrom (empty config) entries →
    BridgedWait (run_from (empty config) entries)
run_waits_bridged config entries within run =
    let h : Standing (run_from (empty config) entries) = standing_run config entries within run in
    record {
      wait = λ slot c peer there names. hold_bridged c.wait ((h.bonds.apt slot c there).held (ap is_some names));
      alone = λ slot c peer there names. (h.bonds.apt slot c there).alone (ap is_some names);
      back = h.held;
    }

-- a channel is in no slot that is open, as none is
awaited_owned : (s : Switch) → Awaits s → (slot number : ℕ) (c : Chan) → chan_at s slot ≡ Some c → awaited_by c ≡ Some number →
    IsOwnedBy s slot number
awaited_owned s h slot number c there waits = by (h.own slot number c there waits)
  where
    by : NoSlot slot ⊎ HasOwner s.origs number slot → IsOwnedBy s slot number
    by (inl never) = absurd never
    by (inr has) = record { orig = has.orig; there = has.there; owned = has.owned }

pub owners_wait : (config : Configuration) (entries : List Entry) → IsWithin config → IsRunFrom (empty config) entries →
    OwnersWait (run_from (empty config) entries)
owners_wait config entries within run =
    let h : Standing (run_from (empty config) entries) = standing_run config entries within run in
    let owners : Owners (run_from (empty config) entries) = owners_of (run_from (empty config) entries) h.owned in
    record { wait = owners.wait; own = awaited_owned (run_from (empty config) entries) h.waits }

-- ---- channels and the connections that hold them

-- where an entry is not refused a connection that comes has a number of its own
number_open : (s : Switch) (entry : Entry) → refusal_of s entry ≡ None → Orderly s → IsNew s.conns s.drawn.conns
number_open s entry accepts orderly = record {
  distinct = orderly.ordered.distinct;
  fresh = number_new s orderly.ordered (room_left s orderly (not_full s entry accepts));
}

step_holds : (s : Switch) (entry : Entry) → IsNew s.conns s.drawn.conns → Holds s.channels s.conns →
    Holds (step s entry).state.channels (step s entry).state.conns
unfolding step
step_holds s entry new h =
    let now : Switch = at_moment entry.moment s in
    let acted : Held (Some 1) (act_done entry.act now).state =
    acted_kept now Held (held_moves now) entry.act (λ loads config t k. k) (h, new) in
    acted.0

run_holds : (s : Switch) (entries : List Entry) → IsRunFrom s entries → Orderly s → Holds s.channels s.conns →
    Holds (run_from s entries).channels (run_from s entries).conns
run_holds s [] run orderly h = h
run_holds s (entry ∷ entries) run orderly h =
    run_holds (step s entry).state entries run.1 (entry_orderly s entry orderly run.0)
    (step_holds s entry (number_open s entry run.0 orderly) h)

pub run_holders_agree : (config : Configuration) (entries : List Entry) → IsWithin config → IsRunFrom (empty config) entries →
    HoldersAgree (run_from (empty config) entries)
run_holders_agree config entries within run =
    holders_agree (run_from (empty config) entries)
    (run_holds (empty config) entries run (empty_orderly config within.settings.journal.1)
    (nobody_holds (empty config).channels (empty config).conns (λ slot. nothing_held Chan (config.settings.max_sessions + 1) slot)))

-- ---- identifiers

-- each stands in one slot, and for each of them a slot is filled, or an entry was paid
record Counted (s : Switch) : Type 0 where
  named : Named (seen s)
  slots : length s.channels ≡ s.settings.max_sessions + 1
  paid : 64 * s.drawn.identifiers ≤ s.cost + 64 * taken_in s.channels

none_counted : (config : Configuration) → IsWithin config → Counted (empty config)
none_counted config within = record {
  named = record {
    core = within.settings.core;
    naming =
        naming_none config.settings.core_uuid 0 (uuid_in (empty config).channels)
        (λ q. ap (option_map uuid_of) (nothing_held Chan (config.settings.max_sessions + 1) q));
  };
  slots = no_seats_length Chan (config.settings.max_sessions + 1);
  paid = omega arith;
}

-- an entry that is not refused finds room for the largest one
has_room : (s : Switch) (entry : Entry) → refusal_of s entry ≡ None → s.cost + 65600 ≤ s.settings.journal_limit
has_room s entry defined = ltb-false s.settings.journal_limit (s.cost + 65600) (not_full s entry defined)

-- one entry more, of which all that counts is known; it frees one slot at most, and costs as much as an identifier
closed_counted : (s t : Switch) (cost : ℕ) → Numbers 1 (seen s) (seen t) → t.settings ≡ s.settings → t.cost ≡ s.cost → 64 ≤ cost →
    s.settings.max_sessions ≤ 256 → s.cost + 65600 ≤ 1073741824 → Counted s → Counted (after_entry cost t)
closed_counted s t cost numbers same_settings same least few_slots room h =
    let most : t.drawn.identifiers + taken_in s.channels ≤ s.drawn.identifiers + taken_in t.channels + 1 = numbers.most in
    let paid : 64 * s.drawn.identifiers ≤ s.cost + 64 * taken_in s.channels = h.paid in
    let filled : taken_in t.channels ≤ length t.channels = taken_most t.channels in
    let slots : length t.channels ≡ s.settings.max_sessions + 1 = numbers.slots ∙ h.slots in
    let few : t.drawn.identifiers < 2 ^ 62 - 1 = omega (arith, most, paid, filled, slots, few_slots, room) in
    record {
      named = numbers.names few h.named;
      slots = slots ∙ ap (λ (settings : Settings). settings.max_sessions + 1) (sym same_settings);
      paid = omega (arith, most, same, paid, least, room);
    }

acted_numbers : (a : Act) (s : Switch) → Numbers 1 (seen s) (seen (act_done a s).state)
acted_numbers a s = acted_kept s (NumbersFrom (seen s)) (numbers_moves (seen s) s) a (λ loads config t k. k) (numbers_stay (seen s))

step_counted : (s : Switch) (entry : Entry) → s.settings.max_sessions ≤ 256 → s.cost + 65600 ≤ 1073741824 → Counted s →
    Counted (step s entry).state
unfolding step
step_counted s entry few_slots room h =
    let now : Switch = at_moment entry.moment s in
    closed_counted now (with_posts s (act_done entry.act now).state) (cost_of entry.act) (acted_numbers entry.act now)
    (acted_settings entry.act now)
    (acted_cost entry.act now) (some_cost entry.act) few_slots room
    (record { named = h.named; slots = h.slots; paid = h.paid })

run_counted : (s : Switch) (entries : List Entry) → AreInRange s.settings → IsRunFrom s entries → Counted s →
    Counted (run_from s entries)
run_counted s [] range run h = h
run_counted s (entry ∷ entries) range run h =
    let room : s.cost + 65600 ≤ s.settings.journal_limit = has_room s entry run.0 in
    run_counted (step s entry).state entries
    (subst AreInRange (sym (settings_step s entry)) range)
    run.1 (step_counted s entry range.sessions.1 (omega (arith, room, range.journal.1)) h)

-- as the definition has it
told_apart : (s : Switch) → Named (seen s) → IdentifiersDiffer s
told_apart s h = record {
  apart =
      λ slot other c d is_c is_d other_slot same. other_slot
      (h.naming.once slot other c.uuid (ap (option_map uuid_of) is_c) (ap (option_map uuid_of) is_d ∙ ap Some (sym same)));
}

pub identifiers_differ : (config : Configuration) (entries : List Entry) → IsWithin config → IsRunFrom (empty config) entries →
    IdentifiersDiffer (run_from (empty config) entries)
identifiers_differ config entries within run =
    told_apart (run_from (empty config) entries) (run_counted (empty config) entries within.settings run (none_counted config within)).named
