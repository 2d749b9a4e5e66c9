-- What holds of the state behind every run in which no entry is refused, of all that leans on one another.
use Rattle.std.proofs.lemmas.List.{length-map}
use Rattle.fs_seats.proofs.TableLemmas.{taken_in, row_found, none_held}
use Rattle.fs_machine.proofs.OwedBooks.{trying_in, books_of, SlotsAreFew}
use Rattle.fs_machine.proofs.OwedLemmas.{trying_most}
use Rattle.fs_machine.proofs.OwedTables.{by_job, owned_at, owned_in}
use Rattle.fs_machine.proofs.TrialMoves.{trials_of, AreApart, none_apart}
use Rattle.fs_machine.proofs.AwaitedLemmas.{Awaits}
use Rattle.fs_machine.proofs.AwaitedMoves.{awaited_moves}
use Rattle.fs_machine.proofs.KnownMoves.{Known, known_moves, jobs_apart, fresh_number, room_there, room_for_job}
use Rattle.fs_machine.proofs.BothMoves.{Both, both_moves}
use Rattle.fs_machine.proofs.HoldMoves.{AllHeld, holding_moves}
use Rattle.fs_machine.proofs.BerthLemmas.{Berthed}
use Rattle.fs_machine.proofs.BerthMoves.{berthing_moves}
use Rattle.std.proofs.Common.{refl, ◌≡◌, ℕ, ◌+◌, ◌-◌, ◌*◌, ◌^◌, ◌<◌, ◌≤◌, min, true, List, [], ◌∷◌, length, None, Some, sym, ap, subst}
use Rattle.std.proofs.Common.{option_and_then, ◌∙◌, arith}
use Rattle.std.proofs.lemmas.Bool.{lt-ltb, ltb-false}
use Rattle.std.proofs.lemmas.Option.{none-some}
use Rattle.fs_bridge.specs.Bridges.{no_bridges, has_number_left}
use Rattle.fs_bridge.specs.Laws.{IsSound}
use Rattle.fs_machine.specs.declared.entry.Act.{Act}
use Rattle.fs_machine.proofs.BondRows.{RowsFit}
use Rattle.fs_doc.specs.Limits.{IsWithin}
use Rattle.fs_doc.specs.Reading.{Configuration}
use Rattle.fs_chan.specs.declared.chan.Chan.{Chan}
use Rattle.fs_orig.specs.declared.orig.Orig.{Orig}
use Rattle.fs_seats.specs.declared.numbered.Numbered.{Numbered}
use Rattle.fs_seats.specs.Seats.{no_seats}
use Rattle.fs_seats.proofs.HeldLemmas.{nothing_held}
use Rattle.fs_doc.specs.declared.settings.Settings.{Settings}
use Rattle.fs_state.specs.Switch.{Switch, empty, chan_at, orig_of, at_moment, reloaded}
use Rattle.fs_state.specs.Moves.{partner_of}
use Rattle.fs_state.proofs.SlotLemmas.{no_seats_length}
use Rattle.fs_machine.specs.declared.entry.Entry.{Entry}
use Rattle.fs_machine.specs.Entries.{cost_of}
use Rattle.fs_machine.specs.Step.{refusal_of, act_done, step}
use Rattle.fs_machine.specs.Runs.{run_from, IsRunFrom}
use Rattle.fs_machine.proofs.Kept.{Stage, Fact, KeptByMoves, KeptByReload}
use Rattle.fs_machine.proofs.TieLemmas.{named_in, Ties}
use Rattle.fs_machine.proofs.FrameLemmas.{some_cost}
use Rattle.fs_machine.proofs.JoinMoves.{acted_joins}
use Rattle.fs_machine.proofs.OrderLemmas.{acted_settings, acted_cost, not_full, paid_more}
use Rattle.fs_machine.proofs.ActWalk.{acted_kept}
use Rattle.fs_machine.proofs.PartnerMoves.{ArePaired, Partners, partners_moves}
use Rattle.fs_machine.proofs.SeenLemmas.{seen, numbers_stay}
use Rattle.fs_machine.proofs.LegLemmas.{roles_of, LegsStand, no_legs}
use Rattle.fs_machine.proofs.LegMoves.{Legs, legs_moves}
use Rattle.fs_machine.proofs.BondTables.{Bonds}
use Rattle.fs_machine.proofs.BondMoves.{bonds_moves}
use Rattle.fs_machine.proofs.OwnerLemmas.{Owned}
use Rattle.fs_machine.proofs.OwnerMoves.{Owners, Owning, owners_of, owners_moves}
use Rattle.fs_machine.proofs.SlotCounts.{few_slots}
use Rattle.fs_machine.proofs.OwedSteps.{Holds, holds_empty, holds_step, few_drawn}
use Rattle.fs_machine.proofs.StopLemmas.{none_distinct, none_within}

-- what is owed, the legs of originations, bridges, whose originations there are, partners, what jobs try, who waits for what, which legs
-- channels are, how many slots there are, and what each number of a bridge cost
pub record Standing (s : Switch) : Type 0 where
  pub holds : Holds (books_of s)
  pub legs : LegsStand (roles_of s)
  pub bonds : Bonds s
  pub owned : Owned (roles_of s)
  pub paired : ArePaired s
  pub trials : AreApart (trials_of s)
  pub waits : Awaits s
  pub held : AllHeld s
  pub berths : Berthed s
  pub slots : length s.channels ≡ s.settings.max_sessions + 1
  pub sessions : s.settings.max_sessions ≤ 256
  pub bridges : 64 * s.bridges.drawn ≤ s.cost
  pub cost : s.cost < 2 ^ 64

-- so there is a number for one more bridge
pub number_left : (s : Switch) → Standing s → has_number_left s.bridges ≡ true
number_left s h =
    let paid : 64 * s.bridges.drawn ≤ s.cost = h.bridges in
    let cost : s.cost < 2 ^ 64 = h.cost in
    lt-ltb (s.bridges.drawn + 1) (2 ^ 64) (omega (arith, paid, cost))

-- ---- a switch to which nothing has happened

-- none is named
nothing_named : (config : Configuration) → Ties partner_of (empty config).channels
nothing_named config = record {
  back = λ a b e. absurd (none a b e);
  live = λ a b e. absurd (none a b e);
}
  where
    none : (a b : ℕ) → named_in partner_of (empty config).channels a ≡ Some b → ⊥
    none a b e =
        let nothing : named_in partner_of (empty config).channels a ≡ None =
        ap (option_and_then partner_of) (nothing_held Chan (config.settings.max_sessions + 1) a) in
        cc

pub nothing_paired : (config : Configuration) → ArePaired (empty config)
nothing_paired config = record {
  ties = nothing_named config;
  zero = nothing_held Chan (config.settings.max_sessions + 1) 0;
}

no_chan : (config : Configuration) (slot : ℕ) (c : Chan) → chan_at (empty config) slot ≡ Some c → ⊥
no_chan config slot c there = none-some c (sym (nothing_held Chan (config.settings.max_sessions + 1) slot) ∙ there)

no_orig : (config : Configuration) (number : ℕ) (o : Orig) → orig_of (empty config) number ≡ Some o → ⊥
no_orig config number o there =
    let found = row_found (no_seats {T = Numbered Orig} 1280) number o there in
    none_held 1280 found.0 found.1 found.2.there

none_sound : IsSound no_bridges
none_sound = record {
  rows = λ k d below. absurd (omega (arith, below));
  order = λ i j d before below. absurd (omega (arith, before, below));
  one = λ slot. omega arith;
}

-- none stands
pub none_fit : RowsFit no_bridges
none_fit = record {
  sound = none_sound;
  leg = λ slot row part. absurd (none-some row part);
  apart = λ slot row part. absurd (none-some row part);
  caller = λ slot row part. absurd (none-some row part);
  answerer = λ slot row part. absurd (none-some row part);
  numbers = λ a b r q one two. absurd (none-some r one);
  drawn = λ slot row part. absurd (none-some row part);
}

nothing_bonded : (config : Configuration) → Bonds (empty config)
nothing_bonded config = record {
  apt = λ slot c there. absurd (no_chan config slot c there);
  rows = none_fit;
  legs = λ slot row part. absurd (none-some row part);
  back = λ slot c there some. absurd (no_chan config slot c there);
}

nothing_owned : (config : Configuration) → Owned (roles_of (empty config))
nothing_owned config = record {
  distinct = none_distinct Orig 1280;
  within = none_within Orig 1280 0;
  wait = λ slot number o is owned. absurd (no_orig config number o is);
  own = λ slot number c o there waits is. absurd (no_chan config slot c there);
  drawn = λ slot number c there waits. absurd (no_chan config slot c there);
  lone = λ slot c there leg. absurd (no_chan config slot c there);
}

nothing_tried : (config : Configuration) → AreApart (trials_of (empty config))
nothing_tried config = none_apart 1024 1280 0

pub standing_empty : (config : Configuration) → IsWithin config → Standing (empty config)
standing_empty config within = record {
  holds = holds_empty config within.settings.journal.1;
  legs = no_legs (empty config).channels 1280 0;
  bonds = nothing_bonded config;
  owned = nothing_owned config;
  paired = nothing_paired config;
  trials = nothing_tried config;
  waits = record {
    own = λ slot number c there waits. absurd (no_chan config slot c there);
    live = λ slot number c there waits. absurd (no_chan config slot c there);
  };
  held = λ slot c there. absurd (no_chan config slot c there);
  berths = λ slot number c there names. absurd (no_chan config slot c there);
  slots = no_seats_length Chan (config.settings.max_sessions + 1);
  sessions = within.settings.sessions.1;
  bridges = omega arith;
  cost = omega arith;
}

-- ---- entries

-- each entry pairs channels, refused or not
pub step_pairs : (s : Switch) (entry : Entry) → ArePaired s → ArePaired (step s entry).state
unfolding step
step_pairs s entry h =
    let now : Switch = at_moment entry.moment s in
    let acted : ArePaired (act_done entry.act now).state =
    acted_kept now Partners (partners_moves now) entry.act (λ loads config t k. record { ties = k.ties; zero = k.zero })
    (record { ties = h.ties; zero = h.zero }) in
    record { ties = acted.ties; zero = acted.zero }

-- slots own few originations
pub slots_few : (s : Switch) → Standing s → SlotsAreFew s
slots_few s h =
    let slots : length s.channels ≡ s.settings.max_sessions + 1 = h.slots in
    let sessions : s.settings.max_sessions ≤ 256 = h.sessions in
    let owners : Owners s = owners_of s h.owned in
    few_slots s owners.numbers owners.wait h.paired.zero (omega (arith, slots, sessions))

-- at its start an entry has a seat for what a channel dials
jobs_few : (s : Switch) → Standing s → taken_in (owned_in by_job s.origs) ≤ 1024
jobs_few s h =
    let fewer : taken_in (owned_in by_job s.origs) ≤ trying_in s.jobs = h.holds.sound.tries.fewer in
    let most : trying_in s.jobs ≤ length s.jobs = trying_most s.jobs in
    let seats : length s.jobs ≡ 1024 = h.holds.sound.tries.job_seats in
    omega (arith, fewer, most, seats)

all_seats : (s : Switch) → Standing s → length s.origs ≡ 1280
all_seats s h = sym (length-map s.origs (owned_at by_job)) ∙ h.holds.sound.tries.orig_seats

slots_within : (s : Switch) → Standing s → length s.channels ≤ 257
slots_within s h =
    let slots : length s.channels ≡ s.settings.max_sessions + 1 = h.slots in
    let sessions : s.settings.max_sessions ≤ 256 = h.sessions in
    omega (arith, slots, sessions)

-- what is known as it begins
known_first : (s : Switch) → s.drawn.origs < 2 ^ 30 → Standing s → Known s None s
known_first s few h = (
  record { bonds = h.bonds; owned = h.owned; room = omega (arith, few) },
  (
    record { ties = h.paired.ties; zero = h.paired.zero },
    (numbers_stay (seen s), ((refl, (λ owned drawn tries. tries), refl), record { apart = h.trials; next = omega (arith, few) })),
  ),
)

-- few originations were tried meanwhile
few_meanwhile : (s : Switch) → s.drawn.origs < 2 ^ 30 → (b : Stage) (t : Switch) → Known s b t → t.drawn.origs < 2 ^ 62
few_meanwhile s few None t known = let same : t.drawn.origs ≡ s.drawn.origs = known.1.1.1.0.2 in omega (arith, few, same)
few_meanwhile s few (Some n) t known = let most : t.drawn.origs ≤ s.drawn.origs + 1 = known.1.1.1.0 in omega (arith, few, most)

-- and all of it stands as it is over
module _ (s : Switch) (few : s.drawn.origs < 2 ^ 30) (h : Standing s) where
  abbrev Waiting : Fact
  Waiting b t = Known s b t × Awaits t

  waiting_moves : KeptByMoves s Waiting
  waiting_moves =
      awaited_moves s h.legs (number_left s h) (Known s) (known_moves s h.legs) (λ b t known. known.0.bonds)
      (λ t known job who orig winner caller does slot has. jobs_apart s t known job who orig winner caller does slot has.orig has.there
      has.owned)
      (fresh_number s) (room_there s (jobs_few s h) (all_seats s h) (slots_within s h))

  abbrev Holding : Fact
  Holding b t = Waiting b t × AllHeld t

  holding : KeptByMoves s Holding
  holding = holding_moves s Waiting waiting_moves (λ b t k. k.0.0.bonds) (λ b t k. k.0.1.0.zero)

  abbrev Having : Fact
  Having = Both Legs Holding

  having : KeptByMoves s Having
  having = both_moves Legs Holding s (legs_moves s h.legs) holding

  abbrev pub Acting : Fact
  Acting b t = Having b t × Berthed t

  acting : KeptByMoves s Acting
  acting =
      berthing_moves s h.legs (number_left s h) h.berths Having having (λ b t k. k.1.0.0.0.bonds) (λ b t k. k.1.0.0.1.0.zero)
      (λ b t k. k.0 (few_meanwhile s few b t k.1.0.0)) (λ b t k. k.1.0.1)
      (λ t k slot c there none new. room_there s (jobs_few s h) (all_seats s h) (slots_within s h) t k.1.0.0 slot c there none new)
      (λ t k free new. room_for_job s h.holds.sound.tries (slots_within s h) t k.1.0.0 free new)

  -- nor does any of it see which contexts are in force
  acting_reloads : KeptByReload Acting
  acting_reloads config t k =
      let known : Known s (Some 0) t = k.0.1.0.0 in
      let owning = known.0 in
      let partners = known.1.0 in
      let tries = known.1.1.1.1 in
      let here : Known s (Some 0) (reloaded config t) = (
        record { bonds = owning.bonds; owned = owning.owned; room = owning.room },
        (
          record { ties = partners.ties; zero = partners.zero },
          (known.1.1.0, (known.1.1.1.0, record { apart = tries.apart; next = tries.next })),
        ),
      ) in
      ((k.0.0, ((here, k.0.1.0.1), k.0.1.1)), k.1)

  pub acted : (what : Act) → Acting (Some 1) (act_done what s).state
  acted what =
      acted_kept s Acting acting what (λ loads. acting_reloads)
      (((λ few. h.legs), ((known_first s few h, h.waits), h.held)), h.berths)

-- the same facts at another moment
pub at_its_moment : (moment : ℕ) (s : Switch) → Standing s → Standing (at_moment moment s)
at_its_moment moment s h = record {
  holds = h.holds;
  legs = h.legs;
  bonds = h.bonds;
  owned = h.owned;
  paired = record { ties = h.paired.ties; zero = h.paired.zero };
  trials = h.trials;
  waits = h.waits;
  held = h.held;
  berths = h.berths;
  slots = h.slots;
  sessions = h.sessions;
  bridges = h.bridges;
  cost = h.cost;
}

pub standing_step : (s : Switch) (entry : Entry) → refusal_of s entry ≡ None → Standing s → Standing (step s entry).state
unfolding step
standing_step s entry accepts h =
    let now : Switch = at_moment entry.moment s in
    let few : s.drawn.origs < 2 ^ 30 = few_drawn s entry accepts h.holds in
    let moves : KeptByMoves now Owning = owners_moves now h.legs (bonds_moves now h.legs) in
    let holds : Holds (books_of (step s entry).state) =
    holds_step s entry Owning moves (λ b t owning. (owners_of t owning.owned).own) (λ b t owning. (owners_of t owning.owned).numbers)
    accepts (slots_few s h) (record { bonds = h.bonds; owned = h.owned; room = omega (arith, few) }) h.holds in
    behind holds (acted now few (at_its_moment entry.moment s h) entry.act)
  where
    behind : Holds (books_of (step s entry).state) →
        ((Legs (Some 1) (act_done entry.act (at_moment entry.moment s)).state
        × ((Known (at_moment entry.moment s) (Some 1) (act_done entry.act (at_moment entry.moment s)).state
        × Awaits (act_done entry.act (at_moment entry.moment s)).state)
        × AllHeld (act_done entry.act (at_moment entry.moment s)).state))
        × Berthed (act_done entry.act (at_moment entry.moment s)).state) → Standing (step s entry).state
    behind holds k =
        let now : Switch = at_moment entry.moment s in
        let t : Switch = (act_done entry.act now).state in
        let known : Known now (Some 1) t = k.0.1.0.0 in
        let paid : 64 * t.drawn.origs ≤ min (t.cost + cost_of entry.act) (2 ^ 64 - 1) = holds.paid.origs in
        let same : t.cost ≡ s.cost = acted_cost entry.act now in
        let total : min (t.cost + cost_of entry.act) (2 ^ 64 - 1) < 2 ^ 64 = omega arith in
        let joins : t.bridges.drawn ≤ s.bridges.drawn + 1 = acted_joins now entry.act in
        record {
          holds = holds;
          legs = k.0.0 (omega (arith, paid));
          bonds = known.0.bonds;
          owned = known.0.owned;
          paired = record { ties = known.1.0.ties; zero = known.1.0.zero };
          trials = known.1.1.1.1.apart;
          waits = k.0.1.0.1;
          held = k.0.1.1;
          berths = k.1;
          slots = known.1.1.0.slots
              ∙ (h.slots ∙ ap (λ (settings : Settings). settings.max_sessions + 1) (sym (acted_settings entry.act now)));
          sessions = subst (λ (settings : Settings). settings.max_sessions ≤ 256) (sym (acted_settings entry.act now)) h.sessions;
          bridges = subst (λ cost. 64 * t.bridges.drawn ≤ min (cost + cost_of entry.act) (2 ^ 64 - 1)) (sym same)
              (paid_more s.bridges.drawn t.bridges.drawn s.cost (cost_of entry.act) s.settings.journal_limit joins h.bridges
              (ltb-false s.settings.journal_limit (s.cost + 65600) (not_full s entry accepts)) h.holds.paid.limit (some_cost entry.act));
          cost = total;
        }

-- ---- runs

standing_from : (s : Switch) (entries : List Entry) → IsRunFrom s entries → Standing s → Standing (run_from s entries)
standing_from s [] run h = h
standing_from s (entry ∷ entries) run h = standing_from (step s entry).state entries run.1 (standing_step s entry run.0 h)

pub standing_run : (config : Configuration) (entries : List Entry) → IsWithin config → IsRunFrom (empty config) entries →
    Standing (run_from (empty config) entries)
standing_run config entries within run = standing_from (empty config) entries run (standing_empty config within)
