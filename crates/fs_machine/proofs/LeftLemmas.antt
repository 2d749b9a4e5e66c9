-- Between entries no connection stands whose channel has left it: behind each act those have parted.
use Rattle.std.proofs.Common.{◌≡◌, ℕ, zero, suc, ◌==◌, Bool, true, false, if◌then◌else◌, List, [], ◌∷◌, ◌++◌, map, Option, None, Some}
use Rattle.std.proofs.Common.{refl, ap, ◌∙◌, append-nil}
use Rattle.std.proofs.lemmas.Bool.{both_ways}
use Rattle.std.specs.Prelude.{flat_map}
use Rattle.fs_doc.specs.Reading.{Configuration}
use Rattle.fs_text.specs.Texts.{Text}
use Rattle.fs_seats.specs.declared.numbered.Numbered.{Numbered}
use Rattle.fs_seats.specs.Seats.{held_in, least_free}
use Rattle.fs_seats.specs.Rows.{has_number}
use Rattle.fs_seats.proofs.HeldLemmas.{nothing_held}
use Rattle.fs_seats.proofs.RowLemmas.{each_put_at}
use Rattle.fs_state.specs.declared.conn.Conn.{Conn}
use Rattle.fs_state.specs.declared.conn.Parting.TheVariants.{ChannelLeft}
use Rattle.fs_state.specs.Frames.{Gift}
use Rattle.fs_state.specs.Drawn as numbers
use Rattle.fs_state.specs.Switch.{Switch, empty, gift_of, at_moment}
use Rattle.fs_machine.specs.declared.entry.Entry.{Entry}
use Rattle.fs_machine.specs.declared.entry.Act.TheVariants.{Arrive, Take}
use Rattle.fs_machine.specs.Connections.{parted}
use Rattle.fs_machine.specs.Controlling.{is_left, conn_behind, farewell, farewell_behind, after_leavings}
use Rattle.fs_machine.specs.Frames.{frames_among}
use Rattle.fs_machine.specs.Step.{Acted, new_conn, arrived, taken, acted, act_done, step}
use Rattle.fs_machine.specs.Runs.{run_from}
use Rattle.fs_machine.proofs.ControlLemmas.{behind_held}
use Rattle.fs_machine.proofs.PostLemmas.{among_append}

-- a connection stands at a seat whose channel has left it
abbrev pub is_left_in_seat : Switch → Option (Numbered Conn) → Bool
is_left_in_seat s None = false
is_left_in_seat s (Some row) = is_left s row

-- none does
abbrev pub NoneLeft : Switch → Type 0
NoneLeft s = (seat : ℕ) → is_left_in_seat s (held_in s.conns seat) ≡ false

-- so it is behind each act
pub none_left : (s : Switch) → NoneLeft (after_leavings s)
none_left s seat = ap (is_left_in_seat (after_leavings s)) (behind_held s s.conns seat) ∙ by (held_in s.conns seat)
  where
    of : (row : Numbered Conn) (left : Bool) → is_left s row ≡ left →
        is_left (after_leavings s) (if left then record { number = row.number; held = parted ChannelLeft row.held } else row) ≡ false
    of row true is = refl
    of row false is = is

    by : (held : Option (Numbered Conn)) → is_left_in_seat (after_leavings s) (conn_behind s held) ≡ false
    by None = refl
    by (Some row) = of row (is_left s row) refl

-- and so behind each entry, and in each run
pub step_none_left : (s : Switch) (entry : Entry) → NoneLeft (step s entry).state
unfolding step
step_none_left s entry = none_left (acted entry.act (at_moment entry.moment s)).state

pub run_none_left : (s : Switch) (entries : List Entry) → NoneLeft s → NoneLeft (run_from s entries)
run_none_left s [] none = none
run_none_left s (entry ∷ entries) none = run_none_left (step s entry).state entries (step_none_left s entry)

pub empty_none_left : (config : Configuration) → NoneLeft (empty config)
empty_none_left config seat =
    ap (is_left_in_seat (empty config)) (nothing_held (Numbered Conn) config.settings.max_connections seat)

-- ---- where none is left nothing comes behind an act

same_seat : (s : Switch) (held : Option (Numbered Conn)) → is_left_in_seat s held ≡ false → conn_behind s held ≡ held
same_seat s None is = refl
same_seat s (Some row) is =
    ap (λ (left : Bool). Some (if left then record { number = row.number; held = parted ChannelLeft row.held } else row)) is

same_conns : (s : Switch) (conns : List (Option (Numbered Conn))) → ((seat : ℕ) → is_left_in_seat s (held_in conns seat) ≡ false) →
    map (conn_behind s) conns ≡ conns
same_conns s [] none = refl
same_conns s (held ∷ conns) none =
    ap (λ (first : Option (Numbered Conn)). first ∷ map (conn_behind s) conns) (same_seat s held (none zero))
    ∙ ap (λ (more : List (Option (Numbered Conn))). held ∷ more) (same_conns s conns (λ seat. none (suc seat)))

no_farewell : (s : Switch) (held : Option (Numbered Conn)) → is_left_in_seat s held ≡ false → farewell_behind s held ≡ []
no_farewell s None is = refl
no_farewell s (Some row) is =
    ap (λ (left : Bool). if left then gift_of row.number (farewell row.held.control) ∷ [] else []) is

no_farewells : (s : Switch) (conns : List (Option (Numbered Conn))) → ((seat : ℕ) → is_left_in_seat s (held_in conns seat) ≡ false) →
    flat_map (farewell_behind s) conns ≡ []
no_farewells s [] none = refl
no_farewells s (held ∷ conns) none =
    ap (λ (gifts : List Gift). gifts ++ flat_map (farewell_behind s) conns) (no_farewell s held (none zero))
    ∙ no_farewells s conns (λ seat. none (suc seat))

pub leaves_all : (s : Switch) → NoneLeft s → after_leavings s ≡ s
leaves_all s none =
    ap (λ (conns : List (Option (Numbered Conn))). let t : Switch =
    record s { conns = conns; notices = s.notices ++ flat_map (farewell_behind s) s.conns } in t) (same_conns s s.conns none)
    ∙ ap (λ (gifts : List Gift). let t : Switch = record s { notices = s.notices ++ gifts } in t) (no_farewells s s.conns none)
    ∙ ap (λ (gifts : List Gift). let t : Switch = record s { notices = gifts } in t) (append-nil s.notices)

-- so it is behind a frame that is taken
pub take_done : (taker : ℕ) (s : Switch) → NoneLeft s → act_done (Take taker) s ≡ taken taker s
take_done taker s none =
    ap (λ (t : Switch). let done : Acted = record { state = t; reply = (taken taker s).reply } in done)
    (leaves_all (taken taker s).state none)

-- and behind a connection that arrives: it controls nothing
pub arrive_done : (s : Switch) → NoneLeft s → act_done Arrive s ≡ arrived s
arrive_done s none =
    ap (λ (t : Switch). let done : Acted = record { state = t; reply = (arrived s).reply } in done)
    (leaves_all (arrived s).state
    (each_put_at (λ held. is_left_in_seat s held ≡ false) s.conns
    (Some (record { number = (numbers.with_conn s.drawn).conns; held = new_conn })) (least_free s.conns 0) none refl))

-- ---- who is not left is given no notice

one_kept : (conn : ℕ) (s : Switch) (held : Option (Numbered Conn)) →
    (has_number conn held ≡ true → is_left_in_seat s held ≡ false) → frames_among conn (farewell_behind s held) ≡ []
one_kept conn s None kept = refl
one_kept conn s (Some row) kept = by (is_left s row) refl (row.number == conn) refl
  where
    text : Text
    text = farewell row.held.control

    by : (left : Bool) → is_left s row ≡ left → (its : Bool) → (row.number == conn) ≡ its →
        frames_among conn (if left then gift_of row.number text ∷ [] else []) ≡ []
    by false is its same = refl
    by true is true same = absurd (both_ways (is_left s row) (kept same) is)
    by true is false same = ap (λ (b : Bool). (if b then text ∷ [] else []) ++ []) same

pub kept_told_nothing : (conn : ℕ) (s : Switch) (conns : List (Option (Numbered Conn))) →
    ((seat : ℕ) → has_number conn (held_in conns seat) ≡ true → is_left_in_seat s (held_in conns seat) ≡ false) →
    frames_among conn (flat_map (farewell_behind s) conns) ≡ []
kept_told_nothing conn s [] kept = refl
kept_told_nothing conn s (held ∷ conns) kept =
    among_append conn (farewell_behind s held) (flat_map (farewell_behind s) conns)
    ∙ ap (λ (texts : List Text). texts ++ frames_among conn (flat_map (farewell_behind s) conns)) (one_kept conn s held (kept zero))
    ∙ kept_told_nothing conn s conns (λ seat. kept (suc seat))
