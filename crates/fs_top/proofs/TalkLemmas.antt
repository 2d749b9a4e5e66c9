-- What a pass keeps that was split off to dial a controller, and what the lane keeps once it was met.
use Rattle.std.proofs.Common.{◌≡◌, ℕ, zero, suc, ◌+◌, ◌<◌, Bool, true, false, List, [], ◌∷◌, ◌++◌, length, Option, None, Some}
use Rattle.std.proofs.Common.{refl, sym, ap, subst, ◌∙◌, arith, append_assoc, inl}
use Rattle.std.specs.Prelude.{◌&&◌, ◌==◌, slice_get}
use Rattle.std.proofs.lemmas.Option.{none-some}
use mathlib.Core.List.{IsPrefix}
use mathlib.Core.Option.{some, some-ne-none}
use lib.ListN.{get_elem?}
use Rattle.fs_doc.specs.Reading.{Configuration}
use Rattle.fs_ports.specs.Ports.{Input, Output, IsNewLink}
use Rattle.fs_book.specs.Counts.{times}
use Rattle.fs_book.specs.Opened.{Owned}
use Rattle.fs_book.proofs.Lists.{last_get}
use Rattle.fs_machine.specs.declared.entry.Entry.{Entry}
use Rattle.fs_machine.specs.declared.entry.Act.{Act}
use Rattle.fs_machine.specs.declared.entry.Act.TheVariants.{Arrive, Command, Take, Close, Dialed, Work, Job, Loaded, Halt}
use Rattle.fs_machine.specs.Concerns.{actor_of}
use Rattle.fs_machine.specs.Turned.{IsJournal, opens, names}
use Rattle.fs_conn.specs.Owning.{OwnsConn}
use Rattle.fs_conn.specs.Talks.{Told, Gains}
use Rattle.fs_conn.proofs.ArriveLemmas.{Came, came_by}
use Rattle.fs_session.specs.Talking.{Counts, Opens, OpensNone, MayCount}
use Rattle.fs_session.specs.Working.{Stays}
use Rattle.fs_top.specs.declared.conns.Conn.{Conn}
use Rattle.fs_top.specs.Dials.{tells_in_vain, is_in_vain, found_by, vain_in, HasRisen}
use Rattle.fs_session.specs.declared.actor.Actor.TheVariants as who
use Rattle.fs_top.specs.Lanes.{IsNotedWell, Enters, Keeps}
use Rattle.fs_top.proofs.GatherLemmas.{keeps_split}
use Rattle.fs_top.proofs.LaneLemmas.{keeps_served, gained_fails, keeps_entered, keeps_looked, run_behind}
use Rattle.fs_top.proofs.PlaceLemmas.{count_none}
use Rattle.fs_top.proofs.VainLemmas.{risen_none, risen_one}

-- the act of an entry that told of a dial
abbrev told_entry : ℕ → ℕ → Bool → Entry
told_entry now slot linked = record { moment = now; act = Dialed slot linked }

-- the connection of a controller has come, is owned, and has made no entry
pub opened_came : {L : Type 0} (IsNew : L → Type 0) (config : Configuration) (seen seen' : List Entry) (mine mine' : List ℕ)
    (slot old new now conn : ℕ) (link : L) (it : Opens config seen mine seen' mine' slot IsNew old new now conn link) →
    Came config (record { moment = now; act = it.tells.gained.act }) it.tells.gained.before seen' mine' conn
opened_came IsNew config seen seen' mine mine' slot old new now conn link it =
    let gained = it.tells.gained in
    let entry : Entry = record { moment = now; act = gained.act } in
    let unnamed : names entry ≡ None = ap (λ (done : Act). names (record { moment = now; act = done })) gained.is in
    let came = came_by config gained.before mine entry conn gained.answers.before gained.answers.defined unnamed it.opened in
    let places : mine ++ length gained.before ∷ [] ≡ mine' = sym (gained.more ∙ ap (λ (p : ℕ). mine ++ p ∷ []) gained.at) in
    subst (λ (ps : List ℕ). Came config entry gained.before seen' ps conn) places
    (subst (λ (log : List Entry). Came config entry gained.before log (mine ++ length gained.before ∷ []) conn) (sym gained.sees) came)

none_in : (p : ℕ) (mine : List ℕ) → mine ≡ [] → 0 < times p mine → ⊥
none_in p mine none has = absurd (omega (arith, subst (λ (ps : List ℕ). 0 < times p ps) none has))

tells_link : (slot other : ℕ) → tells_in_vain slot (Dialed other true) ≡ false
tells_link slot other = by (other == slot)
  where
    by : (same : Bool) → (same && false) ≡ false
    by true = refl
    by false = refl

named_quiet : (slot conn : ℕ) (done : Act) → actor_of done ≡ Some conn → tells_in_vain slot done ≡ false
named_quiet slot conn (Dialed other linked) named = absurd (none-some conn named)
named_quiet slot conn Arrive named = refl
named_quiet slot conn (Command c block) named = refl
named_quiet slot conn (Take c) named = refl
named_quiet slot conn (Close c how) named = refl
named_quiet slot conn (Work other) named = refl
named_quiet slot conn (Job number) named = refl
named_quiet slot conn (Loaded number note) named = refl
named_quiet slot conn Halt named = refl

-- who told of a dial of its own slot may have
dialed_enters : (may : ℕ → Type 0) (slot now : ℕ) (linked : Bool) (done : Act) → may now → done ≡ Dialed slot linked →
    Enters may ⊥ (Some (who.Slot slot)) (record { moment = now; act = done })
dialed_enters may slot now linked done told is = (
  (told, λ halted. absurd (cc (is, halted)), subst IsNotedWell (sym is) tt),
  λ other link same.
      let e : Dialed slot linked ≡ Dialed other link = sym is ∙ same in
      let here : slot ≡ other = cc e in ap (λ (n : ℕ). Some (who.Slot n)) here,
  λ job note loaded. absurd (cc (is, loaded)),
)

-- a pass that was split off, and told of a dial
module _ {L : Type 0} (input : L → Input) (output : L → Output) (may : ℕ → Type 0) (config : Configuration)
    (start : Option Configuration) (is : start ≡ Some config) (slot : ℕ) (seen seen' : List Entry) (mine mine' : List ℕ)
    (met met' : List (List ℕ)) (no_place : mine ≡ []) (none_met : met ≡ []) (met_is : met' ≡ met) (run : IsJournal config seen)
    (below : (k : ℕ) (l : List ℕ) → get_elem? (mine ∷ met) k ≡ some l → (p : ℕ) → 0 < times p l → p < length seen) (now : ℕ)
    (told : may now) where
  abbrev Kept : List Entry → List ℕ → List (List ℕ) → List (Conn L) → Type 0
  Kept log places lists conns = Keeps input output (Enters may ⊥ (Some (who.Slot slot))) config log (places ∷ lists) conns

  pub kept_new : Kept seen mine met []
  kept_new =
      keeps_split input output (Enters may ⊥ (Some (who.Slot slot))) config seen seen mine met [] refl no_place none_met refl run

  -- nothing was entered
  pub kept_stays : Owned opens names start (mine' ∷ met') seen' → Stays config seen mine seen' mine' → Kept seen' mine' met' []
  kept_stays owned stays =
      keeps_looked input output (Enters may ⊥ (Some (who.Slot slot))) config start seen seen' mine mine' met met' [] is stays.front stays.same met_is
      below owned stays.run kept_new

  pub vain_nothing : Stays config seen mine seen' mine' → (old new : ℕ) → MayCount old new →
      HasRisen (vain_in slot seen' (mine' ∷ met')) old new
  vain_nothing stays old new counts =
      let lists : mine' ∷ met' ≡ [] ∷ [] = cc (stays.same, no_place, met_is, none_met) in
      subst (λ (ls : List (List ℕ)). HasRisen (vain_in slot seen' ls) old new) (sym lists) (risen_none old new counts)

  -- no connection came by what was entered
  pub kept_none : Owned opens names start (mine' ∷ met') seen' → (old new place : ℕ) →
      OpensNone config seen mine seen' mine' slot old new now place → Kept seen' mine' met' []
  kept_none owned old new place none =
      let gained = none.tells.gained in
      let entry : Entry = record { moment = now; act = gained.act } in
      subst (λ (ms : List (List ℕ)). Kept seen' mine' ms []) (sym met_is)
      (keeps_entered input output (Enters may ⊥ (Some (who.Slot slot))) config start seen gained.before seen' mine mine' met [] place entry is
      gained.front gained.sees gained.at gained.more
      (ap (λ (done : Act). names (record { moment = now; act = done })) gained.is)
      (λ n opened. none-some n (sym none.none ∙ opened))
      (dialed_enters may slot now none.tells.linked gained.act told gained.is)
      (run_behind config gained.before seen' entry gained.reply gained.sees gained.answers) below
      (subst (λ (ms : List (List ℕ)). Owned opens names start (mine' ∷ ms) seen') met_is owned) kept_new)

  pub vain_one : (old new place : ℕ) → OpensNone config seen mine seen' mine' slot old new now place →
      HasRisen (vain_in slot seen' (mine' ∷ met')) old new
  vain_one old new place none =
      let gained = none.tells.gained in
      let entry : Entry = record { moment = now; act = gained.act } in
      let lists : mine' ∷ met' ≡ (place ∷ []) ∷ [] = cc (gained.more, no_place, met_is, none_met) in
      let there : slice_get seen' place ≡ Some entry =
      ap (λ (log : List Entry). slice_get log place) gained.sees
      ∙ ap (λ (p : ℕ). slice_get (gained.before ++ entry ∷ []) p) gained.at ∙ last_get gained.before entry in
      let count : vain_in slot seen' (mine' ∷ met') ≡ found_by (is_in_vain slot) (Some (told_entry now slot none.tells.linked)) =
      ap (vain_in slot seen') lists ∙ one_place (found_by (is_in_vain slot) (slice_get seen' place))
      ∙ ap (found_by (is_in_vain slot)) (there ∙ ap (λ (done : Act). Some (record { moment = now; act = done })) gained.is) in
      subst (λ n. HasRisen n old new) (sym count) (risen_one none.tells.linked slot old new none.tells.counts)
    where
      one_place : (n : ℕ) → n + 0 + 0 ≡ n
      one_place n = omega arith

  -- a connection came, and was served to its end
  module _ (seen'' : List Entry) (mine'' : List ℕ) (met'' : List (List ℕ)) (met_stays : met'' ≡ met') (IsNew : L → Type 0)
      (old new conn : ℕ) (link : L) (opened : Opens config seen mine seen' mine' slot IsNew old new now conn link)
      (later : IsPrefix seen' seen'') (gains : Gains may conn mine' seen'' mine'') (owned : Owned opens names start (mine'' ∷ met'') seen'')
    where
      abbrev entry : Entry
      entry = record { moment = now; act = opened.tells.gained.act }

      at_end : mine' ≡ mine ++ length opened.tells.gained.before ∷ []
      at_end = opened.tells.gained.more ∙ ap (λ (p : ℕ). mine ++ p ∷ []) opened.tells.gained.at

      all_met : met'' ≡ met
      all_met = met_stays ∙ met_is

      owned_mine : Owned opens names start (mine'' ∷ met) seen''
      owned_mine = subst (λ (ms : List (List ℕ)). Owned opens names start (mine'' ∷ ms) seen'') all_met owned

      unnamed : names entry ≡ None
      unnamed = ap (λ (done : Act). names (record { moment = now; act = done })) opened.tells.gained.is

      pub kept_served : (conn_is : Conn L) (in0 : Input) (out0 : Output) → conn_is.number ≡ conn → IsNewLink in0 out0 →
          OwnsConn config conn seen'' mine'' → Told config conn in0 out0 seen'' (input conn_is.link) (output conn_is.link) conn_is.end →
          Kept seen'' mine'' met'' (conn_is ∷ [])
      kept_served conn_is in0 out0 number is_new owns tells =
          subst (λ (ms : List (List ℕ)). Kept seen'' mine'' ms (conn_is ∷ [])) (sym all_met)
          (keeps_served may ⊥ (Some (who.Slot slot)) config start is seen seen' seen'' mine mine' mine'' met below conn opened.tells.gained.before entry
          opened.tells.gained.front opened.tells.gained.sees at_end opened.opened unnamed
          (dialed_enters may slot now opened.tells.linked opened.tells.gained.act told opened.tells.gained.is) later gains owned_mine
          input output [] conn_is in0 out0 (input conn_is.link) (output conn_is.link) (sym number) refl refl kept_new is_new tells.run owns
          tells)

      pub vain_served : HasRisen (vain_in slot seen'' (mine'' ∷ met'')) old new
      vain_served =
          subst (λ n. HasRisen n old new) (sym none) (risen_none old new (inl same))
        where
          same : new ≡ old
          same = subst (λ b. Counts b old new) opened.linked opened.tells.counts

          quiet : is_in_vain slot entry ≡ false
          quiet =
              ap (tells_in_vain slot) (opened.tells.gained.is ∙ ap (λ b. Dialed slot b) opened.linked)
              ∙ tells_link slot slot

          all : mine'' ≡ mine ++ (length opened.tells.gained.before ∷ gains.places)
          all =
              gains.more
              ∙ (ap (λ (ps : List ℕ). ps ++ gains.places) at_end ∙ append_assoc mine (length opened.tells.gained.before ∷ []) gains.places)

          fails : (k : ℕ) (l : List ℕ) → get_elem? (mine'' ∷ met) k ≡ some l → (p : ℕ) (e : Entry) → 0 < times p l →
              slice_get seen'' p ≡ Some e → is_in_vain slot e ≡ false
          fails zero l there p e has at =
              let its : mine'' ≡ l = cc there in
              gained_fails may ⊥ (Some (who.Slot slot)) config start is seen seen' seen'' mine mine' mine'' met below conn opened.tells.gained.before entry
              opened.tells.gained.front opened.tells.gained.sees at_end opened.opened unnamed
              (dialed_enters may slot now opened.tells.linked opened.tells.gained.act told opened.tells.gained.is) later gains owned_mine
              (is_in_vain slot) quiet (λ other named. named_quiet slot conn other.act named) p e
              (subst (λ (ps : List ℕ). 0 < times p ps) (sym its ∙ all) has) (none_in p mine no_place) at
          fails (suc k) l there p e has at =
              let none : get_elem? [] k ≡ some l = sym (ap (λ (ms : List (List ℕ)). get_elem? ms k) none_met) ∙ there in
              absurd (some-ne-none l (sym none))

          none : vain_in slot seen'' (mine'' ∷ met'') ≡ 0
          none =
              ap (λ (ms : List (List ℕ)). vain_in slot seen'' (mine'' ∷ ms)) all_met
              ∙ count_none (is_in_vain slot) seen'' (mine'' ∷ met) fails
