-- What entries, looks and writes do to a conversation that stands.
use Rattle.std.proofs.Common.{◌≡◌, ◌≢◌, ◌⊎◌, inl, inr, ℕ, ◌||◌, Bool, true, false, List, [], ◌∷◌, ◌++◌, length, Option, Some, None, cond}
use Rattle.std.proofs.Common.{Result, Ok, Err, refl, ap, sym, subst, ◌∙◌, append_assoc, append-nil}
use Rattle.std.proofs.lemmas.Bool.{eq-eqb}
use Rattle.std.proofs.lemmas.List.Folds.{concat-append}
use Rattle.std.specs.List.{AllByRecursion, concat}
use mathlib.Core.List.{IsPrefix}
use Rattle.fs_text.specs.Texts.{Text}
use Rattle.fs_doc.specs.Reading.{Configuration}
use Rattle.fs_ports.specs.Ports.{Input, Output, Reads, Writes, Stopped}
use Rattle.fs_ports.proofs.Sides.{writes_both, stopped_later, stopped_sooner}
use Rattle.fs_frame.specs.Block.{IsBlock}
use Rattle.fs_book.specs.Opened.{Quiet}
use Rattle.fs_book.proofs.Lists.{prefix_self, prefix_trans, prefix_get, last_get}
use Rattle.fs_state.specs.Switch.{Switch, empty, is_full, is_full_for_load}
use Rattle.fs_state.specs.declared.conn.Parting.{Parting}
use Rattle.fs_state.specs.declared.conn.Parting.TheVariants as partings
use Rattle.fs_machine.specs.declared.entry.Entry.{Entry}
use Rattle.fs_machine.specs.declared.entry.Act.{Act}
use Rattle.fs_machine.specs.declared.entry.Act.TheVariants.{Take, Close}
use Rattle.fs_machine.specs.declared.entry.Closing.TheVariants.{EndOfInput, Sent, Failed}
use Rattle.fs_machine.specs.declared.refusal.Refusal.{Refusal}
use Rattle.fs_machine.specs.declared.refusal.Refusal.TheVariants as refusal
use Rattle.fs_machine.specs.declared.reply.Reply.{Reply}
use Rattle.fs_machine.specs.declared.reply.Reply.TheVariants as reply
use Rattle.fs_machine.specs.Concerns.{actor_of}
use Rattle.fs_machine.specs.Connections.{phase_at}
use Rattle.fs_machine.specs.Questions.{parting_at}
use Rattle.fs_machine.specs.Frames.{handed_in, command_in, commands_of}
use Rattle.fs_machine.specs.Step.{is_closed, refused_where, refusal_of}
use Rattle.fs_machine.specs.Laws.{IsRun, state_after, given_to, handed_to}
use Rattle.fs_machine.specs.Turned.{IsJournal, names}
use Rattle.fs_machine.specs.Carried.{closes_sent, is_sent, shuts, HasCome, is_shut_at, Carries}
use Rattle.fs_machine.proofs.FramesLaws.{handed_first, handed_sent}
use Rattle.fs_machine.proofs.RefusalLemmas.{full_refused}
use Rattle.fs_machine.proofs.OrderLemmas.{not_full}
use Rattle.fs_machine.proofs.RunLemmas.{runs_both}
use Rattle.fs_machine.proofs.QuietLemmas.{carries, does, takes, takes_frame}
use Rattle.fs_conn.specs.declared.end.End.{End}
use Rattle.fs_conn.specs.declared.end.End.TheVariants as ends
use Rattle.fs_conn.specs.declared.stop.Stop.{Stop}
use Rattle.fs_conn.specs.declared.stop.Stop.TheVariants.{Over, OutOfMemory, WriteFault}
use Rattle.fs_conn.specs.Play.{end_by}
use Rattle.fs_conn.proofs.NoteLemmas.{owned_other}
use Rattle.fs_conn.specs.Owning.{entry_at, Entered, Refused}
use Rattle.fs_conn.specs.Talks.{Point, point, bytes_given, bytes_handed, MadeAt, Gains, FrontWritten, PartedIn, FullIn, PartedEnd, EarlyEnd}
use Rattle.fs_conn.specs.Talks.{IsGivenUp, end_unclosed, StopDid, Idles, Base, Holds, HasEnded, HasStopped, GivesUp, Tries, Takes, Closes}
use Rattle.fs_conn.specs.Talks.{Departs, Hangs}

-- ---- fronts of journals

pub parted_up : (config : Configuration) (conn : ℕ) (log log' : List Entry) (why : Parting) → IsPrefix log log' →
    PartedIn config conn log why → PartedIn config conn log' why
parted_up config conn log log' why pre p = record {
  before = p.before;
  front = prefix_trans p.before log log' p.front pre;
  parted = p.parted;
}

pub parted_end_up : (config : Configuration) (conn : ℕ) (log log' : List Entry) (end : End) → IsPrefix log log' →
    PartedEnd config conn log end → PartedEnd config conn log' end
parted_end_up config conn log log' ends.Exit pre p = parted_up config conn log log' _ pre p
parted_end_up config conn log log' ends.AuthRefused pre p = parted_up config conn log log' _ pre p
parted_end_up config conn log log' ends.Stopped pre (inl p) = inl (parted_up config conn log log' _ pre p)
parted_end_up config conn log log' ends.Stopped pre (inr p) = inr (parted_up config conn log log' _ pre p)
parted_end_up config conn log log' _ pre p = absurd p

pub full_up : (config : Configuration) (log log' : List Entry) (cost limit : ℕ) → IsPrefix log log' → FullIn config log cost limit →
    FullIn config log' cost limit
full_up config log log' cost limit pre f = record {
  before = f.before;
  front = prefix_trans f.before log log' f.front pre;
  full = f.full;
}

early_up : (config : Configuration) (log log' : List Entry) (end : End) → IsPrefix log log' → EarlyEnd config log end →
    EarlyEnd config log' end
early_up config log log' (ends.JournalFull cost limit) pre e = full_up config log log' cost limit pre e
early_up config log log' _ pre e = absurd e

-- a closing as failed is refused only where the connection is closed or the journal is full
closed_or_full : (s : Switch) (conn moment : ℕ) (why : Refusal) → refusal_of s (entry_at moment (Close conn Failed)) ≡ Some why →
    (is_closed (phase_at s conn) ≡ true) ⊎ (is_full s ≡ true)
unfolding refusal_of
closed_or_full s conn moment why is = by (is_full s) refl (is_closed (phase_at s conn)) refl is
  where
    by : (full : Bool) → is_full s ≡ full → (closed : Bool) → is_closed (phase_at s conn) ≡ closed →
        refused_where full (refusal.JournalFull s.cost s.settings.journal_limit) (refused_where closed refusal.Gone None) ≡ Some why
        → (is_closed (phase_at s conn) ≡ true) ⊎ (is_full s ≡ true)
    by true full closed at e = inr full
    by false full true at e = inl at
    by false full false at e = absurd (cc)

-- behind a full journal no entry comes
pub still_full : (config : Configuration) (log log' more : List Entry) → log ++ more ≡ log' → IsJournal config log' →
    is_full (state_after config log) ≡ true → is_full (state_after config log') ≡ true
still_full config log log' [] split run full =
    subst (λ (j : List Entry). is_full (state_after config j) ≡ true) (sym (append-nil log) ∙ split) full
still_full config log log' (entry ∷ more) split run full =
    let both = runs_both (empty config) log (entry ∷ more) (subst (λ (j : List Entry). IsRun config j) (sym split) run.run) in
    let left : true ≡ false = sym full ∙ not_full (state_after config log) entry both.1.0 in absurd (cc left)

-- ---- what was written

pub front_longer : (old new : Output) (bytes more : List ℕ) → FrontWritten old new bytes → FrontWritten old new (bytes ++ more)
front_longer old new bytes more w = record {
  front = w.front;
  back = w.back ++ more;
  split = ap (λ xs. xs ++ more) w.split ∙ append_assoc w.front w.back more;
  writes = w.writes;
}

did_longer : (config : Configuration) (conn : ℕ) (log log' : List Entry) (out0 out1 : Output) (stop : Stop) (more : List Text) →
    IsPrefix log log' → given_to conn config log' ≡ given_to conn config log ++ more → StopDid config conn log out0 out1 stop
    → StopDid config conn log' out0 out1 stop
did_longer config conn log log' out0 out1 stop more pre given did = by stop did
  where
    bytes : bytes_given config conn log' ≡ bytes_given config conn log ++ concat more
    bytes = ap concat given ∙ concat-append (given_to conn config log) more

    front : FrontWritten out0 out1 (bytes_given config conn log) → FrontWritten out0 out1 (bytes_given config conn log')
    front w =
        subst (λ (xs : List ℕ). FrontWritten out0 out1 xs) (sym bytes)
        (front_longer out0 out1 (bytes_given config conn log) (concat more) w)

    by : (stop : Stop) → StopDid config conn log out0 out1 stop → StopDid config conn log' out0 out1 stop
    by (Over end) did = (front did.0, early_up config log log' end pre did.1)
    by OutOfMemory did = front did
    by WriteFault did =
        subst (λ (xs : List ℕ). Stopped out0 out1 xs) (sym bytes)
        (stopped_sooner out0 out1 (bytes_given config conn log) (concat more) did)

pub or_none : (a b : Bool) → a ≡ false → (a || b) ≡ b
or_none true b is = absurd (cc)
or_none false b is = refl

-- what was handed out is a front of what was given
handed_front : (config : Configuration) (conn : ℕ) (log : List Entry) → IsJournal config log →
    (more : List ℕ) × (bytes_given config conn log ≡ bytes_handed config conn log ++ more)
handed_front config conn log run =
    let first = handed_first config log conn run.within.settings.journal.1 run.run in
    (concat first.0, ap concat first.1 ∙ concat-append (handed_to conn config log) first.0)

module _ (may : ℕ → Type 0) (config : Configuration) (conn : ℕ) where
  -- ---- places

  made_up : (log log' : List Entry) (places : List ℕ) → IsPrefix log log' → AllByRecursion (MadeAt may conn log) places →
      AllByRecursion (MadeAt may conn log') places
  made_up log log' [] pre all = tt
  made_up log log' (p ∷ places) pre all =
      let at = all.0 in
      ((at.0, prefix_get log log' p at.0 pre at.1, at.2, at.3), made_up log log' places pre all.1)

  made_push : (log : List Entry) (places : List ℕ) (p : ℕ) → AllByRecursion (MadeAt may conn log) places → MadeAt may conn log p →
      AllByRecursion (MadeAt may conn log) (places ++ p ∷ [])
  made_push log [] p all at = (at, tt)
  made_push log (q ∷ places) p all at = (all.0, made_push log places p all.1 at)

  gains_up : (mine0 : List ℕ) (log log' : List Entry) (mine mine' : List ℕ) → IsPrefix log log' → mine' ≡ mine →
      Gains may conn mine0 log mine → Gains may conn mine0 log' mine'
  gains_up mine0 log log' mine mine' pre same g = record {
    places = g.places;
    more = same ∙ g.more;
    each = made_up log log' g.places pre g.each;
  }

  pub gains_push : (mine0 : List ℕ) (before : List Entry) (entry : Entry) (mine mine' : List ℕ) → names entry ≡ Some conn →
      may entry.moment → mine' ≡ mine ++ length before ∷ [] → Gains may conn mine0 before mine
      → Gains may conn mine0 (before ++ entry ∷ []) mine'
  gains_push mine0 before entry mine mine' named told more g = record {
    places = g.places ++ length before ∷ [];
    more = more ∙ ap (λ ps. ps ++ length before ∷ []) g.more ∙ append_assoc mine0 g.places (length before ∷ []);
    each =
        made_push (before ++ entry ∷ []) g.places (length before)
        (made_up before (before ++ entry ∷ []) g.places (entry ∷ [], refl) g.each)
        (entry, last_get before entry, named, told);
  }

  -- ---- others enter

  pub carried : (log log' : List Entry) (mine mine' : List ℕ) → HasCome conn (state_after config log) →
      Idles config conn log mine log' mine' → Carries conn config log log'
  carried log log' mine mine' come idle = carries conn config log log' idle.run come idle.quiet

  pub base_quiet : (from : Point) (log log' : List Entry) (mine mine' : List ℕ) (in1 : Input) (out1 : Output) (rest : List ℕ) →
      Idles config conn log mine log' mine' → Base may config conn from (point log mine in1 out1) rest
      → Base may config conn from (point log' mine' in1 out1) rest
  base_quiet from log log' mine mine' in1 out1 rest idle b =
      let k = carried log log' mine mine' b.come idle in
      let pre : IsPrefix log log' = (idle.quiet.more, idle.quiet.split) in
      record {
        later = prefix_trans from.log log log' b.later pre;
        gains = gains_up from.mine log log' mine mine' pre idle.same b.gains;
        run = idle.run;
        come = k.come;
        are_blocks = subst (λ (bs : List (List ℕ)). AllByRecursion IsBlock bs) (sym k.commands) b.are_blocks;
        reads = subst (λ (bs : List (List ℕ)). Reads from.input in1 (concat bs ++ rest)) (sym k.commands) b.reads;
      }

  pub holds_quiet : (from : Point) (log log' : List Entry) (mine mine' : List ℕ) (in1 : Input) (out1 : Output) (rest : List ℕ) →
      Idles config conn log mine log' mine' → Holds may config conn from (point log mine in1 out1) rest
      → Holds may config conn from (point log' mine' in1 out1) rest
  holds_quiet from log log' mine mine' in1 out1 rest idle h =
      let k = carried log log' mine mine' h.base.come idle in
      record {
        base = base_quiet from log log' mine mine' in1 out1 rest idle h.base;
        live = k.shut ∙ h.live;
        unsent = k.sent ∙ h.unsent;
        written = subst (λ (fs : List Text). Writes from.output out1 (concat fs)) (sym k.handed) h.written;
      }

  pub stops_quiet : (from : Point) (log log' : List Entry) (mine mine' : List ℕ) (in1 : Input) (out1 : Output) (rest : List ℕ)
      (stop : Stop) → Idles config conn log mine log' mine' → HasStopped may config conn from (point log mine in1 out1) rest stop
      → HasStopped may config conn from (point log' mine' in1 out1) rest stop
  stops_quiet from log log' mine mine' in1 out1 rest stop idle s =
      let k = carried log log' mine mine' s.base.come idle in
      record {
        base = base_quiet from log log' mine mine' in1 out1 rest idle s.base;
        unsent = k.sent ∙ s.unsent;
        did = did_longer config conn log log' from.output out1 stop k.more (idle.quiet.more, idle.quiet.split) k.given s.did;
      }

  -- what a look tells
  pub idle_by : (log log' : List Entry) (mine mine' : List ℕ) → Quiet names conn log log' → mine' ≡ mine → IsJournal config log' →
      Idles config conn log mine log' mine'
  idle_by log log' mine mine' quiet same run = record { quiet = quiet; same = same; run = run }

  -- ---- it stops

  front_handed : (from : Point) (log : List Entry) (mine : List ℕ) (in1 : Input) (out1 : Output) (rest : List ℕ) →
      Holds may config conn from (point log mine in1 out1) rest → FrontWritten from.output out1 (bytes_given config conn log)
  front_handed from log mine in1 out1 rest h =
      let front = handed_front config conn log h.base.run in
      record { front = bytes_handed config conn log; back = front.0; split = front.1; writes = h.written }

  pub stops_holds : (from : Point) (log : List Entry) (mine : List ℕ) (in1 : Input) (out1 : Output) (rest : List ℕ) →
      Holds may config conn from (point log mine in1 out1) rest → HasStopped may config conn from (point log mine in1 out1) rest OutOfMemory
  stops_holds from log mine in1 out1 rest h = record {
    base = h.base;
    unsent = h.unsent;
    did = front_handed from log mine in1 out1 rest h;
  }

  stops_early : (from : Point) (log : List Entry) (mine : List ℕ) (in1 : Input) (out1 : Output) (rest : List ℕ) (end : End) →
      EarlyEnd config log end → Holds may config conn from (point log mine in1 out1) rest
      → HasStopped may config conn from (point log mine in1 out1) rest (Over end)
  stops_early from log mine in1 out1 rest end early h = record {
    base = h.base;
    unsent = h.unsent;
    did = (front_handed from log mine in1 out1 rest h, early);
  }

  pub stops_tried : (from : Point) (log log' : List Entry) (mine mine' : List ℕ) (in1 : Input) (out1 : Output) (rest : List ℕ) (act : Act)
      (stop : Stop) → Tries may config conn log mine log' mine' act (Err stop) → Holds may config conn from (point log mine in1 out1) rest
      → HasStopped may config conn from (point log' mine' in1 out1) rest stop
  stops_tried from log log' mine mine' in1 out1 rest act (Over end) tried h =
      stops_early from log' mine' in1 out1 rest end tried.1 (holds_quiet from log log' mine mine' in1 out1 rest tried.0 h)
  stops_tried from log log' mine mine' in1 out1 rest act OutOfMemory tried h =
      stops_holds from log' mine' in1 out1 rest (holds_quiet from log log' mine mine' in1 out1 rest tried h)
  stops_tried from log log' mine mine' in1 out1 rest act WriteFault tried h = absurd tried

  pub takes_tried : (log log' : List Entry) (mine mine' : List ℕ) (stop : Stop) →
      Tries may config conn log mine log' mine' (Take conn) (Err stop) → Takes may config conn log mine log' mine' (Err stop)
  takes_tried log log' mine mine' (Over end) tried = tried
  takes_tried log log' mine mine' OutOfMemory tried = tried
  takes_tried log log' mine mine' WriteFault tried = tried

  pub stops_taken : (from : Point) (log log' : List Entry) (mine mine' : List ℕ) (in1 : Input) (out1 : Output) (rest : List ℕ)
      (stop : Stop) → Takes may config conn log mine log' mine' (Err stop) → Holds may config conn from (point log mine in1 out1) rest
      → HasStopped may config conn from (point log' mine' in1 out1) rest stop
  stops_taken from log log' mine mine' in1 out1 rest (Over end) tried h = stops_tried from log log' mine mine' in1 out1 rest (Take conn)
      (Over end) tried h
  stops_taken from log log' mine mine' in1 out1 rest OutOfMemory tried h = stops_tried from log log' mine mine' in1 out1 rest (Take conn)
      OutOfMemory tried h
  stops_taken from log log' mine mine' in1 out1 rest WriteFault tried h = absurd tried

  -- what an entry that was refused came to
  pub refused_full : (log log' : List Entry) (mine mine' : List ℕ) (act : Act) (cost limit : ℕ) → actor_of act ≡ Some conn →
      Refused config conn log mine log' mine' act (refusal.JournalFull cost limit)
      → Idles config conn log mine log' mine' × FullIn config log' cost limit
  refused_full log log' mine mine' act cost limit named r =
      let full =
      full_refused (state_after config log') (entry_at r.moment act) cost limit
      (r.refuses.cause (λ same. cc)) in (
        record { quiet = r.quiet; same = r.same; run = r.refuses.before },
        record {
          before = log';
          front = prefix_self log';
          full = record {
            full = sym (ap (λ load. cond load (is_full_for_load (state_after config log')) (is_full (state_after config log')))
                (owned_other act conn named)) ∙ full.0;
            cost_is = full.1;
            limit_is = full.2;
          };
        },
      )

  pub refused_idles : (log log' : List Entry) (mine mine' : List ℕ) (act : Act) (why : Refusal) →
      Refused config conn log mine log' mine' act why → Idles config conn log mine log' mine'
  refused_idles log log' mine mine' act why r = record { quiet = r.quiet; same = r.same; run = r.refuses.before }

  -- a Take is answered by a frame
  pub is_frame : (log log' : List Entry) (mine mine' : List ℕ) (answer : Reply) →
      Entered may config conn log mine log' mine' (Take conn) answer → (frame : Text) × (answer ≡ reply.Frame frame)
  is_frame log log' mine mine' answer n = takes_frame conn n.moment config n.before answer n.answers

  -- ---- an entry of its own that is no command

  pub record After (from : Point) (log' : List Entry) (mine' : List ℕ) (in1 : Input) (out1 : Output) (rest : List ℕ) (act : Act)
      (before : List Entry) : Type 0 where
    pub base : Base may config conn from (point log' mine' in1 out1) rest
    pub shut : is_shut_at config log' conn ≡ shuts act
    pub sent : is_sent conn log' ≡ closes_sent conn act
    pub handed : handed_to conn config log' ≡ handed_to conn config before ++ handed_in conn act (state_after config before)
    pub more : List Text
    pub given : given_to conn config log' ≡ given_to conn config before ++ more

  pub idle_before : (log log' : List Entry) (mine mine' : List ℕ) (act : Act) (answer : Reply) →
      (n : Entered may config conn log mine log' mine' act answer) → Idles config conn log mine n.before mine
  idle_before log log' mine mine' act answer n = record { quiet = n.quiet; same = refl; run = n.answers.before }

  pub after : (from : Point) (log log' : List Entry) (mine mine' : List ℕ) (in1 : Input) (out1 : Output) (rest : List ℕ) (act : Act)
      (answer : Reply) → actor_of act ≡ Some conn → command_in conn act ≡ []
      → (n : Entered may config conn log mine log' mine' act answer) → Base may config conn from (point log mine in1 out1) rest
      → is_sent conn log ≡ false → After from log' mine' in1 out1 rest act n.before
  after from log log' mine mine' in1 out1 rest act answer named none n b unsent =
      let k = carried log n.before mine mine b.come (idle_before log log' mine mine' act answer n) in
      let now = base_quiet from log n.before mine mine in1 out1 rest (idle_before log log' mine mine' act answer n) b in
      let e : Entry = entry_at n.moment act in
      let d = does conn config n.before e answer n.answers now.come named in
      let same : commands_of conn (n.before ++ e ∷ []) ≡ commands_of conn n.before =
      d.commands ∙ ap (λ bs. commands_of conn n.before ++ bs) none ∙ append-nil (commands_of conn n.before) in
      let P : List Entry → Type 0 = λ j. After from j mine' in1 out1 rest act n.before in
      subst P n.sees (record {
        base = record {
          later = prefix_trans from.log n.before (n.before ++ e ∷ []) now.later (e ∷ [], refl);
          gains = gains_push from.mine n.before e mine mine' named n.told n.more now.gains;
          run = d.run;
          come = d.come;
          are_blocks = subst (λ (bs : List (List ℕ)). AllByRecursion IsBlock bs) (sym same) now.are_blocks;
          reads = subst (λ (bs : List (List ℕ)). Reads from.input in1 (concat bs ++ rest)) (sym same) now.reads;
        };
        shut = d.shut;
        sent = d.sent ∙ or_none (is_sent conn n.before) (closes_sent conn act) (k.sent ∙ unsent);
        handed = d.handed;
        more = d.more;
        given = d.given;
      })

  -- the end of the input was entered
  pub input_ended : (from : Point) (log log' : List Entry) (mine mine' : List ℕ) (in1 : Input) (out1 : Output) (rest : List ℕ)
      (answer : Reply) → Entered may config conn log mine log' mine' (Close conn EndOfInput) answer
      → Holds may config conn from (point log mine in1 out1) rest → Holds may config conn from (point log' mine' in1 out1) rest
  input_ended from log log' mine mine' in1 out1 rest answer n h =
      let now = holds_quiet from log n.before mine mine in1 out1 rest (idle_before log log' mine mine' _ answer n) h in
      let a = after from log log' mine mine' in1 out1 rest (Close conn EndOfInput) answer refl refl n h.base h.unsent in
      record {
        base = a.base;
        live = a.shut;
        unsent = a.sent;
        written =
            subst (λ (fs : List Text). Writes from.output out1 (concat fs))
            (sym (a.handed ∙ append-nil (handed_to conn config n.before))) now.written;
      }

  -- a frame was taken
  one_more : (frames : List Text) (frame : Text) → concat (frames ++ frame ∷ []) ≡ concat frames ++ frame
  one_more frames frame = concat-append frames (frame ∷ []) ∙ ap (λ xs. concat frames ++ xs) (append-nil frame)

  taken_bytes : (from : Point) (log log' : List Entry) (mine mine' : List ℕ) (in1 : Input) (out1 : Output) (rest frame : List ℕ) →
      (n : Entered may config conn log mine log' mine' (Take conn) (reply.Frame frame))
      → After from log' mine' in1 out1 rest (Take conn) n.before
      → bytes_handed config conn log' ≡ bytes_handed config conn n.before ++ frame
  taken_bytes from log log' mine mine' in1 out1 rest frame n a =
      ap concat (a.handed ∙ ap (λ fs. handed_to conn config n.before ++ fs) (takes conn n.moment config n.before frame n.answers))
      ∙ one_more (handed_to conn config n.before) frame

  pub frame_written : (from : Point) (log log' : List Entry) (mine mine' : List ℕ) (in1 : Input) (out1 out2 : Output)
      (rest frame : List ℕ) → Entered may config conn log mine log' mine' (Take conn) (reply.Frame frame)
      → Holds may config conn from (point log mine in1 out1) rest → Writes out1 out2 frame
      → Holds may config conn from (point log' mine' in1 out2) rest
  frame_written from log log' mine mine' in1 out1 out2 rest frame n h wrote =
      let now = holds_quiet from log n.before mine mine in1 out1 rest (idle_before log log' mine mine' _ _ n) h in
      let a = after from log log' mine mine' in1 out1 rest (Take conn) (reply.Frame frame) refl refl n h.base h.unsent in
      record {
        base = record {
          later = a.base.later;
          gains = a.base.gains;
          run = a.base.run;
          come = a.base.come;
          are_blocks = a.base.are_blocks;
          reads = a.base.reads;
        };
        live = a.shut;
        unsent = a.sent;
        written =
            subst (λ (xs : List ℕ). Writes from.output out2 xs) (sym (taken_bytes from log log' mine mine' in1 out1 rest frame n a))
            (writes_both from.output out1 out2 (bytes_handed config conn n.before) frame now.written wrote);
      }

  pub frame_failed : (from : Point) (log log' : List Entry) (mine mine' : List ℕ) (in1 : Input) (out1 out2 : Output)
      (rest frame : List ℕ) → Entered may config conn log mine log' mine' (Take conn) (reply.Frame frame)
      → Holds may config conn from (point log mine in1 out1) rest → Stopped out1 out2 frame
      → HasStopped may config conn from (point log' mine' in1 out2) rest WriteFault
  frame_failed from log log' mine mine' in1 out1 out2 rest frame n h stopped =
      let now = holds_quiet from log n.before mine mine in1 out1 rest (idle_before log log' mine mine' _ _ n) h in
      let a = after from log log' mine mine' in1 out1 rest (Take conn) (reply.Frame frame) refl refl n h.base h.unsent in
      let front = handed_front config conn log' a.base.run in
      let bytes : bytes_given config conn log' ≡ (bytes_handed config conn n.before ++ frame) ++ front.0 =
      front.1 ∙ ap (λ xs. xs ++ front.0) (taken_bytes from log log' mine mine' in1 out1 rest frame n a) in
      record {
        base = record {
          later = a.base.later;
          gains = a.base.gains;
          run = a.base.run;
          come = a.base.come;
          are_blocks = a.base.are_blocks;
          reads = a.base.reads;
        };
        unsent = a.sent;
        did =
            subst (λ (xs : List ℕ). Stopped from.output out2 xs) (sym bytes)
            (stopped_sooner from.output out2 (bytes_handed config conn n.before ++ frame) front.0
            (stopped_later from.output out1 out2 (bytes_handed config conn n.before) frame now.written stopped));
      }

  -- it was closed, of which all was sent
  pub finishes : (from : Point) (log log' : List Entry) (mine mine' : List ℕ) (in1 : Input) (out1 : Output) (rest : List ℕ)
      (answer : Reply) → Entered may config conn log mine log' mine' (Close conn Sent) answer
      → Holds may config conn from (point log mine in1 out1) rest → HasEnded may config conn from (point log' mine' in1 out1) rest
  finishes from log log' mine mine' in1 out1 rest answer n h =
      let now = holds_quiet from log n.before mine mine in1 out1 rest (idle_before log log' mine mine' _ answer n) h in
      let a = after from log log' mine mine' in1 out1 rest (Close conn Sent) answer refl refl n h.base h.unsent in
      let all : given_to conn config log' ≡ handed_to conn config log' =
      subst (λ (j : List Entry). IsJournal config j → given_to conn config j ≡ handed_to conn config j) n.sees
      (λ (run : IsJournal config (n.before ++ entry_at n.moment (Close conn Sent) ∷ [])).
      handed_sent config n.before n.moment conn run.within.settings.journal.1 run.run) a.base.run in
      record {
        base = a.base;
        sent = a.sent ∙ eq-eqb conn conn refl;
        shut = a.shut;
        written =
            subst (λ (fs : List Text). Writes from.output out1 (concat fs))
            (sym (all ∙ a.handed ∙ append-nil (handed_to conn config n.before))) now.written;
      }

  -- it was closed as failed
  pub gave_up_entered : (from : Point) (log log' : List Entry) (mine mine' : List ℕ) (in1 : Input) (out1 : Output) (rest : List ℕ)
      (answer : Reply) → Entered may config conn log mine log' mine' (Close conn Failed) answer
      → HasStopped may config conn from (point log mine in1 out1) rest WriteFault
      → GivesUp may config conn from (point log' mine' in1 out1) rest ends.WriteFault
  gave_up_entered from log log' mine mine' in1 out1 rest answer n s =
      let now = stops_quiet from log n.before mine mine in1 out1 rest WriteFault (idle_before log log' mine mine' _ answer n) s in
      let a = after from log log' mine mine' in1 out1 rest (Close conn Failed) answer refl refl n s.base s.unsent in (
        record {
          base = a.base;
          unsent = a.sent;
          did =
              did_longer config conn n.before log' from.output out1 WriteFault a.more
              (entry_at n.moment (Close conn Failed) ∷ [], n.sees) a.given now.did;
        },
        inl a.shut,
      )

  -- that was refused
  refused_closed : (log log' : List Entry) (mine mine' : List ℕ) (why : Refusal) → why ≢ refusal.Memory →
      Refused config conn log mine log' mine' (Close conn Failed) why → IsGivenUp config conn log'
  refused_closed log log' mine mine' why other r = closed_or_full (state_after config log') conn r.moment why (r.refuses.cause other)

  pub gave_up_refused : (from : Point) (log log' : List Entry) (mine mine' : List ℕ) (in1 : Input) (out1 : Output) (rest : List ℕ)
      (why : Refusal) → Refused config conn log mine log' mine' (Close conn Failed) why
      → HasStopped may config conn from (point log mine in1 out1) rest WriteFault
      → GivesUp may config conn from (point log' mine' in1 out1) rest (end_unclosed why)
  gave_up_refused from log log' mine mine' in1 out1 rest why r s =
      by why r (stops_quiet from log log' mine mine' in1 out1 rest WriteFault (refused_idles log log' mine mine' _ why r) s)
    where
      by : (why : Refusal) → Refused config conn log mine log' mine' (Close conn Failed) why
          → HasStopped may config conn from (point log' mine' in1 out1) rest WriteFault
          → GivesUp may config conn from (point log' mine' in1 out1) rest (end_unclosed why)
      by refusal.Memory r s = s
      by (refusal.JournalFull cost limit) r s = (s, refused_closed log log' mine mine' _ (λ same. cc) r)
      by refusal.Gone r s = (s, refused_closed log log' mine mine' _ (λ same. cc) r)
      by (refusal.TooMany live) r s = (s, refused_closed log log' mine mine' _ (λ same. cc) r)
      by (refusal.Busy since) r s = (s, refused_closed log log' mine mine' _ (λ same. cc) r)
      by refusal.Empty r s = (s, refused_closed log log' mine mine' _ (λ same. cc) r)
      by (refusal.Unsent queued owed) r s = (s, refused_closed log log' mine mine' _ (λ same. cc) r)
      by (refusal.NotDue next) r s = (s, refused_closed log log' mine mine' _ (λ same. cc) r)

  -- ---- how a connection is closed

  -- the same conversation, as it goes on from here
  rebased : (from : Point) (log : List Entry) (mine : List ℕ) (in1 : Input) (out1 : Output) (rest : List ℕ) →
      Holds may config conn from (point log mine in1 out1) rest
      → Holds may config conn (point log mine from.input from.output) (point log mine in1 out1) rest
  rebased from log mine in1 out1 rest h = record {
    base = record {
      later = prefix_self log;
      gains = record { places = []; more = sym (append-nil mine); each = tt };
      run = h.base.run;
      come = h.base.come;
      are_blocks = h.base.are_blocks;
      reads = h.base.reads;
    };
    live = h.live;
    unsent = h.unsent;
    written = h.written;
  }

  -- it had parted, and was waited out
  pub departs_closed : (from : Point) (log log' : List Entry) (mine mine' : List ℕ) (in1 in2 : Input) (out1 out2 : Output)
      (rest : List ℕ) (end : End) (result : Result End Stop) → PartedEnd config conn log end
      → ((from : Point) (rest : List ℕ) → Holds may config conn from (point log mine in1 out1) rest
      → Closes may config conn end from (point log' mine' in2 out2) rest result)
      → Holds may config conn from (point log mine in1 out1) rest
      → Departs may config conn from (point log' mine' in2 out2) rest result
  departs_closed from log log' mine mine' in1 in2 out1 out2 rest end (Ok e) parted closes h =
      let c = closes from rest h in
      let r = closes (point log mine from.input from.output) rest (rebased from log mine in1 out1 rest h) in
      (subst (λ (x : End). PartedEnd config conn log' x) (sym c.0) (parted_end_up config conn log log' end r.1.base.later parted), c.1)
  departs_closed from log log' mine mine' in1 in2 out1 out2 rest end (Err stop) parted closes h = closes from rest h

  pub parted_by : (log : List Entry) (end : End) → end_by (parting_at (state_after config log) conn) ≡ Some end →
      PartedEnd config conn log end
  parted_by log end is = by (parting_at (state_after config log) conn) refl is
    where
      by : (found : Option Parting) → parting_at (state_after config log) conn ≡ found → end_by found ≡ Some end →
          PartedEnd config conn log end
      by None at e = absurd (cc)
      by (Some partings.Exit) at e =
          let same : ends.Exit ≡ end = cc in
          subst (λ (x : End). PartedEnd config conn log x) same (record { before = log; front = prefix_self log; parted = at })
      by (Some partings.AuthRefused) at e =
          let same : ends.AuthRefused ≡ end = cc in
          subst (λ (x : End). PartedEnd config conn log x) same (record { before = log; front = prefix_self log; parted = at })
      by (Some partings.Stopped) at e =
          let same : ends.Stopped ≡ end = cc in
          subst (λ (x : End). PartedEnd config conn log x) same (inl (record { before = log; front = prefix_self log; parted = at }))
      by (Some partings.ChannelLeft) at e =
          let same : ends.Stopped ≡ end = cc in
          subst (λ (x : End). PartedEnd config conn log x) same (inr (record { before = log; front = prefix_self log; parted = at }))
      by (Some partings.EndOfInput) at e = absurd (cc)

  -- its input had ended, and it was waited out
  pub hangs_closed : (from : Point) (log log' : List Entry) (mine mine' : List ℕ) (in1 in2 : Input) (out1 out2 : Output)
      (rest : List ℕ) (end : End) (result : Result End Stop) → PartedIn config conn log partings.EndOfInput
      → ((from : Point) (rest : List ℕ) → Holds may config conn from (point log mine in1 out1) rest
      → Closes may config conn end from (point log' mine' in2 out2) rest result)
      → Holds may config conn from (point log mine in1 out1) rest
      → Hangs may config conn end from (point log' mine' in2 out2) rest result
  hangs_closed from log log' mine mine' in1 in2 out1 out2 rest end (Ok e) parted closes h =
      let c = closes from rest h in
      let r = closes (point log mine from.input from.output) rest (rebased from log mine in1 out1 rest h) in
      (inl (c.0, parted_up config conn log log' partings.EndOfInput r.1.base.later parted), c.1)
  hangs_closed from log log' mine mine' in1 in2 out1 out2 rest end (Err stop) parted closes h = closes from rest h

  pub hangs_departed : (from now : Point) (rest : List ℕ) (end : End) (result : Result End Stop) →
      Departs may config conn from now rest result → Hangs may config conn end from now rest result
  hangs_departed from now rest end (Ok e) d = (inr d.0, d.1)
  hangs_departed from now rest end (Err stop) d = d
