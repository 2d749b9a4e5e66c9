-- What comes of dialing a controller, by the link and by the reply to the entry.
use Rattle.std.proofs.Common.{◌≡◌, ℕ, Bool, true, false, List, Option, None, Some, inl, inr, refl, sym, ap, subst, ◌∙◌}
use Rattle.std.specs.Prelude.{is_some, is_none, IfSome}
use Rattle.std.proofs.lemmas.Option.{none-some}
use Rattle.fs_doc.specs.Reading.{Configuration}
use Rattle.fs_text.specs.Texts.{Text}
use Rattle.fs_state.specs.Switch.{Switch, is_full}
use Rattle.fs_machine.specs.declared.answer.Answer.{Answer}
use Rattle.fs_machine.specs.declared.entry.Entry.{Entry}
use Rattle.fs_machine.specs.declared.entry.Act.{Act}
use Rattle.fs_machine.specs.declared.entry.Act.TheVariants.{Dialed}
use Rattle.fs_machine.specs.declared.refusal.Refusal.{Refusal}
use Rattle.fs_machine.specs.declared.refusal.Refusal.TheVariants as refusal
use Rattle.fs_machine.specs.declared.reply.Reply.{Reply}
use Rattle.fs_machine.specs.declared.reply.Reply.TheVariants as reply
use Rattle.fs_machine.specs.Controlling.{dial_at}
use Rattle.fs_machine.specs.Step.{refusal_of, refused_where, IsRefusedFor}
use Rattle.fs_machine.specs.Turned.{opens}
use Rattle.fs_session.specs.Talking.{talked_by, talked, Counts, MayCount, Talks}
use Rattle.fs_session.specs.Working.{is_final, Gained}
use Rattle.fs_session.proofs.UnlinkedLemmas.{unlinked_opens_none}

-- a dial at most failed
pub may_count : (linked : Bool) (old new : ℕ) → Counts linked old new → MayCount old new
may_count true old new is = inl is
may_count false old new is = inr is

-- an entry of a dial that is refused, and not for good, finds a channel that waits for no controller
pub ceased : (s : Switch) (now slot : ℕ) (linked : Bool) (why : Refusal) →
    IsRefusedFor s (record { moment = now; act = Dialed slot linked }) why → is_final why ≡ false →
    (is_full s ≡ false) × (dial_at s slot ≡ None)
unfolding refusal_of
ceased s now slot linked why refused passing =
    by (is_full s) refl (dial_at s slot) refl (refused (λ same. absurd (cc (ap is_final same, passing))))
  where
    by : (full : Bool) → is_full s ≡ full → (text : Option Text) → dial_at s slot ≡ text →
        refused_where full (refusal.JournalFull s.cost s.settings.journal_limit) (refused_where (is_none text) (refusal.NotDue None) None)
        ≡ Some why → (is_full s ≡ false) × (dial_at s slot ≡ None)
    by true is text dials told =
        let same : refusal.JournalFull s.cost s.settings.journal_limit ≡ why = cc told in absurd (cc (ap is_final same, passing))
    by false is None dials told = (is, dials)
    by false is (Some text) dials told = absurd (none-some why told)

-- what came of an entry that was made
module _ (config : Configuration) (seen : List Entry) (mine : List ℕ) (seen' : List Entry) (mine' : List ℕ) (slot : ℕ) {L : Type 0}
    (IsNew : L → Type 0) (old new now place : ℕ) (answer : Answer) where
  pub told_talks : (link : Option L) → IfSome link IsNew → Counts (is_some link) old new →
      (gained : Gained config seen mine seen' mine' (λ done. done ≡ Dialed slot (is_some link)) now place) →
      answer.reply ≡ reply.Dialed (opens config gained.before (record { moment = now; act = gained.act })) →
      Talks config seen mine seen' mine' slot IsNew old new now (talked place answer link)
  told_talks link fresh counts gained reply_is =
      subst (λ (r : Reply). Talks config seen mine seen' mine' slot IsNew old new now (talked_by place r answer link)) (sym reply_is)
      (by link fresh counts gained (opens config gained.before (record { moment = now; act = gained.act })) refl)
    where
      by : (link : Option L) → IfSome link IsNew → Counts (is_some link) old new →
          (gained : Gained config seen mine seen' mine' (λ done. done ≡ Dialed slot (is_some link)) now place) → (number : Option ℕ) →
          opens config gained.before (record { moment = now; act = gained.act }) ≡ number →
          Talks config seen mine seen' mine' slot IsNew old new now (talked_by place (reply.Dialed number) answer link)
      by (Some link) fresh counts gained (Some conn) opened = record {
        place = place;
        tells = record { linked = true; gained = gained; counts = counts };
        opened = opened;
        linked = refl;
        is_new = fresh;
      }
      by (Some link) fresh counts gained None opened = record {
        tells = record { linked = true; gained = gained; counts = counts };
        none = opened;
      }
      by None fresh counts gained None opened = record {
        tells = record { linked = false; gained = gained; counts = counts };
        none = opened;
      }
      by None fresh counts gained (Some conn) opened =
          absurd
          (unlinked_opens_none config gained.before now slot conn
          (ap (λ (done : Act). opens config gained.before (record { moment = now; act = done })) (sym gained.is) ∙ opened))
