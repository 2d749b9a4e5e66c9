-- What an entry comes to whose draft was brought so far step by step, and which contexts come into force by it.
use Rattle.std.proofs.Common.{◌≡◌, ℕ, List, Option, None, Some, false, unwrap_or, refl, sym, ap, ◌∙◌}
use Rattle.fs_text.specs.Texts.{Text}
use Rattle.fs_doc.specs.Dialplans.{Context}
use Rattle.fs_state.specs.declared.delta.Delta.{Delta}
use Rattle.fs_state.specs.Drafts.{after}
use Rattle.fs_state.specs.Posting.{with_posts}
use Rattle.fs_state.specs.declared.conn.Conn.{Conn}
use Rattle.fs_state.specs.declared.job.Asker.{Asker}
use Rattle.fs_state.specs.declared.job.Asker.TheVariants as asker
use Rattle.fs_state.specs.Switch.{Switch, at_moment, after_entry, conn_of, without_job}
use Rattle.fs_machine.specs.declared.entry.Act.{Act}
use Rattle.fs_machine.specs.declared.reply.Reply.{Reply}
use Rattle.fs_machine.specs.Connections.{conn_changed_from, not_owed}
use Rattle.fs_machine.specs.Controlling.{after_leavings}
use Rattle.fs_machine.specs.Entries.{cost_of, is_load}
use Rattle.fs_machine.specs.Owing.{after_job_end}
use Rattle.fs_machine.specs.Step.{Acted, acted, act_done, step, ComesTo}
use Rattle.fs_machine.proofs.InForceLemmas.{acted_in_force}

-- an act is done once the connections have parted that are to part behind it
pub left_comes : (act : Act) (began worked left : Switch) (reply : Reply) → ComesTo (acted act began) worked reply →
    left ≡ after_leavings worked → ComesTo (act_done act began) left reply
left_comes act began worked left reply works leaves =
    ap (λ (a : Acted). record { state = after_leavings a.state; reply = a.reply }) works
    ∙ ap (λ (t : Switch). record { state = t; reply = reply }) (sym leaves)

-- the changes of a draft are those of what was posted over it
posted_changes : (s base done posted : Switch) (delta : Delta) → base ≡ s → posted ≡ with_posts base done → after base delta ≡ posted →
    with_posts s done ≡ after s delta
posted_changes s base done posted delta based posts made =
    ap (λ (b : Switch). with_posts b done) (sym based) ∙ (sym posts ∙ (sym made ∙ ap (λ (b : Switch). after b delta) based))

-- what an entry comes to
pub entered_steps : (act : Act) (s base began done posted : Switch) (now : ℕ) (reply : Reply) (delta : Delta) → base ≡ s →
    began ≡ at_moment now s → ComesTo (act_done act began) done reply → posted ≡ with_posts base done → after base delta ≡ posted →
    step s (record { moment = now; act = act }) ≡ record { state = after_entry (cost_of act) (after s delta); reply = reply }
unfolding step
entered_steps act s base began done posted now reply delta based begins comes posts made =
    ap (λ (a : Acted). record { state = after_entry (cost_of act) (with_posts s a.state); reply = a.reply })
    (ap (act_done act) (sym begins) ∙ comes)
    ∙ ap (λ (t : Switch). record { state = after_entry (cost_of act) t; reply = reply })
    (posted_changes s base done posted delta based posts made)

-- ---- which contexts come into force

-- those of what was done, where it says whether others do
pub brought_contexts : (s base began done left posted : Switch) (now : ℕ) (delta : Delta) (others : Option (List Context)) → base ≡ s →
    began ≡ at_moment now s → unwrap_or others began.contexts ≡ done.contexts → left ≡ after_leavings done → posted ≡ with_posts base left →
    after base delta ≡ posted → unwrap_or others s.contexts ≡ (after s delta).contexts
brought_contexts s base began done left posted now delta others based begins brings leaves posts made =
    ap (λ (t : Switch). unwrap_or others t.contexts) (sym begins)
    ∙ (brings
    ∙ (ap (λ (t : Switch). t.contexts) (sym leaves)
    ∙ ap (λ (t : Switch). t.contexts) (posted_changes s base left posted delta based posts made)))

-- none where an entry notes no load
pub entered_contexts : (act : Act) (s base began done posted : Switch) (now : ℕ) (reply : Reply) (delta : Delta) → is_load act ≡ false →
    base ≡ s → began ≡ at_moment now s → ComesTo (act_done act began) done reply → posted ≡ with_posts base done →
    after base delta ≡ posted → s.contexts ≡ (after s delta).contexts
entered_contexts act s base began done posted now reply delta other based begins comes posts made =
    ap (λ (t : Switch). t.contexts) (sym begins)
    ∙ (sym (acted_in_force act began other).contexts
    ∙ (ap (λ (a : Acted). a.state.contexts) comes
    ∙ ap (λ (t : Switch). t.contexts) (posted_changes s base done posted delta based posts made)))

-- and none where a job ends
changed_contexts : (change : Conn → Conn) (number : ℕ) (found : Option Conn) (s : Switch) →
    (conn_changed_from change number found s).contexts ≡ s.contexts
changed_contexts change number None s = refl
changed_contexts change number (Some c) s = refl

pub ended_contexts : (number : ℕ) (who : Asker) (answer : Text) (s : Switch) → (after_job_end number who answer s).contexts ≡ s.contexts
ended_contexts number (asker.Conn conn) answer s =
    changed_contexts not_owed conn (conn_of (without_job number s) conn) (without_job number s)
ended_contexts number (asker.Background job) answer s = refl
