-- What an entry and a look tell the owner of a connection.
use Rattle.std.proofs.Common.{◌≡◌, ℕ, ◌<◌, List, [], ◌∷◌, ◌++◌, length, Option, Some, sym, ap, subst, ◌∙◌}
use mathlib.Core.List.{IsPrefix}
use Rattle.fs_doc.specs.Reading.{Configuration}
use Rattle.fs_book.specs.Counts.{times}
use Rattle.fs_book.specs.Opened.{Owned, Quiet}
use Rattle.fs_book.proofs.Opening.{owns_up, owns_more}
use Rattle.fs_book.proofs.Quiets.{quiet_submit, quiet_look}
use Rattle.fs_machine.specs.declared.entry.Entry.{Entry}
use Rattle.fs_machine.specs.declared.entry.Act.{Act}
use Rattle.fs_machine.specs.declared.reply.Reply.{Reply}
use Rattle.fs_machine.specs.declared.refusal.Refusal.{Refusal}
use Rattle.fs_machine.specs.Turned.{Answers, Refuses, opens, names}
use Rattle.fs_conn.specs.Owning.{OwnsConn, entry_at, Entered, Refused}

module _ (config : Configuration) (conn : ℕ) where
  -- it still owns the connection where its places are the same, and behind an entry
  pub owns_on : (mine mine' : List ℕ) (seen seen' : List Entry) → IsPrefix seen seen' → mine' ≡ mine → OwnsConn config conn seen mine →
      OwnsConn config conn seen' mine'
  owns_on mine mine' seen seen' pre same owns =
      subst (λ (ps : List ℕ). OwnsConn config conn seen' ps) (sym same) (owns_up opens config conn seen seen' mine pre owns)

  pub owns_entered : (mine mine' : List ℕ) (seen seen' : List Entry) (place : ℕ) → IsPrefix seen seen' → mine' ≡ mine ++ place ∷ [] →
      OwnsConn config conn seen mine → OwnsConn config conn seen' mine'
  owns_entered mine mine' seen seen' place pre more owns =
      subst (λ (ps : List ℕ). OwnsConn config conn seen' ps) (sym more)
      (owns_more opens config conn seen' mine place (owns_up opens config conn seen seen' mine pre owns))

  pub quiet_by : (start : Option Configuration) (mine mine' : List ℕ) (met' : List (List ℕ)) (seen seen' : List Entry) →
      start ≡ Some config → IsPrefix seen seen' → mine' ≡ mine → ((p : ℕ) → 0 < times p mine → p < length seen)
      → Owned opens names start (mine' ∷ met') seen' → OwnsConn config conn seen mine → Quiet names conn seen seen'
  quiet_by start mine mine' met' seen seen' is pre same below owned owns =
      quiet_look opens names config conn start mine met' seen seen' is pre below
      (subst (λ (ps : List ℕ). Owned opens names start (ps ∷ met') seen') same owned) owns

  pub entered_by : (may : ℕ → Type 0) (start : Option Configuration) (mine mine' : List ℕ) (met' : List (List ℕ))
      (seen seen' before : List Entry) (moment : ℕ) (act : Act) (place : ℕ) (answer : Reply) → start ≡ Some config → may moment
      → IsPrefix seen before → seen' ≡ before ++ entry_at moment act ∷ [] → place ≡ length before → mine' ≡ mine ++ place ∷ []
      → Answers config before (entry_at moment act) answer → ((p : ℕ) → 0 < times p mine → p < length seen)
      → Owned opens names start (mine' ∷ met') seen' → OwnsConn config conn seen mine
      → Entered may config conn seen mine seen' mine' act answer
  entered_by may start mine mine' met' seen seen' before moment act place answer is told pre sees at more answers below owned owns =
      let gained : mine' ≡ mine ++ length before ∷ [] = more ∙ ap (λ p. mine ++ p ∷ []) at in
      record {
        moment = moment;
        told = told;
        before = before;
        quiet =
            quiet_submit opens names config conn start mine met' seen before (entry_at moment act) is pre below
            (subst (λ (log : List Entry). Owned opens names start ((mine ++ length before ∷ []) ∷ met') log) sees
            (subst (λ (ps : List ℕ). Owned opens names start (ps ∷ met') seen') gained owned)) owns;
        sees = sym sees;
        more = gained;
        answers = answers;
      }

  pub refused_by : (start : Option Configuration) (mine mine' : List ℕ) (met' : List (List ℕ)) (seen seen' : List Entry) (moment : ℕ)
      (act : Act) (why : Refusal) → start ≡ Some config → IsPrefix seen seen' → mine' ≡ mine
      → Refuses config seen' (entry_at moment act) why → ((p : ℕ) → 0 < times p mine → p < length seen)
      → Owned opens names start (mine' ∷ met') seen' → OwnsConn config conn seen mine
      → Refused config conn seen mine seen' mine' act why
  refused_by start mine mine' met' seen seen' moment act why is pre same refuses below owned owns = record {
    moment = moment;
    quiet = quiet_by start mine mine' met' seen seen' is pre same below owned owns;
    same = same;
    refuses = refuses;
  }
