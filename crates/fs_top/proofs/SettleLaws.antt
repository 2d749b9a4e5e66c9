-- What a pass keeps that goes on without an entry of its own.
use Rattle.std.proofs.Common.{◌≡◌, ℕ, ◌<◌, List, ◌∷◌, length, Option, Some, sym, ap, subst, ◌∙◌}
use mathlib.Core.List.{IsPrefix}
use mathlib.Core.Option.{some}
use lib.ListN.{get_elem?}
use Rattle.fs_doc.specs.Reading.{Configuration}
use Rattle.fs_ports.specs.Ports.{Input, Output}
use Rattle.fs_book.specs.Counts.{times}
use Rattle.fs_book.specs.Opened.{Owned}
use Rattle.fs_machine.specs.declared.entry.Entry.{Entry}
use Rattle.fs_machine.specs.Turned.{IsJournal, opens, names}
use Rattle.fs_top.specs.declared.conns.Conn.{Conn}
use Rattle.fs_top.specs.Dials.{is_in_vain, vain_in}
use Rattle.fs_top.specs.Lanes.{Keeps}
use Rattle.fs_top.proofs.LaneLemmas.{keeps_away}
use Rattle.fs_top.proofs.PlaceLemmas.{count_up}

pub keeps_settled : {L : Type 0} (input : L → Input) (output : L → Output) (may : Entry → Type 0) (config : Configuration)
    (start : Option Configuration) (seen seen' : List Entry) (mine mine' : List ℕ) (met met' : List (List ℕ)) (conns : List (Conn L)) →
    start ≡ Some config → IsPrefix seen seen'
    → ((k : ℕ) (l : List ℕ) → get_elem? (mine ∷ met) k ≡ some l → (p : ℕ) → 0 < times p l → p < length seen)
    → Owned opens names start (mine' ∷ met') seen' → mine' ≡ mine → met' ≡ met → IsJournal config seen'
    → Keeps input output may config seen (mine ∷ met) conns → Keeps input output may config seen' (mine' ∷ met') conns
keeps_settled input output may config start seen seen' mine mine' met met' conns is later below owned mine_is met_is run keeps =
    let owned' =
    subst (λ (ps : List ℕ). Owned opens names start (ps ∷ met) seen') mine_is
    (subst (λ (ms : List (List ℕ)). Owned opens names start (mine' ∷ ms) seen') met_is owned) in
    subst (λ (ms : List (List ℕ)). Keeps input output may config seen' (mine' ∷ ms) conns) (sym met_is)
    (subst (λ (ps : List ℕ). Keeps input output may config seen' (ps ∷ met) conns) (sym mine_is)
    (keeps_away input output may config start seen seen' mine met conns is later below owned' run keeps))

-- nor does it tell of more dials in vain
pub vain_settled : (seen seen' : List Entry) (mine mine' : List ℕ) (met met' : List (List ℕ)) (slot : ℕ) → IsPrefix seen seen'
    → ((k : ℕ) (l : List ℕ) → get_elem? (mine ∷ met) k ≡ some l → (p : ℕ) → 0 < times p l → p < length seen)
    → mine' ≡ mine → met' ≡ met → vain_in slot seen' (mine' ∷ met') ≡ vain_in slot seen (mine ∷ met)
vain_settled seen seen' mine mine' met met' slot later below mine_is met_is =
    ap (λ (ps : List ℕ). vain_in slot seen' (ps ∷ met')) mine_is ∙ ap (λ (ms : List (List ℕ)). vain_in slot seen' (mine ∷ ms)) met_is
    ∙ count_up (is_in_vain slot) seen seen' (mine ∷ met) later below
