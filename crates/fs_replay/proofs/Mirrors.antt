-- That a function that reads gives what is read, over plain variables.
use Rattle.std.proofs.Common.{◌≡◌, ◌≢◌, ℕ, ◌<◌, Bool, true, false, List, length, drop, Option, None, Some, Result, Ok, Err}
use Rattle.std.proofs.Common.{refl, ap, ◌∙◌, arith, codes, nat_lt, nat_eq}
use Rattle.std.proofs.Common.{unwrap_or}
use Rattle.std.specs.Option.{ok_or}
use Rattle.std.specs.List.{position, position_or_len}
use Rattle.std.proofs.lemmas.Bool.{ltb-false}
use Rattle.fs_text.proofs.Cuts.{offset_within}
use Rattle.std.specs.Result.{OkIff, result_ok}
use Rattle.std.proofs.lemmas.Bool.Decides.{nat_tests}
use Rattle.fs_replay.specs.declared.fault.Fault.{Fault}
use Rattle.fs_replay.specs.declared.fault.Fault.TheVariants.{Bad, Cut, Memory}
use Rattle.fs_machine.specs.declared.entry.Act.{Act}
use Rattle.fs_machine.specs.declared.entry.Entry.{Entry}
use Rattle.fs_machine.specs.declared.entry.Closing.TheVariants.{EndOfInput, Sent, Failed}
use Rattle.fs_machine.specs.declared.note.LoadNote.{LoadNote}
use Rattle.fs_machine.specs.declared.note.LoadNote.TheVariants as note
use Rattle.fs_replay.specs.declared.loads.Kind.{Kind}
use Rattle.fs_replay.specs.declared.loads.Kind.TheVariants as kinds
use Rattle.fs_replay.specs.Reading.{Read, Reads, Took, Gave, and_then, begins, below, or_bad, of_act, of_block, of_text, of_note, closing_at, linked_at, kind_at, spot_at, notice_at, note_at, of_notice, plain_at}

-- ---- numbers

below_by : {E : Type 0} (r : Result ℕ E) (n limit : ℕ) (left : List ℕ) → OkIff r (n < limit) n → Took (result_ok r) left (below limit (Some (n, left)))
below_by (Ok x) n limit left fits =
    let under : nat_lt n limit ≡ true = grind (arith, nat_tests) in
    rw (under, fits.1) refl
below_by (Err e) n limit left fits =
    let over : nat_lt n limit ≡ false = grind (arith, nat_tests) in
    rw over refl

-- a number that is converted is one below a limit
pub below_taken : {E : Type 0} (r : Result ℕ E) (n limit : ℕ) (left : List ℕ) (o : Option ℕ) → OkIff r (n < limit) n → o ≡ result_ok r
    → Took o left (below limit (Some (n, left)))
below_taken r n limit left o fits is = rw is (below_by r n limit left fits)

-- where the search for the first digit ends
pub first_or_end : (p : ℕ → Bool) (xs : List ℕ) → unwrap_or (position p xs) (length xs) ≡ position_or_len p xs
first_or_end p xs = by (nat_lt (position_or_len p xs) (length xs)) refl
  where
    by : (t : Bool) → nat_lt (position_or_len p xs) (length xs) ≡ t → unwrap_or (position p xs) (length xs) ≡ position_or_len p xs
    by true some = rw some refl
    by false none =
        let over = ltb-false _ _ none in
        let within = offset_within p xs in
        rw none (omega arith)

-- ---- words

pub closing_first : (old new : List ℕ) → true ≡ begins (codes " in\n") old → new ≡ drop 4 old → closing_at old ≡ Some (EndOfInput, new)
unfolding closing_at
closing_first old new found left = rw (← found, left) refl

pub closing_second : (old mid new : List ℕ) → false ≡ begins (codes " in\n") old → mid ≡ old → true ≡ begins (codes " sent\n") mid → new ≡ drop 6 mid
    → closing_at old ≡ Some (Sent, new)
unfolding closing_at
closing_second old mid new none same found left =
    let there = found ∙ ap (begins (codes " sent\n")) same in
    let behind = left ∙ ap (drop 6) same in
    rw (← none, ← there, behind) refl

pub closing_third : (old mid late new : List ℕ) → false ≡ begins (codes " in\n") old → mid ≡ old → false ≡ begins (codes " sent\n") mid → late ≡ mid
    → true ≡ begins (codes " failed\n") late → new ≡ drop 8 late → closing_at old ≡ Some (Failed, new)
unfolding closing_at
closing_third old mid late new none same nor still found left =
    let nowhere = nor ∙ ap (begins (codes " sent\n")) same in
    let there = found ∙ ap (begins (codes " failed\n")) (still ∙ same) in
    let behind = left ∙ ap (drop 8) (still ∙ same) in
    rw (← none, ← nowhere, ← there, behind) refl

pub closing_none : (old mid late : List ℕ) → false ≡ begins (codes " in\n") old → mid ≡ old → false ≡ begins (codes " sent\n") mid → late ≡ mid
    → false ≡ begins (codes " failed\n") late → closing_at old ≡ None
unfolding closing_at
closing_none old mid late none same nor still neither =
    let nowhere = nor ∙ ap (begins (codes " sent\n")) same in
    let absent = neither ∙ ap (begins (codes " failed\n")) (still ∙ same) in
    rw (← none, ← nowhere, ← absent) refl

pub linked_first : (old new : List ℕ) → true ≡ begins (codes " 1\n") old → new ≡ drop 3 old → linked_at old ≡ Some (true, new)
unfolding linked_at
linked_first old new found left = rw (← found, left) refl

pub linked_second : (old mid new : List ℕ) → false ≡ begins (codes " 1\n") old → mid ≡ old → true ≡ begins (codes " 0\n") mid → new ≡ drop 3 mid
    → linked_at old ≡ Some (false, new)
unfolding linked_at
linked_second old mid new none same found left =
    let there = found ∙ ap (begins (codes " 0\n")) same in
    let behind = left ∙ ap (drop 3) same in
    rw (← none, ← there, behind) refl

pub linked_none : (old mid : List ℕ) → false ≡ begins (codes " 1\n") old → mid ≡ old → false ≡ begins (codes " 0\n") mid → linked_at old ≡ None
unfolding linked_at
linked_none old mid none same nor =
    let nowhere = nor ∙ ap (begins (codes " 0\n")) same in
    rw (← none, ← nowhere) refl

pub kind_ready : (old new : List ℕ) → true ≡ begins (codes " ready") old → new ≡ drop 6 old → kind_at old ≡ Some (kinds.Ready, new)
unfolding kind_at
kind_ready old new found left = rw (← found, left) refl

pub kind_doc : (old mid new : List ℕ) → false ≡ begins (codes " ready") old → mid ≡ old → true ≡ begins (codes " doc") mid → new ≡ drop 4 mid
    → kind_at old ≡ Some (kinds.DocRefused, new)
unfolding kind_at
kind_doc old mid new none same found left =
    let there = found ∙ ap (begins (codes " doc")) same in
    let behind = left ∙ ap (drop 4) same in
    rw (← none, ← there, behind) refl

pub kind_pattern : (old mid late new : List ℕ) → false ≡ begins (codes " ready") old → mid ≡ old → false ≡ begins (codes " doc") mid → late ≡ mid
    → true ≡ begins (codes " pattern") late → new ≡ drop 8 late → kind_at old ≡ and_then (spot_at new) (λ spot left. Some (kinds.PatternRefused spot, left))
unfolding kind_at
kind_pattern old mid late new none same nor still found left =
    let nowhere = nor ∙ ap (begins (codes " doc")) same in
    let there = found ∙ ap (begins (codes " pattern")) (still ∙ same) in
    let behind = left ∙ ap (drop 8) (still ∙ same) in
    rw (← none, ← nowhere, ← there, behind) refl

pub kind_large : (old mid late last new : List ℕ) → false ≡ begins (codes " ready") old → mid ≡ old → false ≡ begins (codes " doc") mid → late ≡ mid
    → false ≡ begins (codes " pattern") late → last ≡ late → true ≡ begins (codes " large") last → new ≡ drop 6 last
    → kind_at old ≡ and_then (spot_at new) (λ spot left. Some (kinds.PatternTooLarge spot, left))
unfolding kind_at
kind_large old mid late last new none same nor still neither yet found left =
    let nowhere = nor ∙ ap (begins (codes " doc")) same in
    let absent = neither ∙ ap (begins (codes " pattern")) (still ∙ same) in
    let there = found ∙ ap (begins (codes " large")) (yet ∙ still ∙ same) in
    let behind = left ∙ ap (drop 6) (yet ∙ still ∙ same) in
    rw (← none, ← nowhere, ← absent, ← there, behind) refl

pub kind_none : (old mid late last : List ℕ) → false ≡ begins (codes " ready") old → mid ≡ old → false ≡ begins (codes " doc") mid → late ≡ mid
    → false ≡ begins (codes " pattern") late → last ≡ late → false ≡ begins (codes " large") last → kind_at old ≡ None
unfolding kind_at
kind_none old mid late last none same nor still neither yet never =
    let nowhere = nor ∙ ap (begins (codes " doc")) same in
    let absent = neither ∙ ap (begins (codes " pattern")) (still ∙ same) in
    let small = never ∙ ap (begins (codes " large")) (yet ∙ still ∙ same) in
    rw (← none, ← nowhere, ← absent, ← small) refl

pub note_absent : (old new : List ℕ) → true ≡ begins (codes " absent\n") old → new ≡ drop 8 old → note_at old ≡ Ok (note.Absent, new)
unfolding note_at
note_absent old new found left = rw (← found, left) refl

pub note_failed : (old mid new : List ℕ) → false ≡ begins (codes " absent\n") old → mid ≡ old → true ≡ begins (codes " failed\n") mid → new ≡ drop 8 mid
    → note_at old ≡ Ok (note.Failed, new)
unfolding note_at
note_failed old mid new none same found left =
    let there = found ∙ ap (begins (codes " failed\n")) same in
    let behind = left ∙ ap (drop 8) same in
    rw (← none, ← there, behind) refl

pub note_of_text : (old mid late : List ℕ) → false ≡ begins (codes " absent\n") old → mid ≡ old → false ≡ begins (codes " failed\n") mid → late ≡ mid
    → note_at old ≡ of_notice (notice_at late)
unfolding note_at
note_of_text old mid late none same nor still =
    let nowhere = nor ∙ ap (begins (codes " failed\n")) same in
    rw (← none, ← nowhere, still, same) refl

-- ---- faults

pub bad_given : {X : Type 0} (o : Option X) (r : Result X Fault) (left : List ℕ) (read : Read X) → Took o left read → r ≡ ok_or o Bad
    → Gave r left (or_bad read)
bad_given None r left read took is = rw (is, took) refl
bad_given (Some x) r left read took is = rw (is, took) refl

pub act_fails : (fault : Fault) (moment : ℕ) (old new : List ℕ) (read : Reads Act) → Gave {X = Act} (Err fault) old read
    → Gave {X = Entry} (Err fault) new (of_act moment read)
act_fails Bad moment old new read gave = ap (of_act moment) gave
act_fails Cut moment old new read gave = ap (of_act moment) gave
act_fails Memory moment old new read gave = tt

pub block_fails : (fault : Fault) (conn : ℕ) (old new : List ℕ) (read : Reads (List ℕ)) → Gave {X = List ℕ} (Err fault) old read
    → Gave {X = Act} (Err fault) new (of_block conn read)
block_fails Bad conn old new read gave = ap (of_block conn) gave
block_fails Cut conn old new read gave = ap (of_block conn) gave
block_fails Memory conn old new read gave = tt

pub text_fails : (fault : Fault) (kind : Kind) (old new : List ℕ) (read : Reads (List ℕ)) → Gave {X = List ℕ} (Err fault) old read
    → Gave {X = LoadNote} (Err fault) new (of_text kind read)
text_fails Bad kind old new read gave = ap (of_text kind) gave
text_fails Cut kind old new read gave = ap (of_text kind) gave
text_fails Memory kind old new read gave = tt

pub note_fails : (fault : Fault) (job : ℕ) (old new : List ℕ) (read : Reads LoadNote) → Gave {X = LoadNote} (Err fault) old read
    → Gave {X = Act} (Err fault) new (of_note job read)
note_fails Bad job old new read gave = ap (of_note job) gave
note_fails Cut job old new read gave = ap (of_note job) gave
note_fails Memory job old new read gave = tt

-- ---- letters

pub off : (letter n : ℕ) → letter ≢ n → nat_eq letter n ≡ false
off letter n other = grind (arith, nat_tests)

pub plain_none : (letter : ℕ) (bytes : List ℕ) → letter ≢ 65 → letter ≢ 72 → letter ≢ 84 → letter ≢ 88 → letter ≢ 68 → letter ≢ 87 → letter ≢ 74
    → plain_at letter bytes ≡ None
unfolding plain_at
plain_none letter bytes a h t x d w j =
    rw (off letter 65 a, off letter 72 h, off letter 84 t, off letter 88 x, off letter 68 d, off letter 87 w, off letter 74 j) refl
