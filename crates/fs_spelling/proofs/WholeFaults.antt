-- The fault that is told of bytes is the one that they have.
use Rattle.std.proofs.Common.{◌≡◌, ◌≢◌, ◌⊎◌, inl, inr, ◌+◌, ◌<◌, ◌≤◌, Bool, true, false, cond, ◌==◌, nat_lt, [], length}
use Rattle.std.proofs.Common.{None, Result, Ok, Err, refl, sym, ap, ◌∙◌, subst, arith}
use Rattle.std.proofs.lemmas.Bool.Decides.{nat_tests}
use Rattle.fs_text.specs.Texts.{Text}
use Rattle.fs_xml.specs.Results.{◌>>=◌}
use Rattle.fs_xml.specs.Bytes.{is_blank, past}
use Rattle.fs_doc.specs.declared.fault.DocKind.TheVariants as kinds
use Rattle.fs_doc.specs.declared.fault.DocFault.{DocFault}
use Rattle.fs_doc.specs.declared.element.Level.TheVariants as level
use Rattle.fs_doc.specs.declared.content.Content.{Content}
use Rattle.fs_doc.specs.Faults.{fault, fault_at}
use Rattle.fs_doc.specs.Contents.{new_content}
use Rattle.fs_doc.specs.Reading.{read_within, document_of, past_declaration, content_of, Configuration, configured}
use Rattle.fs_doc.specs.Reading.{config_of}
use Rattle.fs_spelling.specs.Tags.{AreBlank}
use Rattle.fs_spelling.specs.Documents.{Bare}
use Rattle.fs_spelling.specs.Faults.{HasFault, Large, Undeclared, Within}
use Rattle.fs_spelling.proofs.Binds.{bind_err, stopped}
use Rattle.fs_spelling.proofs.Again.{state}
use Rattle.fs_spelling.proofs.Whole.{blank_tested, not_blank_tested, small_tested, large_tested, contents, Configured}
use Rattle.fs_spelling.proofs.DeclarationLaws.{declaration_read, declaration_is_read, undeclared_read, undeclared_stops, undeclared_some}
use Rattle.fs_spelling.proofs.WrongDocuments.{read_wrong, wrong_read}

-- ---- all bytes

document_wrong : (bytes : Text) (f : DocFault) → length bytes ≤ 1048576 → (AreBlank bytes → ⊥) → content_of bytes ≡ Err f → HasFault bytes f
unfolding content_of document_of
document_wrong bytes f small some e =
    by (bind_err (past_declaration bytes) (λ t. read_within (length t + 1) (length bytes) (state [] new_content) t) f e)
  where
    not_empty : bytes ≢ []
    not_empty none = let P : Text → Type 0 = λ t. AreBlank t in some (subst P (sym none) refl)

    by : (past_declaration bytes ≡ Err f)
        ⊎ ((t : Text) × (past_declaration bytes ≡ Ok t)
        × (read_within (length t + 1) (length bytes) (state [] new_content) t ≡ Err f)) → HasFault bytes f
    by (inl stops) =
        let is = undeclared_read bytes f not_empty stops in
        let P : DocFault → Type 0 = λ g. HasFault bytes g in
        subst P is.1 (Undeclared small is.0)
    by (inr (t, read, h)) =
        Within t f small some (declaration_read bytes t read)
        (read_wrong (length t + 1) (length bytes) f [] new_content [] t (Bare level.Top new_content) (omega arith) h)

large : (bytes : Text) → nat_lt 1048576 (length bytes) ≡ true → 1048576 < length bytes
large bytes test = grind (arith, nat_tests)

long_tested : (bytes : Text) → 1048576 < length bytes → nat_lt 1048576 (length bytes) ≡ true
long_tested bytes long = grind (arith, nat_tests)

pub fault_is_had : (bytes : Text) (f : DocFault) → config_of bytes ≡ Err f → HasFault bytes f
unfolding config_of
fault_is_had bytes f e = by (nat_lt 1048576 (length bytes)) refl e
  where
    P : DocFault → Type 0
    P g = HasFault bytes g

    some : (length (past is_blank bytes) == 0) ≡ false → AreBlank bytes → ⊥
    some other blank = let both : true ≡ false = sym (blank_tested bytes blank) ∙ other in cc

    judged : length bytes ≤ 1048576 → (t : Bool) → (length (past is_blank bytes) == 0) ≡ t
        → cond t (contents new_content) (content_of bytes) ≡ Err f → HasFault bytes f
    judged small true blank h = absurd (cc)
    judged small false other h = document_wrong bytes f small (some other) h

    by : (t : Bool) → nat_lt 1048576 (length bytes) ≡ t
        → cond t (fault 1048576 kinds.TooLarge)
        (Configured (cond (length (past is_blank bytes) == 0) (contents new_content) (content_of bytes))) ≡ stopped f → HasFault bytes f
    by true is h = let same : fault_at 1048576 kinds.TooLarge ≡ f = cc in subst P same (Large (large bytes is))
    by false is h =
        go_on (bind_err (cond (length (past is_blank bytes) == 0) (contents new_content) (content_of bytes)) (λ c. Ok (configured c)) f h)
      where
        go_on : (cond (length (past is_blank bytes) == 0) (contents new_content) (content_of bytes) ≡ Err f)
            ⊎ ((c : Content) × (cond (length (past is_blank bytes) == 0) (contents new_content) (content_of bytes) ≡ Ok c)
            × (Ok (configured c) ≡ stopped {X = Configuration} f)) → HasFault bytes f
        go_on (inl stops) = judged (large_tested bytes is) (length (past is_blank bytes) == 0) refl stops
        go_on (inr (c, read, k)) = absurd (cc)

small_read : (bytes : Text) (f : DocFault) → length bytes ≤ 1048576 → (AreBlank bytes → ⊥) → content_of bytes ≡ Err f →
    config_of bytes ≡ Err f
unfolding config_of
small_read bytes f small some e =
    ap (λ t. cond t (fault 1048576 kinds.TooLarge)
    (Configured (cond (length (past is_blank bytes) == 0) (contents new_content) (content_of bytes)))) (small_tested bytes small)
    ∙ ap (λ t. Configured (cond t (contents new_content) (content_of bytes))) (not_blank_tested bytes some)
    ∙ ap Configured e

pub had_is_told : (bytes : Text) (f : DocFault) → HasFault bytes f → config_of bytes ≡ Err f
unfolding config_of content_of document_of
had_is_told bytes f (Large long) =
    ap (λ t. cond t (fault 1048576 kinds.TooLarge)
    (Configured (cond (length (past is_blank bytes) == 0) (contents new_content) (content_of bytes)))) (long_tested bytes long)
had_is_told bytes f (Undeclared small is) =
    small_read bytes f small (undeclared_some bytes is)
    (ap (λ (r : Result Text DocFault). r >>= λ t. read_within (length t + 1) (length bytes) (state [] new_content) t)
    (undeclared_stops bytes is))
had_is_told bytes f (Within text _ small some declared wrong) =
    small_read bytes f small some
    (ap (λ (r : Result Text DocFault). r >>= λ t. read_within (length t + 1) (length bytes) (state [] new_content) t)
    (declaration_is_read bytes text declared)
    ∙ wrong_read (length bytes) level.Top None new_content text f wrong [] refl refl (length text + 1) (omega arith))
