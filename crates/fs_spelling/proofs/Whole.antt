-- The bytes of a document are read as what they spell, and what is read of them is spelt.
use Rattle.std.proofs.Common.{◌≡◌, ℕ, suc, ◌+◌, ◌-◌, ◌≤◌, Bool, true, false, cond, ◌==◌, [], ◌∷◌, ◌++◌, length, Result, Ok, refl, sym, ap, ◌∙◌, ◌⊎◌}
use Rattle.std.proofs.Common.{inl, inr, subst, append-nil, nat_lt, arith}
use Rattle.std.specs.List.{take_while}
use Rattle.std.proofs.lemmas.List.{length-append}
use Rattle.std.proofs.lemmas.Bool.Decides.{nat_tests}
use Rattle.fs_text.specs.Texts.{Text}
use Rattle.fs_xml.specs.Results.{◌>>=◌}
use Rattle.fs_xml.specs.Bytes.{is_blank, past}
use Rattle.fs_xml.proofs.ByteLemmas.{run_past}
use Rattle.fs_doc.specs.declared.fault.DocKind.TheVariants as kinds
use Rattle.fs_doc.specs.declared.fault.DocFault.{DocFault}
use Rattle.fs_doc.specs.declared.element.Level.TheVariants as level
use Rattle.fs_doc.specs.declared.content.Content.{Content}
use Rattle.fs_doc.specs.Faults.{fault}
use Rattle.fs_doc.specs.Contents.{new_content}
use Rattle.fs_doc.specs.Reading.{Configuration, configured, read_within, document_of, past_declaration, content_of, config_of}
use Rattle.fs_spelling.specs.Tags.{AreBlank}
use Rattle.fs_spelling.specs.Documents.{IsDocument, Spells}
use Rattle.fs_spelling.proofs.Binds.{bind_ok}
use Rattle.fs_spelling.proofs.Runs.{past_run, run_passes}
use Rattle.fs_spelling.proofs.DeclarationLaws.{declaration_read, declaration_is_read}
use Rattle.fs_spelling.proofs.Again.{state, goes, last_round}
use Rattle.fs_spelling.proofs.Sound.{read_is_found}

-- ---- a document that is not blank

document_read : (bytes : Text) (content : Content) → IsDocument bytes content → content_of bytes ≡ Ok content
unfolding content_of document_of
document_read bytes content is =
    let end = length bytes in
    let rest = is.text ++ is.behind in
    let all = goes end level.Top new_content is.text content is.inside [] refl is.behind in
    let left = length rest - all.rounds in
    let enough : length rest + 1 ≡ all.rounds + suc left = omega (arith, all.within, length-append is.text is.behind) in
    let read = all.goes (length rest + 1) (suc left) enough ∙ last_round end content is.behind left is.blank is.done in
    ap (λ (r : Result Text DocFault). r >>= λ t. read_within (length t + 1) end (state [] new_content) t) (declaration_is_read bytes rest is.declared) ∙ read

abbrev declared_read : Text → Result Text DocFault
declared_read t = Ok t

document_found : (bytes : Text) (content : Content) → content_of bytes ≡ Ok content → IsDocument bytes content
unfolding content_of document_of
document_found bytes content e =
    let went = bind_ok (past_declaration bytes) (λ t. read_within (length t + 1) (length bytes) (state [] new_content) t) content e in
    let found = read_is_found (length went.0 + 1) (length bytes) content went.0 went.2 in
    record {
      text = found.text;
      behind = found.behind;
      declared = declaration_read bytes (found.text ++ found.behind) (went.1 ∙ ap declared_read found.whole);
      inside = found.inside;
      blank = found.blank;
      done = found.done;
    }

-- ---- blank bytes

blank_past : (bytes : Text) → AreBlank bytes → past is_blank bytes ≡ []
blank_past bytes blank = ap (past is_blank) (sym (append-nil bytes)) ∙ past_run is_blank bytes [] blank tt

pub past_blank : (bytes : Text) → (length (past is_blank bytes) == 0) ≡ true → AreBlank bytes
past_blank bytes none =
    let P : Text → Type 0 = λ b. AreBlank b in
    let short : past is_blank bytes ≡ [] = is_nothing (past is_blank bytes) none in
    let whole : take_while is_blank bytes ≡ bytes =
    sym (append-nil (take_while is_blank bytes)) ∙ ap (λ r. take_while is_blank bytes ++ r) (sym short) ∙ run_past is_blank bytes in
    subst P whole (run_passes is_blank bytes)
  where
    longer : (x : ℕ) (b : Text) → (length (x ∷ b) == 0) ≡ true → ⊥
    longer x b h = grind (arith, nat_tests)

    is_nothing : (b : Text) → (length b == 0) ≡ true → b ≡ []
    is_nothing [] h = refl
    is_nothing (x ∷ b) h = absurd (longer x b h)

pub blank_tested : (bytes : Text) → AreBlank bytes → (length (past is_blank bytes) == 0) ≡ true
blank_tested bytes blank = ap (λ b. length b == 0) (blank_past bytes blank)

pub not_blank_tested : (bytes : Text) → (AreBlank bytes → ⊥) → (length (past is_blank bytes) == 0) ≡ false
not_blank_tested bytes other = by (length (past is_blank bytes) == 0) refl
  where
    by : (t : Bool) → (length (past is_blank bytes) == 0) ≡ t → t ≡ false
    by true is = absurd (other (past_blank bytes is))
    by false is = refl

-- ---- all bytes

abbrev pub contents : Content → Result Content DocFault
contents c = Ok c

abbrev pub Configured : Result Content DocFault → Result Configuration DocFault
Configured r = r >>= λ c. Ok (configured c)

pub small_tested : (bytes : Text) → length bytes ≤ 1048576 → nat_lt 1048576 (length bytes) ≡ false
small_tested bytes small = grind (arith, nat_tests)

pub spelt_is_read : (bytes : Text) (c : Configuration) → Spells bytes c → config_of bytes ≡ Ok c
unfolding config_of
spelt_is_read bytes c is =
    ap (λ t. cond t (fault 1048576 kinds.TooLarge)
    (Configured (cond (length (past is_blank bytes) == 0) (contents new_content) (content_of bytes)))) (small_tested bytes is.small)
    ∙ by is.content is.document ∙ ap Ok (sym is.says)
  where
    by : (content : Content) → (AreBlank bytes × (content ≡ new_content)) ⊎ ((AreBlank bytes → ⊥) × IsDocument bytes content)
        → Configured (cond (length (past is_blank bytes) == 0) (contents new_content) (content_of bytes)) ≡ Ok (configured content)
    by content (inl blank) =
        ap (λ t. Configured (cond t (contents new_content) (content_of bytes))) (blank_tested bytes blank.0)
        ∙ ap (λ d. Configured (contents d)) (sym blank.1)
    by content (inr document) =
        ap (λ t. Configured (cond t (contents new_content) (content_of bytes))) (not_blank_tested bytes document.0)
        ∙ ap Configured (document_read bytes content document.1)

abbrev told : Configuration → Result Configuration DocFault
told c = Ok c

same_told : (x y : Configuration) → told x ≡ told y → x ≡ y
same_told x y e = cc

pub large_tested : (bytes : Text) → nat_lt 1048576 (length bytes) ≡ false → length bytes ≤ 1048576
large_tested bytes test = grind (arith, nat_tests)

same_contents : (x y : Content) → contents x ≡ contents y → x ≡ y
same_contents x y e = cc

pub read_is_spelt : (bytes : Text) (c : Configuration) → config_of bytes ≡ Ok c → Spells bytes c
unfolding config_of
read_is_spelt bytes c e = by (nat_lt 1048576 (length bytes)) refl e
  where
    no_blank : AreBlank bytes → (length (past is_blank bytes) == 0) ≡ false → ⊥
    no_blank blank other = let both : true ≡ false = sym (blank_tested bytes blank) ∙ other in cc

    spelt : length bytes ≤ 1048576 → (t : Bool) → (length (past is_blank bytes) == 0) ≡ t → (content : Content) →
        cond t (contents new_content) (content_of bytes) ≡ Ok content → configured content ≡ c → Spells bytes c
    spelt small true blank content k says =
        record {
          content = content;
          small = small;
          document = inl (past_blank bytes blank, sym (same_contents new_content content k));
          says = sym says;
        }
    spelt small false other content k says =
        record {
          content = content;
          small = small;
          document = inr (λ blank. no_blank blank other, document_found bytes content k);
          says = sym says;
        }

    by : (t : Bool) → nat_lt 1048576 (length bytes) ≡ t →
        cond t (fault 1048576 kinds.TooLarge) (Configured
        (cond (length (past is_blank bytes) == 0) (contents new_content) (content_of bytes))) ≡ told c → Spells bytes c
    by true large k = absurd (cc)
    by false small k =
        let went =
        bind_ok (cond (length (past is_blank bytes) == 0) (contents new_content) (content_of bytes)) (λ d. told (configured d)) c k in
        spelt (large_tested bytes small) (length (past is_blank bytes) == 0) refl went.0 went.1 (same_told (configured went.0) c went.2)
