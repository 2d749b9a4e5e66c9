-- The declaration of a document is read as it is told.
use Rattle.std.proofs.Common.{◌≡◌, ◌≢◌, inl, inr, ℕ, Bool, true, false, cond, nat_eq, [], ◌∷◌, ◌++◌, length}
use Rattle.std.proofs.Common.{drop, Result, Ok, Err, codes, refl, sym, ap, ◌∙◌, subst, append-nil, arith}
use Rattle.std.specs.List.{starts_with, list_all}
use Rattle.std.proofs.lemmas.Bool.Decides.{Decides-eqb}
use Rattle.std.proofs.lemmas.Slice.Eq.{starts_is}
use Rattle.std.proofs.lemmas.List.{length-append}
use Rattle.fs_text.specs.Texts.{Text}
use Rattle.fs_xml.specs.Bytes.{is_blank}
use Rattle.fs_doc.specs.declared.fault.DocKind.TheVariants as kinds
use Rattle.fs_doc.specs.declared.fault.DocFault.{DocFault}
use Rattle.fs_doc.specs.Faults.{fault, fault_at}
use Rattle.fs_doc.specs.Reading.{declaration_end, past_declaration}
use Rattle.fs_spelling.specs.Tags.{AreBlank}
use Rattle.fs_spelling.specs.Documents.{LacksEnd, IsDeclared, Declared, NotDeclared}
use Rattle.fs_spelling.specs.Faults.{IsUndeclared}
use Rattle.fs_spelling.proofs.Binds.{stopped}
use Rattle.fs_spelling.proofs.Runs.{and_true}

abbrev declared_read : Text → Result Text DocFault
declared_read t = Ok t

same_declared : (x y : Text) → declared_read x ≡ declared_read y → x ≡ y
same_declared x y e = cc

-- ---- a declaration without its end

front_cut : (text front : Text) → starts_with nat_eq text front ≡ true → text ≡ front ++ drop (length front) text
front_cut text front e = (starts_is Decides-eqb text front _ refl).0 e

front_stands : (text front rest : Text) → text ≡ front ++ rest → starts_with nat_eq text front ≡ true
front_stands text front rest whole = (starts_is Decides-eqb text front _ refl).1 rest whole

not_front : (text front : Text) → ((rest : Text) → text ≡ front ++ rest → ⊥) → starts_with nat_eq text front ≡ false
not_front text front never = by (starts_with nat_eq text front) refl
  where
    by : (t : Bool) → starts_with nat_eq text front ≡ t → t ≡ false
    by true is = absurd (never (drop (length front) text) (front_cut text front is))
    by false is = refl

nothing_endless : LacksEnd []
nothing_endless [] behind whole = cc
nothing_endless (x ∷ front) behind whole = cc

endless_on : (b : ℕ) (text : Text) → starts_with nat_eq (b ∷ text) (codes "?>") ≡ false → LacksEnd text → LacksEnd (b ∷ text)
endless_on b text other endless [] behind whole =
    let both : true ≡ false = sym (front_stands (b ∷ text) (codes "?>") behind whole) ∙ other in cc
endless_on b text other endless (x ∷ front) behind whole = endless front behind (cc)

endless_read : (end : ℕ) (text : Text) (f : DocFault) → declaration_end end text ≡ Err f →
    LacksEnd text × (fault_at end kinds.Truncated ≡ f)
endless_read end [] f e = (nothing_endless, cc)
endless_read end (b ∷ text) f e = by (starts_with nat_eq (b ∷ text) (codes "?>")) refl e (λ h. endless_read end text f h)
  where
    by : (t : Bool) → starts_with nat_eq (b ∷ text) (codes "?>") ≡ t
        → cond t (Ok (drop 2 (b ∷ text))) (declaration_end end text) ≡ stopped f
        → (declaration_end end text ≡ Err f → LacksEnd text × (fault_at end kinds.Truncated ≡ f))
        → LacksEnd (b ∷ text) × (fault_at end kinds.Truncated ≡ f)
    by true is h again = absurd (cc)
    by false other h again = let on = again h in (endless_on b text other on.0, on.1)

endless_stops : (end : ℕ) (text : Text) → LacksEnd text → declaration_end end text ≡ fault end kinds.Truncated
endless_stops end [] endless = refl
endless_stops end (b ∷ text) endless =
    by (starts_with nat_eq (b ∷ text) (codes "?>")) refl
    (endless_stops end text (λ front behind whole. endless (b ∷ front) behind (ap (λ t. b ∷ t) whole)))
  where
    by : (t : Bool) → starts_with nat_eq (b ∷ text) (codes "?>") ≡ t → declaration_end end text ≡ fault end kinds.Truncated
        → cond t (Ok (drop 2 (b ∷ text))) (declaration_end end text) ≡ fault end kinds.Truncated
    by true is on = absurd (endless [] (drop 2 (b ∷ text)) (front_cut (b ∷ text) (codes "?>") is))
    by false other on = on

pub undeclared_read : (bytes : Text) (f : DocFault) → bytes ≢ [] → past_declaration bytes ≡ Err f →
    IsUndeclared bytes × (fault_at (length bytes) kinds.Truncated ≡ f)
unfolding past_declaration
undeclared_read bytes f some e =
    by (starts_with nat_eq bytes (codes "<?xml")) (starts_with nat_eq (codes "<?xml") bytes) refl refl e
  where
    by : (s t : Bool) → starts_with nat_eq bytes (codes "<?xml") ≡ s → starts_with nat_eq (codes "<?xml") bytes ≡ t
        → cond s (declaration_end (length bytes) (drop 5 bytes)) (cond t (fault (length bytes) kinds.Truncated) (Ok bytes)) ≡ stopped f
        → IsUndeclared bytes × (fault_at (length bytes) kinds.Truncated ≡ f)
    by true t is it h =
        let on = endless_read (length bytes) (drop 5 bytes) f h in
        (inr (drop 5 bytes, front_cut bytes (codes "<?xml") is, on.0), on.1)
    by false true is it h =
        let more = drop (length bytes) (codes "<?xml") in
        let whole : codes "<?xml" ≡ bytes ++ more = front_cut (codes "<?xml") bytes it in
        let some_more : more ≢ [] =
        λ none. (
        let same : bytes ≡ codes "<?xml" ++ [] = sym (append-nil bytes) ∙ ap (λ t. bytes ++ t) (sym none) ∙ sym whole in
        let both : true ≡ false = sym (front_stands bytes (codes "<?xml") [] same) ∙ is in cc
        ) in
        (inl (some, more, some_more, sym whole), cc)
    by false false is it h = absurd (cc)

pub undeclared_stops : (bytes : Text) → IsUndeclared bytes → past_declaration bytes ≡ fault (length bytes) kinds.Truncated
unfolding past_declaration
undeclared_stops bytes (inl (some, more, some_more, whole)) = by (starts_with nat_eq bytes (codes "<?xml")) refl
  where
    short : starts_with nat_eq bytes (codes "<?xml") ≡ true → more ≡ []
    short is = nothing more (sizes is)
      where
        sizes : starts_with nat_eq bytes (codes "<?xml") ≡ true → length more ≡ 0
        sizes e =
            let cut = front_cut bytes (codes "<?xml") e in
            omega (
              arith,
              ap length whole,
              length-append bytes more,
              ap length cut,
              length-append (codes "<?xml") (drop (length (codes "<?xml")) bytes),
            )

        nothing : (t : Text) → length t ≡ 0 → t ≡ []
        nothing [] none = refl
        nothing (b ∷ t) none = absurd (omega (arith, none))

    by : (s : Bool) → starts_with nat_eq bytes (codes "<?xml") ≡ s
        → cond s (declaration_end (length bytes) (drop 5 bytes))
        (cond (starts_with nat_eq (codes "<?xml") bytes) (fault (length bytes) kinds.Truncated) (Ok bytes))
        ≡ fault (length bytes) kinds.Truncated
    by true is = absurd (some_more (short is))
    by false is =
        ap (λ t. cond t (fault (length bytes) kinds.Truncated) (Ok bytes)) (front_stands (codes "<?xml") bytes more (sym whole))
undeclared_stops bytes (inr (text, whole, endless)) =
    ap (λ s. cond s (declaration_end (length bytes) (drop 5 bytes))
    (cond (starts_with nat_eq (codes "<?xml") bytes) (fault (length bytes) kinds.Truncated) (Ok bytes)))
    (front_stands bytes (codes "<?xml") text whole)
    ∙ ap (λ b. declaration_end (length bytes) (drop 5 b)) whole ∙ endless_stops (length bytes) text endless

pub undeclared_some : (bytes : Text) → IsUndeclared bytes → AreBlank bytes → ⊥
unfolding is_blank
undeclared_some [] (inl (some, more, some_more, whole)) blank = some refl
undeclared_some (b ∷ bytes) (inl (some, more, some_more, whole)) blank =
    let first : b ≡ 60 = cc in
    let here : is_blank 60 ≡ true = ap is_blank (sym first) ∙ (and_true (is_blank b) (list_all is_blank bytes) blank).0 in
    let both : false ≡ true = here in cc
undeclared_some bytes (inr (text, whole, endless)) blank =
    let P : Text → Type 0 = λ t. AreBlank t in
    let here : false ≡ true = subst P whole blank in cc

-- ---- a declaration that ends

-- a text up to the first `?>`, and what stands behind it
record EndsSo (text rest : Text) : Type 0 where
  pub front : Text
  pub whole : text ≡ front ++ (codes "?>" ++ rest)
  pub first : LacksEnd (front ++ codes "?")

one_short : LacksEnd (codes "?")
one_short [] behind whole = cc
one_short (x ∷ front) behind whole = nothing_endless front behind (cc)

-- what a byte and the text begin with
first_two : (b : ℕ) (text rest : Text) → b ∷ text ≡ codes "?>" ++ rest → (b ≡ 63) × (text ≡ 62 ∷ rest)
first_two b text rest whole = (cc, cc)

same_head : (a b : ℕ) (some other : Text) → a ∷ some ≡ b ∷ other → a ≡ b
same_head a b some other e = cc

lacks_on : (b : ℕ) (front rest : Text) → starts_with nat_eq (b ∷ (front ++ (codes "?>" ++ rest))) (codes "?>") ≡ false
    → LacksEnd (front ++ codes "?") → LacksEnd (b ∷ (front ++ codes "?"))
lacks_on b [] rest other lacks [] behind whole =
    let two = first_two b (codes "?") behind whole in
    omega (arith, same_head 63 62 [] behind two.1)
lacks_on b (c ∷ front) rest other lacks [] behind whole =
    let two = first_two b ((c ∷ front) ++ codes "?") behind whole in
    let second : c ≡ 62 = cc in
    let tail : Text = front ++ (codes "?>" ++ rest) in
    let stands : b ∷ (c ∷ tail) ≡ codes "?>" ++ tail = ap (λ n. n ∷ (c ∷ tail)) two.0 ∙ ap (λ n. 63 ∷ (n ∷ tail)) second in
    let both : true ≡ false = sym (front_stands (b ∷ (c ∷ tail)) (codes "?>") tail stands) ∙ other in cc
lacks_on b front rest other lacks (x ∷ more) behind whole = lacks more behind (cc)

ends_read : (end : ℕ) (text rest : Text) → declaration_end end text ≡ Ok rest → EndsSo text rest
ends_read end [] rest e = absurd (cc)
ends_read end (b ∷ text) rest e = by (starts_with nat_eq (b ∷ text) (codes "?>")) refl e (λ h. ends_read end text rest h)
  where
    by : (t : Bool) → starts_with nat_eq (b ∷ text) (codes "?>") ≡ t
        → cond t (declared_read (drop 2 (b ∷ text))) (declaration_end end text) ≡ declared_read rest
        → (declaration_end end text ≡ Ok rest → EndsSo text rest) → EndsSo (b ∷ text) rest
    by true is h again = record {
      front = [];
      whole = front_cut (b ∷ text) (codes "?>") is ∙ ap (λ t. codes "?>" ++ t) (same_declared (drop 2 (b ∷ text)) rest h);
      first = one_short;
    }
    by false other h again =
        let on = again h in
        let P : Text → Type 0 = λ t. starts_with nat_eq (b ∷ t) (codes "?>") ≡ false in
        record {
          front = b ∷ on.front;
          whole = ap (λ t. b ∷ t) on.whole;
          first = lacks_on b on.front rest (subst P on.whole other) on.first;
        }

ends_stops : (end : ℕ) (front rest : Text) → LacksEnd (front ++ codes "?") → declaration_end end (front ++ (codes "?>" ++ rest)) ≡ Ok rest
ends_stops end [] rest lacks = refl
ends_stops end (b ∷ front) rest lacks =
    by (starts_with nat_eq (b ∷ tail) (codes "?>")) refl
    (ends_stops end front rest (λ more behind whole. lacks (b ∷ more) behind (ap (λ t. b ∷ t) whole)))
  where
    tail : Text
    tail = front ++ (codes "?>" ++ rest)

    never : (f : Text) → LacksEnd (b ∷ (f ++ codes "?")) → starts_with nat_eq (b ∷ (f ++ (codes "?>" ++ rest))) (codes "?>") ≡ true → ⊥
    never [] none is =
        let text : Text = codes "?>" ++ rest in
        let two = first_two b text (drop 2 (b ∷ text)) (front_cut (b ∷ text) (codes "?>") is) in
        omega (arith, same_head 63 62 (62 ∷ rest) (drop 2 (b ∷ text)) two.1)
    never (c ∷ f) none is =
        let text : Text = (c ∷ f) ++ (codes "?>" ++ rest) in
        let two = first_two b text (drop 2 (b ∷ text)) (front_cut (b ∷ text) (codes "?>") is) in
        let second : c ≡ 62 = cc in
        none [] (f ++ codes "?") (ap (λ n. n ∷ (c ∷ (f ++ codes "?"))) two.0 ∙ ap (λ n. 63 ∷ (n ∷ (f ++ codes "?"))) second)

    by : (t : Bool) → starts_with nat_eq (b ∷ tail) (codes "?>") ≡ t → declaration_end end tail ≡ Ok rest
        → cond t (Ok (drop 2 (b ∷ tail))) (declaration_end end tail) ≡ Ok rest
    by true is on = absurd (never front lacks is)
    by false other on = on

pub declaration_read : (bytes text : Text) → past_declaration bytes ≡ Ok text → IsDeclared bytes text
unfolding past_declaration
declaration_read bytes text e =
    by (starts_with nat_eq bytes (codes "<?xml")) (starts_with nat_eq (codes "<?xml") bytes) refl refl e
  where
    by : (s t : Bool) → starts_with nat_eq bytes (codes "<?xml") ≡ s → starts_with nat_eq (codes "<?xml") bytes ≡ t
        → cond s (declaration_end (length bytes) (drop 5 bytes)) (cond t (fault (length bytes) kinds.Truncated) (Ok bytes))
        ≡ declared_read text → IsDeclared bytes text
    by true t is it h =
        let on = ends_read (length bytes) (drop 5 bytes) text h in
        Declared bytes on.front text (front_cut bytes (codes "<?xml") is ∙ ap (λ t. codes "<?xml" ++ t) on.whole) on.first
    by false true is it h = absurd (cc)
    by false false is it h =
        let P : Text → Type 0 = λ t. IsDeclared bytes t in
        subst P (same_declared bytes text h) (NotDeclared bytes
        (λ rest whole. (let both : true ≡ false = sym (front_stands bytes (codes "<?xml") rest whole) ∙ is in cc))
        (λ more whole. (let both : true ≡ false = sym (front_stands (codes "<?xml") bytes more whole) ∙ it in cc)))

pub declaration_is_read : (bytes text : Text) → IsDeclared bytes text → past_declaration bytes ≡ Ok text
unfolding past_declaration
declaration_is_read bytes text (Declared _ front _ whole lacks) =
    ap (λ s. cond s (declaration_end (length bytes) (drop 5 bytes))
    (cond (starts_with nat_eq (codes "<?xml") bytes) (fault (length bytes) kinds.Truncated) (Ok bytes)))
    (front_stands bytes (codes "<?xml") (front ++ (codes "?>" ++ text)) whole)
    ∙ ap (λ b. declaration_end (length bytes) (drop 5 b)) whole ∙ ends_stops (length bytes) front text lacks
declaration_is_read bytes text (NotDeclared _ other short) =
    ap (λ s. cond s (declaration_end (length bytes) (drop 5 bytes))
    (cond (starts_with nat_eq (codes "<?xml") bytes) (fault (length bytes) kinds.Truncated) (Ok bytes)))
    (not_front bytes (codes "<?xml") other)
    ∙ ap (λ s. cond s (fault (length bytes) kinds.Truncated) (Ok bytes)) (not_front (codes "<?xml") bytes short)
