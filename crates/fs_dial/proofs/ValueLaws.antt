-- A value says one text, which is what is left of it without quotes and backslashes.
use Rattle.std.proofs.Common.{◌≡◌, ℕ, Bool, true, false, cond, ◌||◌, ◌==◌, List, [], ◌∷◌, ◌++◌, refl, sym, ap, ◌∙◌}
use Rattle.std.specs.List.{list_any}
use Rattle.fs_dial.specs.declared.guard.Guard.{Guard}
use Rattle.fs_dial.specs.declared.guard.Guard.TheVariants.{Bare, Quoted, Behind}
use Rattle.fs_dial.specs.Guards.{is_guard, guard_after, is_escaped, bared, last_of, plain_of}
use Rattle.fs_dial.specs.Spelling.{is_quote}
use Rattle.fs_dial.specs.Values.{Says, SaysNothing, SaysByte, SaysEscaped, KeepsBackslash, LastBackslash, SaysQuoted, LastQuoted}
use Rattle.fs_dial.proofs.Cuts.{or_false, eqb-true}

-- ---- what is said is left

quotes_left : (separator : ℕ) (inside value : List ℕ) → list_any is_quote inside ≡ false →
    plain_of separator Quoted (inside ++ (39 ∷ value)) ≡ inside ++ plain_of separator Bare value
unfolding bared guard_after
quotes_left separator [] value none = refl
quotes_left separator (b ∷ inside) value none =
    let parts = or_false (is_quote b) (list_any is_quote inside) none in
    let other : (b == 39) ≡ false = parts.0 in
    rw other (ap (λ l. b ∷ l) (quotes_left separator inside value parts.1))

quoted_left : (separator : ℕ) (inside : List ℕ) → list_any is_quote inside ≡ false → plain_of separator Quoted inside ≡ inside
unfolding bared guard_after last_of
quoted_left separator [] none = refl
quoted_left separator (b ∷ inside) none =
    let parts = or_false (is_quote b) (list_any is_quote inside) none in
    let other : (b == 39) ≡ false = parts.0 in
    rw other (ap (λ l. b ∷ l) (quoted_left separator inside parts.1))

pub said_is_left : (separator : ℕ) (value text : List ℕ) → Says separator value text → text ≡ plain_of separator Bare value
unfolding bared guard_after is_guard last_of
said_is_left separator value text SaysNothing = refl
said_is_left separator value text (SaysByte b more said bare says) =
    let parts = or_false (b == 39) (b == 92) bare in
    let no_quote : (b == 39) ≡ false = parts.0 in
    let no_backslash : (b == 92) ≡ false = parts.1 in
    rw (no_quote, no_backslash) (ap (λ l. b ∷ l) (said_is_left separator more said says))
said_is_left separator value text (SaysEscaped b more said escaped says) =
    rw escaped (ap (λ l. b ∷ l) (said_is_left separator more said says))
said_is_left separator value text (KeepsBackslash b more said other says) =
    rw other (ap (λ l. 92 ∷ b ∷ l) (said_is_left separator more said says))
said_is_left separator value text LastBackslash = refl
said_is_left separator value text (SaysQuoted inside more said none says) =
    ap (λ l. inside ++ l) (said_is_left separator more said says) ∙ sym (quotes_left separator inside more none)
said_is_left separator value text (LastQuoted inside none) = sym (quoted_left separator inside none)

-- ---- what is left is said

-- what a value says behind a quote
data Inside (separator : ℕ) : (value text : List ℕ) → Type 0 where
  Closed : (inside value text : List ℕ) → list_any is_quote inside ≡ false → Says separator value text →
      Inside separator (inside ++ (39 ∷ value)) (inside ++ text)
  Unclosed : (inside : List ℕ) → list_any is_quote inside ≡ false → Inside separator inside inside

quoted : (separator : ℕ) (value text : List ℕ) → Inside separator value text → Says separator (39 ∷ value) text
quoted separator value text (Closed inside more said none says) = SaysQuoted inside more said none says
quoted separator value text (Unclosed inside none) = LastQuoted inside none

one_more : (separator b : ℕ) (value text : List ℕ) → (b == 39) ≡ false → Inside separator value text →
    Inside separator (b ∷ value) (b ∷ text)
one_more separator b value text other (Closed inside more said none says) = Closed (b ∷ inside) more said (rw other none) says
one_more separator b value text other (Unclosed inside none) = Unclosed (b ∷ inside) (rw other none)

-- what a value says behind a byte that protects so
abbrev SaysAfter : ℕ → Guard → List ℕ → List ℕ → Type 0
SaysAfter separator Bare value text = Says separator value text
SaysAfter separator Quoted value text = Inside separator value text
SaysAfter separator Behind value text = Says separator (92 ∷ value) text

byte_said : (separator : ℕ) (guard : Guard) (b : ℕ) (value text : List ℕ) → SaysAfter separator (guard_after guard b) value text →
    SaysAfter separator guard (b ∷ value) (bared separator guard b ++ text)
unfolding bared guard_after is_guard
byte_said separator Bare b value text says = by (b == 39) refl (b == 92) refl says
  where
    by : (q : Bool) → (b == 39) ≡ q → (s : Bool) → (b == 92) ≡ s → SaysAfter separator (cond q Quoted (cond s Behind Bare)) value text →
        Says separator (b ∷ value) (cond (q || s) [] (b ∷ []) ++ text)
    by true quote s slash says =
        let is : b ≡ 39 = eqb-true b 39 quote in
        rw is (quoted separator value text says)
    by false quote true slash says =
        let is : b ≡ 92 = eqb-true b 92 slash in
        rw is says
    by false quote false slash says = SaysByte b value text (rw (quote, slash) refl) says
byte_said separator Quoted b value text says = by (b == 39) refl says
  where
    by : (q : Bool) → (b == 39) ≡ q → SaysAfter separator (cond q Bare Quoted) value text →
        Inside separator (b ∷ value) (cond q [] (b ∷ []) ++ text)
    by true quote says =
        let is : b ≡ 39 = eqb-true b 39 quote in
        rw is (Closed [] value text refl says)
    by false other says = one_more separator b value text other says
byte_said separator Behind b value text says = by (is_escaped separator b) refl
  where
    by : (t : Bool) → is_escaped separator b ≡ t → Says separator (92 ∷ b ∷ value) (cond t (b ∷ []) (92 ∷ b ∷ []) ++ text)
    by true escaped = SaysEscaped b value text escaped says
    by false other = KeepsBackslash b value text other says

left_is_said : (separator : ℕ) (guard : Guard) (value : List ℕ) → SaysAfter separator guard value (plain_of separator guard value)
unfolding last_of
left_is_said separator Bare [] = SaysNothing
left_is_said separator Quoted [] = Unclosed [] refl
left_is_said separator Behind [] = LastBackslash
left_is_said separator guard (b ∷ value) =
    byte_said separator guard b value (plain_of separator (guard_after guard b) value) (left_is_said separator (guard_after guard b) value)

pub plain_is_said : (separator : ℕ) (value : List ℕ) → Says separator value (plain_of separator Bare value)
plain_is_said separator value = left_is_said separator Bare value
