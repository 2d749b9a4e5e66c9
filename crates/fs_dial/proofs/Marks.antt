-- What is protected in a bracket, and where its marks stand.
use Rattle.std.proofs.Common.{◌≡◌, ℕ, Bool, true, false, cond, not, ◌&&◌, ◌||◌, ◌==◌, List, [], ◌∷◌, ◌++◌, refl, sym, ap, ◌∙◌, append_assoc}
use Rattle.std.specs.List.{list_any}
use Rattle.fs_dial.specs.declared.guard.Guard.{Guard}
use Rattle.fs_dial.specs.declared.guard.Guard.TheVariants.{Bare, Quoted, Behind}
use Rattle.fs_dial.specs.Guards.{is_guard, guard_after, is_mark, from_mark}
use Rattle.fs_dial.specs.Spelling.{is_quote, Protects, NoBytes, Byte, Escaped, InQuotes}
use Rattle.fs_dial.proofs.Cuts.{or_false, eqb-true, eqb-refl}

-- ---- what is protected is passed

quoted_passed : (mark : ℕ) (inside bytes : List ℕ) → list_any is_quote inside ≡ false →
    from_mark mark Quoted (inside ++ (39 ∷ bytes)) ≡ from_mark mark Bare bytes
unfolding is_mark guard_after
quoted_passed mark [] bytes none = refl
quoted_passed mark (b ∷ inside) bytes none =
    let parts = or_false (is_quote b) (list_any is_quote inside) none in
    let other : (b == 39) ≡ false = parts.0 in
    rw other (quoted_passed mark inside bytes parts.1)

pub passed : (mark : ℕ) (bytes rest : List ℕ) → Protects mark bytes → from_mark mark Bare (bytes ++ rest) ≡ from_mark mark Bare rest
unfolding is_mark guard_after is_guard
passed mark bytes rest NoBytes = refl
passed mark bytes rest (Byte b more plain other is) =
    let parts = or_false (b == 39) (b == 92) plain in
    let no_quote : (b == 39) ≡ false = parts.0 in
    let no_backslash : (b == 92) ≡ false = parts.1 in
    rw (plain, other, no_quote, no_backslash) (passed mark more rest is)
passed mark bytes rest (Escaped b more is) = passed mark more rest is
passed mark bytes rest (InQuotes inside more none is) =
    ap (from_mark mark Quoted) (append_assoc inside (39 ∷ more) rest) ∙ quoted_passed mark inside (more ++ rest) none
    ∙ passed mark more rest is

-- a mark that is not protected is found
pub found : (mark : ℕ) (rest : List ℕ) → is_guard mark ≡ false → from_mark mark Bare (mark ∷ rest) ≡ mark ∷ rest
unfolding is_mark
found mark rest plain = rw (plain, eqb-refl mark) refl

-- ---- what stands before a mark is protected

-- how the byte behind some bytes is protected
abbrev pub guard_over : Guard → List ℕ → Guard
guard_over guard [] = guard
guard_over guard (b ∷ bytes) = guard_over (guard_after guard b) bytes

-- bytes that begin in quotes or behind a backslash, and are protected behind that
pub record Closes (mark : ℕ) (front : List ℕ) : Type 0 where
  pub inside : List ℕ
  pub more : List ℕ
  pub whole : front ≡ inside ++ (39 ∷ more)
  pub none : list_any is_quote inside ≡ false
  pub is : Protects mark more

pub record OneBehind (mark : ℕ) (front : List ℕ) : Type 0 where
  pub b : ℕ
  pub more : List ℕ
  pub whole : front ≡ b ∷ more
  pub is : Protects mark more

abbrev pub After : ℕ → Guard → List ℕ → Type 0
After mark Bare front = Protects mark front
After mark Quoted front = Closes mark front
After mark Behind front = OneBehind mark front

byte_more : (mark : ℕ) (guard : Guard) (b : ℕ) (front : List ℕ) → is_mark mark guard b ≡ false → After mark (guard_after guard b) front →
    After mark guard (b ∷ front)
unfolding is_mark guard_after is_guard
byte_more mark Bare b front unmarked after = by (b == 39) refl (b == 92) refl unmarked after
  where
    by : (q : Bool) → (b == 39) ≡ q → (s : Bool) → (b == 92) ≡ s → (not (q || s) && (b == mark)) ≡ false →
        After mark (cond q Quoted (cond s Behind Bare)) front → Protects mark (b ∷ front)
    by true quote s slash unmarked c =
        let is : b ≡ 39 = eqb-true b 39 quote in
        rw (is, c.whole) (InQuotes c.inside c.more c.none c.is)
    by false quote true slash unmarked c =
        let is : b ≡ 92 = eqb-true b 92 slash in
        rw (is, c.whole) (Escaped c.b c.more c.is)
    by false quote false slash unmarked c = Byte b front (rw (quote, slash) refl) unmarked c
byte_more mark Quoted b front unmarked after = by (b == 39) refl after
  where
    by : (q : Bool) → (b == 39) ≡ q → After mark (cond q Bare Quoted) front → Closes mark (b ∷ front)
    by true quote c =
        let is : b ≡ 39 = eqb-true b 39 quote in
        record { inside = []; more = front; whole = ap (λ x. x ∷ front) is; none = refl; is = c }
    by false other c = record { inside = b ∷ c.inside; more = c.more; whole = ap (λ l. b ∷ l) c.whole; none = rw other c.none; is = c.is }
byte_more mark Behind b front unmarked after = record { b = b; more = front; whole = refl; is = after }

pub record Before (mark : ℕ) (guard : Guard) (bytes from : List ℕ) : Type 0 where
  pub front : List ℕ
  pub whole : bytes ≡ front ++ from
  pub is : After mark guard front

marked_bare : (mark : ℕ) (guard : Guard) (b : ℕ) → is_mark mark guard b ≡ true → After mark guard []
unfolding is_mark
marked_bare mark Bare b is = NoBytes
marked_bare mark Quoted b is = absurd (cc)
marked_bare mark Behind b is = absurd (cc)

nothing_left : (mark : ℕ) (guard : Guard) → guard ≡ Bare → After mark guard []
nothing_left mark Bare is = NoBytes
nothing_left mark Quoted is = absurd (cc)
nothing_left mark Behind is = absurd (cc)

-- where no mark is found, the bytes are to end unprotected
pub before : (mark : ℕ) (guard : Guard) (bytes from : List ℕ) → from_mark mark guard bytes ≡ from →
    (from ≡ [] → guard_over guard bytes ≡ Bare) → Before mark guard bytes from
before mark guard [] from e ends = record { front = []; whole = e; is = nothing_left mark guard (ends (sym e)) }
before mark guard (b ∷ bytes) from e ends = by (is_mark mark guard b) refl e (λ e. before mark (guard_after guard b) bytes from e ends)
  where
    by : (t : Bool) → is_mark mark guard b ≡ t → cond t (b ∷ bytes) (from_mark mark (guard_after guard b) bytes) ≡ from
        → (from_mark mark (guard_after guard b) bytes ≡ from → Before mark (guard_after guard b) bytes from) →
        Before mark guard (b ∷ bytes) from
    by true marked e more = record { front = []; whole = e; is = marked_bare mark guard b marked }
    by false other e more =
        let m = more e in
        record { front = b ∷ m.front; whole = ap (λ l. b ∷ l) m.whole; is = byte_more mark guard b m.front other m.is }

-- what is found is the mark, which is no quote and no backslash
pub record Found (mark b : ℕ) : Type 0 where
  pub same : b ≡ mark
  pub plain : is_guard mark ≡ false

is_found : (mark : ℕ) (guard : Guard) (b : ℕ) → is_mark mark guard b ≡ true → Found mark b
unfolding is_mark
is_found mark Bare b is = by (is_guard b) refl is
  where
    by : (t : Bool) → is_guard b ≡ t → (not t && (b == mark)) ≡ true → Found mark b
    by true guards e = absurd (cc)
    by false plain e =
        let same : b ≡ mark = eqb-true b mark e in
        record { same = same; plain = ap is_guard (sym same) ∙ plain }
is_found mark Quoted b is = absurd (cc)
is_found mark Behind b is = absurd (cc)

pub found_mark : (mark : ℕ) (guard : Guard) (bytes : List ℕ) (b : ℕ) (rest : List ℕ) → from_mark mark guard bytes ≡ b ∷ rest → Found mark b
found_mark mark guard [] b rest e = absurd (cc)
found_mark mark guard (c ∷ bytes) b rest e = by (is_mark mark guard c) refl e (found_mark mark (guard_after guard c) bytes b rest)
  where
    first : c ∷ bytes ≡ b ∷ rest → c ≡ b
    first e = cc

    by : (t : Bool) → is_mark mark guard c ≡ t → cond t (c ∷ bytes) (from_mark mark (guard_after guard c) bytes) ≡ b ∷ rest
        → (from_mark mark (guard_after guard c) bytes ≡ b ∷ rest → Found mark b) → Found mark b
    by true marked e more = rw (← first e) (is_found mark guard c marked)
    by false other e more = more e

-- ---- what is protected ends unprotected

quotes_over : (inside bytes : List ℕ) → list_any is_quote inside ≡ false →
    guard_over Quoted (inside ++ (39 ∷ bytes)) ≡ guard_over Bare bytes
unfolding guard_after
quotes_over [] bytes none = refl
quotes_over (b ∷ inside) bytes none =
    let parts = or_false (is_quote b) (list_any is_quote inside) none in
    let other : (b == 39) ≡ false = parts.0 in
    rw (guard_over, other) (quotes_over inside bytes parts.1)

pub over : (mark : ℕ) (bytes rest : List ℕ) → Protects mark bytes → guard_over Bare (bytes ++ rest) ≡ guard_over Bare rest
unfolding guard_after is_guard
over mark bytes rest NoBytes = refl
over mark bytes rest (Byte b more plain other is) =
    let parts = or_false (b == 39) (b == 92) plain in
    let no_quote : (b == 39) ≡ false = parts.0 in
    let no_backslash : (b == 92) ≡ false = parts.1 in
    rw (guard_over, no_quote, no_backslash) (over mark more rest is)
over mark bytes rest (Escaped b more is) = over mark more rest is
over mark bytes rest (InQuotes inside more none is) =
    ap (guard_over Quoted) (append_assoc inside (39 ∷ more) rest) ∙ quotes_over inside (more ++ rest) none ∙ over mark more rest is

-- behind a mark too
pub over_mark : (mark : ℕ) (rest : List ℕ) → is_guard mark ≡ false → guard_over Bare (mark ∷ rest) ≡ guard_over Bare rest
unfolding guard_after is_guard
over_mark mark rest plain =
    let parts = or_false (mark == 39) (mark == 92) plain in
    let no_quote : (mark == 39) ≡ false = parts.0 in
    let no_backslash : (mark == 92) ≡ false = parts.1 in
    rw (guard_over, no_quote, no_backslash) refl
