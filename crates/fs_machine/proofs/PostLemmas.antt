-- What an entry gives to one connection, and what it posts.
use Rattle.std.proofs.Common.{◌≡◌, ℕ, suc, ◌+◌, ◌≤◌, ◌==◌, Bool, true, false, if◌then◌else◌, List, [], ◌∷◌, ◌++◌, length, map, take}
use Rattle.std.proofs.Common.{Option, None, Some, refl, sym, ap, subst, ◌∙◌, append_assoc, append-nil, arith}
use Rattle.std.specs.Prelude.{is_some}
use Rattle.std.proofs.Math.Seq.{take-nil}
use Rattle.std.proofs.lemmas.Bool.{eqb-true}
use Rattle.std.proofs.lemmas.List.{length-map, length-take}
use Rattle.fs_text.specs.Texts.{Text}
use Rattle.fs_seats.specs.declared.numbered.Numbered.{Numbered}
use Rattle.fs_seats.specs.Seats.{held_in}
use Rattle.fs_seats.specs.Rows.{has_number, seat_of}
use Rattle.fs_seats.proofs.RowLemmas.{AreDistinct, none_stands}
use Rattle.fs_state.specs.declared.conn.Conn.{Conn}
use Rattle.fs_state.specs.Frames.{Gift}
use Rattle.fs_state.specs.Frames as outgoing
use Rattle.fs_state.specs.Frames.{Frames, texts_of}
use Rattle.fs_state.specs.Switch.{Switch, outgoing_for}
use Rattle.fs_state.specs.Posting.{tellings, tellings_from, wanted_by, room_behind, posts_of, wanted_at, posts_at, posts_from, posts}
use Rattle.fs_state.proofs.GiftLemmas.{texts_append}
use Rattle.fs_machine.specs.Frames.{frames_among}

-- ---- gifts for one connection

-- the frames among gifts that are for a connection
abbrev pub frames_for : ℕ → List Gift → Frames
frames_for conn [] = []
frames_for conn (gift ∷ gifts) = (if gift.conn == conn then gift.frames else []) ++ frames_for conn gifts

texts_if : (b : Bool) (frames : Frames) → texts_of (if b then frames else []) ≡ (if b then texts_of frames else [])
texts_if true frames = refl
texts_if false frames = refl

-- their texts
pub texts_for : (conn : ℕ) (gifts : List Gift) → texts_of (frames_for conn gifts) ≡ frames_among conn gifts
texts_for conn [] = refl
texts_for conn (gift ∷ gifts) =
    texts_append (if gift.conn == conn then gift.frames else []) (frames_for conn gifts)
    ∙ ap (λ texts. texts ++ texts_of (frames_for conn gifts)) (texts_if (gift.conn == conn) gift.frames)
    ∙ ap (λ texts. (if gift.conn == conn then texts_of gift.frames else []) ++ texts) (texts_for conn gifts)

-- those of some gifts, and then of others
pub frames_append : (conn : ℕ) (a b : List Gift) → frames_for conn (a ++ b) ≡ frames_for conn a ++ frames_for conn b
frames_append conn [] b = refl
frames_append conn (gift ∷ a) b =
    ap (λ frames. (if gift.conn == conn then gift.frames else []) ++ frames) (frames_append conn a b)
    ∙ sym (append_assoc (if gift.conn == conn then gift.frames else []) (frames_for conn a) (frames_for conn b))

pub among_append : (conn : ℕ) (a b : List Gift) → frames_among conn (a ++ b) ≡ frames_among conn a ++ frames_among conn b
among_append conn [] b = refl
among_append conn (gift ∷ a) b =
    ap (λ texts. (if gift.conn == conn then texts_of gift.frames else []) ++ texts) (among_append conn a b)
    ∙ sym (append_assoc (if gift.conn == conn then texts_of gift.frames else []) (frames_among conn a) (frames_among conn b))

-- ---- where nothing happened

-- nothing is told
nothing_told : (before s : Switch) → s.news ≡ [] → tellings before s ≡ []
unfolding tellings
nothing_told before s none = ap (tellings_from before s (s.counts.all + 1)) none

nothing_if : (b : Bool) (texts : List Text) → texts ≡ [] → (if b then texts else []) ≡ []
nothing_if true texts none = none
nothing_if false texts none = refl

nothing_at : (before s : Switch) (row : Numbered Conn) → tellings before s ≡ [] → posts_at before s row ≡ []
nothing_at before s row none =
    ap (λ texts. posts_of row.number (take (room_behind (outgoing_for before row.number)) texts))
    (nothing_if (is_some (seat_of s.conns row.number)) (wanted_by row.held.subs (tellings before s)) (ap (wanted_by row.held.subs) none))
    ∙ ap (posts_of row.number) (take-nil (room_behind (outgoing_for before row.number)))

nothing_from : (before s : Switch) (conns : List (Option (Numbered Conn))) → tellings before s ≡ [] → posts_from before s conns ≡ []
nothing_from before s [] none = refl
nothing_from before s (None ∷ conns) none = nothing_from before s conns none
nothing_from before s (Some row ∷ conns) none =
    ap (λ gifts. gifts ++ posts_from before s conns) (nothing_at before s row none) ∙ nothing_from before s conns none

-- so nothing is posted
pub nothing_posted : (before s : Switch) → s.news ≡ [] → posts before s ≡ []
unfolding posts
nothing_posted before s none = nothing_from before s before.conns (nothing_told before s none)

-- ---- what is posted to one connection

-- nothing of what is for another
other_posts : (number conn : ℕ) (texts : List Text) → (number == conn) ≡ false → frames_for conn (posts_of number texts) ≡ []
other_posts number conn [] apart = refl
other_posts number conn (text ∷ texts) apart = ap (λ b. (if b then map outgoing.Event (text ∷ texts) else []) ++ []) apart

own_posts : (number conn : ℕ) (texts : List Text) → length (frames_for conn (posts_of number texts)) ≤ length texts
own_posts number conn [] = omega arith
own_posts number conn (text ∷ texts) = by (number == conn)
  where
    by : (b : Bool) → length ((if b then map outgoing.Event (text ∷ texts) else []) ++ []) ≤ length (text ∷ texts)
    by true =
        let whole : length (map outgoing.Event (text ∷ texts) ++ []) ≡ length (text ∷ texts) =
        ap length (append-nil (map outgoing.Event (text ∷ texts))) ∙ length-map (text ∷ texts) outgoing.Event in
        omega (arith, whole)
    by false = omega arith

-- where its number stands nowhere nothing is for it
none_from : (before s : Switch) (conn : ℕ) (conns : List (Option (Numbered Conn))) →
    ((seat : ℕ) → has_number conn (held_in conns seat) ≡ false) →
    frames_for conn (posts_from before s conns) ≡ []
none_from before s conn [] apart = refl
none_from before s conn (None ∷ conns) apart = none_from before s conn conns (λ seat. apart (suc seat))
none_from before s conn (Some row ∷ conns) apart =
    frames_append conn (posts_at before s row) (posts_from before s conns)
    ∙ ap (λ frames. frames ++ frames_for conn (posts_from before s conns))
    (other_posts row.number conn (take (room_behind (outgoing_for before row.number)) (wanted_at before s row)) (apart 0))
    ∙ none_from before s conn conns (λ seat. apart (suc seat))

-- one that was not there before the entry is told nothing
pub posts_gone : (before s : Switch) (conn : ℕ) → seat_of before.conns conn ≡ None → frames_among conn (posts before s) ≡ []
unfolding posts
posts_gone before s conn gone =
    sym (texts_for conn (posts_from before s before.conns))
    ∙ ap texts_of (none_from before s conn before.conns (none_stands before.conns conn gone))

-- no number stands twice in the rest of a table
distinct_rest : (held : Option (Numbered Conn)) (conns : List (Option (Numbered Conn))) → AreDistinct (held ∷ conns) → AreDistinct conns
distinct_rest held conns distinct number p q first second =
    let same : suc p ≡ suc q = distinct number (suc p) (suc q) first second in omega (arith, same)

-- that of the first row stands nowhere in it
alone_first : (row : Numbered Conn) (conns : List (Option (Numbered Conn))) (conn : ℕ) → AreDistinct (Some row ∷ conns) →
    (row.number == conn) ≡ true → (seat : ℕ) → has_number conn (held_in conns seat) ≡ false
alone_first row conns conn distinct mine seat = by (has_number conn (held_in conns seat)) refl
  where
    by : (b : Bool) → has_number conn (held_in conns seat) ≡ b → b ≡ false
    by true also = let same : 0 ≡ suc seat = distinct conn 0 (suc seat) mine also in absurd (omega (arith, same))
    by false also = refl

-- a connection is told as much as there is room for
few_from : (before s : Switch) (conn : ℕ) (conns : List (Option (Numbered Conn))) → AreDistinct conns →
    length (frames_for conn (posts_from before s conns)) ≤ room_behind (outgoing_for before conn)
few_from before s conn [] distinct = omega arith
few_from before s conn (None ∷ conns) distinct = few_from before s conn conns (distinct_rest None conns distinct)
few_from before s conn (Some row ∷ conns) distinct =
    subst (λ (frames : Frames). length frames ≤ room_behind (outgoing_for before conn))
    (sym (frames_append conn (posts_at before s row) (posts_from before s conns)))
    (by (row.number == conn) refl (few_from before s conn conns (distinct_rest (Some row) conns distinct)))
  where
    texts : List Text
    texts = take (room_behind (outgoing_for before row.number)) (wanted_at before s row)

    room : length texts ≤ room_behind (outgoing_for before row.number)
    room = omega (arith, length-take (room_behind (outgoing_for before row.number)) (wanted_at before s row))

    by : (b : Bool) → (row.number == conn) ≡ b →
        length (frames_for conn (posts_from before s conns)) ≤ room_behind (outgoing_for before conn) →
        length (frames_for conn (posts_at before s row) ++ frames_for conn (posts_from before s conns)) ≤ room_behind
        (outgoing_for before conn)
    by true mine few =
        let alone = none_from before s conn conns (alone_first row conns conn distinct mine) in
        let whole : length (frames_for conn (posts_at before s row) ++ frames_for conn (posts_from before s conns)) ≡ length
        (frames_for conn (posts_at before s row)) =
        ap (λ frames. length (frames_for conn (posts_at before s row) ++ frames)) alone
        ∙ ap length (append-nil (frames_for conn (posts_at before s row))) in
        subst (λ number. length (frames_for conn (posts_at before s row) ++ frames_for conn (posts_from before s conns)) ≤ room_behind
        (outgoing_for before number)) (eqb-true row.number conn mine)
        (omega (arith, whole, own_posts row.number conn texts, room))
    by false apart few =
        subst (λ (frames : Frames). length (frames ++ frames_for conn (posts_from before s conns)) ≤ room_behind (outgoing_for before conn))
        (sym (other_posts row.number conn texts apart))
        few

pub few_posts : (before s : Switch) (conn : ℕ) → AreDistinct before.conns →
    length (frames_for conn (posts before s)) ≤ room_behind (outgoing_for before conn)
unfolding posts
few_posts before s conn distinct = few_from before s conn before.conns distinct
