-- What an entry posts of its events, as a draft forms it: what nobody wants is left out, and connections are gone through one by one.
use Rattle.std.proofs.Common.{◌≡◌, ℕ, suc, ◌+◌, ◌-◌, ◌^◌, ◌<◌, ◌≤◌, ◌==◌, min, Bool, true, false, ◌&&◌, ◌||◌, cond, if◌then◌else◌, List}
use Rattle.std.proofs.Common.{[], ◌∷◌, ◌++◌, length, map, take, drop, get_or, Option, None, Some, refl, sym, ap, subst, ◌∙◌}
use Rattle.std.proofs.Common.{append_assoc, append-nil, arith, zero, inl, inr}
use Rattle.std.specs.Prelude.{is_some, filter, count_by, option_map}
use Rattle.std.specs.List.{list_any}
use Rattle.std.proofs.Math.ListN.{get_or-map}
use Rattle.std.proofs.Math.Seq.{take-nil, take-length}
use Rattle.std.proofs.lemmas.Bool.{true≢false, eqb-true, cases_lt}
use Rattle.std.proofs.lemmas.List.{at_drop_more, get_or-drop, get_or-take, length-map, length-take, length-append, take_min, take_more}
use Rattle.std.proofs.lemmas.List.{take-append-le, map-append}
use Rattle.std.proofs.lemmas.List.Elements.{filter_more}
use Rattle.std.proofs.lemmas.List.Sums.{length-filter, count_by-le-length}
use Rattle.fs_text.specs.Texts.{Text}
use Rattle.fs_event.specs.declared.event.Event.{Event as Telling}
use Rattle.fs_event.specs.Texts.{frame}
use Rattle.fs_filter.specs.Subscriptions.{Subscription, lets_through, wants}
use Rattle.fs_seats.specs.declared.numbered.Numbered.{Numbered}
use Rattle.fs_seats.specs.Seats.{held_in, first_seat, IsEmptyFrom}
use Rattle.fs_seats.specs.Rows.{seat_of}
use Rattle.fs_state.specs.declared.conn.Conn.{Conn}
use Rattle.fs_state.specs.declared.event.Event.{Event}
use Rattle.fs_state.specs.Frames.{Gift}
use Rattle.fs_state.specs.Frames as outgoing
use Rattle.fs_state.specs.declared.post.Post.{Post}
use Rattle.fs_state.specs.Losses.{Losses}
use Rattle.fs_state.specs.Switch.{Switch}
use Rattle.fs_state.specs.declared.outbox.Waiting.TheVariants as waiting
use Rattle.fs_state.specs.Waiting.{Outbox}
use Rattle.fs_state.specs.Posting.{subclass_in, telling_of, tellings_from, tellings, wanted_by, posts_of, wanted_of, posts_at, posts_from, with_loss_of}
use Rattle.fs_state.specs.Posting.{losses_from, posts, losses_after, with_posts, wants_at, is_wanted, hears_at, is_heard, AreDeaf, told_of}
use Rattle.fs_state.specs.Posting.{post_of, posts_numbered, posts_told, is_taken, frames_at, numbers_at, room_for, frames_within, numbers_within}
use Rattle.fs_state.specs.Posting.{gifts_of, with_post, with_lost}
use Rattle.fs_state.specs.Posting.{left_for, posted_to, posted_at, posted_over}

-- ---- what nobody hears nobody wants

-- what the events of an entry tell that some connection wants
abbrev told : Switch → Switch → List Telling
told before s = filter (is_wanted before.conns) (tellings before s)

-- the connections that stand at seats
abbrev Seats : Type 0
Seats = List (Option (Numbered Conn))

unheard_at : (telling : Telling) (held : Option (Numbered Conn)) → hears_at telling.name telling.subclass held ≡ false →
    wants_at telling held ≡ false
unheard_at telling None none = refl
unheard_at telling (Some row) none = ap (λ b. b && lets_through row.held.subs.filters telling.headers) none

unheard_from : (telling : Telling) (conns : Seats) (k : ℕ) →
    is_some (first_seat (hears_at telling.name telling.subclass) conns k) ≡ false →
    is_some (first_seat (wants_at telling) conns k) ≡ false
unheard_from telling [] k none = refl
unheard_from telling (held ∷ conns) k none = by (hears_at telling.name telling.subclass held) refl (unheard_from telling conns (k + 1))
  where
    by : (b : Bool) → hears_at telling.name telling.subclass held ≡ b →
        (is_some (first_seat (hears_at telling.name telling.subclass) conns (k + 1)) ≡ false →
        is_some (first_seat (wants_at telling) conns (k + 1)) ≡ false) →
        is_some (first_seat (wants_at telling) (held ∷ conns) k) ≡ false
    by true is rest =
        let heard : is_some (first_seat (hears_at telling.name telling.subclass) (held ∷ conns) k) ≡ true =
        ap (λ b. is_some (if b then Some k else first_seat (hears_at telling.name telling.subclass) conns (k + 1))) is in
        absurd (true≢false (sym heard ∙ none))
    by false is rest =
        let behind : is_some (first_seat (hears_at telling.name telling.subclass) conns (k + 1)) ≡ false =
        sym (ap (λ b. is_some (if b then Some k else first_seat (hears_at telling.name telling.subclass) conns (k + 1))) is) ∙ none in
        ap (λ b. is_some (if b then Some k else first_seat (wants_at telling) conns (k + 1))) (unheard_at telling held is)
        ∙ rest behind

unheard : (conns : Seats) (telling : Telling) → is_heard conns telling.name telling.subclass ≡ false → is_wanted conns telling ≡ false
unheard conns telling none = unheard_from telling conns 0 none

-- one of these connections wants an event
abbrev wants_any : Telling → Seats → Bool
wants_any telling [] = false
wants_any telling (held ∷ conns) = wants_at telling held || wants_any telling conns

any_seat : (telling : Telling) (conns : Seats) (k : ℕ) → is_some (first_seat (wants_at telling) conns k) ≡ wants_any telling conns
any_seat telling [] k = refl
any_seat telling (held ∷ conns) k = by (wants_at telling held) (any_seat telling conns (k + 1))
  where
    by : (b : Bool) → is_some (first_seat (wants_at telling) conns (k + 1)) ≡ wants_any telling conns →
        is_some (if b then Some k else first_seat (wants_at telling) conns (k + 1)) ≡ (b || wants_any telling conns)
    by true rest = refl
    by false rest = rest

-- an event that nobody hears is not told
pub untold_unheard : (before s : Switch) (number : ℕ) (event : Event) → is_heard before.conns event.name (subclass_in event.detail) ≡ false →
    told_of before s number event ≡ None
unfolding telling_of
untold_unheard before s number event none =
    ap (λ b. if b then Some (telling_of before s number event) else None) (unheard before.conns (telling_of before s number event) none)

-- one that somebody wants is
pub told_wanted : (before s : Switch) (number : ℕ) (event : Event) → is_wanted before.conns (telling_of before s number event) ≡ true →
    told_of before s number event ≡ Some (telling_of before s number event)
told_wanted before s number event wanted =
    ap (λ b. if b then Some (telling_of before s number event) else None) wanted

-- one that nobody wants is not
pub told_unwanted : (before s : Switch) (number : ℕ) (event : Event) → is_wanted before.conns (telling_of before s number event) ≡ false →
    told_of before s number event ≡ None
told_unwanted before s number event unwanted =
    ap (λ b. if b then Some (telling_of before s number event) else None) unwanted

-- where nobody hears anything none is
deaf_posts : (seats : ℕ) (conns : Seats) (number : ℕ) (all : List Telling) → AreDeaf conns → posts_numbered seats conns number all ≡ []
deaf_posts seats conns number [] deaf = refl
deaf_posts seats conns number (telling ∷ all) deaf =
    ap (λ b. if b then post_of (take seats conns) number telling ∷ posts_numbered seats conns (number + 1) all
    else posts_numbered seats conns (number + 1) all) (unheard conns telling (deaf.each telling.name telling.subclass))
    ∙ deaf_posts seats conns (number + 1) all deaf

pub untold_deaf : (seats : ℕ) (before s : Switch) → AreDeaf before.conns → posts_told seats before s ≡ []
untold_deaf seats before s deaf = deaf_posts seats before.conns (s.counts.all + 1) (tellings before s) deaf

none_there : {T : Type 0} → (list : List T) → (length list == 0) ≡ true → list ≡ []
none_there [] none = refl
none_there (x ∷ list) none =
    let zero : length (x ∷ list) ≡ 0 = eqb-true (length (x ∷ list)) 0 none in
    absurd (omega (arith, zero))

-- nor where nothing happened
quiet_told : (seats : ℕ) (before s : Switch) → s.news ≡ [] → posts_told seats before s ≡ []
unfolding tellings
quiet_told seats before s none =
    ap (λ events. posts_numbered seats before.conns (s.counts.all + 1) (tellings_from before s (s.counts.all + 1) events)) none

pub untold_quiet : (seats : ℕ) (before s : Switch) → (length s.news == 0) ≡ true → posts_told seats before s ≡ []
untold_quiet seats before s none = quiet_told seats before s (none_there s.news none)

-- ---- what is told, event by event

-- the posts of events, the first of which has this number
abbrev pub posts_left : ℕ → Switch → Switch → ℕ → List Event → List Post
posts_left seats before s number events = posts_numbered seats before.conns number (tellings_from before s number events)

-- all of them, from the first on
pub told_whole : (seats : ℕ) (before s : Switch) → posts_left seats before s (s.counts.all + 1) s.news ≡ posts_told seats before s
unfolding tellings
told_whole seats before s = refl

told_case : (of : Telling → Post) (b : Bool) (telling : Telling) (more : List Post) (post : Option Post) →
    post ≡ option_map of (if b then Some telling else None) → (p : Post) → post ≡ Some p →
    (if b then of telling ∷ more else more) ≡ p ∷ more
told_case of true telling more post is p some =
    let same : Some (of telling) ≡ Some p = sym is ∙ some in
    let one : of telling ≡ p = cc in
    ap (λ (p : Post). p ∷ more) one
told_case of false telling more post is p some = let no : None ≡ Some p = sym is ∙ some in absurd cc

untold_case : (of : Telling → Post) (b : Bool) (telling : Telling) (more : List Post) (post : Option Post) →
    post ≡ option_map of (if b then Some telling else None) → post ≡ None →
    (if b then of telling ∷ more else more) ≡ more
untold_case of true telling more post is none = let no : Some (of telling) ≡ None = sym is ∙ none in absurd cc
untold_case of false telling more post is none = refl

-- the first of the events that are left is told, or not
left_more : (seats : ℕ) (before s : Switch) (events : List Event) (n i : ℕ) (d : Event) → i < length events → n ≤ 2 ^ 64 - 1 →
    posts_left seats before s n (drop i events)
    ≡ (if is_wanted before.conns (telling_of before s n (get_or events i d))
    then post_of (take seats before.conns) n (telling_of before s n (get_or events i d)) ∷ posts_left seats before s (n + 1) (drop (i + 1) events)
    else posts_left seats before s (n + 1) (drop (i + 1) events))
left_more seats before s events n i d within low =
    let number : min n (2 ^ 64 - 1) ≡ n = omega (arith, low) in
    let more = posts_left seats before s (n + 1) (drop (i + 1) events) in
    at_drop_more (posts_left seats before s n) events i d within
    ∙ ap (λ k. if is_wanted before.conns (telling_of before s k (get_or events i d))
    then post_of (take seats before.conns) n (telling_of before s k (get_or events i d)) ∷ more else more) number

-- the next event is told, or not
pub told_next : (seats : ℕ) (before s : Switch) (posts all : List Post) (events : List Event) (n i : ℕ) (d : Event) (p : Post)
    (post : Option Post) →
    i < length events → n ≤ 2 ^ 64 - 1 →
    posts ++ posts_left seats before s n (drop i events) ≡ all →
    post ≡ option_map (post_of (take seats before.conns) n) (told_of before s n (get_or events i d)) → post ≡ Some p →
    (posts ++ p ∷ []) ++ posts_left seats before s (n + 1) (drop (i + 1) events) ≡ all
told_next seats before s posts all events n i d p post within low kept told some =
    let of = post_of (take seats before.conns) n in
    let telling = telling_of before s n (get_or events i d) in
    let more = posts_left seats before s (n + 1) (drop (i + 1) events) in
    let here : posts_left seats before s n (drop i events) ≡ p ∷ more =
    left_more seats before s events n i d within low ∙ told_case of (is_wanted before.conns telling) telling more post told p some in
    append_assoc posts (p ∷ []) more ∙ sym (ap (λ rest. posts ++ rest) here) ∙ kept

pub told_skip : (seats : ℕ) (before s : Switch) (posts all : List Post) (events : List Event) (n i : ℕ) (d : Event)
    (post : Option Post) →
    i < length events → n ≤ 2 ^ 64 - 1 →
    posts ++ posts_left seats before s n (drop i events) ≡ all →
    post ≡ option_map (post_of (take seats before.conns) n) (told_of before s n (get_or events i d)) → post ≡ None →
    posts ++ posts_left seats before s (n + 1) (drop (i + 1) events) ≡ all
told_skip seats before s posts all events n i d post within low kept told none =
    let of = post_of (take seats before.conns) n in
    let telling = telling_of before s n (get_or events i d) in
    let more = posts_left seats before s (n + 1) (drop (i + 1) events) in
    let here : posts_left seats before s n (drop i events) ≡ more =
    left_more seats before s events n i d within low ∙ untold_case of (is_wanted before.conns telling) telling more post told none in
    sym (ap (λ rest. posts ++ rest) here) ∙ kept

-- ---- who wants it

-- whether one of some connections does
pub taken_any : (telling : Telling) (conns : Seats) → list_any (λ wants. wants) (map (wants_at telling) conns) ≡ wants_any telling conns
taken_any telling [] = refl
taken_any telling (held ∷ conns) = ap (λ more. wants_at telling held || more) (taken_any telling conns)

-- where no more seats are filled nobody else does
none_wants : (telling : Telling) (conns : Seats) → ((k : ℕ) → held_in conns k ≡ None) → wants_any telling conns ≡ false
none_wants telling [] none = refl
none_wants telling (held ∷ conns) none =
    ap (λ here. wants_at telling here || wants_any telling conns) (none 0) ∙ none_wants telling conns (λ k. none (suc k))

front_any : (telling : Telling) (seats : ℕ) (conns : Seats) → ((k : ℕ) → seats ≤ k → held_in conns k ≡ None) →
    wants_any telling (take seats conns) ≡ wants_any telling conns
front_any telling zero conns none = sym (none_wants telling conns (λ k. none k (omega arith)))
front_any telling (suc seats) [] none = refl
front_any telling (suc seats) (held ∷ conns) none =
    ap (λ more. wants_at telling held || more) (front_any telling seats conns (λ k from. none (suc k) (omega (arith, from))))

pub wanted_front : (telling : Telling) (seats : ℕ) (conns : Seats) → IsEmptyFrom seats conns →
    list_any (λ wants. wants) (map (wants_at telling) (take seats conns)) ≡ is_wanted conns telling
wanted_front telling seats conns empty =
    taken_any telling (take seats conns) ∙ front_any telling seats conns empty.each ∙ sym (any_seat telling conns 0)

-- the next seat is asked
pub taken_next : (telling : Telling) (conns : Seats) (seat : ℕ) (asked : List Bool) (wants : Bool) → seat < length conns →
    asked ≡ map (wants_at telling) (take seat conns) → wants ≡ wants_at telling (held_in conns seat) →
    asked ++ wants ∷ [] ≡ map (wants_at telling) (take (seat + 1) conns)
taken_next telling conns seat asked wants within is here =
    ap (λ some. some ++ wants ∷ []) is
    ∙ ap (λ wants. map (wants_at telling) (take seat conns) ++ wants ∷ []) here
    ∙ sym (ap (map (wants_at telling)) (take_more conns seat None within)
    ∙ map-append (wants_at telling) (take seat conns) (held_in conns seat ∷ []))

-- ---- the numbers of one connection

map_if : (b : Bool) (post : Post) → map (λ (post : Post). post.number) (cond b (post ∷ []) []) ≡ cond b (post.number ∷ []) []
map_if true post = refl
map_if false post = refl

taken_more : (seat : ℕ) (posts : List Post) (i : ℕ) (d : Post) → i < length posts →
    numbers_at seat (take (i + 1) posts)
    ≡ numbers_at seat (take i posts) ++ cond (is_taken seat (get_or posts i d)) ((get_or posts i d).number ∷ []) []
taken_more seat posts i d within =
    ap (map (λ (post : Post). post.number)) (filter_more (is_taken seat) posts i d within)
    ∙ map-append (λ (post : Post). post.number) (filter (is_taken seat) (take i posts))
    (cond (is_taken seat (get_or posts i d)) (get_or posts i d ∷ []) [])
    ∙ ap (λ more. numbers_at seat (take i posts) ++ more) (map_if (is_taken seat (get_or posts i d)) (get_or posts i d))

within_length : (room : ℕ) (numbers : List ℕ) → length (numbers_within room numbers) ≡ min room (length numbers)
within_length room numbers = length-map (take room numbers) waiting.Event ∙ length-take room numbers

take_whole : (room : ℕ) (numbers : List ℕ) → length numbers ≤ room → take room numbers ≡ numbers
take_whole room numbers few =
    let all : min room (length numbers) ≡ length numbers = omega (arith, few) in
    sym (take_min room numbers) ∙ ap (λ n. take n numbers) all ∙ take-length numbers

within_room : (room : ℕ) (numbers : List ℕ) (number : ℕ) → length (numbers_within room numbers) < room →
    numbers_within room (numbers ++ number ∷ []) ≡ numbers_within room numbers ++ waiting.Event number ∷ []
within_room room numbers number more =
    let few : length numbers + 1 ≤ room = omega (arith, more, within_length room numbers) in
    let whole : length (numbers ++ number ∷ []) ≤ room = omega (arith, few, length-append numbers (number ∷ [])) in
    ap (map waiting.Event) (take_whole room (numbers ++ number ∷ []) whole)
    ∙ map-append waiting.Event numbers (number ∷ [])
    ∙ sym (ap (λ front. map waiting.Event front ++ waiting.Event number ∷ []) (take_whole room numbers (omega (arith, few))))

within_full : (room : ℕ) (numbers more : List ℕ) → room ≤ length (numbers_within room numbers) →
    numbers_within room (numbers ++ more) ≡ numbers_within room numbers
within_full room numbers more full =
    ap (map waiting.Event) (take-append-le room numbers more (omega (arith, full, within_length room numbers)))

-- the next event is wanted, and there is room
pub number_taken : (room i seat : ℕ) (posts : List Post) (list : Outbox) (d : Post) → i < length posts →
    list ≡ numbers_within room (numbers_at seat (take i posts)) → length list < room → is_taken seat (get_or posts i d) ≡ true →
    list ++ waiting.Event (get_or posts i d).number ∷ [] ≡ numbers_within room (numbers_at seat (take (i + 1) posts))
number_taken room i seat posts list d within is more wanted =
    let room_left : length (numbers_within room (numbers_at seat (take i posts))) < room =
    subst (λ (some : Outbox). length some < room) is more in
    ap (λ (some : Outbox). some ++ waiting.Event (get_or posts i d).number ∷ []) is
    ∙ sym (ap (numbers_within room) (taken_more seat posts i d within
    ∙ ap (λ b. numbers_at seat (take i posts) ++ cond b ((get_or posts i d).number ∷ []) []) wanted)
    ∙ within_room room (numbers_at seat (take i posts)) (get_or posts i d).number room_left)

-- there is no room
pub number_lost : (room i seat : ℕ) (posts : List Post) (list : Outbox) (d : Post) → i < length posts →
    list ≡ numbers_within room (numbers_at seat (take i posts)) → room ≤ length list →
    list ≡ numbers_within room (numbers_at seat (take (i + 1) posts))
number_lost room i seat posts list d within is full =
    let none_left : room ≤ length (numbers_within room (numbers_at seat (take i posts))) =
    subst (λ (some : Outbox). room ≤ length some) is full in
    is
    ∙ sym (ap (numbers_within room) (taken_more seat posts i d within)
    ∙ within_full room (numbers_at seat (take i posts)) (cond (is_taken seat (get_or posts i d)) ((get_or posts i d).number ∷ []) []) none_left)

-- it is not wanted
pub number_unwanted : (room i seat : ℕ) (posts : List Post) (list : Outbox) (d : Post) → i < length posts →
    list ≡ numbers_within room (numbers_at seat (take i posts)) → is_taken seat (get_or posts i d) ≡ false →
    list ≡ numbers_within room (numbers_at seat (take (i + 1) posts))
number_unwanted room i seat posts list d within is unwanted =
    is
    ∙ sym (ap (numbers_within room) (taken_more seat posts i d within
    ∙ ap (λ b. numbers_at seat (take i posts) ++ cond b ((get_or posts i d).number ∷ []) []) unwanted
    ∙ append-nil (numbers_at seat (take i posts))))

-- how many are wanted
pub wanted_count : (seat : ℕ) (posts : List Post) → length (frames_at seat posts) ≡ count_by (is_taken seat) posts
wanted_count seat posts = length-map (filter (is_taken seat) posts) (λ (post : Post). post.frame) ∙ length-filter (is_taken seat) posts

-- no more than there are
pub wanted_few : (seat : ℕ) (posts : List Post) → length (frames_at seat posts) ≤ length posts
wanted_few seat posts = omega (arith, wanted_count seat posts, count_by-le-length (is_taken seat) posts)

pub ruleset count_rules = (wanted_count, wanted_few)

front_held : (seats seat : ℕ) (conns : Seats) (row : Numbered Conn) → IsEmptyFrom seats conns → held_in conns seat ≡ Some row →
    held_in (take seats conns) seat ≡ Some row
front_held seats seat conns row empty held =
    elim (cases_lt seat seats) [
      | inl before ↦ get_or-take seats conns seat None before ∙ held
      | inr behind ↦ let no : Some row ≡ None = sym held ∙ empty.each seat behind in absurd cc
    ]

-- the connection at a seat wants of these events what it has subscribed
taken_at : (seats seat : ℕ) (conns : Seats) (row : Numbered Conn) (number : ℕ) (telling : Telling) → IsEmptyFrom seats conns →
    held_in conns seat ≡ Some row →
    is_taken seat (post_of (take seats conns) number telling) ≡ wants row.held.subs telling
taken_at seats seat conns row number telling empty held =
    get_or-map (wants_at telling) (take seats conns) seat None
    ∙ ap (wants_at telling) (front_held seats seat conns row empty held)

pub taken_frames : (seats seat : ℕ) (conns : Seats) (row : Numbered Conn) (number : ℕ) (all : List Telling) → IsEmptyFrom seats conns →
    held_in conns seat ≡ Some row →
    frames_at seat (posts_numbered seats conns number all) ≡ wanted_by row.held.subs (filter (is_wanted conns) all)
taken_frames seats seat conns row number [] empty held = refl
taken_frames seats seat conns row number (telling ∷ all) empty held =
    on (is_wanted conns telling) (taken_frames seats seat conns row (number + 1) all empty held)
  where
    subs : Subscription
    subs = row.held.subs

    post : Post
    post = post_of (take seats conns) number telling

    rest : List Post
    rest = posts_numbered seats conns (number + 1) all

    kept : List Telling
    kept = filter (is_wanted conns) all

    by : (taken wanted : Bool) → taken ≡ wanted → frames_at seat rest ≡ wanted_by subs kept →
        map (λ (post : Post). post.frame) (cond taken (post ∷ filter (is_taken seat) rest) (filter (is_taken seat) rest))
        ≡ map frame (cond wanted (telling ∷ filter (wants subs) kept) (filter (wants subs) kept))
    by true true same again = ap (λ more. frame telling ∷ more) again
    by false false same again = again
    by true false same again = absurd (true≢false same)
    by false true same again = absurd (true≢false (sym same))

    on : (b : Bool) → frames_at seat rest ≡ wanted_by subs kept →
        frames_at seat (if b then post ∷ rest else rest) ≡ wanted_by subs (cond b (telling ∷ kept) kept)
    on true again = by (is_taken seat post) (wants subs telling) (taken_at seats seat conns row number telling empty held) again
    on false again = again

-- ---- one connection

empty_post : (conn room : ℕ) (s : Switch) → with_lost conn (length {A = Text} [] - room) (with_post conn (frames_within room []) s) ≡ s
empty_post conn room s =
    let none : length {A = Text} [] - room ≡ 0 = omega arith in
    ap (λ lost. with_lost conn lost (with_post conn (frames_within room []) s)) none
    ∙ ap (λ texts. with_post conn (map outgoing.Event texts) s) (take-nil {A = Text} room)
    ∙ ap (λ (gifts : List Gift). record s { posted = gifts }) (append-nil s.posted)

-- where nothing is wanted nothing is posted
posted_none : (before : Switch) (texts : List Text) (row : Numbered Conn) (s : Switch) → left_for s row texts ≡ [] →
    posted_to before texts row s ≡ s
posted_none before texts row s none =
    ap (λ (some : List Text). with_lost row.number (length some - room_for before row.number)
    (with_post row.number (frames_within (room_for before row.number) some) s)) none
    ∙ empty_post row.number (room_for before row.number) s

nothing_if : (b : Bool) (texts : List Text) → texts ≡ [] → (if b then texts else []) ≡ []
nothing_if true texts none = none
nothing_if false texts none = refl

-- nothing is posted to one that is not there any more
pub posted_gone : (before : Switch) (texts : List Text) (row : Numbered Conn) (s : Switch) →
    is_some (seat_of s.conns row.number) ≡ false → posted_to before texts row s ≡ s
posted_gone before texts row s gone =
    posted_none before texts row s (ap (λ b. if b then texts else []) gone)

-- one that is there is posted all
pub posted_there : (before : Switch) (texts : List Text) (row : Numbered Conn) (s : Switch) →
    is_some (seat_of s.conns row.number) ≡ true →
    posted_to before texts row s
    ≡ with_lost row.number (length texts - room_for before row.number)
    (with_post row.number (frames_within (room_for before row.number) texts) s)
posted_there before texts row s there =
    ap (λ b. let left = if b then texts else [] in
    with_lost row.number (length left - room_for before row.number)
    (with_post row.number (frames_within (room_for before row.number) left) s)) there

-- ---- one connection after another

pub over_next : (before : Switch) (posts : List Post) (conns : Seats) (seat : ℕ) (s : Switch) → seat < length conns →
    posted_over before posts seat (drop seat conns) s
    ≡ posted_over before posts (seat + 1) (drop (seat + 1) conns) (posted_at before posts seat (held_in conns seat) s)
over_next before posts conns seat s within = at_drop_more (λ left. posted_over before posts seat left s) conns seat None within

over_none : (before : Switch) (posts : List Post) (seat : ℕ) (left : Seats) (s : Switch) → ((k : ℕ) → held_in left k ≡ None) →
    posted_over before posts seat left s ≡ s
over_none before posts seat [] s none = refl
over_none before posts seat (held ∷ left) s none =
    ap (λ here. posted_over before posts (seat + 1) left (posted_at before posts seat here s)) (none 0)
    ∙ over_none before posts (seat + 1) left s (λ k. none (suc k))

-- where nothing stands any more
pub over_empty : (before : Switch) (posts : List Post) (conns : Seats) (from : ℕ) (s : Switch) → IsEmptyFrom from conns →
    posted_over before posts from (drop from conns) s ≡ s
over_empty before posts conns from s empty =
    over_none before posts from (drop from conns) s (λ k. get_or-drop from conns k None ∙ empty.each (from + k) (omega arith))

-- where nothing is told
over_nothing : (before : Switch) (seat : ℕ) (conns : Seats) (s : Switch) → posted_over before [] seat conns s ≡ s
over_nothing before seat [] s = refl
over_nothing before seat (None ∷ conns) s = over_nothing before (seat + 1) conns s
over_nothing before seat (Some row ∷ conns) s =
    ap (posted_over before [] (seat + 1) conns) (posted_none before [] row s (nothing_if (is_some (seat_of s.conns row.number)) [] refl))
    ∙ over_nothing before (seat + 1) conns s

pub over_untold : (before : Switch) (posts : List Post) (seat : ℕ) (conns : Seats) (s : Switch) → (length posts == 0) ≡ true →
    posted_over before posts seat conns s ≡ s
over_untold before posts seat conns s none =
    ap (λ (some : List Post). posted_over before some seat conns s) (none_there posts none) ∙ over_nothing before seat conns s

pub ruleset over_rules = (over_next, over_empty, over_untold)

-- ---- all of them

-- what is posted of some events to connections, as far as these are there
abbrev gifts_over : Switch → Seats → List Telling → Seats → List Gift
gifts_over before there all [] = []
gifts_over before there all (None ∷ conns) = gifts_over before there all conns
gifts_over before there all (Some row ∷ conns) =
    posts_of row.number (take (room_for before row.number) (wanted_of there all row)) ++ gifts_over before there all conns

-- what they have lost then
abbrev losses_over : Switch → Seats → List Telling → Seats → Losses → Losses
losses_over before there all [] losses = losses
losses_over before there all (None ∷ conns) losses = losses_over before there all conns losses
losses_over before there all (Some row ∷ conns) losses =
    losses_over before there all conns
    (with_loss_of row.number (length (wanted_of there all row) - room_for before row.number) losses)

gifts_posts : (conn : ℕ) (texts : List Text) → gifts_of conn (map outgoing.Event texts) ≡ posts_of conn texts
gifts_posts conn [] = refl
gifts_posts conn (text ∷ texts) = refl

over_done : (before : Switch) (posts : List Post) (all : List Telling) (whole : Seats) (seat : ℕ) (conns : Seats) (s : Switch) →
    ((k : ℕ) (row : Numbered Conn) → held_in whole k ≡ Some row → frames_at k posts ≡ wanted_by row.held.subs all) →
    ((k : ℕ) → held_in whole (seat + k) ≡ held_in conns k) →
    posted_over before posts seat conns s
    ≡ record s { posted = s.posted ++ gifts_over before s.conns all conns; losses = losses_over before s.conns all conns s.losses }
over_done before posts all whole seat [] s wanted same = sym (ap (λ (gifts : List Gift). record s { posted = gifts }) (append-nil s.posted))
over_done before posts all whole seat (None ∷ conns) s wanted same =
    over_done before posts all whole (seat + 1) conns s wanted (λ k. ap (held_in whole) (omega arith) ∙ same (suc k))
over_done before posts all whole seat (Some row ∷ conns) s wanted same =
    let here : held_in whole seat ≡ Some row = ap (held_in whole) {x = seat} {y = seat + 0} (omega arith) ∙ same 0 in
    let texts = take (room_for before row.number) (wanted_of s.conns all row) in
    let lost = length (wanted_of s.conns all row) - room_for before row.number in
    let losses = losses_over before s.conns all conns (with_loss_of row.number lost s.losses) in
    ap (λ (texts : List Text). posted_over before posts (seat + 1) conns (posted_to before texts row s)) (wanted seat row here)
    ∙ over_done before posts all whole (seat + 1) conns (posted_to before (wanted_by row.held.subs all) row s) wanted
    (λ k. ap (held_in whole) (omega arith) ∙ same (suc k))
    ∙ ap (λ (gifts : List Gift). record s { posted = (s.posted ++ gifts) ++ gifts_over before s.conns all conns; losses = losses })
    (gifts_posts row.number texts)
    ∙ ap (λ (gifts : List Gift). record s { posted = gifts; losses = losses })
    (append_assoc s.posted (posts_of row.number texts) (gifts_over before s.conns all conns))

from_gifts : (before s : Switch) (conns : Seats) → gifts_over before s.conns (tellings before s) conns ≡ posts_from before s conns
from_gifts before s [] = refl
from_gifts before s (None ∷ conns) = from_gifts before s conns
from_gifts before s (Some row ∷ conns) = ap (λ gifts. posts_at before s row ++ gifts) (from_gifts before s conns)

from_losses : (before s : Switch) (conns : Seats) (losses : Losses) →
    losses_over before s.conns (tellings before s) conns losses ≡ losses_from before s conns losses
from_losses before s [] losses = refl
from_losses before s (None ∷ conns) losses = from_losses before s conns losses
from_losses before s (Some row ∷ conns) losses =
    from_losses before s conns
    (with_loss_of row.number (length (wanted_of s.conns (tellings before s) row) - room_for before row.number) losses)

-- ---- what nobody wants may be left out

-- each event that one of these connections wants is told
abbrev AreTold : (Telling → Bool) → Seats → Type 0
AreTold is_told conns = (telling : Telling) → wants_any telling conns ≡ true → is_told telling ≡ true

told_first : (is_told : Telling → Bool) (row : Numbered Conn) (conns : Seats) → AreTold is_told (Some row ∷ conns) →
    (telling : Telling) → wants row.held.subs telling ≡ true → is_told telling ≡ true
told_first is_told row conns each telling wanted = each telling (ap (λ b. b || wants_any telling conns) wanted)

told_rest : (is_told : Telling → Bool) (held : Option (Numbered Conn)) (conns : Seats) → AreTold is_told (held ∷ conns) →
    AreTold is_told conns
told_rest is_told held conns each telling wanted = each telling (by (wants_at telling held))
  where
    by : (b : Bool) → (b || wants_any telling conns) ≡ true
    by true = refl
    by false = wanted

filter_told : (is_told : Telling → Bool) (subs : Subscription) (all : List Telling) →
    ((telling : Telling) → wants subs telling ≡ true → is_told telling ≡ true) →
    filter (wants subs) (filter is_told all) ≡ filter (wants subs) all
filter_told is_told subs [] each = refl
filter_told is_told subs (telling ∷ all) each = by (is_told telling) refl (filter_told is_told subs all each)
  where
    unwanted : (w : Bool) → wants subs telling ≡ w → is_told telling ≡ false → w ≡ false
    unwanted true wanted not_told = absurd (true≢false (sym (each telling wanted) ∙ not_told))
    unwanted false wanted not_told = refl

    by : (b : Bool) → is_told telling ≡ b → filter (wants subs) (filter is_told all) ≡ filter (wants subs) all →
        filter (wants subs) (cond b (telling ∷ filter is_told all) (filter is_told all)) ≡ cond (wants subs telling)
        (telling ∷ filter (wants subs) all) (filter (wants subs) all)
    by true is rest = ap (λ more. cond (wants subs telling) (telling ∷ more) more) rest
    by false is rest =
        rest
        ∙ sym (ap (λ w. cond w (telling ∷ filter (wants subs) all) (filter (wants subs) all))
        (unwanted (wants subs telling) refl is))

wanted_told : (there : Seats) (is_told : Telling → Bool) (all : List Telling) (row : Numbered Conn) →
    ((telling : Telling) → wants row.held.subs telling ≡ true → is_told telling ≡ true) →
    wanted_of there (filter is_told all) row ≡ wanted_of there all row
wanted_told there is_told all row each =
    ap (λ some. if is_some (seat_of there row.number) then map frame some else []) (filter_told is_told row.held.subs all each)

gifts_told : (before : Switch) (there : Seats) (is_told : Telling → Bool) (all : List Telling) (conns : Seats) →
    AreTold is_told conns →
    gifts_over before there (filter is_told all) conns ≡ gifts_over before there all conns
gifts_told before there is_told all [] each = refl
gifts_told before there is_told all (None ∷ conns) each =
    gifts_told before there is_told all conns (told_rest is_told None conns each)
gifts_told before there is_told all (Some row ∷ conns) each =
    ap (λ texts. posts_of row.number (take (room_for before row.number) texts) ++ gifts_over before there (filter is_told all) conns)
    (wanted_told there is_told all row (told_first is_told row conns each))
    ∙ ap (λ gifts. posts_of row.number (take (room_for before row.number) (wanted_of there all row)) ++ gifts)
    (gifts_told before there is_told all conns (told_rest is_told (Some row) conns each))

losses_told : (before : Switch) (there : Seats) (is_told : Telling → Bool) (all : List Telling) (conns : Seats) (losses : Losses) →
    AreTold is_told conns →
    losses_over before there (filter is_told all) conns losses ≡ losses_over before there all conns losses
losses_told before there is_told all [] losses each = refl
losses_told before there is_told all (None ∷ conns) losses each =
    losses_told before there is_told all conns losses (told_rest is_told None conns each)
losses_told before there is_told all (Some row ∷ conns) losses each =
    ap (λ (texts : List Text). losses_over before there (filter is_told all) conns
    (with_loss_of row.number (length texts - room_for before row.number) losses))
    (wanted_told there is_told all row (told_first is_told row conns each))
    ∙ losses_told before there is_told all conns
    (with_loss_of row.number (length (wanted_of there all row) - room_for before row.number) losses)
    (told_rest is_told (Some row) conns each)

-- ---- so all is posted

each_told : (conns : Seats) → AreTold (is_wanted conns) conns
each_told conns telling wanted = any_seat telling conns 0 ∙ wanted

pub all_posted : (seats : ℕ) (before s : Switch) → IsEmptyFrom seats before.conns →
    posted_over before (posts_told seats before s) 0 before.conns (record s { posted = [] }) ≡ with_posts before s
unfolding posts losses_after
all_posted seats before s empty =
    let conns = before.conns in
    let gifts : gifts_over before s.conns (told before s) conns ≡ posts_from before s conns =
    gifts_told before s.conns (is_wanted conns) (tellings before s) conns (each_told conns) ∙ from_gifts before s conns in
    let losses : losses_over before s.conns (told before s) conns s.losses ≡ losses_from before s conns s.losses =
    losses_told before s.conns (is_wanted conns) (tellings before s) conns s.losses (each_told conns)
    ∙ from_losses before s conns s.losses in
    over_done before (posts_told seats before s) (told before s) conns 0 conns (record s { posted = [] })
    (λ k row held. taken_frames seats k conns row (s.counts.all + 1) (tellings before s) empty held)
    (λ k. ap (held_in conns) (omega arith))
    ∙ ap (λ (gifts : List Gift). record s { posted = gifts; losses = losses_over before s.conns (told before s) conns s.losses }) gifts
    ∙ ap (λ (losses : Losses). record s { posted = posts_from before s conns; losses = losses }) losses
