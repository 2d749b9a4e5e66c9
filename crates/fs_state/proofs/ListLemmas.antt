-- The numbers of events that are listed for connections: with the texts of the events they come to the frames that are posted, and each
-- event has as many readers as its number is listed.
use Rattle.std.proofs.Common.{◌≡◌, ℕ, zero, suc, ◌+◌, ◌-◌, ◌<◌, ◌≤◌, ◌==◌, Bool, true, false, cond, List, [], ◌∷◌, ◌++◌, length, map}
use Rattle.std.proofs.Common.{take, get_or, Option, None, Some, refl, sym, ap, subst, ◌∙◌, arith, if◌then◌else◌, All, ◌^◌, min, ◌⊎◌, inl, inr}
use Rattle.std.specs.Prelude.{filter}
use Rattle.std.specs.List.{AllPairs, slice_set, find}
use Rattle.std.proofs.Math.ListN.{get_or-map as at_index}
use Rattle.std.proofs.lemmas.Bool.{eqb-true, cases_eq}
use Rattle.std.proofs.lemmas.Bool.Decides.{nat_tests}
use Rattle.std.proofs.lemmas.List.{get_or-map, length-map, map-append, map-set, take-map}
use Rattle.std.proofs.lemmas.List.Elements.{All-nil, All-cons, All-head, All-tail, All-filter, All-take}
use Rattle.std.proofs.lemmas.List.Kept.{AllPairs-cons}
use Rattle.std.proofs.lemmas.List.Sums.{sum_by-cons, sum_by_push}
use Rattle.std.proofs.Math.Seq.{map-set_same}
use Rattle.fs_text.specs.Texts.{Text}
use Rattle.fs_event.specs.declared.event.Event.{Event as Telling}
use Rattle.fs_event.specs.Rings.{Pair, has_number}
use Rattle.fs_seats.specs.declared.numbered.Numbered.{Numbered}
use Rattle.fs_state.specs.declared.conn.Conn.{Conn}
use Rattle.fs_state.specs.declared.gift.Given.{Given}
use Rattle.fs_state.specs.declared.outbox.Waiting.TheVariants as waiting
use Rattle.fs_state.specs.declared.post.Post.{Post}
use Rattle.fs_state.specs.Frames.{Gift, Event}
use Rattle.fs_state.specs.Posted.{event_of, events_of, unread}
use Rattle.fs_state.specs.Posting.{post_of, posts_numbered, is_wanted, is_taken, frames_at, numbers_at, frames_within, numbers_within, gifts_of, lists_of}
use Rattle.fs_state.specs.Posting.{with_post, with_lists, posted_to, posted_at}
use Rattle.fs_state.specs.Switch.{Switch}
use Rattle.fs_state.specs.Waiting.{Outbox, text_in, frames_in, gifts_in, is_of, times, times_given, readers_of, AreOrdered, AreCounted, AreNumbered}
use Rattle.fs_state.proofs.HeldLemmas.{one_if, same_number, order_behind}
use Rattle.fs_state.proofs.MailLemmas.{gifts_alike, given_append}

-- ---- posts that are told are in order, and nobody is to read them yet

-- the posts of these number on from one
high : (seats : ℕ) (conns : List (Option (Numbered Conn))) (number : ℕ) (all : List Telling) →
    All (λ (event : Pair Text). number ≤ event.number) (events_of (posts_numbered seats conns number all))
high seats conns number [] = All-nil (λ (event : Pair Text). number ≤ event.number)
high seats conns number (telling ∷ all) = by (is_wanted conns telling) (high seats conns (number + 1) all)
  where
    P : Pair Text → Type 0
    P event = number ≤ event.number

    post : Post
    post = post_of (take seats conns) number telling

    rest : List Post
    rest = posts_numbered seats conns (number + 1) all

    by : (b : Bool) → All (λ (event : Pair Text). number + 1 ≤ event.number) (events_of rest) → All P (events_of (if b then post ∷ rest else rest))
    by true more = All-cons P (event_of post) (events_of rest) (omega arith) (λ k d within. omega (arith, more k d within))
    by false more = λ k d within. omega (arith, more k d within)

pub told_ordered : (seats : ℕ) (conns : List (Option (Numbered Conn))) (number : ℕ) (all : List Telling) →
    AreOrdered (events_of (posts_numbered seats conns number all))
told_ordered seats conns number [] = λ i j d before within. absurd (omega (arith, within))
told_ordered seats conns number (telling ∷ all) = by (is_wanted conns telling) (told_ordered seats conns (number + 1) all)
  where
    post : Post
    post = post_of (take seats conns) number telling

    rest : List Post
    rest = posts_numbered seats conns (number + 1) all

    by : (b : Bool) → AreOrdered (events_of rest) → AreOrdered (events_of (if b then post ∷ rest else rest))
    by true order =
        AllPairs-cons (λ (pair : Pair Text) later. pair.number < later.number) (event_of post) (events_of rest)
        (λ k d within. omega (arith, high seats conns (number + 1) all k d within)) order
    by false order = order

pub told_unread : (seats : ℕ) (conns : List (Option (Numbered Conn))) (number : ℕ) (all : List Telling) (other : ℕ) →
    readers_of other (events_of (posts_numbered seats conns number all)) ≡ 0
told_unread seats conns number [] other = refl
told_unread seats conns number (telling ∷ all) other = by (is_wanted conns telling) (told_unread seats conns (number + 1) all other)
  where
    post : Post
    post = post_of (take seats conns) number telling

    rest : List Post
    rest = posts_numbered seats conns (number + 1) all

    on : (b : Bool) → readers_of other (events_of rest) ≡ 0 →
        Rattle.fs_state.specs.Waiting.readers_in (if b then Some (event_of post) else find (has_number other) (events_of rest)) ≡ 0
    on true none = refl
    on false none = none

    by : (b : Bool) → readers_of other (events_of rest) ≡ 0 → readers_of other (events_of (if b then post ∷ rest else rest)) ≡ 0
    by true none = on (number == other) none
    by false none = none

pub none_listed : (seats : ℕ) (conns : List (Option (Numbered Conn))) (number : ℕ) (all : List Telling) →
    AreCounted (events_of (posts_numbered seats conns number all)) []
none_listed seats conns number all = record {
  order = told_ordered seats conns number all;
  each = λ other. told_unread seats conns number all other;
}

-- ---- an event is read once more

above : (n m : ℕ) → n < m → (m == n) ≡ false
above n m less = grind (arith, nat_tests)

-- how many are to read an event, once one more is to read the one at an index
pub readers_raised : (events : List (Pair Text)) (i : ℕ) (d : Pair Text) (more : Pair Text) (number : ℕ) → AreOrdered events → i < length events →
    more ≡ record (get_or events i d) { readers = (get_or events i d).readers + 1 } →
    readers_of number (slice_set events i more) ≡ readers_of number events + one_if ((get_or events i d).number == number)
readers_raised [] i d more number order within is = absurd (omega (arith, within))
readers_raised (event ∷ events) zero d more number order within is = by (event.number == number) refl
  where
    same : (more.number == number) ≡ (event.number == number)
    same = ap (λ (e : Pair Text). e.number == number) is

    by : (b : Bool) → (event.number == number) ≡ b →
        readers_of number (more ∷ events) ≡ Rattle.fs_state.specs.Waiting.readers_in (if b then Some event else find (has_number number) events) + one_if b
    by true e =
        ap (λ b. Rattle.fs_state.specs.Waiting.readers_in (if b then Some more else find (has_number number) events)) (same ∙ e)
        ∙ ap (λ (e : Pair Text). e.readers) is
    by false e =
        ap (λ b. Rattle.fs_state.specs.Waiting.readers_in (if b then Some more else find (has_number number) events)) (same ∙ e) ∙ omega arith
readers_raised (event ∷ events) (suc i) d more number order within is =
    by (event.number == number) refl
    (readers_raised events i d more number (order_behind event events order) (omega (arith, within)) is)
  where
    at : Pair Text
    at = get_or events i d

    behind : event.number < at.number
    behind = order zero (suc i) d (omega arith) within

    by : (b : Bool) → (event.number == number) ≡ b →
        readers_of number (slice_set events i more) ≡ readers_of number events + one_if (at.number == number) →
        Rattle.fs_state.specs.Waiting.readers_in (if b then Some event else find (has_number number) (slice_set events i more))
        ≡ Rattle.fs_state.specs.Waiting.readers_in (if b then Some event else find (has_number number) events) + one_if (at.number == number)
    by true e again =
        let this : event.number ≡ number = eqb-true event.number number e in
        let less : number < at.number = subst (λ n. n < at.number) this behind in
        let other : (at.number == number) ≡ false = above number at.number less in
        let none : event.readers ≡ event.readers + 0 = omega arith in
        none ∙ sym (ap (λ b. event.readers + one_if b) other)
    by false e again = again

-- ---- what does not depend on who reads it

-- the numbers of events
abbrev pub numbers_of : List (Pair Text) → List ℕ
numbers_of events = map (λ event. event.number) events

order_to : (events : List (Pair Text)) → AreOrdered events → AllPairs (λ n m. n < m) (numbers_of events)
order_to events order i j d before within =
    let some : Pair Text = record { number = 0; event = []; readers = 0 } in
    let inner : j < length events = omega (arith, within, length-map events (λ (event : Pair Text). event.number)) in
    omega (
      arith,
      order i j some before inner,
      get_or-map (λ (event : Pair Text). event.number) events i some d (omega (arith, before, inner)),
      get_or-map (λ (event : Pair Text). event.number) events j some d inner,
    )

order_from : (events : List (Pair Text)) → AllPairs (λ n m. n < m) (numbers_of events) → AreOrdered events
order_from events order i j d before within =
    omega (
      arith,
      order i j d.number before (omega (arith, within, length-map events (λ (event : Pair Text). event.number))),
      at_index (λ (event : Pair Text). event.number) events i d,
      at_index (λ (event : Pair Text). event.number) events j d,
    )

numbers_unread : (posts : List Post) → numbers_of (events_of posts) ≡ numbers_of (events_of (map unread posts))
numbers_unread [] = refl
numbers_unread (post ∷ posts) = ap (λ rest. post.number ∷ rest) (numbers_unread posts)

pub order_same : (posts others : List Post) → map unread posts ≡ map unread others → AreOrdered (events_of others) → AreOrdered (events_of posts)
order_same posts others same order =
    order_from (events_of posts)
    (subst (AllPairs (λ n m. n < m)) (numbers_unread others ∙ ap (λ all. numbers_of (events_of all)) (sym same) ∙ sym (numbers_unread posts))
    (order_to (events_of others) order))

-- the texts are the same
text_unread : (number : ℕ) (posts : List Post) → text_in (events_of posts) number ≡ text_in (events_of (map unread posts)) number
text_unread number [] = refl
text_unread number (post ∷ posts) = by (post.number == number) (text_unread number posts)
  where
    text : Option (Pair Text) → Text
    text found = Rattle.std.specs.Prelude.unwrap_or (Rattle.std.specs.Option.option_map (λ (pair : Pair Text). pair.event) found) []

    by : (b : Bool) → text_in (events_of posts) number ≡ text_in (events_of (map unread posts)) number →
        text (if b then Some (event_of post) else find (has_number number) (events_of posts))
        ≡ text (if b then Some (event_of (unread post)) else find (has_number number) (events_of (map unread posts)))
    by true again = refl
    by false again = again

pub lists_same : (posts others : List Post) (lists : List Given) → map unread posts ≡ map unread others →
    gifts_in (events_of posts) lists ≡ gifts_in (events_of others) lists
lists_same posts others lists same =
    gifts_alike (events_of posts) (events_of others) lists
    (λ number there. text_unread number posts ∙ ap (λ all. text_in (events_of all) number) same ∙ sym (text_unread number others))

-- the frames that a connection wants are the same
frames_unread : (seat : ℕ) (posts : List Post) → frames_at seat posts ≡ frames_at seat (map unread posts)
frames_unread seat [] = refl
frames_unread seat (post ∷ posts) = by (is_taken seat post) (frames_unread seat posts)
  where
    by : (b : Bool) → frames_at seat posts ≡ frames_at seat (map unread posts) →
        map (λ (p : Post). p.frame) (cond b (post ∷ filter (is_taken seat) posts) (filter (is_taken seat) posts))
        ≡ map (λ (p : Post). p.frame) (cond b (unread post ∷ filter (is_taken seat) (map unread posts)) (filter (is_taken seat) (map unread posts)))
    by true again = ap (λ rest. post.frame ∷ rest) again
    by false again = again

pub frames_same : (seat : ℕ) (posts others : List Post) → map unread posts ≡ map unread others → frames_at seat posts ≡ frames_at seat others
frames_same seat posts others same =
    frames_unread seat posts ∙ ap (frames_at seat) same ∙ sym (frames_unread seat others)

-- what stands there is put there again
pub set_itself : {T : Type 0} → (xs : List T) (i : ℕ) (d : T) → slice_set xs i (get_or xs i d) ≡ xs
set_itself [] i d = refl
set_itself (x ∷ xs) zero d = refl
set_itself (x ∷ xs) (suc i) d = ap (λ rest. x ∷ rest) (set_itself xs i d)

-- the same at an index
pub item_same : (posts others : List Post) (i : ℕ) (item : Post) → map unread posts ≡ map unread others → item ≡ get_or posts i item →
    unread item ≡ unread (get_or others i item)
item_same posts others i item same is =
    ap unread is ∙ sym (at_index unread posts i item) ∙ ap (λ all. get_or all i (unread item)) same ∙ at_index unread others i item

-- one is read once more, and its number is listed
pub raised_same : (posts : List Post) (i : ℕ) (item more : Post) → item ≡ get_or posts i item →
    more ≡ record item { readers = item.readers + 1 } → map unread (slice_set posts i more) ≡ map unread posts
raised_same posts i item more is raised = map-set_same unread posts i more item (ap unread raised ∙ ap unread is)

pub raised_next : (told posts : List Post) (list : Outbox) (i : ℕ) (item more : Post) → AreOrdered (events_of told) → i < length posts →
    map unread posts ≡ map unread told → item ≡ get_or posts i item → more ≡ record item { readers = item.readers + 1 } →
    ((number : ℕ) → readers_of number (events_of posts) ≡ readers_of number (events_of told) + times number list) →
    (number : ℕ) → readers_of number (events_of (slice_set posts i more))
    ≡ readers_of number (events_of told) + times number (list ++ waiting.Event item.number ∷ [])
raised_next told posts list i item more order within same is raised read number =
    let here : get_or (events_of posts) i (event_of item) ≡ event_of item = at_index event_of posts i item ∙ ap event_of (sym is) in
    let once = readers_raised (events_of posts) i (event_of item) (event_of more) number (order_same posts told same order)
    (omega (arith, within, length-map posts event_of))
    (ap event_of raised ∙ ap (λ (e : Pair Text). let r : Pair Text = record e { readers = e.readers + 1 } in r) (sym here)) in
    let one : one_if ((get_or (events_of posts) i (event_of item)).number == number) ≡ one_if (item.number == number) =
    ap (λ (e : Pair Text). one_if (e.number == number)) here in
    ap (readers_of number) (map-set event_of posts i more)
    ∙ omega (arith, once, one, read number, sum_by_push (λ w. one_if (is_of number w)) list (waiting.Event item.number))

-- a connection is posted the same
pub at_same : (before : Switch) (posts others : List Post) (seat : ℕ) (held : Option (Numbered Conn)) (s : Switch) →
    map unread posts ≡ map unread others → posted_at before posts seat held s ≡ posted_at before others seat held s
at_same before posts others seat None s same = refl
at_same before posts others seat (Some row) s same =
    ap (λ (texts : List Text). posted_to before texts row s) (frames_same seat posts others same)

-- ---- numbers come to frames

-- the text of each event is its frame
own_texts : (posts : List Post) → AreOrdered (events_of posts) → All (λ (post : Post). text_in (events_of posts) post.number ≡ post.frame) posts
own_texts [] order k d within = absurd (omega (arith, within))
own_texts (post ∷ posts) order zero d within =
    ap (λ b. Rattle.std.specs.Prelude.unwrap_or (Rattle.std.specs.Option.option_map (λ (pair : Pair Text). pair.event)
    (if b then Some (event_of post) else find (has_number post.number) (events_of posts))) []) (same_number post.number)
own_texts (post ∷ posts) order (suc k) d within =
    let here : k < length posts = omega (arith, within) in
    let less : post.number < (get_or posts k d).number =
    subst (λ (e : Pair Text). post.number < e.number) (at_index event_of posts k d)
    (order zero (suc k) (event_of d) (omega arith) (omega (arith, within, length-map posts event_of))) in
    let other : (post.number == (get_or posts k d).number) ≡ false = grind (arith, nat_tests) in
    ap (λ b. Rattle.std.specs.Prelude.unwrap_or (Rattle.std.specs.Option.option_map (λ (pair : Pair Text). pair.event)
    (if b then Some (event_of post) else find (has_number (get_or posts k d).number) (events_of posts))) []) other
    ∙ own_texts posts (order_behind (event_of post) (events_of posts) order) k d here

some_texts : (events : List (Pair Text)) (posts : List Post) → All (λ (post : Post). text_in events post.number ≡ post.frame) posts →
    frames_in events (map waiting.Event (map (λ (post : Post). post.number) posts)) ≡ map Event (map (λ (post : Post). post.frame) posts)
some_texts events [] all = refl
some_texts events (post ∷ posts) all =
    let P = λ (post : Post). text_in events post.number ≡ post.frame in
    ap (λ text. Event text ∷ frames_in events (map waiting.Event (map (λ (post : Post). post.number) posts))) (All-head P post posts all)
    ∙ ap (λ rest. Event post.frame ∷ rest) (some_texts events posts (All-tail P post posts all))

pub numbers_come : (posts : List Post) (seat room : ℕ) → AreOrdered (events_of posts) →
    frames_in (events_of posts) (numbers_within room (numbers_at seat posts)) ≡ frames_within room (frames_at seat posts)
numbers_come posts seat room order =
    let taken = filter (is_taken seat) posts in
    let P = λ (post : Post). text_in (events_of posts) post.number ≡ post.frame in
    ap (λ numbers. frames_in (events_of posts) (map waiting.Event numbers)) (take-map (λ (post : Post). post.number) room taken)
    ∙ some_texts (events_of posts) (take room taken)
    (All-take P room taken (All-filter (is_taken seat) P posts (own_texts posts order)))
    ∙ ap (map Event) (sym (take-map (λ (post : Post). post.frame) room taken))

-- a list more
list_come : (events : List (Pair Text)) (conn : ℕ) (list : Outbox) → gifts_in events (lists_of conn list) ≡ gifts_of conn (frames_in events list)
list_come events conn [] = refl
list_come events conn (first ∷ list) = refl

pub listed_once : (number conn : ℕ) (list : Outbox) → times_given number (lists_of conn list) ≡ times number list
listed_once number conn [] = refl
listed_once number conn (first ∷ list) =
    omega (arith, sum_by-cons (λ (g : Given). times number g.waiting) (record { conn = conn; waiting = first ∷ list }) [])

-- a connection is posted its list
pub list_posted : (old new : List Post) (lists : List Given) (seat room conn : ℕ) (s : Switch) → map unread new ≡ map unread old →
    AreOrdered (events_of old) →
    with_lists new (lists ++ lists_of conn (numbers_within room (numbers_at seat old))) s
    ≡ with_post conn (frames_within room (frames_at seat old)) (with_lists old lists s)
list_posted old new lists seat room conn s same order =
    let list = numbers_within room (numbers_at seat old) in
    let come : gifts_in (events_of new) (lists ++ lists_of conn list)
    ≡ gifts_in (events_of old) lists ++ gifts_of conn (frames_within room (frames_at seat old)) =
    lists_same new old (lists ++ lists_of conn list) same
    ∙ map-append (Rattle.fs_state.specs.Waiting.gift_in (events_of old)) lists (lists_of conn list)
    ∙ ap (λ more. gifts_in (events_of old) lists ++ more)
    (list_come (events_of old) conn list ∙ ap (gifts_of conn) (numbers_come old seat room order)) in
    ap (λ (gifts : List Gift). record s { posted = gifts }) come

pub list_counted : (old new : List Post) (lists : List Given) (conn : ℕ) (list : Outbox) → map unread new ≡ map unread old →
    AreCounted (events_of old) lists →
    ((number : ℕ) → readers_of number (events_of new) ≡ readers_of number (events_of old) + times number list) →
    AreCounted (events_of new) (lists ++ lists_of conn list)
list_counted old new lists conn list same counted more = record {
  order = order_same new old same counted.order;
  each = λ number. omega (
    arith,
    more number,
    counted.each number,
    given_append number lists (lists_of conn list),
    listed_once number conn list,
  );
}

-- ---- numbers that follow upon those before

pub numbered_between : (before more : ℕ) (posts : List Post) (low high : Post) → AreOrdered (events_of posts) → low ≡ get_or posts 0 low →
    high ≡ get_or posts (length posts - 1) high → before < low.number → high.number ≤ min (before + more) (2 ^ 64 - 1) →
    AreNumbered before more (events_of posts)
numbered_between before more posts low high order first last above_low below_high = record {
  above = λ k d here. lower k d here (cases_eq 0 k);
  within = λ k d here. higher k d here (cases_eq k (length posts - 1));
}
  where
    events : List (Pair Text)
    events = map event_of posts

    inside : (k : ℕ) → k < length events → k < length posts
    inside k here = omega (arith, here, length-map posts event_of)

    lower : (k : ℕ) (d : Pair Text) → k < length events → (0 ≡ k) ⊎ (0 ≡ k → ⊥) → before < (get_or events k d).number
    lower k d here (inl zero_is) =
        let some : 0 < length posts = omega (arith, inside k here) in
        let at : get_or events 0 d ≡ event_of (get_or posts 0 low) = get_or-map event_of posts 0 low d some in
        subst (λ k. before < (get_or events k d).number) zero_is
        (omega (arith, above_low, ap (λ (e : Pair Text). e.number) at, ap (λ (p : Post). p.number) first))
    lower k d here (inr apart) =
        let some : 0 < length posts = omega (arith, inside k here) in
        let positive : 0 < k = omega (arith, apart) in
        let at : get_or events 0 d ≡ event_of (get_or posts 0 low) = get_or-map event_of posts 0 low d some in
        omega (arith, above_low, order 0 k d positive here, ap (λ (e : Pair Text). e.number) at, ap (λ (p : Post). p.number) first)

    higher : (k : ℕ) (d : Pair Text) → k < length events → (k ≡ length posts - 1) ⊎ (k ≡ length posts - 1 → ⊥) →
        (get_or events k d).number < min (before + more) (2 ^ 64 - 1) + 1
    higher k d here (inl same) =
        let at : get_or events k d ≡ event_of (get_or posts k high) = get_or-map event_of posts k high d (inside k here) in
        omega (
          arith,
          below_high,
          ap (λ (e : Pair Text). e.number) at,
          ap (λ k. (get_or posts k high).number) same,
          ap (λ (p : Post). p.number) last,
        )
    higher k d here (inr apart) =
        let end : length posts - 1 < length posts = omega (arith, inside k here) in
        let less : k < length posts - 1 = omega (arith, inside k here, apart) in
        let at : get_or events (length posts - 1) d ≡ event_of (get_or posts (length posts - 1) high) =
        get_or-map event_of posts (length posts - 1) high d end in
        omega (
          arith,
          below_high,
          order k (length posts - 1) d less (omega (arith, end, length-map posts event_of)),
          ap (λ (e : Pair Text). e.number) at,
          ap (λ (p : Post). p.number) last,
        )
