-- What a connection subscribed, its filters, and the events that it wants.
use Rattle.std.specs.Prelude.{◌≡◌, ◌==◌, Bool, true, false, not, ◌&&◌, ◌||◌, if◌then◌else◌, List, [], ◌∷◌, ◌++◌, filter, length}
use Rattle.std.specs.Prelude.{Option, None, Some}
use Rattle.std.specs.List.{list_any}
use Rattle.std.specs.Global.{Vec}
use Rattle.std.specs.Str.{bytes_eq}
use Rattle.fs_text.specs.Texts.{Text}
use Rattle.fs_text.specs.EventName.{all_events, event_number}
use Rattle.fs_text.specs.declared.event_names.EventName.{EventName}
use Rattle.fs_text.specs.declared.event_names.EventName.TheVariants.{Custom}
use Rattle.fs_event.specs.declared.event.Event.{Event}
use Rattle.fs_filter.specs.Asked.{Asked, asks_all, asks_name, is_known}

-- ---- names

-- a name is among these
abbrev pub has_name : List EventName → EventName → Bool
has_name names name = list_any (λ other. event_number other == event_number name) names

-- these and what is asked for, in the order of the table
abbrev pub with_names : Asked → List EventName → List EventName
with_names asked names = filter (λ name. has_name names name || asks_name asked name) all_events

-- these without what is asked for
abbrev pub without_names : Asked → List EventName → List EventName
without_names asked names = filter (λ name. not (asks_name asked name)) names

-- ---- subclasses

-- all subclasses, or those of a list
pub data Subclasses : Type 0 where
  All : Subclasses
  These : List Text → Subclasses

-- a text is among these
abbrev pub has_text : List Text → Text → Bool
has_text known text = list_any (λ other. bytes_eq other text) known

-- a subclass is subscribed
abbrev pub has_subclass : Subclasses → Text → Bool
has_subclass All text = true
has_subclass (These known) text = has_text known text

-- each text that is new goes last
abbrev pub with_texts : List Text → List Text → List Text
with_texts known [] = known
with_texts known (text ∷ more) = with_texts (if has_text known text then known else known ++ text ∷ []) more

-- those that are not among the ones of a list
abbrev pub without_texts : List Text → List Text → List Text
without_texts known texts = filter (λ text. not (has_text texts text)) known

-- these and the ones of a list
abbrev pub listed : Subclasses → List Text → Subclasses
listed All texts = All
listed (These known) texts = These (with_texts known texts)

-- these without the ones of a list; where all are subscribed none is taken out
abbrev pub unlisted : Subclasses → List Text → Subclasses
unlisted All texts = All
unlisted (These known) texts = These (without_texts known texts)

-- the subclasses with what stands behind `CUSTOM`
abbrev pub with_behind : Option (List Text) → Subclasses → Subclasses
with_behind None subclasses = subclasses
with_behind (Some texts) subclasses = listed subclasses texts

-- the subclasses without what stands behind `CUSTOM`; with nothing behind it none is left
abbrev pub without_behind : Option (List Text) → Subclasses → Subclasses
without_behind None subclasses = subclasses
without_behind (Some []) subclasses = These []
without_behind (Some (text ∷ texts)) subclasses = unlisted subclasses (text ∷ texts)

-- the subclasses with what is asked for
abbrev pub with_subclasses : Asked → Subclasses → Subclasses
with_subclasses asked subclasses = if asks_all asked then All else with_behind asked.subclasses subclasses

-- the subclasses without what is asked for
abbrev pub without_subclasses : Asked → Subclasses → Subclasses
without_subclasses asked subclasses = if asks_all asked then These [] else without_behind asked.subclasses subclasses

-- the subclasses of a list, or all
abbrev pub subclasses_of : Option (Vec Text) → Subclasses
subclasses_of None = All
subclasses_of (Some known) = These known.items

-- ---- filters

-- headers and the values that they are to have
abbrev pub Filters : Type 0
Filters = List (Text × Text)

-- the same header and value
abbrev pub same_pair : Text × Text → Text × Text → Bool
same_pair one other = bytes_eq one.0 other.0 && bytes_eq one.1 other.1

-- a pair is among these
abbrev pub has_pair : Filters → Text × Text → Bool
has_pair pairs pair = list_any (λ other. same_pair other pair) pairs

-- a filter that is new goes last
abbrev pub with_filter : Filters → Text × Text → Filters
with_filter filters new = if has_pair filters new then filters else filters ++ new ∷ []

-- the filter is of this header, and has this value where one is named
abbrev pub is_meant : Text → Option Text → Text × Text → Bool
is_meant header None pair = bytes_eq pair.0 header
is_meant header (Some value) pair = same_pair pair (header, value)

-- the filters without those that are meant
abbrev pub without_filter : Filters → Text → Option Text → Filters
without_filter filters header value = filter (λ pair. not (is_meant header value pair)) filters

-- one of the filters is meant
abbrev pub has_filter : Filters → Text → Option Text → Bool
has_filter filters header value = list_any (is_meant header value) filters

-- there is no filter, or some filter is a header of these with its value
abbrev pub lets_through : Filters → List (Text × Text) → Bool
lets_through filters headers = length filters == 0 || list_any (has_pair headers) filters

-- one of the filters is this header with its value
abbrev pub is_asked : Filters → Text × Text → Bool
is_asked filters header = list_any (same_pair header) filters

-- filters, and whether an event with the headers that they have seen so far is let through
pub record Sieve : Type 0 where
  pub filters : Filters
  pub passed : Bool

-- they have seen none
abbrev pub sieve_of : Filters → Sieve
sieve_of filters = record { filters = filters; passed = length filters == 0 }

-- they have seen one more
abbrev pub sifted : Text × Text → Sieve → Sieve
sifted header sieve = record sieve { passed = sieve.passed || is_asked sieve.filters header }

-- ---- all of it

-- what a connection subscribed, whether it listens, and its filters
pub record Subscription : Type 0 where
  pub names : List EventName
  pub subclasses : Subclasses
  pub listening : Bool
  pub filters : Filters

-- of a connection that is new
abbrev pub nothing : Subscription
nothing = record { names = []; subclasses = These []; listening = false; filters = [] }

-- what is asked for is subscribed; where a known name stands there the connection listens from then on
abbrev pub subscribed : Asked → Subscription → Subscription
subscribed asked s = record s {
  names = with_names asked s.names;
  subclasses = with_subclasses asked s.subclasses;
  listening = s.listening || is_known asked;
}

-- what is asked for is subscribed no longer
abbrev pub unsubscribed : Asked → Subscription → Subscription
unsubscribed asked s = record s {
  names = without_names asked s.names;
  subclasses = without_subclasses asked s.subclasses;
}

-- nothing is subscribed any more; the filters stay
abbrev pub cleared : Subscription → Subscription
cleared s = record s { names = []; subclasses = These []; listening = false }

-- the name is subscribed, or of a CUSTOM event the subclass
abbrev pub has_event : Subscription → EventName → Text → Bool
has_event s Custom subclass = has_subclass s.subclasses subclass
has_event s name subclass = has_name s.names name

-- no event is subscribed, whatever its name and its subclass
abbrev pub HearsNothing : Subscription → Type 0
HearsNothing s = (name : EventName) (subclass : Text) → has_event s name subclass ≡ false

-- an event is wanted: it is subscribed, and the filters let it through
abbrev pub wants : Subscription → Event → Bool
wants s event = has_event s event.name event.subclass && lets_through s.filters event.headers
