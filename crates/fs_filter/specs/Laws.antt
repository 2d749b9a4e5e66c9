-- What subscriptions come to, for each name and each subclass.
use Rattle.std.specs.Prelude.{◌≡◌, Bool, true, false, not, ◌&&◌, ◌||◌, List, [], Option, Some, unwrap_or}
use Rattle.fs_text.specs.Texts.{Text}
use Rattle.fs_text.specs.declared.event_names.EventName.{EventName}
use Rattle.fs_filter.specs.Asked.{Asked, asks_all, asks_name}
use Rattle.fs_filter.specs.Subscriptions.{Subscription, All, These, has_name, has_text, has_subclass, subscribed, unsubscribed}

-- a subclass is asked for, by itself or among all
abbrev pub asks_subclass : Asked → Text → Bool
asks_subclass asked subclass = asks_all asked || has_text (unwrap_or asked.subclasses []) subclass

-- `CUSTOM` stands last
abbrev pub is_alone : Option (List Text) → Bool
is_alone (Some []) = true
is_alone _ = false

-- all subclasses are asked for: by `ALL`, or by `CUSTOM` with nothing behind it
abbrev pub takes_all : Asked → Bool
takes_all asked = asks_all asked || is_alone asked.subclasses

-- a name is subscribed where it was, and where it is asked for
abbrev pub NameIsAdded : Type 0
NameIsAdded =
    (asked : Asked) (s : Subscription) (name : EventName) →
    has_name (subscribed asked s).names name ≡ (has_name s.names name || asks_name asked name)

-- it stays subscribed where it is not asked for
abbrev pub NameIsTaken : Type 0
NameIsTaken =
    (asked : Asked) (s : Subscription) (name : EventName) →
    has_name (unsubscribed asked s).names name ≡ (has_name s.names name && not (asks_name asked name))

-- so is a subclass added
abbrev pub SubclassIsAdded : Type 0
SubclassIsAdded =
    (asked : Asked) (s : Subscription) (subclass : Text) →
    has_subclass (subscribed asked s).subclasses subclass ≡ (has_subclass s.subclasses subclass || asks_subclass asked subclass)

-- of a list the ones are taken that are asked for, or all
abbrev pub SubclassIsTaken : Type 0
SubclassIsTaken =
    (asked : Asked) (s : Subscription) (known : List Text) (subclass : Text) → s.subclasses ≡ These known →
    has_subclass (unsubscribed asked s).subclasses subclass
    ≡ (has_text known subclass && not (takes_all asked || asks_subclass asked subclass))

-- where all are subscribed, all are taken or none
abbrev pub AllAreTaken : Type 0
AllAreTaken =
    (asked : Asked) (s : Subscription) (subclass : Text) → s.subclasses ≡ All →
    has_subclass (unsubscribed asked s).subclasses subclass ≡ not (takes_all asked)
