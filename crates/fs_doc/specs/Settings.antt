-- The settings of a switch, and what a parameter makes of them.
use Rattle.std.specs.Prelude.{◌==◌, ◌≡◌, ℕ, ◌/◌, ◌-◌, ◌%◌, ◌^◌, min, Bool, ◌&&◌, nat_lt, nat_le, if◌then◌else◌, length, Option, None, Some}
use Rattle.std.specs.Prelude.{codes}
use Rattle.std.specs.Option.{option_and_then}
use Rattle.std.specs.Str.{bytes_eq}
use Rattle.fs_text.specs.CoreId.{uuid, high_of, default_core}
use Rattle.fs_text.specs.Number.{read_u64}
use Rattle.fs_text.specs.Texts.{Text}
use Rattle.fs_doc.specs.declared.settings.Settings.{Settings}
use Rattle.fs_doc.specs.declared.settings.ConfigFile.{ConfigFile}
use Rattle.fs_doc.specs.declared.settings.ConfigFile.TheVariants.{Switch, EventSocket, Other}

-- the settings where no document says otherwise
unfoldable pub default_settings : Settings
default_settings = record {
  core_uuid = default_core;
  max_sessions = 32;
  journal_limit = 67108864;
  listen_ip = codes "127.0.0.1";
  listen_port = 8021;
  password = codes "ClueCon";
  max_connections = 16;
}

-- the configuration of a name
unfoldable pub file_of : Text → ConfigFile
file_of name =
    if bytes_eq name (codes "switch.conf") then Switch
    else if bytes_eq name (codes "event_socket.conf") then EventSocket
    else Other

-- the number that a text says, where it is in a range
unfoldable pub number_within : ℕ → ℕ → Text → Option ℕ
number_within least most text = option_and_then (λ n. if nat_le least n && nat_le n most then Some n else None) (read_u64 text)

-- the number of a core
abbrev pub is_core : ℕ → Bool
is_core core = nat_lt core (2 ^ 64) && core / 2 ^ 12 % 16 == 8

-- this core, where a text is its first identifier
abbrev pub core_in : Text → ℕ → Option ℕ
core_in text core = if is_core core && bytes_eq (uuid core 0) text then Some core else None

-- the core that a text is the first identifier of
unfoldable pub core_of : Text → Option ℕ
core_of text = option_and_then (core_in text) (high_of text)

-- the settings with the one that a value gives, if it gives one
abbrev pub with_setting : {X : Type 0} → (X → Settings) → Option X → Option Settings
with_setting set None = None
with_setting set (Some x) = Some (set x)

-- the settings after a parameter of `switch.conf`, unless its value is out of range
unfoldable pub switch_setting : Text → Text → Settings → Option Settings
switch_setting name value s =
    if bytes_eq name (codes "core-uuid") then with_setting (λ core. record s { core_uuid = core }) (core_of value)
    else if bytes_eq name (codes "max-sessions")
    then with_setting (λ n. record s { max_sessions = min n 256 }) (number_within 1 (2 ^ 64 - 1) value)
    else if bytes_eq name (codes "journal-limit")
    then with_setting (λ n. record s { journal_limit = n }) (number_within 1048576 1073741824 value)
    else Some s

-- a password has 1 to 256 bytes
unfoldable pub password_setting : Text → Settings → Option Settings
password_setting value s = if nat_le 1 (length value) && nat_le (length value) 256 then Some (record s { password = value }) else None

-- and of `event_socket.conf`
unfoldable pub socket_setting : Text → Text → Settings → Option Settings
socket_setting name value s =
    if bytes_eq name (codes "listen-ip") then Some (record s { listen_ip = value })
    else if bytes_eq name (codes "listen-port") then with_setting (λ n. record s { listen_port = n }) (number_within 1 65535 value)
    else if bytes_eq name (codes "password") then password_setting value s
    else if bytes_eq name (codes "max-connections") then with_setting (λ n. record s { max_connections = n }) (number_within 1 16 value)
    else Some s

-- parameters of other configurations set nothing
unfoldable pub setting : ConfigFile → Text → Text → Settings → Option Settings
setting Switch name value s = switch_setting name value s
setting EventSocket name value s = socket_setting name value s
setting Other name value s = Some s

-- a call set what is set, or nothing where that is nothing
abbrev pub IsSet : Settings → Option (Unit {0}) → Option Settings → Type 0
IsSet new None set = set ≡ None
IsSet new (Some done) set = set ≡ Some new
