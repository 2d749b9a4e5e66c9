-- What the endpoint of a leg comes to.
use Rattle.std.specs.Prelude.{◌≤◌, not, ◌&&◌, if◌then◌else◌, [], ◌∷◌, length, unwrap_or, codes}
use Rattle.std.specs.Str.{bytes_eq}
use Rattle.fs_text.specs.Cause.{cause_of_name}
use Rattle.fs_text.specs.Words.{before_byte, behind_byte, is_short}
use Rattle.fs_text.specs.Texts.{Text}
use Rattle.fs_text.specs.declared.causes.Cause.TheVariants.{NoRouteDestination, DestinationOutOfOrder, InvalidNumberFormat}
use Rattle.fs_text.specs.declared.causes.Cause.TheVariants.{NormalUnspecified}
use Rattle.fs_orig.specs.declared.endpoint.Endpoint.{Endpoint}
use Rattle.fs_orig.specs.declared.endpoint.Endpoint.TheVariants.{Loopback, Dead}

-- ---- the parts, separated by slashes

-- the part up to the first slash
abbrev pub first_part : Text → Text
first_part text = before_byte 47 text

-- what stands behind it; nothing where there is no slash
abbrev pub other_parts : Text → Text
other_parts text = behind_byte 47 text

-- a part, or another text where it is empty
abbrev pub part_or : Text → Text → Text
part_or otherwise [] = otherwise
part_or otherwise (byte ∷ bytes) = byte ∷ bytes

-- ---- each kind

-- the endpoint `error` with the name of a cause, which is all that stands behind the slash
abbrev pub error_of : Text → Endpoint
error_of name = Dead (unwrap_or (cause_of_name name) NormalUnspecified)

-- an extension of a context, where these are within their lengths and the dialplan is `XML`
abbrev pub loopback_to : Text → Text → Text → Endpoint
loopback_to [] context dialplan = Dead InvalidNumberFormat
loopback_to (byte ∷ bytes) context dialplan =
    if not (is_short (byte ∷ bytes) && is_short context && is_short dialplan) then Dead InvalidNumberFormat
    else (if bytes_eq (part_or (codes "XML") dialplan) (codes "XML") then Loopback (byte ∷ bytes) (part_or (codes "default") context)
    else Dead NoRouteDestination)

-- the parts behind the kind; the last one has all further slashes
abbrev pub loopback_of : Text → Endpoint
loopback_of parts = loopback_to (first_part parts) (first_part (other_parts parts)) (other_parts (other_parts parts))

unfoldable pub endpoint_of : Text → Endpoint
endpoint_of text =
    if bytes_eq (first_part text) (codes "error") then error_of (other_parts text)
    else (if bytes_eq (first_part text) (codes "loopback") then loopback_of (other_parts text)
    else Dead DestinationOutOfOrder)

-- ---- what it keeps

-- an extension that is there; both texts can stand in a profile
pub record IsShortAddress (exten context : Text) : Type 0 where
  pub exten_there : 1 ≤ length exten
  pub exten_short : length exten ≤ 256
  pub context_short : length context ≤ 256

abbrev pub IsShortEndpoint : Endpoint → Type 0
IsShortEndpoint (Loopback exten context) = IsShortAddress exten context
IsShortEndpoint (Dead cause) = Unit {0}
