-- Which texts can stand in the profile of a channel: those that commands and applications name, and those that a leg is made with.
use Rattle.std.proofs.Common.{◌≡◌, ℕ, ◌≤◌, min, ◌==◌, Bool, true, false, not, ◌&&◌, if◌then◌else◌, nat_le, [], ◌∷◌, length, Option, None}
use Rattle.std.proofs.Common.{Some, IfSome, unwrap_or, refl, codes, arith, length-append}
use Rattle.std.specs.Str.{bytes_eq}
use Rattle.std.proofs.lemmas.Bool.{leb-true, not-false}
use Rattle.std.proofs.lemmas.List.{length-take}
use Rattle.fs_text.specs.CoreId.{uuid}
use Rattle.fs_text.specs.Number.{read_u64}
use Rattle.fs_text.specs.Words.{behind_byte, without_spaces, word_of, behind_word, is_short}
use Rattle.fs_text.specs.Texts.{Text}
use Rattle.fs_text.proofs.IdLemmas.{uuid_length}
use Rattle.fs_text.specs.declared.causes.Cause.TheVariants.{NoRouteDestination, DestinationOutOfOrder, InvalidNumberFormat}
use Rattle.fs_vars.specs.declared.profile.Profile.{Profile}
use Rattle.fs_api.specs.declared.api.Api.{Api}
use Rattle.fs_api.specs.declared.api.Api.TheVariants as api
use Rattle.fs_api.specs.declared.side.Side.{Side}
use Rattle.fs_api.specs.declared.usages.Which.{Which}
use Rattle.fs_api.specs.declared.usages.Which.TheVariants as which
use Rattle.fs_api.specs.Originates as originates
use Rattle.fs_api.specs.Words.{quoted_word, behind_quoted}
use Rattle.fs_api.specs.Readings as readings
use Rattle.fs_api.specs.Transfers as transfers
use Rattle.fs_api.specs.Readings.{api_named, api_of, expanded_api_of, without_expand}
use Rattle.fs_api.proofs.RangeLemmas.{sent_short as side_short}
use Rattle.fs_app.specs.declared.application.Application.{Application}
use Rattle.fs_app.specs.declared.application.Application.TheVariants as app
use Rattle.fs_app.specs.Applications as apps
use Rattle.fs_app.specs.Applications.{application_of}
use Rattle.fs_chan.specs.Targets.{target_in}
use Rattle.fs_chan.proofs.TargetLemmas.{words_short}
use Rattle.fs_chan.specs.declared.assignment.Assignment.{Assignment}
use Rattle.fs_chan.specs.Assignments.{assignment_named}
use Rattle.fs_chan.specs.declared.peer.Direction.{Direction}
use Rattle.fs_chan.specs.declared.peer.Direction.TheVariants.{Inbound, Outbound}
use Rattle.fs_chan.specs.declared.target.Target3.{Target3}
use Rattle.fs_chan.specs.Changes.{sent_to, IsShortTarget, HasShortFields}
use Rattle.fs_orig.specs.declared.endpoint.Endpoint.{Endpoint}
use Rattle.fs_orig.specs.declared.endpoint.Endpoint.TheVariants.{Loopback, Dead}
use Rattle.fs_orig.specs.declared.winner.Winner.{Winner}
use Rattle.fs_orig.specs.Endpoints as endpoints
use Rattle.fs_orig.specs.Endpoints.{endpoint_of}
use Rattle.fs_orig.proofs.EndpointLemmas.{part_or_short}
use Rattle.fs_machine.specs.declared.call.Call.{Call}
use Rattle.fs_machine.specs.Originations.{cut, loopback_name, loopback_profile}
use Rattle.fs_machine.proofs.Kept.{IsShortWinner}

-- ---- tests

pub left_holds : (a b : Bool) → (a && b) ≡ true → a ≡ true
left_holds true b h = refl
left_holds false b h = h

pub right_holds : (a b : Bool) → (a && b) ≡ true → b ≡ true
right_holds true b h = h
right_holds false b h = absurd (cc)

-- ---- a channel is routed anew

or_short : (text : Option Text) (otherwise : Text) → IfSome text (λ t. length t ≤ 256) → length otherwise ≤ 256 →
    length (unwrap_or text otherwise) ≤ 256
or_short None otherwise short other = other
or_short (Some t) otherwise short other = short

pub sent_short : (to : Target3) (p : Profile) → IsShortTarget to → HasShortFields p → HasShortFields (sent_to to p)
sent_short to p short h = record {
  destination_number = short.exten;
  caller_id_name = h.caller_id_name;
  caller_id_number = h.caller_id_number;
  ani = h.ani;
  rdnis = h.rdnis;
  context = or_short to.context p.context short.context h.context;
  dialplan = or_short to.dialplan p.dialplan short.dialplan h.dialplan;
  source = h.source;
  uuid = h.uuid;
  chan_name = h.chan_name;
  network_addr = h.network_addr;
  username = h.username;
}

-- ---- applications

target_short : (to : Option Target3) → IfSome to IsShortTarget → apps.IsShortApplication (apps.transfer_to to)
target_short None short = tt
target_short (Some to) short = short

-- what is done in a queue has none
queued_short : (name what third : Text) → apps.IsShortApplication (apps.queued_by name what third)
queued_short name what third = by (length name == 0) (bytes_eq what (codes "in")) (bytes_eq what (codes "out"))
  where
    by : (none enters takes : Bool) →
        apps.IsShortApplication
        (if none then app.Unknown
        else (if enters then app.FifoIn name else (if takes then app.FifoOut name (apps.waits_by third) else app.Unknown)))
    by true enters takes = tt
    by false true takes = tt
    by false false true = tt
    by false false false = tt

fifo_short : (argument : Text) → apps.IsShortApplication (apps.fifo_application argument)
fifo_short argument =
    let words = without_spaces argument in
    queued_short (apps.queue_name (word_of words)) (word_of (behind_word words)) (word_of (behind_word (behind_word words)))

-- whichever name it has
app_short : (answers evals sleeps hangs_up bridges parks transfers queues controls : Bool) (argument : Text) →
    apps.IsShortApplication
    (if answers then app.Answer
    else (if evals then app.Eval
    else (if sleeps then apps.sleep_application argument
    else (if hangs_up then apps.hangup_application argument
    else (if bridges then app.Bridge argument
    else (if parks then app.Park
    else (if transfers then apps.transfer_to (target_in (without_spaces argument))
    else (if queues then apps.fifo_application argument
    else (if controls then app.Socket argument
    else app.Unknown)))))))))
app_short true evals sleeps hangs_up bridges parks transfers queues controls argument = tt
app_short false true sleeps hangs_up bridges parks transfers queues controls argument = tt
app_short false false true hangs_up bridges parks transfers queues controls argument = tt
app_short false false false true bridges parks transfers queues controls argument = tt
app_short false false false false true parks transfers queues controls argument = tt
app_short false false false false false true transfers queues controls argument = tt
app_short false false false false false false true queues controls argument = target_short _ (words_short (without_spaces argument))
app_short false false false false false false false true controls argument = fifo_short argument
app_short false false false false false false false false true argument = tt
app_short false false false false false false false false false argument = tt

assigned_short : (assignment : Option Assignment) (argument : Text) (other : Application) →
    apps.IsShortApplication other → apps.IsShortApplication (apps.assigned_or assignment argument other)
assigned_short (Some how) argument other short = tt
assigned_short None argument other short = short

pub application_short : (name argument : Text) → apps.IsShortApplication (application_of name argument)
unfolding application_of
application_short name argument = assigned_short (assignment_named name) argument _ (app_short _ _ _ _ _ _ _ _ _ argument)

-- ---- the winner that a command names

abbrev pub NamesShort : Api → Type 0
NamesShort (api.Originate url winner cid_name cid_number timeout) = IsShortWinner winner
NamesShort (api.UuidTransfer uuid side to) = IsShortTarget to
NamesShort _ = Unit {0}

winner_by : (test : Bool) (x y : Option Winner) → (test ≡ true → IfSome x IsShortWinner) → (test ≡ false → IfSome y IsShortWinner) →
    IfSome (if test then x else y) IsShortWinner
winner_by true x y first second = first refl
winner_by false x y first second = second refl

route_short : (exten dialplan context : Text) → length exten ≤ 256 → (is_short dialplan && is_short context) ≡ true →
    IsShortWinner (originates.route_winner exten dialplan context)
route_short exten dialplan context short both = record {
  exten = short;
  dialplan = leb-true (length dialplan) 256 (left_holds (is_short dialplan) (is_short context) both);
  context = leb-true (length context) 256 (right_holds (is_short dialplan) (is_short context) both);
}

winner_short : (exten dialplan context : Text) → IfSome (originates.winner_of exten dialplan context) IsShortWinner
winner_short [] dialplan context =
    winner_by (is_short dialplan && is_short context) (Some (originates.route_winner [] dialplan context)) None
    (λ both. route_short [] dialplan context (omega arith) both) (λ none. tt)
winner_short (byte ∷ bytes) dialplan context =
    winner_by (is_short dialplan && is_short context) _ None
    (λ both. winner_by (byte == 38) (Some (originates.application bytes)) _ (λ runs. tt)
    (λ routes. winner_by (is_short (byte ∷ bytes)) (Some (originates.route_winner (byte ∷ bytes) dialplan context)) None
    (λ short. route_short (byte ∷ bytes) dialplan context (leb-true (length (byte ∷ bytes)) 256 short) both) (λ none. tt)))
    (λ none. tt)

originated_short : (url rest : Text) (winner : Option Winner) → IfSome winner IsShortWinner →
    NamesShort (originates.originate_with url winner rest)
originated_short url rest None short = tt
originated_short url rest (Some winner) short = short

to_short : (url rest : Text) → NamesShort (originates.originate_to url rest)
to_short url [] = tt
to_short url (byte ∷ bytes) =
    let exten : Text = byte ∷ bytes in
    let dialplan : Text = behind_quoted exten in
    let context : Text = behind_quoted dialplan in
    originated_short url (behind_quoted context) _
    (winner_short (originates.plain_word exten) (originates.word_or (codes "XML") dialplan) (originates.word_or (codes "default") context))

originate_short : (arguments : Text) → NamesShort (originates.originate_of arguments)
originate_short [] = tt
originate_short (byte ∷ bytes) = to_short (quoted_word (byte ∷ bytes)) (behind_quoted (byte ∷ bytes))

getting_short : (arguments : Text) → NamesShort (readings.global_getvar_of arguments)
getting_short [] = tt
getting_short (byte ∷ bytes) = tt

hanging_short : (arguments : Text) → NamesShort (readings.hupall_of arguments)
hanging_short [] = tt
hanging_short (byte ∷ bytes) = tt

sleeping_short : (milliseconds : Option ℕ) → NamesShort (readings.msleep_for milliseconds)
sleeping_short None = tt
sleeping_short (Some n) = by (nat_le n 3600000)
  where
    by : (test : Bool) → NamesShort (if test then api.Msleep n else api.Usage which.Msleep)
    by true = tt
    by false = tt

-- a command with arguments, where there are any
needs_short : (usage : Which) (read : Text → Api) (arguments : Text) → ((text : Text) → NamesShort (read text)) →
    NamesShort (readings.needs usage read arguments)
needs_short usage read [] short = tt
needs_short usage read (byte ∷ bytes) short = short (byte ∷ bytes)

expanding_short : (arguments : Text) → NamesShort (readings.expand_of arguments)
expanding_short arguments = by (readings.names_channel arguments)
  where
    by : (b : Bool) →
        NamesShort (if b then readings.expand_over (behind_byte 58 (word_of arguments)) (behind_word arguments) else api.Expand None arguments)
    by true =
        needs_short which.Expand (api.Expand (Some (behind_byte 58 (word_of arguments)))) (behind_word arguments) (λ text. tt)
    by false = tt

reading_short : (arguments : Text) → NamesShort (readings.uuid_getvar_of arguments)
reading_short arguments =
    needs_short which.UuidGetvar (λ name. api.UuidGetvar (word_of arguments) (word_of name)) (behind_word arguments) (λ name. tt)

transferred_short : (uuid : Text) (side : Side) (to : Option Target3) → IfSome to IsShortTarget → NamesShort (transfers.transfer_to uuid side to)
transferred_short uuid side None short = tt
transferred_short uuid side (Some to) short = short

transferring_short : (arguments : Text) → NamesShort (transfers.uuid_transfer_of arguments)
transferring_short arguments =
    let words : Text = behind_word arguments in
    let side : Side = transfers.side_of (word_of words) in
    transferred_short (word_of arguments) side (transfers.sent_to side words) (side_short side words)

setting_short : (arguments : Text) → NamesShort (readings.uuid_setvar_of arguments)
setting_short arguments =
    needs_short which.UuidSetvar (λ name. api.UuidSetvar (word_of arguments) (word_of name) (behind_word name)) (behind_word arguments)
    (λ name. tt)

joining_short : (arguments : Text) → NamesShort (readings.uuid_bridge_of arguments)
joining_short arguments =
    needs_short which.UuidBridge (λ other. api.UuidBridge (word_of arguments) (word_of other)) (behind_word arguments) (λ other. tt)

controlling_short : (arguments : Text) → NamesShort (readings.fsctl_of arguments)
controlling_short arguments = by (bytes_eq (word_of arguments) (codes "shutdown") && length (behind_word arguments) == 0)
  where
    by : (test : Bool) → NamesShort (if test then api.Shutdown else api.Usage which.Fsctl)
    by true = tt
    by false = tt

-- whichever name it has
command_short : (echoes expands creates controls gets sets hangs sleeps tries reloads bridges dumps exists reads kills parks changes sends : Bool)
    (name arguments : Text) →
    NamesShort
    (if echoes then api.Echo arguments
    else (if expands then readings.needs which.Expand readings.expand_of arguments
    else (if creates then api.CreateUuid
    else (if controls then readings.fsctl_of arguments
    else (if gets then readings.global_getvar_of arguments
    else (if sets then readings.needs which.GlobalSetvar readings.global_setvar_of arguments
    else (if hangs then readings.hupall_of arguments
    else (if sleeps then readings.msleep_of arguments
    else (if tries then originates.originate_of arguments
    else (if reloads then api.Reloadxml
    else (if bridges then readings.needs which.UuidBridge readings.uuid_bridge_of arguments
    else (if dumps then readings.needs which.UuidDump readings.uuid_dump_of arguments
    else (if exists then readings.needs which.UuidExists readings.uuid_exists_of arguments
    else (if reads then readings.needs which.UuidGetvar readings.uuid_getvar_of arguments
    else (if kills then readings.needs which.UuidKill readings.uuid_kill_of arguments
    else (if parks then readings.needs which.UuidPark readings.uuid_park_of arguments
    else (if changes then readings.needs which.UuidSetvar readings.uuid_setvar_of arguments
    else (if sends then transfers.uuid_transfer_of arguments
    else api.Unknown name))))))))))))))))))
command_short true expands creates controls gets sets hangs sleeps tries reloads bridges dumps exists reads kills parks changes sends name arguments =
    tt
command_short false true creates controls gets sets hangs sleeps tries reloads bridges dumps exists reads kills parks changes sends name arguments =
    needs_short which.Expand readings.expand_of arguments expanding_short
command_short false false true controls gets sets hangs sleeps tries reloads bridges dumps exists reads kills parks changes sends name arguments =
    tt
command_short false false false true gets sets hangs sleeps tries reloads bridges dumps exists reads kills parks changes sends name arguments =
    controlling_short arguments
command_short false false false false true sets hangs sleeps tries reloads bridges dumps exists reads kills parks changes sends name arguments =
    getting_short arguments
command_short false false false false false true hangs sleeps tries reloads bridges dumps exists reads kills parks changes sends name arguments =
    needs_short which.GlobalSetvar readings.global_setvar_of arguments (λ text. tt)
command_short false false false false false false true sleeps tries reloads bridges dumps exists reads kills parks changes sends name arguments =
    hanging_short arguments
command_short false false false false false false false true tries reloads bridges dumps exists reads kills parks changes sends name arguments =
    sleeping_short (read_u64 (word_of arguments))
command_short false false false false false false false false true reloads bridges dumps exists reads kills parks changes sends name arguments =
    originate_short arguments
command_short false false false false false false false false false true bridges dumps exists reads kills parks changes sends name arguments =
    tt
command_short false false false false false false false false false false true dumps exists reads kills parks changes sends name arguments =
    needs_short which.UuidBridge readings.uuid_bridge_of arguments joining_short
command_short false false false false false false false false false false false true exists reads kills parks changes sends name arguments =
    needs_short which.UuidDump readings.uuid_dump_of arguments (λ text. tt)
command_short false false false false false false false false false false false false true reads kills parks changes sends name arguments =
    needs_short which.UuidExists readings.uuid_exists_of arguments (λ text. tt)
command_short false false false false false false false false false false false false false true kills parks changes sends name arguments =
    needs_short which.UuidGetvar readings.uuid_getvar_of arguments reading_short
command_short false false false false false false false false false false false false false false true parks changes sends name arguments =
    needs_short which.UuidKill readings.uuid_kill_of arguments (λ text. tt)
command_short false false false false false false false false false false false false false false false true changes sends name arguments =
    needs_short which.UuidPark readings.uuid_park_of arguments (λ text. tt)
command_short false false false false false false false false false false false false false false false false true sends name arguments =
    needs_short which.UuidSetvar readings.uuid_setvar_of arguments setting_short
command_short false false false false false false false false false false false false false false false false false true name arguments =
    transferring_short arguments
command_short false false false false false false false false false false false false false false false false false false name arguments =
    tt

named_short : (name arguments : Text) → NamesShort (api_named name arguments)
unfolding api_named
named_short name arguments =
    command_short (bytes_eq name (codes "echo")) (bytes_eq name (codes "expand")) (bytes_eq name (codes "create_uuid"))
    (bytes_eq name (codes "fsctl")) (bytes_eq name (codes "global_getvar")) (bytes_eq name (codes "global_setvar"))
    (bytes_eq name (codes "hupall")) (bytes_eq name (codes "msleep")) (bytes_eq name (codes "originate"))
    (bytes_eq name (codes "reloadxml")) (bytes_eq name (codes "uuid_bridge")) (bytes_eq name (codes "uuid_dump"))
    (bytes_eq name (codes "uuid_exists")) (bytes_eq name (codes "uuid_getvar")) (bytes_eq name (codes "uuid_kill"))
    (bytes_eq name (codes "uuid_park")) (bytes_eq name (codes "uuid_setvar")) (bytes_eq name (codes "uuid_transfer")) name arguments

pub api_short : (text : Text) → NamesShort (api_of text)
api_short text = named_short (word_of (without_spaces text)) (behind_word (without_spaces text))

without_short : (command : Api) → NamesShort command → NamesShort (without_expand command)
without_short (api.Expand uuid text) short = tt
without_short (api.Usage which.Expand) short = tt
without_short other short = short

pub expanded_short : (text : Text) → NamesShort (expanded_api_of text)
expanded_short text = without_short (api_of text) (api_short text)

-- ---- the endpoint of a leg

end_by : (test : Bool) (x y : Endpoint) → (test ≡ true → endpoints.IsShortEndpoint x) → (test ≡ false → endpoints.IsShortEndpoint y) →
    endpoints.IsShortEndpoint (if test then x else y)
end_by true x y first second = first refl
end_by false x y first second = second refl

address_short : (exten context dialplan : Text) → endpoints.IsShortEndpoint (endpoints.loopback_to exten context dialplan)
address_short [] context dialplan = tt
address_short (byte ∷ bytes) context dialplan =
    let exten : Text = byte ∷ bytes in
    let both : Bool = is_short exten && is_short context in
    let plan : Text = endpoints.part_or (codes "XML") dialplan in
    end_by (not (both && is_short dialplan)) (Dead InvalidNumberFormat) _ (λ long. tt)
    (λ all.
    let short : both ≡ true = left_holds both (is_short dialplan) (not-false (both && is_short dialplan) all) in
    end_by (bytes_eq plan (codes "XML")) (Loopback exten (endpoints.part_or (codes "default") context)) (Dead NoRouteDestination)
    (λ same. record {
      exten_there = omega arith;
      exten_short = leb-true (length exten) 256 (left_holds (is_short exten) (is_short context) short);
      context_short =
          part_or_short (codes "default") context 256 (omega arith)
          (leb-true (length context) 256 (right_holds (is_short exten) (is_short context) short));
    })
    (λ differs. tt))

pub endpoint_short : (text : Text) → endpoints.IsShortEndpoint (endpoint_of text)
unfolding endpoint_of
endpoint_short text =
    let parts : Text = endpoints.other_parts text in
    end_by (bytes_eq (endpoints.first_part text) (codes "error")) (endpoints.error_of parts) _ (λ fails. tt)
    (λ other. end_by (bytes_eq (endpoints.first_part text) (codes "loopback")) (endpoints.loopback_of parts) (Dead DestinationOutOfOrder)
    (λ loops. address_short (endpoints.first_part parts) (endpoints.first_part (endpoints.other_parts parts))
    (endpoints.other_parts (endpoints.other_parts parts))) (λ none. tt))

-- ---- the profile of a new channel

cut_short : (text : Text) → length (cut text) ≤ 256
cut_short text = omega (arith, length-take (min 256 (length text)) text)

pub uuid_short : (core n : ℕ) → length (uuid core n) ≤ 256
uuid_short core n = omega (arith, uuid_length core n)

name_short : (exten : Text) (direction : Direction) → length exten ≤ 256 → length (loopback_name exten direction) ≤ 267
name_short exten Outbound short = simp length-append (omega (arith, short))
name_short exten Inbound short = simp length-append (omega (arith, short))

pub profile_short : (call : Call) (direction : Direction) (uuid : Text) → endpoints.IsShortAddress call.exten call.context →
    length uuid ≤ 256 → HasShortFields (loopback_profile call direction uuid)
profile_short call direction uuid short small = record {
  destination_number = short.exten_short;
  caller_id_name = cut_short call.caller.name;
  caller_id_number = cut_short call.caller.number;
  ani = cut_short call.caller.number;
  rdnis = omega arith;
  context = short.context_short;
  dialplan = omega arith;
  source = omega arith;
  uuid = small;
  chan_name = name_short call.exten direction short.exten_short;
  network_addr = omega arith;
  username = omega arith;
}
