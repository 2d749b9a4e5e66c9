-- The causes of a hangup.
use Rattle.std.specs.Prelude.{ℕ, List, [], ◌∷◌, Option, find, unwrap_or, codes, map}
use Rattle.std.specs.Str.{bytes_eq}
use Rattle.fs_text.specs.declared.causes.Cause.{Cause}
use Rattle.fs_text.specs.declared.causes.Cause.TheVariants.{UnallocatedNumber, NoRouteDestination, NormalClearing, UserBusy, NoUserResponse}
use Rattle.fs_text.specs.declared.causes.Cause.TheVariants.{NoAnswer, SubscriberAbsent, CallRejected, ExchangeRoutingError}
use Rattle.fs_text.specs.declared.causes.Cause.TheVariants.{DestinationOutOfOrder, InvalidNumberFormat, NormalUnspecified}
use Rattle.fs_text.specs.declared.causes.Cause.TheVariants.{NormalTemporaryFailure, SwitchCongestion, OriginatorCancel, SystemShutdown}
use Rattle.fs_text.specs.declared.causes.Cause.TheVariants.{LoseRace, ManagerRequest, AllottedTimeout, PickedOff}

-- the number and the name of a cause
unfoldable pub cause_row : Cause → ℕ × List ℕ
cause_row UnallocatedNumber = (1, codes "UNALLOCATED_NUMBER")
cause_row NoRouteDestination = (3, codes "NO_ROUTE_DESTINATION")
cause_row NormalClearing = (16, codes "NORMAL_CLEARING")
cause_row UserBusy = (17, codes "USER_BUSY")
cause_row NoUserResponse = (18, codes "NO_USER_RESPONSE")
cause_row NoAnswer = (19, codes "NO_ANSWER")
cause_row SubscriberAbsent = (20, codes "SUBSCRIBER_ABSENT")
cause_row CallRejected = (21, codes "CALL_REJECTED")
cause_row ExchangeRoutingError = (25, codes "EXCHANGE_ROUTING_ERROR")
cause_row DestinationOutOfOrder = (27, codes "DESTINATION_OUT_OF_ORDER")
cause_row InvalidNumberFormat = (28, codes "INVALID_NUMBER_FORMAT")
cause_row NormalUnspecified = (31, codes "NORMAL_UNSPECIFIED")
cause_row NormalTemporaryFailure = (41, codes "NORMAL_TEMPORARY_FAILURE")
cause_row SwitchCongestion = (42, codes "SWITCH_CONGESTION")
cause_row OriginatorCancel = (487, codes "ORIGINATOR_CANCEL")
cause_row SystemShutdown = (501, codes "SYSTEM_SHUTDOWN")
cause_row LoseRace = (502, codes "LOSE_RACE")
cause_row ManagerRequest = (503, codes "MANAGER_REQUEST")
cause_row AllottedTimeout = (602, codes "ALLOTTED_TIMEOUT")
cause_row PickedOff = (605, codes "PICKED_OFF")

-- all causes, in the order of their numbers
abbrev pub all_causes : List Cause
all_causes =
    UnallocatedNumber ∷ NoRouteDestination ∷ NormalClearing ∷ UserBusy
    ∷ NoUserResponse ∷ NoAnswer ∷ SubscriberAbsent ∷ CallRejected
    ∷ ExchangeRoutingError ∷ DestinationOutOfOrder ∷ InvalidNumberFormat ∷ NormalUnspecified
    ∷ NormalTemporaryFailure ∷ SwitchCongestion ∷ OriginatorCancel ∷ SystemShutdown
    ∷ LoseRace ∷ ManagerRequest ∷ AllottedTimeout ∷ PickedOff ∷ []

-- the table of causes: number and name
abbrev pub causes : List (ℕ × List ℕ)
causes = map cause_row all_causes

-- the number of a cause
abbrev pub cause_number : Cause → ℕ
cause_number c = (cause_row c).0

-- the text of a cause's name
abbrev pub cause_name : Cause → List ℕ
cause_name c = (cause_row c).1

-- the cause that has this name
unfoldable pub cause_of_name : List ℕ → Option Cause
cause_of_name text = find (λ c. bytes_eq (cause_name c) text) all_causes

-- the cause that has this name, or a normal clearing where none has it
abbrev pub cause_or_clearing : List ℕ → Cause
cause_or_clearing text = unwrap_or (cause_of_name text) NormalClearing
