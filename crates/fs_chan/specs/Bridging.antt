-- What bridges make of a channel: one that waits for the legs that it dialed, a leg of a bridge, and one whose bridge has ended.
use Rattle.std.specs.Prelude.{ℕ, ◌==◌, nat_eq, if◌then◌else◌, [], List, length, drop, Option, None, Some, option_map, codes}
use Rattle.std.specs.List.{filter_map, starts_with}
use Rattle.fs_text.specs.declared.states.State.TheVariants.{CsExchangeMedia}
use Rattle.fs_text.specs.declared.causes.Cause.{Cause}
use Rattle.fs_text.specs.Cause.{cause_name}
use Rattle.fs_text.specs.Texts.{Text}
use Rattle.fs_vars.specs.Pairs.{value_of}
use Rattle.fs_vars.specs.Variables.{Variables}
use Rattle.fs_chan.specs.declared.chan.Chan.{Chan}
use Rattle.fs_chan.specs.declared.peer.Peer.{Peer}
use Rattle.fs_chan.specs.declared.wait.Wait.{Wait}
use Rattle.fs_chan.specs.declared.wait.Wait.TheVariants.{Legs, Bridged}
use Rattle.fs_chan.specs.Changes.{at_rest}
use Rattle.fs_chan.specs.Exports.{with_set, names_of, exports}

-- it waits for the verdict on the origination of this number, which it owns
abbrev pub awaiting : ℕ → Chan → Chan
awaiting orig c = record c { wait = Legs orig }

-- the origination that a channel waits for
abbrev pub awaited_in : Wait → Option ℕ
awaited_in (Legs orig) = Some orig
awaited_in _ = None

abbrev pub awaited_by : Chan → Option ℕ
awaited_by c = awaited_in c.wait

-- what came of an origination is told
abbrev pub with_disposition : Text → Chan → Chan
with_disposition text c = record c { vars = with_set c.vars (codes "originate_disposition") text }

-- a leg of a bridge: it names the other one, which a variable tells, and waits for the end of the bridge
abbrev pub bridged : Peer → Chan → Chan
bridged peer c = record c { peer = Some peer; vars = with_set c.vars (codes "signal_bond") peer.uuid; wait = Bridged }

-- a leg that has won is no leg of an origination any more, and is in the media of its bridge
abbrev pub in_media : Chan → Chan
in_media c = record c { leg_of = None; state = CsExchangeMedia }

-- its bridge has ended of a cause, which a variable tells; it names no other leg
abbrev pub unbridged : Cause → Chan → Chan
unbridged cause c = record c { peer = None; vars = with_set c.vars (codes "bridge_hangup_cause") (cause_name cause) }

-- it has left what it ran and waited for and the connection that held it, and has no actions; messages stay
abbrev pub at_leisure : Chan → Chan
at_leisure c = at_rest (record c { actions = []; socket = None })

-- ---- what a channel hands on to the legs that it dials

-- a name without `nolocal:` in front, if that stands there
abbrev pub local_name : Text → Text
local_name name = if starts_with nat_eq name (codes "nolocal:") then drop 8 name else name

-- the variable of a listed name, if it is there, under the name that a leg gets it by; without such a name none
abbrev pub exported_pair : Variables → Text → Option (Text × Text)
exported_pair vars name =
    if length (local_name name) == 0 then None else option_map (λ value. (local_name name, value)) (value_of vars.pairs name)

-- the variables that are exported, in the order of their list
abbrev pub exported_pairs : Variables → List (Text × Text)
exported_pairs vars = filter_map (exported_pair vars) (names_of (exports vars))
