-- How the api commands are to be written.
use Rattle.std.specs.Prelude.{ℕ, List, codes}
use Rattle.fs_api.specs.declared.usages.Which.{Which}
use Rattle.fs_api.specs.declared.usages.Which.TheVariants.{Expand, Fsctl, GlobalSetvar, Msleep, Originate, UuidBridge, UuidDump}
use Rattle.fs_api.specs.declared.usages.Which.TheVariants.{UuidExists, UuidGetvar, UuidKill, UuidPark, UuidSetvar, UuidTransfer}

unfoldable pub usage_of : Which → List ℕ
usage_of Expand = codes "[uuid:U ]text*"
usage_of Fsctl = codes "shutdown"
usage_of GlobalSetvar = codes "<name>=<value>"
usage_of Msleep = codes "<milliseconds>"
usage_of Originate = codes "<call url> <exten>|&<app>(<args>) [dialplan] [context] [cid_name] [cid_num] [timeout]"
usage_of UuidBridge = codes "<uuid> <other_uuid>"
usage_of UuidDump = codes "<uuid>"
usage_of UuidExists = codes "<uuid>"
usage_of UuidGetvar = codes "<uuid> <name>"
usage_of UuidKill = codes "<uuid> [cause]"
usage_of UuidPark = codes "<uuid>"
usage_of UuidSetvar = codes "<uuid> <name> [value*]"
usage_of UuidTransfer = codes "<uuid> [-both|-bleg] <exten> [dialplan] [context]"
