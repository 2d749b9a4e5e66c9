-- The commands of a load: so many calls, of which each is made and hung up again.
use Rattle.std.specs.Prelude.{ℕ, zero, suc, ◌+◌, ◌*◌, ◌/◌, ◌%◌, ◌^◌, true, List, [], ◌∷◌, ◌++◌, None, Some, codes}
use Rattle.fs_ports.specs.Ports.{Input, Output}

-- ---- what the calls are made from

-- the number that follows a number
abbrev pub number_behind : ℕ → ℕ
number_behind number = (number * 6364136223846793005 + 1442695040888963407) % 2 ^ 64

-- the digit that a number gives, from 0 to 3
abbrev pub digit_of : ℕ → ℕ
digit_of number = number / 2 ^ 33 % 4

-- ---- commands, each with the empty line that ends it

unfoldable pub auth_text : List ℕ
auth_text = codes "auth ClueCon\n\n"

-- a call of the extension `d` with a digit, and the hangup of all channels
unfoldable pub call_text : ℕ → List ℕ
call_text digit = codes "api originate loopback/d" ++ (48 + digit) ∷ codes " &park()\n\napi hupall\n\n"

unfoldable pub exit_text : List ℕ
exit_text = codes "exit\n\n"

-- so many calls, the first by the digit of the number that follows this one, and so on
unfoldable pub calls_text : ℕ → ℕ → List ℕ
calls_text zero number = []
calls_text (suc calls) number = call_text (digit_of (number_behind number)) ++ calls_text calls (number_behind number)

-- the whole input: it gives the password, makes so many calls, and leaves
abbrev pub load_input : ℕ → ℕ → List ℕ
load_input calls start = auth_text ++ (calls_text calls start ++ exit_text)

-- ---- the link that gives it

-- the side that is read, with these bytes left
abbrev pub input_left : List ℕ → Input
input_left left = record { taken = None; left = Some left; faults = 0; waits = true }

-- the side that is written: it drops what comes, so it tells no bytes, and no write fails
abbrev pub dropped : Output
dropped = record { written = None; faults = 0 }
