-- The commands of a load, one after another.
use Rattle.std.proofs.Common.{◌≡◌, ◌<◌, ℕ, suc, Bool, true, false, cond, List, [], ◌++◌, length, refl, append_assoc, arith}
use Rattle.fs_load.specs.Calls.{calls_text, call_text, exit_text, number_behind, digit_of}

-- a call has commands
pub length-call : (digit : ℕ) → 0 < length (call_text digit)
unfolding call_text
length-call digit = omega arith

-- the commands of the next call stand in front
pub calls_next : (calls left number : ℕ) (behind : List ℕ) → calls ≡ suc left →
    calls_text calls number ++ behind
    ≡ call_text (digit_of (number_behind number)) ++ (calls_text left (number_behind number) ++ behind)
unfolding calls_text
calls_next calls left number behind is =
    rw is (append_assoc (call_text (digit_of (number_behind number))) (calls_text left (number_behind number)) behind)

-- and behind the last of them `exit`
pub exit_next : (calls number : ℕ) (stays : Bool) → calls ≡ 0 → stays ≡ true →
    calls_text calls number ++ cond stays exit_text [] ≡ exit_text ++ (calls_text calls number ++ [])
unfolding calls_text exit_text
exit_next calls number stays none still = rw (none, still) refl

-- behind that there is nothing
pub nothing_next : (calls number : ℕ) (stays : Bool) → calls ≡ 0 → stays ≡ false →
    calls_text calls number ++ cond stays exit_text [] ≡ []
unfolding calls_text
nothing_next calls number stays none gone = rw (none, gone) refl
