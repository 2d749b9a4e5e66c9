-- What is read as an api command keeps its limits.
use Rattle.std.proofs.Common.{◌≡◌, ℕ, ◌≤◌, ◌==◌, ◌&&◌, nat_le, Bool, true, false, [], ◌∷◌, Option, None, Some, Result, Ok, Err, IfOk, IfSome}
use Rattle.std.proofs.Common.{codes, length, refl, sym, subst, arith}
use Rattle.std.proofs.lemmas.Bool.Decides.{nat_tests}
use Rattle.std.specs.Prelude.{if◌then◌else◌}
use Rattle.std.specs.Option.{option_and_then}
use Rattle.std.specs.Str.{bytes_eq}
use Rattle.fs_text.specs.Number.{read_u64}
use Rattle.fs_text.specs.declared.memory.Memory.{Memory}
use Rattle.fs_orig.specs.declared.winner.Winner.{Winner}
use Rattle.fs_orig.specs.Timeouts.{IsTimeout, seconds_within}
use Rattle.fs_chan.specs.declared.target.Target3.{Target3}
use Rattle.fs_chan.specs.Changes.{IsShortTarget}
use Rattle.fs_chan.proofs.TargetLemmas.{words_short, any_words_short}
use Rattle.fs_api.specs.declared.api.Api.{Api}
use Rattle.fs_api.specs.declared.api.Api.TheVariants.{Expand, UuidSetvar, UuidGetvar, UuidBridge}
use Rattle.fs_api.specs.declared.usages.Which.{Which}
use Rattle.fs_api.specs.declared.usages.Which.TheVariants as which
use Rattle.fs_text.specs.Words.{behind_byte, word_of, behind_word}
use Rattle.fs_text.specs.Texts.{Text}
use Rattle.fs_api.specs.Words.{behind_quoted, quoted_word}
use Rattle.fs_api.specs.Originates.{plain_word, originate_with, originate_to, originate_of}
use Rattle.fs_api.specs.Readings.{names_channel, expand_of}
use Rattle.fs_api.specs.Readings.{needs, global_setvar_of, global_getvar_of, msleep_for, uuid_exists_of, uuid_kill_of, uuid_getvar_of}
use Rattle.fs_api.specs.Readings.{uuid_setvar_of, uuid_dump_of, uuid_bridge_of, uuid_park_of, hupall_of, fsctl_of, api_named}
use Rattle.fs_api.specs.declared.side.Side.{Side}
use Rattle.fs_api.specs.declared.side.Side.TheVariants.{This, Both, Other}
use Rattle.fs_api.specs.Transfers.{side_of, sent_to, transfer_to, uuid_transfer_of}
use Rattle.fs_api.specs.Ranges.{IsInRange}

-- what holds of both parts of a choice holds of the choice
either : {A : Type 0} (P : A → Type 0) (test : Bool) (x y : A) → (test ≡ true → P x) → (test ≡ false → P y) → P (if test then x else y)
either P true x y first second = first refl
either P false x y first second = second refl

-- ---- originate

timeout_of : (n : ℕ) → nat_le 1 n && nat_le n 3600 ≡ true → IsTimeout n
timeout_of n within = record { low = grind (arith, nat_tests); high = grind (arith, nat_tests) }

timeout_within : (number : Option ℕ) → IfSome (option_and_then seconds_within number) IsTimeout
timeout_within None = tt
timeout_within (Some n) = either (λ t. IfSome t IsTimeout) (nat_le 1 n && nat_le n 3600) _ _ (timeout_of n) (λ _. tt)

originated_in_range : (url : Text) (winner : Option Winner) (rest : Text) → IsInRange (originate_with url winner rest)
originated_in_range url None rest = tt
originated_in_range url (Some winner) rest = timeout_within (read_u64 (plain_word (behind_quoted (behind_quoted rest))))

originate_to_in_range : (url arguments : Text) → IsInRange (originate_to url arguments)
originate_to_in_range url [] = tt
originate_to_in_range url (byte ∷ bytes) = originated_in_range url _ _

originate_in_range : (arguments : Text) → IsInRange (originate_of arguments)
originate_in_range [] = tt
originate_in_range (byte ∷ bytes) = originate_to_in_range (quoted_word (byte ∷ bytes)) (behind_quoted (byte ∷ bytes))

-- ---- the other commands

needs_in_range : (usage : Which) (read : Text → Api) (arguments : Text) → ((text : Text) → IsInRange (read text)) →
    IsInRange (needs usage read arguments)
needs_in_range usage read [] each = tt
needs_in_range usage read (byte ∷ bytes) each = each (byte ∷ bytes)

expanding_in_range : (arguments : Text) → IsInRange (expand_of arguments)
expanding_in_range arguments =
    either IsInRange (names_channel arguments) _ _
    (λ _. needs_in_range which.Expand (Expand (Some (behind_byte 58 (word_of arguments)))) (behind_word arguments) (λ _. tt))
    (λ _. tt)

ending_in_range : (arguments : Text) → IsInRange (fsctl_of arguments)
ending_in_range arguments =
    either IsInRange (bytes_eq (word_of arguments) (codes "shutdown") && length (behind_word arguments) == 0) _ _ (λ _. tt) (λ _. tt)

getting_in_range : (arguments : Text) → IsInRange (global_getvar_of arguments)
getting_in_range [] = tt
getting_in_range (byte ∷ bytes) = tt

hanging_in_range : (arguments : Text) → IsInRange (hupall_of arguments)
hanging_in_range [] = tt
hanging_in_range (byte ∷ bytes) = tt

transferred_in_range : (uuid : Text) (side : Side) (to : Option Target3) → IfSome to IsShortTarget → IsInRange (transfer_to uuid side to)
transferred_in_range uuid side None short = tt
transferred_in_range uuid side (Some to) short = short

pub sent_short : (side : Side) (words : Text) → IfSome (sent_to side words) IsShortTarget
sent_short This words = words_short words
sent_short Both words = any_words_short (behind_word words)
sent_short Other words = any_words_short (behind_word words)

transferring_in_range : (arguments : Text) → IsInRange (uuid_transfer_of arguments)
transferring_in_range arguments =
    let words : Text = behind_word arguments in
    transferred_in_range (word_of arguments) (side_of (word_of words)) (sent_to (side_of (word_of words)) words)
    (sent_short (side_of (word_of words)) words)

hour_of : (n : ℕ) → nat_le n 3600000 ≡ true → n ≤ 3600000
hour_of n within = grind (arith, nat_tests)

sleeping_in_range : (number : Option ℕ) → IsInRange (msleep_for number)
sleeping_in_range None = tt
sleeping_in_range (Some n) = either IsInRange (nat_le n 3600000) _ _ (hour_of n) (λ _. tt)

reading_in_range : (arguments : Text) → IsInRange (uuid_getvar_of arguments)
reading_in_range arguments =
    needs_in_range which.UuidGetvar (λ name. UuidGetvar (word_of arguments) (word_of name)) (behind_word arguments) (λ _. tt)

setting_in_range : (arguments : Text) → IsInRange (uuid_setvar_of arguments)
setting_in_range arguments =
    needs_in_range which.UuidSetvar (λ name. UuidSetvar (word_of arguments) (word_of name) (behind_word name)) (behind_word arguments)
    (λ _. tt)

joining_in_range : (arguments : Text) → IsInRange (uuid_bridge_of arguments)
joining_in_range arguments =
    needs_in_range which.UuidBridge (λ other. UuidBridge (word_of arguments) (word_of other)) (behind_word arguments) (λ _. tt)

named_in_range : (name arguments : Text) → IsInRange (api_named name arguments)
unfolding api_named
named_in_range name arguments =
    either IsInRange (bytes_eq name (codes "echo")) _ _ (λ _. tt)
    (λ _. either IsInRange (bytes_eq name (codes "expand")) _ _ (λ _. needs_in_range which.Expand expand_of arguments expanding_in_range)
    (λ _. either IsInRange (bytes_eq name (codes "create_uuid")) _ _ (λ _. tt)
    (λ _. either IsInRange (bytes_eq name (codes "fsctl")) _ _ (λ _. ending_in_range arguments)
    (λ _. either IsInRange (bytes_eq name (codes "global_getvar")) _ _ (λ _. getting_in_range arguments)
    (λ _. either IsInRange (bytes_eq name (codes "global_setvar")) _ _ (λ _. needs_in_range which.GlobalSetvar global_setvar_of arguments
    (λ _. tt))
    (λ _. either IsInRange (bytes_eq name (codes "hupall")) _ _ (λ _. hanging_in_range arguments)
    (λ _. either IsInRange (bytes_eq name (codes "msleep")) _ _ (λ _. sleeping_in_range (read_u64 (word_of arguments)))
    (λ _. either IsInRange (bytes_eq name (codes "originate")) _ _ (λ _. originate_in_range arguments)
    (λ _. either IsInRange (bytes_eq name (codes "reloadxml")) _ _ (λ _. tt)
    (λ _. either IsInRange (bytes_eq name (codes "uuid_bridge")) _ _
    (λ _. needs_in_range which.UuidBridge uuid_bridge_of arguments joining_in_range)
    (λ _. either IsInRange (bytes_eq name (codes "uuid_dump")) _ _ (λ _. needs_in_range which.UuidDump uuid_dump_of arguments (λ _. tt))
    (λ _. either IsInRange (bytes_eq name (codes "uuid_exists")) _ _ (λ _. needs_in_range which.UuidExists uuid_exists_of arguments
    (λ _. tt))
    (λ _. either IsInRange (bytes_eq name (codes "uuid_getvar")) _ _
    (λ _. needs_in_range which.UuidGetvar uuid_getvar_of arguments reading_in_range)
    (λ _. either IsInRange (bytes_eq name (codes "uuid_kill")) _ _ (λ _. needs_in_range which.UuidKill uuid_kill_of arguments (λ _. tt))
    (λ _. either IsInRange (bytes_eq name (codes "uuid_park")) _ _ (λ _. needs_in_range which.UuidPark uuid_park_of arguments (λ _. tt))
    (λ _. either IsInRange (bytes_eq name (codes "uuid_setvar")) _ _
    (λ _. needs_in_range which.UuidSetvar uuid_setvar_of arguments setting_in_range)
    (λ _. either IsInRange (bytes_eq name (codes "uuid_transfer")) _ _ (λ _. transferring_in_range arguments)
    (λ _. tt))))))))))))))))))

-- what is read of a name and its arguments, once it is read
pub IfOk-in_range : (name arguments : Text) (result : Result Api Memory) → IfOk result (λ api. api ≡ api_named name arguments) →
    IfOk result IsInRange
IfOk-in_range name arguments (Ok api) is = subst IsInRange (sym is) (named_in_range name arguments)
IfOk-in_range name arguments (Err e) is = tt
