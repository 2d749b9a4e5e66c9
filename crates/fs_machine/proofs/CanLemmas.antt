-- Two channels that can be joined: they live, are part of no bridge, and differ.
use Rattle.std.proofs.Common.{◌≡◌, ◌≢◌, ℕ, ◌==◌, Bool, true, Option, None, Some, refl, sym, ap, ◌∙◌}
use Rattle.std.specs.Prelude.{◌&&◌, not, is_none}
use Rattle.std.proofs.lemmas.Bool.{false≢true, ne_eqb}
use Rattle.std.proofs.lemmas.Cmp.{nat_eq_equiv}
use Rattle.fs_bridge.specs.Bridges.{has_number_left}
use Rattle.fs_bridge.specs.declared.row.Row.{Row}
use Rattle.fs_state.specs.Switch.{Switch, bridge_at}
use Rattle.fs_state.specs.Hangups.{lives_at}
use Rattle.fs_state.specs.Bridging.{can_join}
use Rattle.fs_machine.proofs.ShortLemmas.{left_holds, right_holds}

is_none_eq : (found : Option Row) → is_none found ≡ true → found ≡ None
is_none_eq None is = refl
is_none_eq (Some row) is = absurd (false≢true is)

-- whoever can be joined lives, is part of no bridge, and is another one
module _ (caller answerer : ℕ) (s : Switch) (can : can_join caller answerer s ≡ true) where
  apart : Bool
  apart = not (caller == answerer)

  both : Bool
  both = lives_at s caller && lives_at s answerer

  lone : Bool
  lone = is_none (bridge_at s caller) && is_none (bridge_at s answerer)

  all_but_number : ((apart && both) && lone) ≡ true
  unfolding apart both lone
  all_but_number = left_holds ((apart && both) && lone) (has_number_left s.bridges) can

  pub number_left : has_number_left s.bridges ≡ true
  unfolding apart both lone
  number_left = right_holds ((apart && both) && lone) (has_number_left s.bridges) can

  both_live : both ≡ true
  both_live = right_holds apart both (left_holds (apart && both) lone all_but_number)

  apart_holds : apart ≡ true
  apart_holds = left_holds apart both (left_holds (apart && both) lone all_but_number)

  lone_holds : lone ≡ true
  lone_holds = right_holds (apart && both) lone all_but_number

  pub joins_apart : caller ≢ answerer
  unfolding apart
  joins_apart same =
      false≢true (sym (ap not (ap (λ at. caller == at) (sym same) ∙ nat_eq_equiv.refl caller)) ∙ apart_holds)

  pub caller_lone : bridge_at s caller ≡ None
  unfolding lone
  caller_lone = is_none_eq (bridge_at s caller) (left_holds (is_none (bridge_at s caller)) (is_none (bridge_at s answerer)) lone_holds)

  pub answerer_lone : bridge_at s answerer ≡ None
  unfolding lone
  answerer_lone = is_none_eq (bridge_at s answerer) (right_holds (is_none (bridge_at s caller)) (is_none (bridge_at s answerer)) lone_holds)

  pub caller_lives : lives_at s caller ≡ true
  unfolding both
  caller_lives = left_holds (lives_at s caller) (lives_at s answerer) both_live

  pub answerer_lives : lives_at s answerer ≡ true
  unfolding both
  answerer_lives = right_holds (lives_at s caller) (lives_at s answerer) both_live

-- and so they can be joined
pub can_join_by : (caller answerer : ℕ) (s : Switch) → caller ≢ answerer → lives_at s caller ≡ true → lives_at s answerer ≡ true →
    bridge_at s caller ≡ None → bridge_at s answerer ≡ None → has_number_left s.bridges ≡ true → can_join caller answerer s ≡ true
can_join_by caller answerer s differ lives live lone alone left =
    ap (λ test. not test && (lives_at s caller && lives_at s answerer) && (is_none (bridge_at s caller) && is_none (bridge_at s answerer))
    && has_number_left s.bridges)
    (ne_eqb caller answerer differ)
    ∙ ap (λ test. (test && lives_at s answerer) && (is_none (bridge_at s caller) && is_none (bridge_at s answerer))
    && has_number_left s.bridges) lives
    ∙ ap (λ test. test && (is_none (bridge_at s caller) && is_none (bridge_at s answerer)) && has_number_left s.bridges) live
    ∙ ap (λ (found : Option Row). (is_none found && is_none (bridge_at s answerer)) && has_number_left s.bridges) lone
    ∙ ap (λ (found : Option Row). is_none found && has_number_left s.bridges) alone
    ∙ left
