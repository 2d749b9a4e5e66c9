-- A connection that is given what it subscribed, changed, is changed so.
use Rattle.std.proofs.Common.{◌≡◌, ℕ, Option, None, Some, Bool, refl, ap, ◌∙◌, if◌then◌else◌}
use Rattle.fs_text.specs.Texts.{Text}
use Rattle.fs_cmd.specs.Frames.{no_keywords}
use Rattle.fs_filter.specs.Asked.{Asked, is_known}
use Rattle.fs_filter.specs.Subscriptions.{Subscription}
use Rattle.fs_state.specs.declared.conn.Conn.{Conn}
use Rattle.fs_state.specs.Switch.{Switch, conn_of}
use Rattle.fs_machine.specs.Connections.{conn_changed_from, conn_changed, with_subs, with_subs_changed, subs_of, subs_at}
use Rattle.fs_machine.specs.Commands.{with_reply, after_asking, unless_unknown}

pub asked_as : (change : Subscription → Subscription) (conn : ℕ) (s : Switch) →
    conn_changed (with_subs (change (subs_at s conn))) conn s ≡ conn_changed (with_subs_changed change) conn s
asked_as change conn s = by (conn_of s conn)
  where
    by : (found : Option Conn) →
        conn_changed_from (with_subs (change (subs_of found))) conn found s ≡ conn_changed_from (with_subs_changed change) conn found s
    by None = refl
    by (Some c) = refl

-- the same with the reply, which is another where no known name was named
pub told_as : (change : Subscription → Subscription) (asked : Asked) (known : Bool) (conn : ℕ) (s : Switch) (subs : Subscription)
    (text told : Text) →
    subs ≡ change (subs_at s conn) → known ≡ is_known asked → text ≡ (if known then told else no_keywords) →
    with_reply conn text (conn_changed (with_subs subs) conn s) ≡ after_asking conn change (unless_unknown asked told) s
told_as change asked known conn s subs text told changed named e =
    ap (λ (t : Text). with_reply conn t (conn_changed (with_subs subs) conn s))
    (e ∙ ap (λ (b : Bool). if b then told else no_keywords) named)
    ∙ ap (with_reply conn (unless_unknown asked told))
    (ap (λ (u : Subscription). conn_changed (with_subs u) conn s) changed ∙ asked_as change conn s)
