-- What of a switch tells identifiers, and what becomes of it.
use Rattle.std.proofs.Common.{◌≡◌, ℕ, ◌+◌, ◌-◌, ◌<◌, ◌≤◌, ◌^◌, min, false, List, length, Option, None, Some, option_map, refl, sym, ap, ◌∙◌}
use Rattle.std.proofs.Common.{inl, inr, arith, length-set}
use Rattle.fs_text.specs.CoreId.{uuid, owns, IsCore}
use Rattle.fs_text.specs.Texts.{Text}
use Rattle.fs_text.proofs.NamingLemmas.{IsKnown, Naming, naming_kept, naming_more, naming_named}
use Rattle.fs_doc.specs.declared.settings.Settings.{Settings}
use Rattle.fs_chan.specs.declared.chan.Chan.{Chan}
use Rattle.fs_seats.specs.Seats.{held_in, with_held}
use Rattle.fs_seats.proofs.HeldLemmas.{held_here, held_there, held_within, at_each}
use Rattle.fs_seats.proofs.TableLemmas.{taken_in, taken_same, taken_more, taken_less}
use Rattle.fs_state.specs.Switch.{Switch}

-- what is seen of a switch
pub record Seen : Type 0 where
  pub channels : List (Option Chan)
  pub identifiers : ℕ
  pub settings : Settings

abbrev pub seen : Switch → Seen
seen s = record { channels = s.channels; identifiers = s.drawn.identifiers; settings = s.settings }

-- with something else in a slot
abbrev pub put : ℕ → Option Chan → Seen → Seen
put slot new x = record x { channels = with_held x.channels slot new }

abbrev pub uuid_of : Chan → Text
uuid_of c = c.uuid

abbrev pub uuid_in : List (Option Chan) → ℕ → Option Text
uuid_in channels slot = option_map uuid_of (held_in channels slot)

-- each identifier was drawn, or is not the switch's, and stands in one slot
pub record Named (x : Seen) : Type 0 where
  pub core : IsCore x.settings.core_uuid
  pub naming : Naming x.settings.core_uuid x.identifiers (uuid_in x.channels)

-- No more identifiers are drawn than slots are filled, but for so many slots that were freed or identifiers that were drawn for none, and
-- each identifier stands in one slot still, unless the numbers are used up.
pub record Numbers (more : ℕ) (x y : Seen) : Type 0 where
  pub names : y.identifiers < 2 ^ 62 - 1 → Named x → Named y
  pub few : y.identifiers < 2 ^ 62 - 1 → x.identifiers < 2 ^ 62 - 1
  pub most : y.identifiers + taken_in x.channels ≤ x.identifiers + taken_in y.channels + more
  pub slots : length y.channels ≡ length x.channels

pub numbers_stay : (x : Seen) → Numbers 0 x x
numbers_stay x = record { names = λ few h. h; few = λ few. few; most = omega arith; slots = refl }

-- and then a slot is freed
pub numbers_then : (x y z : Seen) → Numbers 0 x y → Numbers 1 y z → Numbers 1 x z
numbers_then x y z first then = record {
  names = λ few h. then.names few (first.names (then.few few) h);
  few = λ few. first.few (then.few few);
  most = omega (arith, first.most, then.most);
  slots = then.slots ∙ first.slots;
}

-- and then something that frees none
pub numbers_quietly : (more : ℕ) (x y z : Seen) → Numbers more x y → Numbers 0 y z → Numbers more x z
numbers_quietly more x y z first then = record {
  names = λ few h. then.names few (first.names (then.few few) h);
  few = λ few. first.few (then.few few);
  most = omega (arith, first.most, then.most);
  slots = then.slots ∙ first.slots;
}

-- one more may be freed than was
pub numbers_more : (x y : Seen) → Numbers 0 x y → Numbers 1 x y
numbers_more x y numbers =
    record { names = numbers.names; few = numbers.few; most = omega (arith, numbers.most); slots = numbers.slots }

-- ---- an identifier is drawn for no slot

-- each is known to be drawn still
naming_later : (core drawn more : ℕ) (name : ℕ → Option Text) → drawn ≤ more → Naming core drawn name → Naming core more name
naming_later core drawn more name later h = record {
  known = λ a text e. still text (h.known a text e);
  once = h.once;
}
  where
    still : (text : Text) → IsKnown core drawn text → IsKnown core more text
    still text (inl old) = inl (record { number = old.number; so_far = omega (arith, old.so_far, later); is = old.is })
    still text (inr foreign) = inr foreign

pub numbers_drawn : (x y : Seen) → Numbers 0 x y → Numbers 1 x (record y { identifiers = min (y.identifiers + 1) (2 ^ 62 - 1) })
numbers_drawn x y numbers = record {
  names = λ few h.
      let before : Named y = numbers.names (omega (arith, few)) h in
      record {
        core = before.core;
        naming =
            naming_later y.settings.core_uuid y.identifiers (min (y.identifiers + 1) (2 ^ 62 - 1)) (uuid_in y.channels) (omega (arith, few))
            before.naming;
      };
  few = λ few. numbers.few (omega (arith, few));
  most = omega (arith, numbers.most);
  slots = numbers.slots;
}

-- ---- something else stands in a slot

-- no slot has an identifier that it had not
numbers_put : (more : ℕ) (x : Seen) (slot : ℕ) (new : Option Chan) →
    ((q : ℕ) (text : Text) → uuid_in (with_held x.channels slot new) q ≡ Some text → uuid_in x.channels q ≡ Some text) →
    taken_in x.channels ≤ taken_in (with_held x.channels slot new) + more → Numbers more x (put slot new x)
numbers_put more x slot new had fewer = record {
  names = λ few h. record {
    core = h.core;
    naming = naming_kept x.settings.core_uuid x.identifiers (uuid_in x.channels)
        (uuid_in (with_held x.channels slot new)) had h.naming;
  };
  few = λ few. few;
  most = omega (arith, fewer);
  slots = length-set x.channels slot new;
}

-- the same channel, changed
pub numbers_same : (x : Seen) (slot : ℕ) (old new : Chan) → held_in x.channels slot ≡ Some old → new.uuid ≡ old.uuid →
    Numbers 0 x (put slot (Some new) x)
numbers_same x slot old new there same =
    numbers_put 0 x slot (Some new)
    (at_each x.channels slot (Some new) (λ a b. (text : Text) → option_map uuid_of b ≡ Some text → option_map uuid_of a ≡ Some text)
    (held_within x.channels slot old there)
    (λ text e. ap (option_map uuid_of) there ∙ (ap Some (sym same) ∙ e))
    (λ a text e. e))
    (omega (arith, taken_same x.channels slot old new there))

-- a channel is gone
pub numbers_gone : (x : Seen) (slot : ℕ) (old : Chan) → held_in x.channels slot ≡ Some old → Numbers 1 x (put slot None x)
numbers_gone x slot old there =
    numbers_put 1 x slot None
    (at_each x.channels slot None (λ a b. (text : Text) → option_map uuid_of b ≡ Some text → option_map uuid_of a ≡ Some text)
    (held_within x.channels slot old there)
    (λ text e. absurd (cc))
    (λ a text e. e))
    (omega (arith, taken_less x.channels slot old there))

-- a channel under the next identifier
pub numbers_new : (x : Seen) (slot : ℕ) (new : Chan) → slot < length x.channels → held_in x.channels slot ≡ None →
    new.uuid ≡ uuid x.settings.core_uuid (min (x.identifiers + 1) (2 ^ 62 - 1)) →
    Numbers 0 x (record (put slot (Some new) x) { identifiers = min (x.identifiers + 1) (2 ^ 62 - 1) })
numbers_new x slot new within free named = record {
  names = λ few h. record {
    core = h.core;
    naming =
        naming_more x.settings.core_uuid x.identifiers (min (x.identifiers + 1) (2 ^ 62 - 1)) slot (uuid_in x.channels)
        (uuid_in (with_held x.channels slot (Some new))) h.core (omega (arith, few)) (omega (arith, few))
        (ap (option_map uuid_of) (held_here x.channels slot (Some new) within) ∙ ap Some named)
        (λ q other. ap (option_map uuid_of) (held_there x.channels slot q (Some new) other)) h.naming;
  };
  few = λ few. omega (arith, few);
  most = omega (arith, taken_more x.channels slot new within free);
  slots = length-set x.channels slot (Some new);
}

-- a channel under an identifier of its own
pub numbers_named : (x : Seen) (slot : ℕ) (new : Chan) → slot < length x.channels → held_in x.channels slot ≡ None →
    owns x.settings.core_uuid new.uuid ≡ false → ((q : ℕ) → uuid_in x.channels q ≡ Some new.uuid → ⊥) →
    Numbers 0 x (put slot (Some new) x)
numbers_named x slot new within free foreign unheld = record {
  names = λ few h. record {
    core = h.core;
    naming =
        naming_named x.settings.core_uuid x.identifiers slot new.uuid (uuid_in x.channels)
        (uuid_in (with_held x.channels slot (Some new))) foreign
        (ap (option_map uuid_of) (held_here x.channels slot (Some new) within))
        (λ q other. ap (option_map uuid_of) (held_there x.channels slot q (Some new) other)) unheld h.naming;
  };
  few = λ few. few;
  most = omega (arith, taken_more x.channels slot new within free);
  slots = length-set x.channels slot (Some new);
}
