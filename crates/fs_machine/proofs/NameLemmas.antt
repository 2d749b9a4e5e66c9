-- Which identifiers a leg may have, and how its pair stands in the table of channels.
use Rattle.std.proofs.Common.{◌≡◌, ℕ, ◌≤◌, Bool, true, false, not, ◌&&◌, nat_le, List, length, Option, None, Some, option_map, is_some}
use Rattle.std.proofs.Common.{refl, sym, ap, arith}
use Rattle.std.specs.List.{list_all}
use Rattle.std.proofs.lemmas.Bool.{both_ways, leb-true, not-false}
use Rattle.std.proofs.lemmas.Option.{same_Some}
use Rattle.std.proofs.lemmas.Slice.Eq.{bytes_eq-Decides}
use Rattle.fs_text.specs.CoreId.{owns}
use Rattle.fs_text.specs.Texts.{Text}
use Rattle.fs_chan.specs.declared.chan.Chan.{Chan}
use Rattle.fs_seats.specs.Seats.{held_in, with_held, first_seat}
use Rattle.fs_seats.proofs.RowLemmas.{none_found}
use Rattle.fs_state.specs.Switch.{Switch, is_called, is_held, with_next_identifier, identifier_of}
use Rattle.fs_machine.specs.declared.call.Call.{Call}
use Rattle.fs_machine.specs.declared.originations.End.{End}
use Rattle.fs_machine.specs.Originations.{end_of, end_made, end_made_as, named_end_made, leg_end, far_end, pair_made, is_visible, is_name}
use Rattle.fs_machine.specs.Originations.{is_free, is_misnamed, leg_uuid}
use Rattle.fs_machine.proofs.SeenLemmas.{uuid_of, uuid_in}
use Rattle.fs_machine.proofs.ShortLemmas.{left_holds, right_holds, uuid_short}

-- ---- names

-- of all that a free identifier is
record Names (uuid : Text) (s : Switch) : Type 0 where
  name : is_name uuid ≡ true
  foreign : not (owns s.settings.core_uuid uuid) ≡ true
  unheld : not (is_held uuid s) ≡ true

not-true : (b : Bool) → not b ≡ true → b ≡ false
not-true true h = sym h
not-true false h = refl

names_free : (uuid : Text) (s : Switch) → is_misnamed (Some uuid) s ≡ false → Names uuid s
names_free uuid s named =
    let other : Bool = not (owns s.settings.core_uuid uuid) in
    let unheld : Bool = not (is_held uuid s) in
    let free : is_free uuid s ≡ true = not-false (is_free uuid s) named in
    let both : (other && unheld) ≡ true = right_holds (is_name uuid) (other && unheld) free in
    record {
      name = left_holds (is_name uuid) (other && unheld) free;
      foreign = left_holds other unheld both;
      unheld = right_holds other unheld both;
    }

-- it is short
pub name_short : (uuid : Text) (s : Switch) → is_misnamed (Some uuid) s ≡ false → length uuid ≤ 256
name_short uuid s named =
    let least : Bool = nat_le 1 (length uuid) in
    let most : Bool = nat_le (length uuid) 64 in
    let sized : (least && most) ≡ true = left_holds (least && most) (list_all is_visible uuid) (names_free uuid s named).name in
    let within : length uuid ≤ 64 = leb-true (length uuid) 64 (right_holds least most sized) in
    omega (arith, within)

-- the switch does not own it
pub name_foreign : (uuid : Text) (s : Switch) → is_misnamed (Some uuid) s ≡ false → owns s.settings.core_uuid uuid ≡ false
name_foreign uuid s named = not-true (owns s.settings.core_uuid uuid) (names_free uuid s named).foreign

-- no channel has it
nowhere : (found : Option ℕ) → is_some found ≡ false → found ≡ None
nowhere None none = refl
nowhere (Some seat) none = absurd (cc)

is_its_own : (uuid : Text) (found : Option Chan) → option_map uuid_of found ≡ Some uuid → is_called uuid found ≡ true
is_its_own uuid None same = absurd (cc)
is_its_own uuid (Some c) same = (bytes_eq-Decides c.uuid uuid).1 (same_Some c.uuid uuid same)

pub name_unheld : (uuid : Text) (s : Switch) → is_misnamed (Some uuid) s ≡ false →
    (slot : ℕ) → uuid_in s.channels slot ≡ Some uuid → ⊥
name_unheld uuid s named slot same =
    let none : is_held uuid s ≡ false = not-true (is_held uuid s) (names_free uuid s named).unheld in
    both_ways (is_called uuid (held_in s.channels slot))
    (none_found (is_called uuid) refl s.channels 0 (nowhere (first_seat (is_called uuid) s.channels 0) none) slot)
    (is_its_own uuid (held_in s.channels slot) same)

-- the identifier of a leg can stand in a profile
pub leg_uuid_short : (uuid : Option Text) (s : Switch) → is_misnamed uuid s ≡ false → length (leg_uuid uuid s) ≤ 256
leg_uuid_short None s named = uuid_short s.settings.core_uuid (with_next_identifier s).drawn.identifiers
leg_uuid_short (Some uuid) s named = name_short uuid s named

-- ---- a leg is made

-- what holds whether or not it has an identifier of its own
pub leg_by : (P : Switch → Type 0) (uuid : Option Text) (call : Call) (end : End) (s : Switch) → P (end_made call end s) →
    ((own : Text) → P (end_made_as own call end s)) →
    P (named_end_made uuid call end s)
leg_by P None call end s next own = next
leg_by P (Some uuid) call end s next own = own uuid

-- ---- a pair of channels

-- the one that is the leg
abbrev pub leg_chan : Call → ℕ → ℕ → ℕ → Switch → Chan
leg_chan call orig a b s = end_of call (leg_end orig a b) (leg_uuid call.uuid s)

-- the switch with the leg alone
abbrev pub with_leg : Call → ℕ → ℕ → ℕ → Switch → Switch
with_leg call orig a b s = named_end_made call.uuid call (leg_end orig a b) s

-- the other one
abbrev pub far_chan : Call → ℕ → ℕ → ℕ → Switch → Chan
far_chan call orig a b s = end_of call (far_end a b) (identifier_of (with_next_identifier (with_leg call orig a b s)))

-- both in their slots
abbrev pub pair_in : List (Option Chan) → ℕ → ℕ → Chan → Chan → List (Option Chan)
pair_in channels a b leg far = with_held (with_held channels a (Some leg)) b (Some far)

-- under whichever identifier
end_channels : (uuid : Option Text) (call : Call) (end : End) (s : Switch) →
    (named_end_made uuid call end s).channels ≡ with_held s.channels end.slot (Some (end_of call end (leg_uuid uuid s)))
end_channels None call end s = refl
end_channels (Some uuid) call end s = refl

pub leg_channels : (call : Call) (orig a b : ℕ) (s : Switch) →
    (with_leg call orig a b s).channels ≡ with_held s.channels a (Some (leg_chan call orig a b s))
leg_channels call orig a b s = end_channels call.uuid call (leg_end orig a b) s

pub pair_channels : (call : Call) (orig a b : ℕ) (s : Switch) →
    (pair_made call orig a b s).channels ≡ pair_in s.channels a b (leg_chan call orig a b s) (far_chan call orig a b s)
pair_channels call orig a b s =
    ap (λ (channels : List (Option Chan)). with_held channels b (Some (far_chan call orig a b s))) (leg_channels call orig a b s)
