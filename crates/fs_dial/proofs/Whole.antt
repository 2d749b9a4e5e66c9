-- What is read of a text is spelt by it, and what is spelt is read.
use Rattle.std.proofs.Common.{◌≡◌, ◌≢◌, ℕ, zero, suc, ◌+◌, ◌<◌, ◌≤◌, Bool, true, false, cond, ◌==◌, List, [], ◌∷◌, ◌++◌, length, Option}
use Rattle.std.proofs.Common.{Some, Result, Ok, refl, sym, ap, ◌∙◌, subst, append_assoc, arith}
use Rattle.fs_dial.specs.declared.bracket.Bracket.TheVariants.{Brace}
use Rattle.fs_dial.specs.declared.fault.DialFault.{DialFault}
use Rattle.fs_dial.specs.Results.{◌>>=◌}
use Rattle.fs_dial.specs.Brackets.{Taken, brackets_at}
use Rattle.fs_dial.specs.Legs.{LegText, leg_at}
use Rattle.fs_dial.specs.DialStrings.{Dial, Reached, added_on, added, behind_leg, leg_step, Groups, go_on, legs_within, groups_at}
use Rattle.fs_dial.specs.DialStrings.{dial_within, dial_string}
use Rattle.fs_dial.specs.Spelling.{IsLeg, AreLegs, LastLeg, SameGroup, NextGroup, count, Spells}
use Rattle.fs_dial.proofs.Cuts.{bind_ok, eqb-true}
use Rattle.fs_dial.proofs.BracketLaws.{brackets_read, brackets_spelt}
use Rattle.fs_dial.proofs.LegLaws.{Stops, Legs, leg_read, leg_long, LegSpelt, leg_spelt, comma_or_bar}

-- the legs of the group that is being read go on with the first of these groups
abbrev joined : List LegText → List (List LegText) → List (List LegText)
joined [] groups = groups
joined (leg ∷ legs) [] = (leg ∷ legs) ∷ []
joined (leg ∷ legs) (group ∷ groups) = ((leg ∷ legs) ++ group) ∷ groups

joined_some : (legs group : List LegText) (groups : List (List LegText)) → joined legs (group ∷ groups) ≡ (legs ++ group) ∷ groups
joined_some [] group groups = refl
joined_some (leg ∷ legs) group groups = refl

abbrev reached : List (List LegText) → List LegText → ℕ → Reached
reached done legs room = record { groups = done; legs = legs; room = room }

abbrev Step : Type 0
Step = Result (Reached × Option (List ℕ)) DialFault

more_count : (leg : LegText) (legs : List LegText) (groups : List (List LegText)) →
    count ((leg ∷ legs) ∷ groups) ≡ suc (count (legs ∷ groups))
more_count leg legs groups = omega arith

one_count : (leg : LegText) (groups : List (List LegText)) → count ((leg ∷ []) ∷ groups) ≡ suc (count groups)
one_count leg groups = omega arith

-- ---- what is spelt is read

step_read : (end : ℕ) (done : List (List LegText)) (legs : List LegText) (room : ℕ) (text rest : List ℕ) (leg : LegText) → Stops rest →
    IsLeg end text rest leg
    → leg_step end (reached done legs (suc room)) text ≡ Ok (behind_leg (reached done (legs ++ leg ∷ []) room) rest)
unfolding leg_step added
step_read end done legs room text rest leg stops is =
    ap (λ (r : Legs). r >>= λ x. (added (reached done legs (suc room)) x.0 >>= λ next. Ok (behind_leg next x.1)))
    (leg_read end text rest leg stops is)

abbrev after : ℕ → ℕ → Reached × Option (List ℕ) → Groups
after more end x = go_on (λ next rest. legs_within more end next rest) x

legs_read : (end : ℕ) (text : List ℕ) (groups : List (List LegText)) → AreLegs end text groups →
    (more : ℕ) (done : List (List LegText)) (legs : List LegText) (room : ℕ) → length text < more → count groups ≤ room
    → legs_within more end (reached done legs room) text ≡ Ok (done ++ joined legs groups)
unfolding behind_leg
legs_read end text groups are zero done legs room enough few = absurd (omega arith)
legs_read end text groups (LastLeg bytes leg is) (suc more) done legs zero enough few = absurd (omega (arith, few, one_count leg []))
legs_read end text groups (SameGroup bytes rest leg others further is are) (suc more) done legs zero enough few =
    absurd (omega (arith, few, more_count leg others further))
legs_read end text groups (NextGroup bytes rest leg further is are) (suc more) done legs zero enough few =
    absurd (omega (arith, few, one_count leg further))
legs_read end text groups (LastLeg bytes leg is) (suc more) done legs (suc room) enough few =
    ap (λ (r : Step). r >>= after more end) (step_read end done legs room bytes [] leg tt is)
    ∙ ap (λ l. Ok (done ++ l)) (sym (joined_some legs (leg ∷ []) []))
legs_read end text groups (SameGroup bytes rest leg others further is are) (suc more) done legs (suc room) enough few =
    let fewer : length rest < more = omega (arith, enough, leg_long end bytes (44 ∷ rest) leg is) in
    let groups_are : joined (legs ++ leg ∷ []) (others ∷ further) ≡ joined legs ((leg ∷ others) ∷ further) =
    joined_some (legs ++ leg ∷ []) others further ∙ ap (λ l. l ∷ further) (append_assoc legs (leg ∷ []) others)
    ∙ sym (joined_some legs (leg ∷ others) further) in
    ap (λ (r : Step). r >>= after more end) (step_read end done legs room bytes (44 ∷ rest) leg refl is)
    ∙ legs_read end rest (others ∷ further) are more done (legs ++ leg ∷ []) room fewer (omega (arith, few, more_count leg others further))
    ∙ ap (λ l. Ok (done ++ l)) groups_are
legs_read end text groups (NextGroup bytes rest leg further is are) (suc more) done legs (suc room) enough few =
    let fewer : length rest < more = omega (arith, enough, leg_long end bytes (124 ∷ rest) leg is) in
    let group : List LegText = legs ++ leg ∷ [] in
    ap (λ (r : Step). r >>= after more end) (step_read end done legs room bytes (124 ∷ rest) leg refl is)
    ∙ legs_read end rest further are more (done ++ group ∷ []) [] room fewer (omega (arith, few, one_count leg further))
    ∙ ap (λ l. Ok l) (append_assoc done (group ∷ []) further)
    ∙ ap (λ l. Ok (done ++ l)) (sym (joined_some legs (leg ∷ []) further))

within_read : (text : List ℕ) (dial : Dial) → Spells text dial → dial_within (length text) text ≡ Ok dial
unfolding dial_within groups_at
within_read text dial is =
    ap (λ (r : Taken). r >>= λ x. (groups_at (length text) x.1 >>= λ groups. Ok (record { pairs = x.0; groups = groups })))
    (brackets_read Brace (length text) text is.rest dial.pairs is.braces)
    ∙ ap (λ (r : Groups). r >>= λ groups. Ok (record { pairs = dial.pairs; groups = groups }))
    (legs_read (length text) is.rest dial.groups is.legs (length is.rest + 1) [] [] 64 (omega arith) is.few)

pub spelt_is_read : (text : List ℕ) (dial : Dial) → Spells text dial → dial_string text ≡ Ok dial
unfolding dial_string
spelt_is_read [] dial is = absurd (is.some refl)
spelt_is_read (b ∷ bytes) dial is = within_read (b ∷ bytes) dial is

-- ---- what is read is spelt

abbrev groups_as : List (List LegText) → Groups
groups_as groups = Ok groups

same_groups : (x y : List (List LegText)) → groups_as x ≡ groups_as y → x ≡ y
same_groups x y e = cc

-- the legs that were read behind those so far
pub record LegsSpelt (end : ℕ) (all done : List (List LegText)) (legs : List LegText) (room : ℕ) (text : List ℕ) : Type 0 where
  pub group : List LegText
  pub groups : List (List LegText)
  pub are : AreLegs end text (group ∷ groups)
  pub all_are : all ≡ done ++ ((legs ++ group) ∷ groups)
  pub few : count (group ∷ groups) ≤ room

abbrev Again : ℕ → ℕ → List (List LegText) → Type 0
Again more end all =
    (done : List (List LegText)) (legs : List LegText) (room : ℕ) (text : List ℕ) →
    legs_within more end (reached done legs room) text ≡ Ok all → length text < more → LegsSpelt end all done legs room text

behind_spelt : (more end : ℕ) (all done : List (List LegText)) (legs : List LegText) (room : ℕ) (text rest : List ℕ) (leg : LegText) →
    IsLeg end text rest leg → Stops rest → length text < suc more → Again more end all
    → after more end (behind_leg (reached done (legs ++ leg ∷ []) room) rest) ≡ Ok all → LegsSpelt end all done legs (suc room) text
unfolding behind_leg
behind_spelt more end all done legs room text [] leg is stops enough again e =
    record {
      group = leg ∷ [];
      groups = [];
      are = LastLeg text leg is;
      all_are = sym (same_groups (done ++ (legs ++ leg ∷ []) ∷ []) all e);
      few = omega (arith, one_count leg []);
    }
behind_spelt more end all done legs room text (b ∷ rest) leg is stops enough again e = by (b == 44) refl e
  where
    fewer : length rest < more
    fewer = omega (arith, enough, leg_long end text (b ∷ rest) leg is)

    by : (t : Bool) → (b == 44) ≡ t
        → after more end
        (cond t (reached done (legs ++ leg ∷ []) room, Some rest) (reached (done ++ (legs ++ leg ∷ []) ∷ []) [] room, Some rest)) ≡ Ok
        all → LegsSpelt end all done legs (suc room) text
    by true comma e =
        let P : ℕ → Type 0 = λ c. IsLeg end text (c ∷ rest) leg in
        let on = again done (legs ++ leg ∷ []) room rest e fewer in
        record {
          group = leg ∷ on.group;
          groups = on.groups;
          are = SameGroup text rest leg on.group on.groups (subst P (eqb-true b 44 comma) is) on.are;
          all_are = on.all_are ∙ ap (λ l. done ++ (l ∷ on.groups)) (append_assoc legs (leg ∷ []) on.group);
          few = omega (arith, on.few, more_count leg on.group on.groups);
        }
    by false other e =
        let P : ℕ → Type 0 = λ c. IsLeg end text (c ∷ rest) leg in
        let on = again (done ++ (legs ++ leg ∷ []) ∷ []) [] room rest e fewer in
        record {
          group = leg ∷ [];
          groups = on.group ∷ on.groups;
          are = NextGroup text rest leg (on.group ∷ on.groups) (subst P (comma_or_bar b stops other) is) on.are;
          all_are = on.all_are ∙ append_assoc done ((legs ++ leg ∷ []) ∷ []) (on.group ∷ on.groups);
          few = omega (arith, on.few, one_count leg (on.group ∷ on.groups));
        }

legs_spelt : (more end : ℕ) (all done : List (List LegText)) (legs : List LegText) (room : ℕ) (text : List ℕ) →
    legs_within more end (reached done legs room) text ≡ Ok all → length text < more
    → LegsSpelt end all done legs room text
unfolding leg_step added
legs_spelt zero end all done legs room text e enough = absurd (omega arith)
legs_spelt (suc more) end all done legs room text e enough =
    let step = bind_ok (leg_step end (reached done legs room) text) (after more end) all e in
    let leg = bind_ok (leg_at end text) (λ x. (added (reached done legs room) x.0 >>= λ next. Ok (behind_leg next x.1))) step.0 step.1 in
    let spelt = leg_spelt end text leg.0.1 leg.0.0 leg.1 in
    by room spelt (ap (λ (r : Step). r >>= after more end) leg.2 ∙ step.2)
    (λ done legs room rest reads fewer. legs_spelt more end all done legs room rest reads fewer)
  where
    by : {leg : LegText} {rest : List ℕ} (room : ℕ) → LegSpelt end text rest leg →
        ((added_on room done legs leg >>= λ next. Ok (behind_leg next rest)) >>= after more end) ≡ Ok all → Again more end all
        → LegsSpelt end all done legs room text
    by zero spelt e again = absurd (cc)
    by (suc room) spelt e again = behind_spelt more end all done legs room text _ _ spelt.is spelt.stops enough again e

abbrev dial_as : Dial → Result Dial DialFault
dial_as dial = Ok dial

pub same_dial : (x y : Dial) → dial_as x ≡ dial_as y → x ≡ y
same_dial x y e = cc

within_spelt : (text : List ℕ) (dial : Dial) → text ≢ [] → dial_within (length text) text ≡ Ok dial → Spells text dial
unfolding dial_within groups_at
within_spelt text dial some e =
    let braces =
    bind_ok (brackets_at Brace (length text) text)
    (λ x. (groups_at (length text) x.1 >>= λ groups. Ok (record { pairs = x.0; groups = groups }))) dial e in
    let pairs = braces.0.0 in
    let rest = braces.0.1 in
    let legs = bind_ok (groups_at (length text) rest) (λ groups. Ok (record { pairs = pairs; groups = groups })) dial braces.2 in
    let spelt = legs_spelt (length rest + 1) (length text) legs.0 [] [] 64 rest legs.1 (omega arith) in
    let P : List (List LegText) → Type 0 = λ g. AreLegs (length text) rest g in
    let Q : List (List LegText) → Type 0 = λ g. count g ≤ 64 in
    let D : Dial → Type 0 = λ d. Spells text d in
    subst D (same_dial (record { pairs = pairs; groups = legs.0 }) dial legs.2) (record {
      rest = rest;
      some = some;
      braces = brackets_spelt Brace (length text) text rest pairs braces.1;
      legs = subst P (sym spelt.all_are) spelt.are;
      few = subst Q (sym spelt.all_are) spelt.few;
    })

pub read_is_spelt : (text : List ℕ) (dial : Dial) → dial_string text ≡ Ok dial → Spells text dial
unfolding dial_string
read_is_spelt [] dial e = absurd (cc)
read_is_spelt (b ∷ bytes) dial e = within_spelt (b ∷ bytes) dial (λ none. absurd (cc)) e
