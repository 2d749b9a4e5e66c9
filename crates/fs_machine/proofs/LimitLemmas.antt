-- The variables of a channel keep their limits, whatever is set and taken out, and so the machine can always set its own.
use Rattle.std.proofs.Common.{◌≡◌, ◌+◌, ◌≤◌, ◌==◌, Bool, true, false, not, ◌&&◌, ◌||◌, if◌then◌else◌, List, [], ◌∷◌, length, filter}
use Rattle.std.proofs.Common.{count_by, sum_by, Option, None, Some, Ok, Err, codes, refl, sym, ap, subst, ◌∙◌, arith}
use Rattle.std.specs.Prelude.{ℤ, nat_le}
use Rattle.std.proofs.lemmas.Bool.{leb-true, le-leb, and_from, and_parts}
use Rattle.std.proofs.lemmas.Option.{none-some, same_Some}
use Rattle.std.proofs.lemmas.List.Filters.{sum_by-filter_both}
use Rattle.std.proofs.lemmas.List.Sums.{sum_by-cons}
use Rattle.fs_text.specs.Texts.{Text}
use Rattle.fs_text.specs.Words.{name_in, value_in}
use Rattle.fs_text.specs.declared.causes.Cause.{Cause}
use Rattle.fs_text.specs.declared.causes.Cause.TheVariants.{UnallocatedNumber}
use Rattle.fs_text.specs.Cause.{cause_row, cause_name}
use Rattle.fs_vars.specs.declared.bounds.Bounds.{Bounds}
use Rattle.fs_vars.specs.declared.bounds.Bounds.TheVariants.{Channel}
use Rattle.fs_vars.specs.declared.tally.Tally.{Tally}
use Rattle.fs_vars.specs.declared.profile.Profile.{Profile}
use Rattle.fs_vars.specs.Pairs.{Pairs, same_text, value_of, with_value, without}
use Rattle.fs_vars.specs.Variables.{Variables, is_machine_set, counts, counted_bytes, tally_of, is_within, most_variables, most_bytes}
use Rattle.fs_vars.specs.Variables.{is_removal, fits, can_set, set_to}
use Rattle.fs_vars.proofs.PairsLemmas.{same}
use Rattle.fs_doc.specs.Dialplans.{Context, Extension, Condition}
use Rattle.fs_doc.specs.declared.dialplan.PlanAction.{PlanAction}
use Rattle.fs_bridge.proofs.RowLemmas.{one_if}
use Rattle.fs_chan.specs.declared.assignment.Assignment.{Assignment}
use Rattle.fs_chan.specs.declared.assignment.Assignment.TheVariants.{Set, Unset, Export, SetGlobal}
use Rattle.fs_chan.specs.Assignments.{assignment_named, assigned}
use Rattle.fs_chan.specs.Exports.{with_set, without_name, is_listed, with_listed, exports, can_list, with_export, can_export, exported}
use Rattle.fs_plan.specs.declared.hunt.Hunt.{Hunt}
use Rattle.fs_plan.specs.Matching.{Groups}
use Rattle.fs_plan.specs.Substitution.{substituted}
use Rattle.fs_plan.specs.Outcomes.{Outcome, ◌>>=◌}
use Rattle.fs_plan.specs.Inline.{after_assignment, inline_done}
use Rattle.fs_plan.specs.Hunting.{expanded_in, test_done, with_hunt_action, action_done, actions_done, Evaluated, evaluated_to, Looked}
use Rattle.fs_plan.specs.Hunting.{stops, chosen_actions_done, condition_done, looked_at, conditions_done, at_extension}
use Rattle.fs_plan.specs.Hunting.{after_extension, extension_done, extensions_done, extensions_of, new_hunt, hunted}
use Rattle.fs_machine.specs.Originations.{no_variables, set_all}
use Rattle.fs_machine.specs.Work.{found_in}
use Rattle.fs_machine.proofs.ListCounts.{counts_front}

-- variables of a channel, within the limits
pub record AreLimited (vars : Variables) : Type 0 where
  pub bounds : vars.bounds ≡ Channel
  pub within : is_within Channel (tally_of Channel vars.pairs) ≡ true

-- ---- what is taken out

-- what counts no more than what is within the limits is within them
less_within : (less more : Tally) → less.variables ≤ more.variables → less.bytes ≤ more.bytes → is_within Channel more ≡ true →
    is_within Channel less ≡ true
less_within less more variables bytes within =
    let one = leb-true more.variables (most_variables Channel)
    (and_parts (nat_le more.variables (most_variables Channel)) (nat_le more.bytes (most_bytes Channel)) within).0 in
    let two = leb-true more.bytes (most_bytes Channel)
    (and_parts (nat_le more.variables (most_variables Channel)) (nat_le more.bytes (most_bytes Channel)) within).1 in
    and_from (nat_le less.variables (most_variables Channel)) (nat_le less.bytes (most_bytes Channel))
    (le-leb less.variables (most_variables Channel) (omega (arith, variables, one)))
    (le-leb less.bytes (most_bytes Channel) (omega (arith, bytes, two)))

without_limited : (vars : Variables) (name : Text) → AreLimited vars → AreLimited (without_name vars name)
without_limited vars name h = record {
  bounds = h.bounds;
  within = less_within (tally_of Channel (without vars.pairs name)) (tally_of Channel vars.pairs) (omega (arith, variables)) (omega (arith, bytes))
      h.within;
}
  where
    has : Text × Text → Bool
    has pair = same_text name pair.0

    variables : count_by (λ pair. counts Channel pair.0) (filter has vars.pairs)
        + count_by (λ pair. counts Channel pair.0) (without vars.pairs name)
        ≡ count_by (λ pair. counts Channel pair.0) vars.pairs
    variables = sum_by-filter_both has (λ pair. not (has pair)) (λ pair. refl) (λ pair. one_if (counts Channel pair.0)) vars.pairs

    bytes : sum_by (counted_bytes Channel) (filter has vars.pairs) + sum_by (counted_bytes Channel) (without vars.pairs name)
        ≡ sum_by (counted_bytes Channel) vars.pairs
    bytes = sum_by-filter_both has (λ pair. not (has pair)) (λ pair. refl) (counted_bytes Channel) vars.pairs

-- ---- what is set

set_limited : (vars : Variables) (name value : Text) → can_set vars name value ≡ true → AreLimited vars → AreLimited (set_to vars name value)
unfolding can_set set_to
set_limited vars name value can h = by (is_removal value) (and_parts (not (length name == 0)) (is_removal value || fits vars name value) can).1
  where
    by : (removal : Bool) → (removal || fits vars name value) ≡ true →
        AreLimited (record vars { pairs = if removal then without vars.pairs name else with_value vars.pairs name value })
    by true all = without_limited vars name h
    by false all = record {
      bounds = h.bounds;
      within = subst (λ (bounds : Bounds). is_within bounds (tally_of bounds (with_value vars.pairs name value)) ≡ true) h.bounds
          (and_parts (nat_le (length name) 256 && nat_le (length value) 16384)
          (is_within vars.bounds (tally_of vars.bounds (with_value vars.pairs name value))) all).1;
    }

pub with_set_limited : (vars : Variables) (name value : Text) → AreLimited vars → AreLimited (with_set vars name value)
with_set_limited vars name value h = by (can_set vars name value) refl
  where
    by : (can : Bool) → can_set vars name value ≡ can → AreLimited (if can then set_to vars name value else vars)
    by true is = set_limited vars name value is h
    by false is = h

exported_limited : (vars : Variables) (name value : Text) → AreLimited vars → AreLimited (exported vars name value)
unfolding exported
exported_limited vars name value h = by (can_export vars name value) refl
  where
    set : Variables
    set = set_to vars name value

    listed : (is : Bool) → (is || can_set set (codes "export_vars") (with_listed name (exports set))) ≡ true → AreLimited set →
        AreLimited (if is then set else set_to set (codes "export_vars") (with_listed name (exports set)))
    listed true all k = k
    listed false all k = set_limited set (codes "export_vars") (with_listed name (exports set)) all k

    by : (can : Bool) → can_export vars name value ≡ can → AreLimited (if can then with_export (set_to vars name value) name else vars)
    by true is =
        listed (is_listed name (exports set)) (and_parts (can_set vars name value) (can_list set name) is).1
        (set_limited vars name value (and_parts (can_set vars name value) (can_list set name) is).0 h)
    by false is = h

pub assigned_limited : (how : Assignment) (argument : Text) (vars : Variables) → AreLimited vars → AreLimited (assigned how argument vars)
assigned_limited Set argument vars h = with_set_limited vars (name_in argument) (value_in argument) h
assigned_limited Unset argument vars h = without_limited vars argument h
assigned_limited Export argument vars h = exported_limited vars (name_in argument) (value_in argument) h
assigned_limited SetGlobal argument vars h = with_set_limited vars (name_in argument) (value_in argument) h

pub set_all_limited : (pairs : List (Text × Text)) (vars new : Variables) → set_all pairs vars ≡ Some new → AreLimited vars → AreLimited new
set_all_limited [] vars new is h = subst AreLimited (same_Some vars new is) h
set_all_limited (pair ∷ pairs) vars new is h =
    by (can_set vars pair.0 pair.1) refl is (λ e k. set_all_limited pairs (set_to vars pair.0 pair.1) new e k)
  where
    by : (can : Bool) → can_set vars pair.0 pair.1 ≡ can →
        (if can then set_all pairs (set_to vars pair.0 pair.1) else None) ≡ Some new →
        (set_all pairs (set_to vars pair.0 pair.1) ≡ Some new → AreLimited (set_to vars pair.0 pair.1) → AreLimited new) → AreLimited new
    by true can e later = later e (set_limited vars pair.0 pair.1 can h)
    by false can e later = absurd (none-some new e)

-- ---- what a hunt sets

-- it holds of what comes of a step, if that is no fault
abbrev pub Comes : {A : Type 0} → (A → Type 0) → Outcome A → Type 0
Comes P (Ok a) = P a
Comes P (Err len) = Unit {0}

-- of one step after another
steps : {A B : Type 0} (P : A → Type 0) (Q : B → Type 0) (first : Outcome A) (next : A → Outcome B) → Comes P first →
    ((a : A) → P a → Comes Q (next a)) → Comes Q (first >>= next)
steps P Q (Ok a) next h later = later a h
steps P Q (Err len) next h later = tt

abbrev pub HuntLimited : Hunt → Type 0
HuntLimited s = AreLimited s.vars

anything : {A : Type 0} (first : Outcome A) → Comes (λ (a : A). Unit {0}) first
anything (Ok a) = tt
anything (Err len) = tt

inline_limited : (how : Option Assignment) (argument : Text) (s : Hunt) → HuntLimited s → HuntLimited (after_assignment how argument s)
inline_limited None argument s h = h
inline_limited (Some SetGlobal) argument s h = h
inline_limited (Some Set) argument s h = assigned_limited Set argument s.vars h
inline_limited (Some Unset) argument s h = assigned_limited Unset argument s.vars h
inline_limited (Some Export) argument s h = assigned_limited Export argument s.vars h

action_limited : (profile : Profile) (groups : Option Groups) (action : PlanAction) (s : Hunt) → HuntLimited s →
    Comes HuntLimited (action_done profile groups action s)
unfolding action_done
action_limited profile groups action s h = by action.inline
  where
    argument : Outcome Text
    argument = expanded_in profile (substituted groups action.argument) s

    by : (inline : Bool) →
        Comes HuntLimited
        (if inline then argument >>= (λ text. Ok (inline_done action.application text s))
        else Ok (with_hunt_action action (substituted groups action.argument) s))
    by true =
        steps (λ (text : Text). Unit {0}) HuntLimited argument (λ text. Ok (inline_done action.application text s)) (anything argument)
        (λ text any. inline_limited (assignment_named action.application) text s h)
    by false = h

actions_limited : (profile : Profile) (groups : Option Groups) (actions : List PlanAction) (s : Hunt) → HuntLimited s →
    Comes HuntLimited (actions_done profile groups actions s)
actions_limited profile groups [] s h = h
actions_limited profile groups (action ∷ more) s h =
    steps HuntLimited HuntLimited (action_done profile groups action s) (actions_done profile groups more)
    (action_limited profile groups action s h) (λ t k. actions_limited profile groups more t k)

-- of the one that a test chooses
either : (test : Bool) (first second : Outcome Hunt) → Comes HuntLimited first → Comes HuntLimited second →
    Comes HuntLimited (if test then first else second)
either true first second one two = one
either false first second one two = two

condition_limited : (profile : Profile) (condition : Condition) (s : Hunt) → HuntLimited s →
    Comes (λ (done : Evaluated). HuntLimited done.so_far) (condition_done profile condition s)
unfolding condition_done
condition_limited profile condition s h =
    steps (λ t. Unit {0}) (λ (done : Evaluated). HuntLimited done.so_far) (test_done profile condition.test s)
    (λ t. chosen_actions_done profile condition t s >>= λ later. Ok (evaluated_to later t.holds)) (anything (test_done profile condition.test s))
    (λ t any.
    steps HuntLimited (λ (done : Evaluated). HuntLimited done.so_far) (chosen_actions_done profile condition t s)
    (λ later. Ok (evaluated_to later t.holds))
    (either t.holds (actions_done profile t.groups condition.actions s) (actions_done profile None condition.anti s)
    (actions_limited profile t.groups condition.actions s h) (actions_limited profile None condition.anti s h)) (λ later k. k))

abbrev pub LookedLimited : Looked → Type 0
LookedLimited looked = HuntLimited looked.so_far

conditions_limited : (profile : Profile) (conditions : List Condition) (looked : Looked) → LookedLimited looked →
    Comes LookedLimited (conditions_done profile conditions looked)
conditions_limited profile [] looked h = h
conditions_limited profile (condition ∷ more) looked h =
    steps (λ (done : Evaluated). HuntLimited done.so_far) LookedLimited (condition_done profile condition looked.so_far)
    (λ done. if stops condition.stop done.holds then Ok (looked_at condition done)
    else conditions_done profile more (looked_at condition done))
    (condition_limited profile condition looked.so_far h)
    (λ done k. by done k (stops condition.stop done.holds) (conditions_limited profile more (looked_at condition done) k))
  where
    by : (done : Evaluated) → HuntLimited done.so_far → (stop : Bool) →
        Comes LookedLimited (conditions_done profile more (looked_at condition done)) →
        Comes LookedLimited
        (if stop then Ok (looked_at condition done) else conditions_done profile more (looked_at condition done))
    by done k true later = k
    by done k false later = later

extension_limited : (profile : Profile) (extension : Extension) (s : Hunt) → HuntLimited s →
    Comes LookedLimited (extension_done profile extension s)
unfolding extension_done
extension_limited profile extension s h =
    steps LookedLimited LookedLimited (conditions_done profile extension.conditions (at_extension s))
    (λ looked. Ok (after_extension s.actions looked)) (conditions_limited profile extension.conditions (at_extension s) h) (λ looked k. k)

extensions_limited : (profile : Profile) (extensions : List Extension) (s : Hunt) → HuntLimited s →
    Comes HuntLimited (extensions_done profile extensions s)
extensions_limited profile [] s h = h
extensions_limited profile (extension ∷ more) s h =
    steps LookedLimited HuntLimited (extension_done profile extension s)
    (λ looked. if looked.taken && not extension.goes_on then Ok looked.so_far else extensions_done profile more looked.so_far)
    (extension_limited profile extension s h)
    (λ looked k.
    either (looked.taken && not extension.goes_on) (Ok looked.so_far) (extensions_done profile more looked.so_far) k
    (extensions_limited profile more looked.so_far k))

pub hunted_limited : (contexts : List Context) (name : Text) (profile : Profile) (vars globals : Variables) (wall : ℤ) → AreLimited vars →
    Comes HuntLimited (hunted contexts name profile vars globals wall)
unfolding hunted
hunted_limited contexts name profile vars globals wall h =
    extensions_limited profile (extensions_of contexts name) (new_hunt vars globals) h

-- what was found, unless a text is too long
pub found_limited : (outcome : Outcome Hunt) (hunt : Hunt) → found_in outcome ≡ Some hunt → Comes HuntLimited outcome → HuntLimited hunt
found_limited (Ok found) hunt is h = subst HuntLimited (same_Some found hunt is) h
found_limited (Err len) hunt is h = absurd (none-some hunt is)

-- a channel begins without any
pub none_limited : AreLimited no_variables
none_limited = record { bounds = refl; within = refl }

-- ---- the cause of which a bridge ended

abbrev pub cause_key : Text
cause_key = codes "bridge_hangup_cause"

-- what the machine sets counts for nothing
uncounted : (name value : Text) (pairs : Pairs) → counts Channel name ≡ false →
    (count_by (λ pair. counts Channel pair.0) (with_value pairs name value) ≡ count_by (λ pair. counts Channel pair.0) pairs)
    × (sum_by (counted_bytes Channel) (with_value pairs name value) ≡ sum_by (counted_bytes Channel) pairs)
uncounted name value [] none = (
  counts_front (λ (pair : Text × Text). counts Channel pair.0) (name, value) [] ∙ ap (λ b. one_if b + 0) none,
  sum_by-cons (counted_bytes Channel) (name, value) [] ∙ ap (λ b. (if b then length name + length value else 0) + 0) none,
)
uncounted name value (pair ∷ pairs) none = by (same_text name pair.0) refl (uncounted name value pairs none)
  where
    counted : Text × Text → Bool
    counted p = counts Channel p.0

    by : (b : Bool) → same_text name pair.0 ≡ b →
        (count_by (λ p. counts Channel p.0) (with_value pairs name value) ≡ count_by (λ p. counts Channel p.0) pairs)
        × (sum_by (counted_bytes Channel) (with_value pairs name value) ≡ sum_by (counted_bytes Channel) pairs) →
        (count_by (λ p. counts Channel p.0) (if b then (pair.0, value) ∷ pairs else pair ∷ with_value pairs name value)
        ≡ count_by (λ p. counts Channel p.0) (pair ∷ pairs))
        × (sum_by (counted_bytes Channel) (if b then (pair.0, value) ∷ pairs else pair ∷ with_value pairs name value)
        ≡ sum_by (counted_bytes Channel) (pair ∷ pairs))
    by true is rest =
        let own : counts Channel pair.0 ≡ false = ap (counts Channel) (sym (same name pair.0 is)) ∙ none in (
          counts_front counted (pair.0, value) pairs ∙ sym (counts_front counted pair pairs),
          (sum_by-cons (counted_bytes Channel) (pair.0, value) pairs
              ∙ ap (λ b. (if b then length pair.0 + length value else 0) + sum_by (counted_bytes Channel) pairs) own)
              ∙ sym (sum_by-cons (counted_bytes Channel) pair pairs
              ∙ ap (λ b. (if b then length pair.0 + length pair.1 else 0) + sum_by (counted_bytes Channel) pairs) own),
        )
    by false is rest = (
      counts_front counted pair (with_value pairs name value) ∙ ap (λ n. one_if (counted pair) + n) rest.0
          ∙ sym (counts_front counted pair pairs),
      sum_by-cons (counted_bytes Channel) pair (with_value pairs name value) ∙ ap (λ n. counted_bytes Channel pair + n) rest.1
          ∙ sym (sum_by-cons (counted_bytes Channel) pair pairs),
    )

key_uncounted : counts Channel cause_key ≡ false
unfolding is_machine_set
key_uncounted = refl

-- the name of a cause is short, and stands for itself
name_told : (cause : Cause) → (is_removal (cause_name cause) ≡ false) × (nat_le (length (cause_name cause)) 16384 ≡ true)
unfolding cause_row
name_told UnallocatedNumber = (refl, refl)
name_told _ = (refl, refl)

found_set : (name value : Text) (pairs : Pairs) → same_text name name ≡ true → value_of (with_value pairs name value) name ≡ Some value
found_set name value [] own = ap (λ b. if b then Some value else None) own
found_set name value (pair ∷ pairs) own = by (same_text name pair.0) refl (found_set name value pairs own)
  where
    by : (b : Bool) → same_text name pair.0 ≡ b → value_of (with_value pairs name value) name ≡ Some value →
        value_of (if b then (pair.0, value) ∷ pairs else pair ∷ with_value pairs name value) name ≡ Some value
    by true is rest = ap (λ b. if b then Some value else value_of pairs name) is
    by false is rest = ap (λ b. if b then Some pair.1 else value_of (with_value pairs name value) name) is ∙ rest

key_fits : (cause : Cause) (vars : Variables) → AreLimited vars → can_set vars cause_key (cause_name cause) ≡ true
unfolding can_set
key_fits cause vars h =
    ap (λ b. b || fits vars cause_key (cause_name cause)) (name_told cause).0
    ∙ and_from (nat_le (length cause_key) 256 && nat_le (length (cause_name cause)) 16384)
    (is_within vars.bounds (tally_of vars.bounds (with_value vars.pairs cause_key (cause_name cause)))) (name_told cause).1
    (subst (λ (bounds : Bounds). is_within bounds (tally_of bounds (with_value vars.pairs cause_key (cause_name cause))) ≡ true)
    (sym h.bounds)
    (less_within (tally_of Channel (with_value vars.pairs cause_key (cause_name cause))) (tally_of Channel vars.pairs)
    (let as_many = (uncounted cause_key (cause_name cause) vars.pairs key_uncounted).0 in omega (arith, as_many))
    (let as_long = (uncounted cause_key (cause_name cause) vars.pairs key_uncounted).1 in omega (arith, as_long)) h.within))

-- so it can always be told
pub cause_told : (cause : Cause) (vars : Variables) → AreLimited vars →
    value_of (with_set vars cause_key (cause_name cause)).pairs cause_key ≡ Some (cause_name cause)
unfolding set_to
cause_told cause vars h =
    ap (λ can. value_of (if can then set_to vars cause_key (cause_name cause) else vars).pairs cause_key) (key_fits cause vars h)
    ∙ ap (λ removal. value_of (if removal then without vars.pairs cause_key else with_value vars.pairs cause_key (cause_name cause)) cause_key)
    (name_told cause).0
    ∙ found_set cause_key (cause_name cause) vars.pairs refl

-- ---- and stays

value_stays : (name other value : Text) (pairs : Pairs) → same_text other name ≡ false →
    value_of (with_value pairs name value) other ≡ value_of pairs other
value_stays name other value [] apart = ap (λ b. if b then Some value else None) apart
value_stays name other value (pair ∷ pairs) apart = by (same_text name pair.0) refl (value_stays name other value pairs apart)
  where
    by : (b : Bool) → same_text name pair.0 ≡ b → value_of (with_value pairs name value) other ≡ value_of pairs other →
        value_of (if b then (pair.0, value) ∷ pairs else pair ∷ with_value pairs name value) other ≡ value_of (pair ∷ pairs) other
    by true is rest =
        let not_here : same_text other pair.0 ≡ false = ap (same_text other) (sym (same name pair.0 is)) ∙ apart in
        ap (λ b. if b then Some value else value_of pairs other) not_here
        ∙ sym (ap (λ b. if b then Some pair.1 else value_of pairs other) not_here)
    by false is rest = ap (λ found. if same_text other pair.0 then Some pair.1 else found) rest

value_left : (name other : Text) (pairs : Pairs) → same_text other name ≡ false → value_of (without pairs name) other ≡ value_of pairs other
value_left name other [] apart = refl
value_left name other (pair ∷ pairs) apart = by (same_text name pair.0) refl (value_left name other pairs apart)
  where
    by : (b : Bool) → same_text name pair.0 ≡ b → value_of (without pairs name) other ≡ value_of pairs other →
        value_of (if not b then pair ∷ without pairs name else without pairs name) other ≡ value_of (pair ∷ pairs) other
    by true is rest =
        let not_here : same_text other pair.0 ≡ false = ap (same_text other) (sym (same name pair.0 is)) ∙ apart in
        rest ∙ sym (ap (λ b. if b then Some pair.1 else value_of pairs other) not_here)
    by false is rest = ap (λ found. if same_text other pair.0 then Some pair.1 else found) rest

-- setting another name leaves it
pub with_set_stays : (name other value : Text) (vars : Variables) → same_text other name ≡ false →
    value_of (with_set vars name value).pairs other ≡ value_of vars.pairs other
unfolding set_to
with_set_stays name other value vars apart = by (can_set vars name value)
  where
    put : (removal : Bool) →
        value_of (if removal then without vars.pairs name else with_value vars.pairs name value) other ≡ value_of vars.pairs other
    put true = value_left name other vars.pairs apart
    put false = value_stays name other value vars.pairs apart

    by : (can : Bool) → value_of (if can then set_to vars name value else vars).pairs other ≡ value_of vars.pairs other
    by true = put (is_removal value)
    by false = refl
