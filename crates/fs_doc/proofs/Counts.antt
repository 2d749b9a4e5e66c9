-- What is read of a document keeps the ranges and limits.
use Rattle.std.proofs.Common.{◌≡◌, ℕ, zero, suc, ◌+◌, ◌-◌, ◌^◌, ◌<◌, ◌≤◌, min, Bool, true, false, cond, ◌&&◌, ◌||◌, nat_le, nat_lt, List}
use Rattle.std.proofs.Common.{[], ◌∷◌, ◌++◌, length, sum_by, Option, None, Some, Result, Ok, Err, codes, refl, sym, ap, subst, arith}
use Rattle.std.specs.Option.{option_map, option_and_then}
use Rattle.std.specs.Str.{bytes_eq}
use Rattle.std.proofs.lemmas.List.{length-append}
use Rattle.std.proofs.lemmas.List.Sums.{sum_by-append, sum_by-cons}
use Rattle.std.proofs.lemmas.Bool.Decides.{nat_tests}
use Rattle.fs_text.specs.CoreId.{IsCore}
use Rattle.fs_text.specs.Number.{read_u64}
use Rattle.fs_text.specs.Texts.{Text}
use Rattle.fs_vars.specs.Pairs.{Pairs}
use Rattle.fs_vars.specs.Variables.{can_set, set_to}
use Rattle.fs_vars.specs.declared.bounds.Bounds.TheVariants.{Globals}
use Rattle.fs_xml.specs.Results.{◌>>=◌}
use Rattle.fs_doc.specs.declared.fault.DocKind.{DocKind}
use Rattle.fs_doc.specs.declared.fault.DocKind.TheVariants as faults
use Rattle.fs_doc.specs.declared.element.Level.{Level}
use Rattle.fs_doc.specs.declared.element.Level.TheVariants as level
use Rattle.fs_doc.specs.declared.element.Kind.{Kind}
use Rattle.fs_doc.specs.declared.element.Kind.TheVariants as kind
use Rattle.fs_doc.specs.declared.settings.Settings.{Settings}
use Rattle.fs_doc.specs.declared.settings.ConfigFile.{ConfigFile}
use Rattle.fs_doc.specs.declared.settings.ConfigFile.TheVariants.{Switch, EventSocket, Other}
use Rattle.fs_doc.specs.declared.content.Content.{Content}
use Rattle.fs_doc.specs.declared.dialplan.Test.{Test}
use Rattle.fs_doc.specs.declared.dialplan.Test.TheVariants as test
use Rattle.fs_doc.specs.declared.dialplan.ManyKind.{ManyKind}
use Rattle.fs_doc.specs.declared.dialplan.PlanAction.{PlanAction}
use Rattle.fs_doc.specs.Dialplans.{Context, Extension, Condition, with_extension, with_case, with_child, with_action}
use Rattle.fs_doc.specs.Settings.{default_settings, number_within, core_of, with_setting, switch_setting, password_setting, socket_setting}
use Rattle.fs_doc.specs.Settings.{setting}
use Rattle.fs_doc.specs.Elements.{has}
use Rattle.fs_doc.specs.Attributes.{many_of, global_of}
use Rattle.fs_doc.specs.Contents.{new_content, BeginResult, attribute_value, global_on, global_begun, param_on, param_begun, context_position}
use Rattle.fs_doc.specs.Contents.{context_at, context_begun, extension_begun, condition_of, pattern_counted, pattern_begun, condition_on}
use Rattle.fs_doc.specs.Contents.{condition_begun, case_begun, action_of, action_begun, element_begun, extension_ended, extended}
use Rattle.fs_doc.specs.Contents.{condition_ended, element_ended, new_context, extension_of, plain_of, with_child_of}
use Rattle.fs_doc.specs.Limits.{AreInRange, test_pattern_count, pattern_count, action_count, in_extension, in_context, in_all, one}
use Rattle.fs_doc.proofs.CoreLemmas.{core_found}

-- ---- settings

abbrev Ranged : Option Settings → Type 0
Ranged None = Unit {0}
Ranged (Some s) = AreInRange s

abbrev Between : ℕ → ℕ → Option ℕ → Type 0
Between least most None = Unit {0}
Between least most (Some n) = (least ≤ n) × (n ≤ most)

number_between : (least most : ℕ) (text : Text) → Between least most (number_within least most text)
unfolding number_within
number_between least most text = on (read_u64 text)
  where
    tested : (n : ℕ) (t : Bool) → (nat_le least n && nat_le n most) ≡ t → Between least most (cond t (Some n) None)
    tested n true e = (grind (arith, nat_tests), grind (arith, nat_tests))
    tested n false e = tt

    on : (o : Option ℕ) → Between least most (option_and_then (λ n. cond (nat_le least n && nat_le n most) (Some n) None) o)
    on None = tt
    on (Some n) = tested n (nat_le least n && nat_le n most) refl

-- a setting that is given by a number in a range
set_in : (least most : ℕ) (set : ℕ → Settings) (o : Option ℕ) → Between least most o →
    ((n : ℕ) → least ≤ n → n ≤ most → AreInRange (set n)) → Ranged (with_setting set o)
set_in least most set None between fine = tt
set_in least most set (Some n) between fine = fine n between.0 between.1

either : (t : Bool) (a b : Option Settings) → Ranged a → Ranged b → Ranged (cond t a b)
either true a b first second = first
either false a b first second = second

core_ranged : (s : Settings) (o : Option ℕ) → ((core : ℕ) → o ≡ Some core → IsCore core) → AreInRange s →
    Ranged (with_setting (λ core. record s { core_uuid = core }) o)
core_ranged s None is h = tt
core_ranged s (Some core) is h =
    record {
      core = is core refl;
      sessions = h.sessions;
      journal = h.journal;
      port = h.port;
      password = h.password;
      connections = h.connections;
    }

switch_ranged : (name value : Text) (s : Settings) → AreInRange s → Ranged (switch_setting name value s)
unfolding switch_setting
switch_ranged name value s h =
    either (bytes_eq name (codes "core-uuid")) _ _ (core_ranged s (core_of value) (core_found value) h)
    (either (bytes_eq name (codes "max-sessions")) _ _
    (set_in 1 (2 ^ 64 - 1) (λ n. record s { max_sessions = min n 256 }) (number_within 1 (2 ^ 64 - 1) value)
    (number_between 1 (2 ^ 64 - 1) value)
    (λ n least most. record {
      core = h.core;
      sessions = (omega arith, omega arith);
      journal = h.journal;
      port = h.port;
      password = h.password;
      connections = h.connections;
    }))
    (either (bytes_eq name (codes "journal-limit")) _ _
    (set_in 1048576 1073741824 (λ n. record s { journal_limit = n }) (number_within 1048576 1073741824 value)
    (number_between 1048576 1073741824 value)
    (λ n least most. record {
      core = h.core;
      sessions = h.sessions;
      journal = (least, most);
      port = h.port;
      password = h.password;
      connections = h.connections;
    }))
    h))

password_ranged : (value : Text) (s : Settings) → AreInRange s → Ranged (password_setting value s)
unfolding password_setting
password_ranged value s h = on (nat_le 1 (length value) && nat_le (length value) 256) refl
  where
    on : (t : Bool) → (nat_le 1 (length value) && nat_le (length value) 256) ≡ t →
        Ranged (cond t (Some (record s { password = value })) None)
    on true e =
        record {
          core = h.core;
          sessions = h.sessions;
          journal = h.journal;
          port = h.port;
          password = (grind (arith, nat_tests), grind (arith, nat_tests));
          connections = h.connections;
        }
    on false e = tt

socket_ranged : (name value : Text) (s : Settings) → AreInRange s → Ranged (socket_setting name value s)
unfolding socket_setting
socket_ranged name value s h =
    either (bytes_eq name (codes "listen-ip")) _ _
    (record {
      core = h.core;
      sessions = h.sessions;
      journal = h.journal;
      port = h.port;
      password = h.password;
      connections = h.connections;
    })
    (either (bytes_eq name (codes "listen-port")) _ _
    (set_in 1 65535 (λ n. record s { listen_port = n }) (number_within 1 65535 value) (number_between 1 65535 value)
    (λ n least most. record {
      core = h.core;
      sessions = h.sessions;
      journal = h.journal;
      port = (least, most);
      password = h.password;
      connections = h.connections;
    }))
    (either (bytes_eq name (codes "password")) _ _ (password_ranged value s h)
    (either (bytes_eq name (codes "max-connections")) _ _
    (set_in 1 16 (λ n. record s { max_connections = n }) (number_within 1 16 value) (number_between 1 16 value)
    (λ n least most. record {
      core = h.core;
      sessions = h.sessions;
      journal = h.journal;
      port = h.port;
      password = h.password;
      connections = (least, most);
    }))
    h)))

setting_ranged : (file : ConfigFile) (name value : Text) (s : Settings) → AreInRange s → Ranged (setting file name value s)
unfolding setting
setting_ranged Switch name value s h = switch_ranged name value s h
setting_ranged EventSocket name value s h = socket_ranged name value s h
setting_ranged Other name value s h = h

-- ---- counts

abbrev held : (Extension → ℕ) → Option Extension → ℕ
held count None = 0
held count (Some e) = count e

abbrev opened : (Condition → ℕ) → Option Condition → ℕ
opened count None = 0
opened count (Some k) = count k

-- a count is no less than what the contexts, the open extension and the open condition have
abbrev Covers : (Condition → ℕ) → Content → ℕ → Type 0
Covers count c n = in_all (in_extension count) c.contexts + (held (in_extension count) c.extension + opened count c.condition) ≤ n

pub record IsCounted (c : Content) : Type 0 where
  pub settings : AreInRange c.settings
  pub bounds : c.globals.bounds ≡ Globals
  pub contexts : length c.contexts ≤ 256
  pub extensions : in_all one c.contexts + held one c.extension ≤ c.extensions
  pub extensions_most : c.extensions ≤ 4096
  pub patterns : Covers pattern_count c c.patterns
  pub patterns_most : c.patterns ≤ 4096
  pub actions : Covers action_count c c.actions
  pub actions_most : c.actions ≤ 32768

pub nothing_counted : IsCounted new_content
unfolding new_content default_settings
nothing_counted = record {
  settings =
      record {
        core = (omega arith, refl);
        sessions = (omega arith, omega arith);
        journal = (omega arith, omega arith);
        port = (omega arith, omega arith);
        password = (omega arith, omega arith);
        connections = (omega arith, omega arith);
      };
  bounds = refl;
  contexts = omega arith;
  extensions = omega arith;
  extensions_most = omega arith;
  patterns = omega arith;
  patterns_most = omega arith;
  actions = omega arith;
  actions_most = omega arith;
}

-- a new context has no extensions
context_added : (count : Extension → ℕ) (name : Text) (contexts : List Context) →
    in_all count (contexts ++ new_context name ∷ []) ≡ in_all count contexts
context_added count name contexts =
    let parts = sum_by-append (in_context count) contexts (new_context name ∷ []) in omega arith

one_longer : (count : Extension → ℕ) (e : Extension) (es : List Extension) → sum_by count (es ++ e ∷ []) ≡ sum_by count es + count e
one_longer count e es = let parts = sum_by-append count es (e ∷ []) in omega arith

one_condition : (count : Condition → ℕ) (k : Condition) (ks : List Condition) → sum_by count (ks ++ k ∷ []) ≡ sum_by count ks + count k
one_condition count k ks = let parts = sum_by-append count ks (k ∷ []) in omega arith

-- an extension in its context adds what it has, at most
extension_added : (count : Extension → ℕ) (position : ℕ) (e : Extension) (contexts : List Context) →
    in_all count (with_extension position e contexts) ≤ in_all count contexts + count e
extension_added count position e [] = omega arith
extension_added count zero e (context ∷ contexts) =
    let first = sum_by-cons (in_context count) (record context { extensions = context.extensions ++ e ∷ [] }) contexts in
    let second = sum_by-cons (in_context count) context contexts in
    let longer = one_longer count e context.extensions in
    omega arith
extension_added count (suc position) e (context ∷ contexts) =
    let first = sum_by-cons (in_context count) context (with_extension position e contexts) in
    let second = sum_by-cons (in_context count) context contexts in
    let more = extension_added count position e contexts in
    omega arith

same_contexts : (position : ℕ) (e : Extension) (contexts : List Context) → length (with_extension position e contexts) ≡ length contexts
same_contexts position e [] = refl
same_contexts zero e (context ∷ contexts) = refl
same_contexts (suc position) e (context ∷ contexts) = ap suc (same_contexts position e contexts)

-- ---- what tests tell

lt_tested : (m n : ℕ) → nat_lt m n ≡ true → m < n
lt_tested m n test = grind (arith, nat_tests)

le_tested : (m n : ℕ) → nat_le m n ≡ false → n < m
le_tested m n test = grind (arith, nat_tests)

abbrev counted_to : Content → Result Content DocKind
counted_to c = Ok c

same_counted : (x y : Content) → counted_to x ≡ counted_to y → x ≡ y
same_counted x y e = cc

-- ---- an element that begins

abbrev pub Keeps : BeginResult → Type 0
Keeps (Ok x) = IsCounted x.1
Keeps (Err f) = Unit {0}

kept : (t : Bool) (a : BeginResult) (f : DocKind) → Keeps a → Keeps (cond t a (Err f))
kept true a f h = h
kept false a f h = tt

global_keeps : (c : Content) (o : Option (Text × Text)) → IsCounted c → Keeps (global_on c o)
unfolding set_to
global_keeps c None h = h
global_keeps c (Some pair) h =
    kept (can_set c.globals pair.0 pair.1) (Ok (level.Empty, record c { globals = set_to c.globals pair.0 pair.1 })) faults.TooLarge
    (record {
      settings = h.settings;
      bounds = h.bounds;
      contexts = h.contexts;
      extensions = h.extensions;
      extensions_most = h.extensions_most;
      patterns = h.patterns;
      patterns_most = h.patterns_most;
      actions = h.actions;
      actions_most = h.actions_most;
    })

param_keeps : (c : Content) (o : Option Settings) → Ranged o → IsCounted c → Keeps (param_on c o)
param_keeps c None ranged h = tt
param_keeps c (Some s) ranged h = record {
  settings = ranged;
  bounds = h.bounds;
  contexts = h.contexts;
  extensions = h.extensions;
  extensions_most = h.extensions_most;
  patterns = h.patterns;
  patterns_most = h.patterns_most;
  actions = h.actions;
  actions_most = h.actions_most;
}

context_keeps : (name : Text) (position : ℕ) (c : Content) → IsCounted c → Keeps (context_at name position c)
context_keeps name position c h = by (nat_lt position (length c.contexts)) (nat_lt (length c.contexts) 256) refl
  where
    by : (s t : Bool) → nat_lt (length c.contexts) 256 ≡ t
        → Keeps (cond s (Ok (level.Context, record c { context = position }))
        (cond t (Ok (level.Context, record c { context = position; contexts = c.contexts ++ new_context name ∷ [] }))
        (Err faults.TooLarge)))
    by true t small = record {
      settings = h.settings;
      bounds = h.bounds;
      contexts = h.contexts;
      extensions = h.extensions;
      extensions_most = h.extensions_most;
      patterns = h.patterns;
      patterns_most = h.patterns_most;
      actions = h.actions;
      actions_most = h.actions_most;
    }
    by false true small =
        let longer = length-append c.contexts (new_context name ∷ []) in
        let below = lt_tested (length c.contexts) 256 small in
        record {
          settings = h.settings;
          bounds = h.bounds;
          contexts = omega arith;
          extensions = omega (arith, h.extensions, context_added one name c.contexts);
          extensions_most = h.extensions_most;
          patterns = omega (arith, h.patterns, context_added (in_extension pattern_count) name c.contexts);
          patterns_most = h.patterns_most;
          actions = omega (arith, h.actions, context_added (in_extension action_count) name c.contexts);
          actions_most = h.actions_most;
        }
    by false false small = tt

extension_keeps : (pairs : Pairs) (c : Content) → IsCounted c → Keeps (extension_begun pairs c)
unfolding extension_begun
extension_keeps pairs c h = by (nat_lt c.extensions 4096) refl
  where
    by : (t : Bool) → nat_lt c.extensions 4096 ≡ t
        → Keeps (cond t (Ok (level.Extension, record c { extensions = c.extensions + 1; extension = Some (extension_of pairs) }))
        (Err faults.TooLarge))
    by true small =
        let below = lt_tested c.extensions 4096 small in
        record {
          settings = h.settings;
          bounds = h.bounds;
          contexts = h.contexts;
          extensions = omega (arith, h.extensions);
          extensions_most = omega arith;
          patterns = omega (arith, h.patterns);
          patterns_most = h.patterns_most;
          actions = omega (arith, h.actions);
          actions_most = h.actions_most;
        }
    by false small = tt

-- one pattern more is counted, and none is there yet
record HasRoom (c d : Content) : Type 0 where
  pub same : d ≡ record c { patterns = c.patterns + 1 }
  pub below : c.patterns < 4096

counted_room : (pairs : Pairs) (c d : Content) → pattern_counted pairs c ≡ Ok d → HasRoom c d
unfolding pattern_counted
counted_room pairs c d e = by (nat_lt 1024 (length (attribute_value pairs (codes "expression")))) (nat_le 4096 c.patterns) refl e
  where
    by : (s t : Bool) → nat_le 4096 c.patterns ≡ t →
        cond (s || t) (Err faults.TooLarge) (counted_to (record c { patterns = c.patterns + 1 })) ≡ counted_to d → HasRoom c d
    by true t test k = absurd (cc)
    by false true test k = absurd (cc)
    by false false test k =
        record { same = sym (same_counted (record c { patterns = c.patterns + 1 }) d k); below = le_tested 4096 c.patterns test }

-- a condition with at most this many patterns, and no actions, is open
condition_keeps : (c : Content) (k : Option Condition) (more : ℕ) → IsCounted c →
    opened pattern_count k ≤ opened pattern_count c.condition + more → opened action_count k ≤ opened action_count c.condition
    → c.patterns + more ≤ 4096 → IsCounted (record c { patterns = c.patterns + more; condition = k })
condition_keeps c k more h patterns actions small = record {
  settings = h.settings;
  bounds = h.bounds;
  contexts = h.contexts;
  extensions = h.extensions;
  extensions_most = h.extensions_most;
  patterns = omega (arith, h.patterns);
  patterns_most = small;
  actions = omega (arith, h.actions);
  actions_most = h.actions_most;
}

condition_alone : (c : Content) (k : Option Condition) → IsCounted c → opened pattern_count k ≤ opened pattern_count c.condition →
    opened action_count k ≤ opened action_count c.condition
    → IsCounted (record c { condition = k })
condition_alone c k h patterns actions = record {
  settings = h.settings;
  bounds = h.bounds;
  contexts = h.contexts;
  extensions = h.extensions;
  extensions_most = h.extensions_most;
  patterns = omega (arith, h.patterns);
  patterns_most = h.patterns_most;
  actions = omega (arith, h.actions);
  actions_most = h.actions_most;
}

bind_keeps : (read : Result Content DocKind) (next : Content → BeginResult) → ((d : Content) → read ≡ Ok d → Keeps (next d)) →
    Keeps (read >>= next)
bind_keeps (Ok d) next fine = fine d refl
bind_keeps (Err f) next fine = tt

pattern_keeps : (pairs : Pairs) (c : Content) → IsCounted c → Keeps (pattern_begun pairs c)
unfolding pattern_begun
pattern_keeps pairs c h =
    bind_keeps (pattern_counted pairs c)
    (λ d. Ok (level.Condition, record d { condition = Some (condition_of pairs (plain_of pairs)) }))
    (λ d e.
    let room = counted_room pairs c d e in
    let k = Some (condition_of pairs (plain_of pairs)) in
    let P : Content → Type 0 = λ b. IsCounted (record b { condition = k }) in
    subst P (sym room.same) (condition_keeps c k 1 h (omega arith) (omega arith) (omega (arith, room.below))))

condition_on_keeps : (pairs : Pairs) (c : Content) (o : Option ManyKind) → IsCounted c → Keeps (condition_on pairs c o)
condition_on_keeps pairs c (Some which) h = condition_alone c (Some (condition_of pairs (test.Many which []))) h (omega arith) (omega arith)
condition_on_keeps pairs c None h = by (has pairs (codes "field") || has pairs (codes "expression"))
  where
    by : (t : Bool) → Keeps (cond t (pattern_begun pairs c)
        (Ok (level.Condition, record c { condition = Some (condition_of pairs test.Always) })))
    by true = pattern_keeps pairs c h
    by false = condition_alone c (Some (condition_of pairs test.Always)) h (omega arith) (omega arith)

case_counted : (field expression : Text) (t : Test Text) → test_pattern_count (with_case field expression t) ≤ test_pattern_count t + 1
case_counted field expression test.Always = omega arith
case_counted field expression (test.Plain f e) = omega arith
case_counted field expression (test.Many which children) =
    omega (arith, length-append children (record { field = field; expression = expression } ∷ []))

child_counted : (field expression : Text) (o : Option Condition)
    → (opened pattern_count (option_map (with_child field expression) o) ≤ opened pattern_count o + 1)
    × (opened action_count (option_map (with_child field expression) o) ≤ opened action_count o)
child_counted field expression None = (omega arith, omega arith)
child_counted field expression (Some k) = (case_counted field expression k.test, omega arith)

case_keeps : (pairs : Pairs) (c : Content) → IsCounted c → Keeps (case_begun pairs c)
unfolding case_begun
case_keeps pairs c h =
    let add : Option Condition → Option Condition = option_map (with_child_of pairs) in
    let child = child_counted (attribute_value pairs (codes "field")) (attribute_value pairs (codes "expression")) c.condition in
    bind_keeps (pattern_counted pairs c) (λ d. Ok (level.Empty, record d { condition = add d.condition }))
    (λ d e.
    let room = counted_room pairs c d e in
    let P : Content → Type 0 = λ b. IsCounted (record b { condition = add b.condition }) in
    subst P (sym room.same) (condition_keeps c (add c.condition) 1 h child.0 child.1 (omega (arith, room.below))))

action_counted : (anti : Bool) (a : PlanAction) (o : Option Condition)
    → (opened pattern_count (option_map (with_action anti a) o) ≤ opened pattern_count o)
    × (opened action_count (option_map (with_action anti a) o) ≤ opened action_count o + 1)
action_counted anti a None = (omega arith, omega arith)
action_counted true a (Some k) = (omega arith, omega (arith, length-append k.anti (a ∷ [])))
action_counted false a (Some k) = (omega arith, omega (arith, length-append k.actions (a ∷ [])))

action_keeps : (anti : Bool) (pairs : Pairs) (c : Content) → IsCounted c → Keeps (action_begun anti pairs c)
unfolding action_begun
action_keeps anti pairs c h = by (nat_lt c.actions 32768) refl
  where
    by : (t : Bool) → nat_lt c.actions 32768 ≡ t
        → Keeps (cond t (Ok (
          level.Empty,
          record c {
            actions = c.actions + 1;
            condition = option_map (with_action anti (action_of pairs)) c.condition;
          },
        )) (Err faults.TooLarge))
    by true small =
        let below = lt_tested c.actions 32768 small in
        let counted = action_counted anti (action_of pairs) c.condition in
        record {
          settings = h.settings;
          bounds = h.bounds;
          contexts = h.contexts;
          extensions = h.extensions;
          extensions_most = h.extensions_most;
          patterns = omega (arith, h.patterns, counted.0);
          patterns_most = h.patterns_most;
          actions = omega (arith, h.actions, counted.1);
          actions_most = omega arith;
        }
    by false small = tt

pub begun_counted : (k : Kind) (pairs : Pairs) (c : Content) → IsCounted c → Keeps (element_begun k pairs c)
unfolding element_begun global_begun param_begun context_begun condition_begun
begun_counted kind.Document pairs c h = h
begun_counted kind.Global pairs c h = global_keeps c (global_of (attribute_value pairs (codes "data"))) h
begun_counted kind.Section pairs c h = h
begun_counted kind.Configuration pairs c h = h
begun_counted (kind.Settings file) pairs c h = h
begun_counted (kind.Param file) pairs c h =
    param_keeps c (setting file (attribute_value pairs (codes "name")) (attribute_value pairs (codes "value")) c.settings)
    (setting_ranged file (attribute_value pairs (codes "name")) (attribute_value pairs (codes "value")) c.settings h.settings) h
begun_counted kind.Context pairs c h =
    context_keeps (attribute_value pairs (codes "name")) (context_position (attribute_value pairs (codes "name")) c.contexts) c h
begun_counted kind.Extension pairs c h = extension_keeps pairs c h
begun_counted kind.Condition pairs c h = condition_on_keeps pairs c (many_of (attribute_value pairs (codes "regex"))) h
begun_counted kind.Case pairs c h = case_keeps pairs c h
begun_counted kind.Action pairs c h = action_keeps false pairs c h
begun_counted kind.AntiAction pairs c h = action_keeps true pairs c h
begun_counted kind.Foreign pairs c h = h

-- ---- an element that ends

extension_ends : (c : Content) (o : Option Extension) → c.extension ≡ o → IsCounted c → IsCounted (extension_ended c o)
extension_ends c None is h = h
extension_ends c (Some e) is h =
    let a = extension_added one c.context e c.contexts in
    let b = extension_added (in_extension pattern_count) c.context e c.contexts in
    let d = extension_added (in_extension action_count) c.context e c.contexts in
    let ones : held one c.extension ≡ 1 = ap (held one) is in
    let patterns : held (in_extension pattern_count) c.extension ≡ in_extension pattern_count e = ap (held (in_extension pattern_count)) is
    in
    let actions : held (in_extension action_count) c.extension ≡ in_extension action_count e = ap (held (in_extension action_count)) is in
    record {
      settings = h.settings;
      bounds = h.bounds;
      contexts = omega (arith, h.contexts, same_contexts c.context e c.contexts);
      extensions = omega (arith, h.extensions);
      extensions_most = h.extensions_most;
      patterns = omega (arith, h.patterns);
      patterns_most = h.patterns_most;
      actions = omega (arith, h.actions);
      actions_most = h.actions_most;
    }

extended_held : (count : Condition → ℕ) (k : Condition) (o : Option Extension) →
    held (in_extension count) (option_map (extended k) o) ≤ held (in_extension count) o + count k
extended_held count k None = omega arith
extended_held count k (Some e) = omega (arith, one_condition count k e.conditions)

extended_one : (k : Condition) (o : Option Extension) → held one (option_map (extended k) o) ≡ held one o
extended_one k None = refl
extended_one k (Some e) = refl

condition_ends : (c : Content) (o : Option Condition) → c.condition ≡ o → IsCounted c → IsCounted (condition_ended c o)
condition_ends c None is h = h
condition_ends c (Some k) is h =
    let a = extended_held pattern_count k c.extension in
    let b = extended_held action_count k c.extension in
    let d = extended_one k c.extension in
    let patterns : opened pattern_count c.condition ≡ pattern_count k = ap (opened pattern_count) is in
    let actions : opened action_count c.condition ≡ action_count k = ap (opened action_count) is in
    record {
      settings = h.settings;
      bounds = h.bounds;
      contexts = h.contexts;
      extensions = omega (arith, h.extensions);
      extensions_most = h.extensions_most;
      patterns = omega (arith, h.patterns);
      patterns_most = h.patterns_most;
      actions = omega (arith, h.actions);
      actions_most = h.actions_most;
    }

pub ended_counted : (l : Level) (c : Content) → IsCounted c → IsCounted (element_ended l c)
unfolding element_ended
ended_counted level.Top c h = h
ended_counted level.Document c h = record {
  settings = h.settings;
  bounds = h.bounds;
  contexts = h.contexts;
  extensions = h.extensions;
  extensions_most = h.extensions_most;
  patterns = h.patterns;
  patterns_most = h.patterns_most;
  actions = h.actions;
  actions_most = h.actions_most;
}
ended_counted level.Dialplan c h = h
ended_counted level.Configurations c h = h
ended_counted (level.Configuration f) c h = h
ended_counted (level.Settings f) c h = h
ended_counted level.Context c h = h
ended_counted level.Extension c h = extension_ends c c.extension refl h
ended_counted level.Condition c h = condition_ends c c.condition refl h
ended_counted level.Cases c h = condition_ends c c.condition refl h
ended_counted level.Empty c h = h
ended_counted level.Foreign c h = h
