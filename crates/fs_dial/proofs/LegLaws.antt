-- Legs are read as what they spell.
use Rattle.std.proofs.Common.{◌≡◌, ◌≢◌, ℕ, ◌<◌, take, drop, Bool, true, false, ◌||◌, ◌==◌, List, [], ◌∷◌, ◌++◌, length, Result, Ok, refl}
use Rattle.std.proofs.Common.{sym, ap, ◌∙◌, subst, append-nil, arith}
use Rattle.std.specs.List.{position_or_len, list_any, before_first}
use Rattle.std.proofs.lemmas.List.{length-append}
use Rattle.std.proofs.Math.Seq.{take-append_seam, drop-append_seam}
use Rattle.fs_dial.specs.declared.bracket.Bracket.TheVariants.{Square}
use Rattle.fs_dial.specs.declared.fault.DialFault.{DialFault}
use Rattle.fs_dial.specs.Results.{◌>>=◌}
use Rattle.fs_dial.specs.Guards.{offset}
use Rattle.fs_dial.specs.Pairs.{Pair}
use Rattle.fs_dial.specs.Brackets.{Taken, brackets_at}
use Rattle.fs_dial.specs.Legs.{LegText, ends_leg, leg_on, endpoint_at, leg_at}
use Rattle.fs_dial.specs.Spelling.{IsLeg}
use Rattle.fs_dial.proofs.Cuts.{bind_ok, eqb-true, first_offset, no_offset, Cut, cut_at}
use Rattle.fs_dial.proofs.BracketLaws.{brackets_read, brackets_short, brackets_spelt}

-- behind a leg is the end, or a byte that ends it
abbrev pub Stops : List ℕ → Type 0
Stops [] = Unit {0}
Stops (b ∷ rest) = ends_leg b ≡ true

-- ---- what is spelt is read

record CutSo (p : ℕ → Bool) (bytes front from : List ℕ) : Type 0 where
  pub front_is : before_first p bytes ≡ front
  pub from_is : drop (position_or_len p bytes) bytes ≡ from

cut_so : (endpoint rest : List ℕ) → list_any ends_leg endpoint ≡ false → Stops rest → CutSo ends_leg (endpoint ++ rest) endpoint rest
cut_so endpoint [] none stops =
    let size : position_or_len ends_leg (endpoint ++ []) ≡ length endpoint = ap (position_or_len ends_leg) (append-nil endpoint)
    ∙ no_offset ends_leg endpoint none in
    record {
      front_is = ap (λ n. take n (endpoint ++ [])) size ∙ take-append_seam endpoint [];
      from_is = ap (λ n. drop n (endpoint ++ [])) size ∙ drop-append_seam endpoint [];
    }
cut_so endpoint (b ∷ rest) none stops =
    let size = first_offset ends_leg endpoint b rest none stops in
    record {
      front_is = ap (λ n. take n (endpoint ++ (b ∷ rest))) size ∙ take-append_seam endpoint (b ∷ rest);
      from_is = ap (λ n. drop n (endpoint ++ (b ∷ rest))) size ∙ drop-append_seam endpoint (b ∷ rest);
    }

leg_here : (at : ℕ) (pairs : List Pair) (endpoint rest : List ℕ) → endpoint ≢ [] →
    leg_on at pairs endpoint rest ≡ Ok (record { at = at; endpoint = endpoint; pairs = pairs }, rest)
unfolding leg_on
leg_here at pairs [] rest some = absurd (some refl)
leg_here at pairs (b ∷ endpoint) rest some = refl

endpoint_read : (end : ℕ) (pairs : List Pair) (endpoint rest : List ℕ) → endpoint ≢ [] → list_any ends_leg endpoint ≡ false → Stops rest
    → endpoint_at end pairs (endpoint ++ rest) ≡ Ok (record { at = offset end (endpoint ++ rest); endpoint = endpoint; pairs = pairs }, rest)
unfolding endpoint_at
endpoint_read end pairs endpoint rest some none stops =
    let whole : List ℕ = endpoint ++ rest in
    let at = offset end whole in
    let cut = cut_so endpoint rest none stops in
    ap (λ front. leg_on at pairs front (drop (position_or_len ends_leg whole) whole)) cut.front_is
    ∙ ap (leg_on at pairs endpoint) cut.from_is ∙ leg_here at pairs endpoint rest some

abbrev pub Legs : Type 0
Legs = Result (LegText × List ℕ) DialFault

pub leg_read : (end : ℕ) (text rest : List ℕ) (leg : LegText) → Stops rest → IsLeg end text rest leg → leg_at end text ≡ Ok (leg, rest)
unfolding leg_at
leg_read end text rest leg stops is =
    ap (λ (r : Taken). r >>= λ x. endpoint_at end x.0 x.1) (brackets_read Square end text (leg.endpoint ++ rest) leg.pairs is.brackets)
    ∙ endpoint_read end leg.pairs leg.endpoint rest is.some is.unbroken stops
    ∙ ap {A = ℕ} (λ at. Ok (record { at = at; endpoint = leg.endpoint; pairs = leg.pairs }, rest)) (sym is.is_at)

some_long : (bytes : List ℕ) → bytes ≢ [] → 0 < length bytes
some_long [] some = absurd (some refl)
some_long (b ∷ bytes) some = omega arith

pub leg_long : (end : ℕ) (text rest : List ℕ) (leg : LegText) → IsLeg end text rest leg → length rest < length text
leg_long end text rest leg is =
    omega (
      arith,
      some_long leg.endpoint is.some,
      length-append leg.endpoint rest,
      brackets_short Square end text
          (leg.endpoint ++ rest) leg.pairs is.brackets,
    )

-- ---- what is read is spelt

-- the leg that was read, and what may stand behind it
pub record LegSpelt (end : ℕ) (text rest : List ℕ) (leg : LegText) : Type 0 where
  pub is : IsLeg end text rest leg
  pub stops : Stops rest

abbrev leg_as : LegText → List ℕ → Legs
leg_as leg rest = Ok (leg, rest)

same_leg : (x y : LegText) (rest behind : List ℕ) → leg_as x rest ≡ leg_as y behind → (x ≡ y) × (rest ≡ behind)
same_leg x y rest behind e =
    let both : ◌≡◌ {A = LegText × List ℕ} (x, rest) (y, behind) = cc in
    (ap (λ (p : LegText × List ℕ). p.0) both, ap (λ (p : LegText × List ℕ). p.1) both)

stops_here : (bytes front from : List ℕ) → Cut ends_leg bytes front from → Stops from
stops_here bytes front [] cut = tt
stops_here bytes front (b ∷ rest) cut = cut.here b rest refl

-- an endpoint with these brackets before it
made : (end : ℕ) (text bytes : List ℕ) (pairs : List Pair) (endpoint from : List ℕ) → brackets_at Square end text ≡ Ok (pairs, bytes) →
    Cut ends_leg bytes endpoint from → endpoint ≢ []
    → LegSpelt end text from (record { at = offset end bytes; endpoint = endpoint; pairs = pairs })
made end text bytes pairs endpoint from reads cut some = record {
  is = record {
    brackets = brackets_spelt Square end text (endpoint ++ from) pairs (reads ∙ ap (λ l. Ok (pairs, l)) cut.whole);
    is_at = ap (offset end) cut.whole;
    some = some;
    unbroken = cut.none;
  };
  stops = stops_here bytes endpoint from cut;
}

endpoint_spelt : (end : ℕ) (text bytes rest : List ℕ) (pairs : List Pair) (leg : LegText) →
    brackets_at Square end text ≡ Ok (pairs, bytes) → endpoint_at end pairs bytes ≡ Ok (leg, rest) → LegSpelt end text rest leg
unfolding endpoint_at leg_on
endpoint_spelt end text bytes rest pairs leg reads e =
    by (before_first ends_leg bytes) (drop (position_or_len ends_leg bytes) bytes) (cut_at ends_leg bytes) e
  where
    by : (endpoint from : List ℕ) → Cut ends_leg bytes endpoint from → leg_on (offset end bytes) pairs endpoint from ≡ Ok (leg, rest) →
        LegSpelt end text rest leg
    by [] from cut e = absurd (cc)
    by (b ∷ endpoint) from cut e =
        let same = same_leg (record { at = offset end bytes; endpoint = b ∷ endpoint; pairs = pairs }) leg from rest e in
        let P : LegText → Type 0 = λ l. LegSpelt end text rest l in
        let Q : List ℕ → Type 0 = λ l. LegSpelt end text l (record { at = offset end bytes; endpoint = b ∷ endpoint; pairs = pairs }) in
        subst P same.0 (subst Q same.1 (made end text bytes pairs (b ∷ endpoint) from reads cut (λ none. absurd (cc))))

pub leg_spelt : (end : ℕ) (text rest : List ℕ) (leg : LegText) → leg_at end text ≡ Ok (leg, rest) → LegSpelt end text rest leg
unfolding leg_at
leg_spelt end text rest leg e =
    let read = bind_ok (brackets_at Square end text) (λ x. endpoint_at end x.0 x.1) (leg, rest) e in
    endpoint_spelt end text read.0.1 rest read.0.0 leg read.1 read.2

-- what ends a leg
pub comma_or_bar : (b : ℕ) → ends_leg b ≡ true → (b == 44) ≡ false → b ≡ 124
comma_or_bar b ends other = by (b == 44) other ends
  where
    by : (t : Bool) → t ≡ false → (t || (b == 124)) ≡ true → b ≡ 124
    by true other ends = absurd (cc)
    by false other ends = eqb-true b 124 ends
