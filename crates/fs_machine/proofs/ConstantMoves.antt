-- What no act changes of what neither channels, connections, jobs nor originations are: the settings, the clock, the place in the journal,
-- its cost and its counts.
use Rattle.std.proofs.Common.{◌≡◌, ℕ, Some, unwrap_or, refl, sym, ap, subst}
use Rattle.fs_doc.specs.declared.settings.Settings.{Settings}
use Rattle.fs_chan.specs.Controlling.{held_by}
use Rattle.fs_state.specs.Counts.{Tallies}
use Rattle.fs_state.specs.Switch.{Switch, with_chan, with_next_identifier}
use Rattle.fs_machine.specs.declared.entry.Act.{Act}
use Rattle.fs_machine.specs.Originations.{after_winning}
use Rattle.fs_machine.specs.Step.{act_done}
use Rattle.fs_machine.proofs.Kept.{Fact, raced, KeptByMoves}
use Rattle.fs_machine.proofs.RestLemmas.{Rest, rest_of, calls_by_rest, births_by_rest, dials_by_rest, won_rest}
use Rattle.fs_machine.proofs.FrontLemmas.{Front, front_of, moves_by_front}
use Rattle.fs_machine.proofs.ActWalk.{acted_kept}

-- what holds of what is read is kept by all moves, where it is read both of the rest and of what channels see
module _ (A : Type 0) (of : Switch → A) (R : A → Type 0) where
  abbrev pub Reading : Fact
  Reading b s = R (of s)

  module _ (rest : (s t : Switch) → rest_of t ≡ rest_of s → of t ≡ of s) (front : (s t : Switch) → front_of t ≡ front_of s → of t ≡ of s) where
    by_rest : (s t : Switch) → R (of s) → rest_of t ≡ rest_of s → R (of t)
    by_rest s t h same = subst R (sym (rest s t same)) h

    pub reading_moves : (before : Switch) → KeptByMoves before Reading
    reading_moves before =
        moves_by_front before Reading (λ b t u h same. subst R (sym (front t u same)) h)
        (calls_by_rest Reading (λ b t u h same. by_rest t u h same) (λ t h. h))
        (births_by_rest Reading (λ b t u h same. by_rest t u h same) (λ t h. h))
        (dials_by_rest before Reading (λ b t u h same. by_rest t u h same) (λ t h. h))
        (λ job who winner caller orig leg slots does won h.
        by_rest (raced slots before) (after_winning winner (unwrap_or leg.slot 0) (raced slots before)) h
        (won_rest winner (unwrap_or leg.slot 0) (raced slots before)))
        (λ t h. by_rest t (with_next_identifier t) h refl)
        (λ slot conn c text t there waits h. by_rest t (with_chan slot (Some (held_by conn c)) t) h refl)

pub record Constants : Type 0 where
  pub settings : Settings
  pub moment : ℕ
  pub entries : ℕ
  pub cost : ℕ
  pub counts : Tallies

abbrev pub constants_of : Switch → Constants
constants_of s = record { settings = s.settings; moment = s.moment; entries = s.entries; cost = s.cost; counts = s.counts }

in_rest : Rest → Constants
in_rest r = record { settings = r.settings; moment = r.moment; entries = r.entries; cost = r.cost; counts = r.counts }

in_front : Front → Constants
in_front f = record { settings = f.settings; moment = f.moment; entries = f.entries; cost = f.cost; counts = f.counts }

constants_in_rest : (s t : Switch) → rest_of t ≡ rest_of s → constants_of t ≡ constants_of s
unfolding in_rest
constants_in_rest s t same = ap in_rest same

constants_in_front : (s t : Switch) → front_of t ≡ front_of s → constants_of t ≡ constants_of s
unfolding in_front
constants_in_front s t same = ap in_front same

pub acted_constants : (act : Act) (s : Switch) → constants_of (act_done act s).state ≡ constants_of s
acted_constants act s =
    acted_kept s (Reading Constants constants_of (λ x. x ≡ constants_of s))
    (reading_moves Constants constants_of (λ x. x ≡ constants_of s) constants_in_rest constants_in_front s) act (λ loads config t h. h) refl
