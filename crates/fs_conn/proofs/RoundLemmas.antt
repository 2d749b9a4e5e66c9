-- How rounds of a step follow one another.
use Rattle.std.proofs.Common.{◌≡◌, ℕ, zero, suc, ◌+◌, ◌-◌, ◌<◌, ◌≤◌, refl, sym, ap, ◌∙◌, subst, arith}
use Rattle.fs_conn.specs.declared.stop.Stop.{Stop}
use Rattle.fs_conn.specs.Play.{Play, repeated}
use Rattle.fs_conn.specs.Steps.{Halts}
use Rattle.fs_conn.proofs.PlayLemmas.{Goes, goes_repeated}
use Rattle.fs_conn.proofs.StepLemmas.{halts_on}

-- where a round does nothing, none does
pub repeated_none : (n : ℕ) (f : Play → Play) (p : Play) → f p ≡ p → repeated n f p ≡ p
unfolding repeated
repeated_none zero f p same = refl
repeated_none (suc n) f p same = ap (repeated n f) same ∙ repeated_none n f p same

repeated_zero : (f : Play → Play) (p : Play) → repeated 0 f p ≡ p
unfolding repeated
repeated_zero f p = refl

pub repeated_more : (n : ℕ) (f : Play → Play) (p : Play) → repeated (suc n) f p ≡ repeated n f (f p)
unfolding repeated
repeated_more n f p = refl

-- of so many rounds one is the first
first_round : (all done : ℕ) → done < all → all - done ≡ suc (all - (done + 1))
first_round all done some = omega arith

-- one of the rounds that are left is done
pub round_done : (all done : ℕ) (f : Play → Play) (now next goal : Play) → done < all → next ≡ f now → repeated (all - done) f now ≡ goal →
    repeated (all - (done + 1)) f next ≡ goal
round_done all done f now next goal some next_is reaches =
    ap (repeated (all - (done + 1)) f) next_is ∙ sym (repeated_more (all - (done + 1)) f now)
    ∙ sym (ap (λ n. repeated n f now) (first_round all done some)) ∙ reaches

-- in one of them the play stopped
pub round_stops : (left : ℕ) (f : Play → Play) → Goes (repeated left f) → (now next goal : Play) (stop : Stop) →
    repeated (suc left) f now ≡ goal → Halts stop next (f now) → Halts stop next goal
round_stops left f goes now next goal stop reaches halts =
    subst (λ (p : Play). Halts stop next p) (sym (repeated_more left f now) ∙ reaches)
    (halts_on (repeated left f) goes stop next (f now) halts)

pub round_stops_at : (all done : ℕ) (f : Play → Play) → Goes f → (now next goal : Play) (stop : Stop) → done < all →
    repeated (all - done) f now ≡ goal → Halts stop next (f now) → Halts stop next goal
round_stops_at all done f goes now next goal stop some reaches halts =
    round_stops (all - (done + 1)) f (goes_repeated (all - (done + 1)) f goes) now next goal stop
    (sym (ap (λ n. repeated n f now) (first_round all done some)) ∙ reaches) halts

-- no round is left
pub rounds_over : (all done : ℕ) (f : Play → Play) (now goal : Play) → all ≤ done → repeated (all - done) f now ≡ goal → now ≡ goal
rounds_over all done f now goal none reaches =
    let left : all - done ≡ 0 = omega arith in sym (repeated_zero f now) ∙ sym (ap (λ n. repeated n f now) left) ∙ reaches
