-- An entry keeps connections, jobs, and the originations that jobs own as they must be, and what each number cost.
use Rattle.std.proofs.Common.{◌≡◌, ◌+◌, ◌-◌, ◌*◌, ◌^◌, ◌≤◌, min, None, refl, arith, ◌<◌}
use Rattle.std.proofs.lemmas.Bool.{ltb-false}
use Rattle.fs_doc.specs.Reading.{Configuration}
use Rattle.fs_seats.specs.Seats.{no_seats}
use Rattle.fs_seats.proofs.TableLemmas.{none_held}
use Rattle.fs_seats.proofs.NumberLemmas.{none_numbered, Numbers}
use Rattle.fs_state.specs.Switch.{Switch, empty, at_moment}
use Rattle.fs_machine.specs.declared.entry.Entry.{Entry}
use Rattle.fs_machine.specs.Entries.{cost_of}
use Rattle.fs_machine.specs.Step.{act_done, step, refusal_of}
use Rattle.fs_machine.proofs.OwedBooks.{Books, books_of, Sound, Goes, Few, Paid, SlotsAreFew}
use Rattle.fs_machine.proofs.FrameLemmas.{some_cost}
use Rattle.fs_machine.proofs.OrderLemmas.{not_full, not_refused}
use Rattle.fs_machine.proofs.OwedActs.{goes_acted}
use Rattle.fs_machine.proofs.Kept.{Stage, Fact, KeptByMoves}
use Rattle.fs_machine.proofs.OwedEnds.{owes_nobody, tries_nothing}
use Rattle.fs_machine.proofs.OwedLosses.{OwnsAwaited}

-- all facts on a state that a run comes to
pub record Holds (b : Books) : Type 0 where
  pub sound : Sound b
  pub paid : Paid b

pub holds_empty : (config : Configuration) → config.settings.journal_limit ≤ 1073741824 → Holds (books_of (empty config))
holds_empty config small = record {
  sound = record {
    linked = record {
      numbers = none_numbered config.settings.max_connections;
      parts = λ p a is. absurd (none_held config.settings.max_connections p a is);
      job_numbers = none_numbered 1024;
      owes = owes_nobody (no_seats config.settings.max_connections) 1024 0
          (λ p a is. absurd (none_held config.settings.max_connections p a is));
    };
    tries = tries_nothing 1024 1280 0 refl refl;
  };
  paid = record { conns = omega arith; jobs = omega arith; origs = omega arith; limit = small };
}

-- where few numbers were drawn, the next entry comes to all that it must, beside a fact that tells whose originations there are
pub holds_step : (s : Switch) (entry : Entry) (Q : Fact) → KeptByMoves (at_moment entry.moment s) Q →
    ((b : Stage) (t : Switch) → Q b t → OwnsAwaited t) → ((b : Stage) (t : Switch) → Q b t → Numbers t.origs t.drawn.origs) →
    refusal_of s entry ≡ None → SlotsAreFew s → Q None (at_moment entry.moment s) → Holds (books_of s) →
    Holds (books_of (step s entry).state)
unfolding step
holds_step s entry Q kept owns numbers accepts slots q h =
    let room : s.cost + 65600 ≤ s.settings.journal_limit =
    ltb-false s.settings.journal_limit (s.cost + 65600) (not_full s entry accepts) in
    let small : s.settings.journal_limit ≤ 1073741824 = h.paid.limit in
    let paid_conns : 64 * s.drawn.conns ≤ s.cost = h.paid.conns in
    let paid_jobs : 64 * s.drawn.jobs ≤ s.cost = h.paid.jobs in
    let paid_origs : 64 * s.drawn.origs ≤ s.cost = h.paid.origs in
    let few : Few (books_of s) = record {
      conns = omega (arith, room, small, paid_conns);
      jobs = omega (arith, room, small, paid_jobs);
      origs = omega (arith, room, small, paid_origs);
    } in
    let goes : Goes (books_of s) (books_of (act_done entry.act (at_moment entry.moment s)).state) =
    goes_acted entry.act (at_moment entry.moment s) Q kept owns numbers (not_refused s entry accepts) few h.sound slots q in
    after (act_done entry.act (at_moment entry.moment s)).state goes room small paid_conns paid_jobs paid_origs (some_cost entry.act)
  where
    after : (t : Switch) → Goes (books_of s) (books_of t) → s.cost + 65600 ≤ s.settings.journal_limit →
        s.settings.journal_limit ≤ 1073741824 →
        64 * s.drawn.conns ≤ s.cost → 64 * s.drawn.jobs ≤ s.cost → 64 * s.drawn.origs ≤ s.cost → 64 ≤ cost_of entry.act →
        Holds (record (books_of t) { cost = min (t.cost + cost_of entry.act) (2 ^ 64 - 1) })
    after t goes room small paid_conns paid_jobs paid_origs some =
        let conns : t.drawn.conns ≤ s.drawn.conns + 1 = goes.near.conns in
        let jobs : t.drawn.jobs ≤ s.drawn.jobs + 1 = goes.near.jobs in
        let origs : t.drawn.origs ≤ s.drawn.origs + 1 = goes.near.origs in
        let cost : t.cost ≡ s.cost = goes.near.cost in
        let limit : t.settings.journal_limit ≡ s.settings.journal_limit = goes.near.limit in
        record {
          sound = record { linked = goes.sound.linked; tries = goes.sound.tries };
          paid = record {
            conns = omega (arith, conns, cost, room, small, paid_conns, some);
            jobs = omega (arith, jobs, cost, room, small, paid_jobs, some);
            origs = omega (arith, origs, cost, room, small, paid_origs, some);
            limit = omega (arith, limit, small);
          };
        }

-- where an entry is not refused, few originations were drawn
pub few_drawn : (s : Switch) (entry : Entry) → refusal_of s entry ≡ None → Holds (books_of s) → s.drawn.origs < 2 ^ 30
few_drawn s entry accepts h =
    let room : s.cost + 65600 ≤ s.settings.journal_limit =
    ltb-false s.settings.journal_limit (s.cost + 65600) (not_full s entry accepts) in
    let small : s.settings.journal_limit ≤ 1073741824 = h.paid.limit in
    let paid : 64 * s.drawn.origs ≤ s.cost = h.paid.origs in
    omega (arith, room, small, paid)
