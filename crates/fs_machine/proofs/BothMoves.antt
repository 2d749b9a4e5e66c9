-- Two facts that each bear every move do so together.
use Rattle.std.proofs.Common.{ℕ}
use Rattle.fs_state.specs.Switch.{Switch}
use Rattle.fs_machine.specs.declared.owing.Giver.{Giver}
use Rattle.fs_machine.specs.declared.owing.Giver.TheVariants as giver
use Rattle.fs_machine.proofs.Kept.{none_joined_by, goes_on_by, let_go_by, Fact, KeptByTouches, KeptByCalls, KeptByApi, KeptByJobs, KeptByDials}
use Rattle.fs_machine.proofs.Kept.{KeptByCommands, KeptByVisits, KeptByMoves}

abbrev pub Both : Fact → Fact → Fact
Both P Q b s = P b s × Q b s

module _ (P Q : Fact) where
  both_touches : KeptByTouches P → KeptByTouches Q → KeptByTouches (Both P Q)
  both_touches p q = record {
    told = λ event plain h. (p.told event plain h.0, q.told event plain h.1);
    globals = λ globals h. (p.globals globals h.0, q.globals globals h.1);
    changed = λ slot old new there stays h. (p.changed slot old new there stays h.0, q.changed slot old new there stays h.1);
    answers = λ seat slot number h. (p.answers seat slot number h.0, q.answers seat slot number h.1);
  }

  both_calls : KeptByCalls P → KeptByCalls Q → KeptByCalls (Both P Q)
  both_calls p q = record {
    touches = both_touches p.touches q.touches;
    hung = λ named early h. (p.hung named early.0 h.0, q.hung named early.1 h.1);
    joined = λ kind caller answerer c d can there other one two idle spare was h. (
      p.joined kind caller answerer c d can there other one two idle spare (none_joined_by was (λ s k. k.0)) h.0,
      q.joined kind caller answerer c d can there other one two idle spare (none_joined_by was (λ s k. k.1)) h.1,
    );
    departs = λ slots early h. (p.departs slots early.0 h.0, q.departs slots early.1 h.1);
    more = λ h. (p.more h.0, q.more h.1);
    gone = λ slot old there dead early h. (p.gone slot old there dead early.0 h.0, q.gone slot old there dead early.1 h.1);
  }

  both_api : (by : Giver) → KeptByApi by P → KeptByApi by Q → KeptByApi by (Both P Q)
  both_api by p q = record {
    spent = λ h. (p.spent h.0, q.spent h.1);
    draws = λ h. (p.draws h.0, q.draws h.1);
    waits = λ what {s = s} wait may room h. (
      p.waits what wait (goes_on_by (Both P Q) P by s may (λ t k. k.0)) room h.0,
      q.waits what wait (goes_on_by (Both P Q) Q by s may (λ t k. k.1)) room h.1,
    );
    originates = λ groups winner caller timeout {s = s} may are short room h. (
      p.originates groups winner caller timeout (goes_on_by (Both P Q) P by s may (λ t k. k.0)) are short room h.0,
      q.originates groups winner caller timeout (goes_on_by (Both P Q) Q by s may (λ t k. k.1)) are short room h.1,
    );
    leavings = λ h. (p.leavings h.0, q.leavings h.1);
    ends = λ reply notice dead h. (p.ends reply notice dead h.0, q.ends reply notice dead h.1);
  }

  module _ (before : Switch) where
    both_jobs : KeptByJobs before P → KeptByJobs before Q → KeptByJobs before (Both P Q)
    both_jobs p q = record {
      out = λ number job does h. (p.out number job does h.0, q.out number job does h.1);
      runs = λ number job. both_api (giver.Job number job) (p.runs number job) (q.runs number job);
      woken = λ number who what answer wait does h.
          (p.woken number who what answer wait does h.0, q.woken number who what answer wait does h.1);
      failed = λ job who winner caller orig cause does over h.
          (p.failed job who winner caller orig cause does over h.0, q.failed job who winner caller orig cause does over h.1);
      wins = λ job who winner caller orig leg slots does won h.
          (p.wins job who winner caller orig leg slots does won h.0, q.wins job who winner caller orig leg slots does won h.1);
    }

    both_dials : KeptByDials before P → KeptByDials before Q → KeptByDials before (Both P Q)
    both_dials p q = record {
      spent = λ h. (p.spent h.0, q.spent h.1);
      dials = λ slot c groups timeout there works are h.
          (p.dials slot c groups timeout there works are h.0, q.dials slot c groups timeout there works are h.1);
      regroups = λ number o plans caller there are h.
          (p.regroups number o plans caller there are h.0, q.regroups number o plans caller there are h.1);
      fails = λ slot orig cause waits over h. (p.fails slot orig cause waits over h.0, q.fails slot orig cause waits over h.1);
      wins = λ slot orig leg slots waits won h. (p.wins slot orig leg slots waits won h.0, q.wins slot orig leg slots waits won h.1);
    }

  both_commands : (conn : ℕ) → KeptByCommands conn P → KeptByCommands conn Q → KeptByCommands conn (Both P Q)
  both_commands conn p q = record {
    api = both_api (giver.Conn conn) p.api q.api;
    noticed = λ frame h. (p.noticed frame h.0, q.noticed frame h.1);
    gave = λ frame h. (p.gave frame h.0, q.gave frame h.1);
    asked = λ change h. (p.asked change h.0, q.asked change h.1);
    admitted = λ fresh h. (p.admitted fresh h.0, q.admitted fresh h.1);
    parted = λ why leaves was h.
        (p.parted why leaves (let_go_by was (λ t k. k.0)) h.0, q.parted why leaves (let_go_by was (λ t k. k.1)) h.1);
    backgrounds = λ given command room h. (p.backgrounds given command room h.0, q.backgrounds given command room h.1);
  }

  both_visits : KeptByVisits P → KeptByVisits Q → KeptByVisits (Both P Q)
  both_visits p q = record {
    arrived = λ h. (p.arrived h.0, q.arrived h.1);
    taken = λ conn h. (p.taken conn h.0, q.taken conn h.1);
    holds = λ slot c text there waits room h. (p.holds slot c text there waits room h.0, q.holds slot c text there waits room h.1);
    silent = λ conn was h. (p.silent conn (let_go_by was (λ t k. k.0)) h.0, q.silent conn (let_go_by was (λ t k. k.1)) h.1);
    left = λ conn was h. (p.left conn (let_go_by was (λ t k. k.0)) h.0, q.left conn (let_go_by was (λ t k. k.1)) h.1);
    halted = λ reply notice dead h. (p.halted reply notice dead h.0, q.halted reply notice dead h.1);
  }

  pub both_moves : (before : Switch) → KeptByMoves before P → KeptByMoves before Q → KeptByMoves before (Both P Q)
  both_moves before p q = record {
    calls = both_calls p.calls q.calls;
    jobs = both_jobs before p.jobs q.jobs;
    dials = both_dials before p.dials q.dials;
    commands = λ conn. both_commands conn (p.commands conn) (q.commands conn);
    visits = both_visits p.visits q.visits;
  }
