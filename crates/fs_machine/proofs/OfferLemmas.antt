-- What comes of what is submitted.
use Rattle.std.proofs.Common.{ℕ, List}
use Rattle.fs_doc.specs.Reading.{Configuration}
use Rattle.fs_machine.specs.declared.entry.Entry.{Entry}
use Rattle.fs_machine.specs.declared.offer.Offer.TheVariants as offer
use Rattle.fs_machine.specs.declared.refusal.RouteRefusal.{RouteRefusal}
use Rattle.fs_machine.specs.declared.refusal.RouteRefusal.TheVariants.{Again, Step}
use Rattle.fs_machine.specs.declared.routes.Plan.{Plan}
use Rattle.fs_machine.specs.Routes.{IsRouteRefusal}
use Rattle.fs_machine.specs.Runs.{View}
use Rattle.fs_machine.specs.Turned.{IsJournal, Declines}

-- an entry is refused behind a run
pub declined_before : (config : Configuration) (log : List Entry) (entry : Entry) (why : RouteRefusal) →
    Declines config log (offer.Entry entry) why → IsJournal config log
declined_before config log entry (Again touched reloads wall) declined = absurd declined
declined_before config log entry (Step why) declined = declined.before

-- a plan is refused so behind a run
pub declined_route : (m : View) (moment slot : ℕ) (plan : Plan) (why : RouteRefusal) → IsJournal m.config m.journal →
    IsRouteRefusal m moment slot plan why → Declines m.config m.journal (offer.Route moment slot plan) why
declined_route m moment slot plan (Again touched reloads wall) run cause = record { before = run; other = cause.0; present = cause.1 }
declined_route m moment slot plan (Step why) run cause = (record { before = run; cause = cause.1 }, cause.0)
