use Rattle.std.proofs.Common.{◌≡◌, ℕ, List, Option, Some, subst}
use Rattle.std.specs.List.{position}
use Rattle.std.specs.Option.{option_and_then}
use Rattle.fs_orig.specs.declared.leg.OrigLeg.{OrigLeg}
use Rattle.fs_orig.specs.Legs.{answer_of, first_answer, is_at, winner}
use Rattle.fs_orig.proofs.leg.OrigLegs.winner.Goals as goal

winner_at : (legs : List OrigLeg) (place : ℕ) (found : Option ℕ) → Some place ≡ first_answer legs →
    found ≡ position (λ leg. is_at place (answer_of leg)) legs → found ≡ winner legs
winner_at legs place found first is =
    let P : Option ℕ → Type 0 = λ o. found ≡ option_and_then (λ p. position (λ leg. is_at p (answer_of leg)) legs) o in
    subst P first is

pub returns-in-Some : goal.returns-in-Some
returns-in-Some c = winner_at c.args.self.now c.in-Some.place c.narrow.result (cc) (cc)
