-- What the steps of the code come to, by which it is worked out what it comes to that some leave.
use Rattle.std.proofs.Common.{◌≡◌, ℕ, ◌+◌, ◌<◌, List, [], ◌∷◌, ◌++◌, length, take, get_or, filter_map}
use Rattle.std.proofs.Common.{Option, option_to_list, append_assoc, ap, sym, ◌∙◌}
use Rattle.std.proofs.lemmas.List.{take_more}
use Rattle.std.proofs.lemmas.List.Elements.{filter_map-append}
use Rattle.fs_text.specs.declared.causes.Cause.{Cause}
use Rattle.fs_bridge.specs.declared.after.After.{After}
use Rattle.fs_bridge.specs.declared.row.Row.{Row}
use Rattle.fs_bridge.specs.Worlds.{World}
use Rattle.fs_bridge.specs.Closure.{Members, Ends, hung, closure_of}
use Rattle.fs_bridge.specs.Leaving.{LeavingEnds, parted_of, parted_world, all_left, with_survivors, ends_with, leavers_of, closure_of_leaving}
use Rattle.fs_bridge.proofs.RoundLemmas.{option_alone}

-- with one more, if there is one
pub added_next : {X Y : Type 0} (h : X → Option Y) (front : List Y) (xs : List X) (i : ℕ) (d : X) (before : List Y) (o : Option Y) →
    i < length xs → before ≡ front ++ filter_map h (take i xs) → o ≡ h (get_or xs i d) →
    before ++ option_to_list o ≡ front ++ filter_map h (take (i + 1) xs)
added_next h front xs i d before o within so_far is =
    ap (λ all. all ++ option_to_list o) so_far
    ∙ append_assoc front (filter_map h (take i xs)) (option_to_list o)
    ∙ ap (λ one. front ++ (filter_map h (take i xs) ++ option_to_list one)) is
    ∙ ap (λ last. front ++ (filter_map h (take i xs) ++ last)) (sym (option_alone (h (get_or xs i d))))
    ∙ ap (λ all. front ++ all) (sym (filter_map-append h (take i xs) (get_or xs i d ∷ [])))
    ∙ ap (λ some. front ++ filter_map h some) (sym (take_more xs i d within))

-- what is made of the parts, one after another
pub ends_are : (w : World) (first : Members) (left : List ℕ) (others : List (ℕ × After)) (named : Members) (closure ends : Ends) →
    others ≡ all_left w left → named ≡ first ++ filter_map hung others → closure ≡ closure_of (parted_world w left) named →
    ends ≡ with_survivors others closure → ends ≡ ends_with w first left
ends_are w first left others named closure ends of_others of_named of_closure of_ends =
    of_ends
    ∙ ap (λ e. with_survivors others e) of_closure
    ∙ ap (λ round. with_survivors others (closure_of (parted_world w left) round)) of_named
    ∙ ap (λ all. with_survivors all (closure_of (parted_world w left) (first ++ filter_map hung all))) of_others

pub leaving_is : (w : World) (first : Members) (left : List ℕ) (parted : List (Row × Cause)) (ends : Ends) (leavers : List ℕ) (all : LeavingEnds) →
    all ≡ record { parted = parted; ends = ends; leavers = leavers } → parted ≡ parted_of w left → ends ≡ ends_with w first left →
    leavers ≡ leavers_of left ends.members → all ≡ closure_of_leaving w first left
leaving_is w first left parted ends leavers all is of_parted of_ends of_leavers =
    is
    ∙ ap (λ p. record { parted = p; ends = ends; leavers = leavers }) of_parted
    ∙ ap (λ l. record { parted = parted_of w left; ends = ends; leavers = l }) of_leavers
    ∙ ap (λ e. record { parted = parted_of w left; ends = e; leavers = leavers_of left e.members }) of_ends
