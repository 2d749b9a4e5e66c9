use Rattle.fs_limit.proofs.HeldLemmas.{asked_is_held, released_holds_nothing, released_leaves_others, others_stay}
use Rattle.fs_limit.proofs.SoundLemmas.{stays_once}
use Rattle.fs_limit.proofs.UsageLemmas.{allowed_is_within, grows_by_asking, never_more}
use Rattle.fs_limit.proofs.laws.limits_law.Goals as goal

pub returns : goal.returns
returns c = record {
  once = stays_once;
  within = allowed_is_within;
  grows = grows_by_asking;
  never = never_more;
  asked = asked_is_held;
  released = released_holds_nothing;
  left = released_leaves_others;
  others = others_stay;
}
