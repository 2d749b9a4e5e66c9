use Rattle.fs_orig.proofs.VerdictLemmas.{won_is, is_won, leg_expired_is, failed_is, next_may_be_entered, is_to_come, stays_waiting}
use Rattle.fs_orig.proofs.VerdictLemmas.{then_expires, stays_decided, stays_over}
use Rattle.fs_orig.proofs.verdict.verdict_law.Goals as goal

pub returns : goal.returns
returns c = record {
  won = λ now p o. (won_is now p o, is_won now p o);
  leg_expired = leg_expired_is;
  next = next_may_be_entered;
  failed = failed_is;
  to_come = is_to_come;
  stays = stays_waiting;
  has_come = then_expires;
  decided = stays_decided;
  expired = stays_over;
}
