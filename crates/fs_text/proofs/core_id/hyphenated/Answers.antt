use Rattle.fs_text.specs.CoreId.{uuid_text}
use Rattle.fs_text.proofs.core_id.hyphenated.Goals as goal

pub returns : goal.returns
unfolding uuid_text
returns c = rw (← c.from_u64_pair.ensures, ← c.hyphenated.ensures) c.encode_lower.ensures.text
