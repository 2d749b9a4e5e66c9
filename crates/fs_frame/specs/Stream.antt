-- What a buffer of blocks stands for.
use Rattle.std.specs.Prelude.{ℕ, List, [], ◌++◌, length, drop, unwrap_or}
use Rattle.fs_frame.specs.Block.{front_of}

-- the block that the last call handed out, and all bytes behind what was handed out
pub record Stream : Type 0 where
  pub last : List ℕ
  pub rest : List ℕ

-- nothing was fed yet
abbrev pub new_stream : Stream
new_stream = record { last = []; rest = [] }

-- one more piece was fed
abbrev pub fed_with : Stream → List ℕ → Stream
fed_with s piece = record { last = []; rest = s.rest ++ piece }

-- the block in front was handed out, if one stood there
unfoldable pub after_next_block : Stream → Stream
after_next_block s =
    let block = unwrap_or (front_of s.rest) [] in
    record { last = block; rest = drop (length block) s.rest }
