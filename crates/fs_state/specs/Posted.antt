-- The events that an entry posts, as they are told.
use Rattle.std.specs.Prelude.{List, map}
use Rattle.fs_text.specs.Texts.{Text}
use Rattle.fs_event.specs.Rings.{Pair}
use Rattle.fs_state.specs.declared.post.Post.{Post}

-- the event of a post
abbrev pub event_of : Post → Pair Text
event_of post = record { number = post.number; event = post.frame; readers = post.readers }

-- those of posts
abbrev pub events_of : List Post → List (Pair Text)
events_of posts = map event_of posts

-- a post that nobody is to read yet
abbrev pub unread : Post → Post
unread post = record post { readers = 0 }
