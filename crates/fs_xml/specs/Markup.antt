-- What begins with `<`: a comment, an end tag, or a start tag.
use Rattle.std.specs.Prelude.{◌==◌, ℕ, nat_eq, if◌then◌else◌, List, [], ◌∷◌, drop, Result, Ok, Err, codes}
use Rattle.std.specs.List.{starts_with}
use Rattle.std.specs.Borrow.{Bor}
use Rattle.fs_xml.specs.Results.{◌>>=◌}
use Rattle.fs_xml.specs.declared.markup.Markup.{Markup}
use Rattle.fs_xml.specs.declared.markup.Markup.TheVariants as markup
use Rattle.fs_xml.specs.declared.stop.TagStop.{TagStop}
use Rattle.fs_xml.specs.declared.stop.TagStop.TheVariants.{Cut, Bad}
use Rattle.fs_xml.specs.Bytes.{is_blank, is_name_byte, begins_name, past, name_of}
use Rattle.fs_xml.specs.Tags.{BodyText, body_of, body_at}

pub data Mark : Type 0 where
  Comment : Mark
  End : (name : List ℕ) → Mark
  Start : (name : List ℕ) → BodyText → Mark

abbrev pub mark_of : Markup → Mark
mark_of markup.Comment = Comment
mark_of (markup.End name) = End name.now
mark_of (markup.Start name body) = Start name.now (body_of body)

abbrev pub mark_seen : Markup × Bor (List ℕ) → Mark × List ℕ
mark_seen x = (mark_of x.0, x.1.now)

abbrev pub Marks : Type 0
Marks = Result (Mark × List ℕ) TagStop

-- what stands behind the next `-->`
abbrev pub comment_end : List ℕ → Result (List ℕ) TagStop
comment_end [] = Err Cut
comment_end (b ∷ rest) = if starts_with nat_eq (b ∷ rest) (codes "-->") then Ok (drop 3 (b ∷ rest)) else comment_end rest

unfoldable pub second_dash_at : List ℕ → Result (List ℕ) TagStop
second_dash_at [] = Err Cut
second_dash_at (b ∷ rest) = if b == 45 then comment_end rest else Err Bad

-- a comment, from behind its `<!`
unfoldable pub comment_at : List ℕ → Result (List ℕ) TagStop
comment_at [] = Err Cut
comment_at (b ∷ rest) = if b == 45 then second_dash_at rest else Err Bad

-- the `>` of an end tag
unfoldable pub closed_at : List ℕ → List ℕ → Marks
closed_at name [] = Err Cut
closed_at name (b ∷ rest) = if b == 62 then Ok (End name, rest) else Err Bad

-- an end tag, from its name on
unfoldable pub end_at : List ℕ → Marks
end_at [] = Err Cut
end_at (b ∷ rest) =
    if begins_name b then closed_at (name_of (b ∷ rest)) (past is_blank (past is_name_byte (b ∷ rest))) else Err Bad

-- a start tag, from its name on
unfoldable pub start_at : ℕ → List ℕ → Marks
start_at end bytes = body_at end (past is_name_byte bytes) >>= λ x. Ok (Start (name_of bytes) x.0, x.1)

-- what stands behind a `<`
unfoldable pub mark_at : ℕ → List ℕ → Marks
mark_at end [] = Err Cut
mark_at end (b ∷ rest) =
    if b == 33 then (comment_at rest >>= λ behind. Ok (Comment, behind))
    else if b == 47 then end_at rest
    else if begins_name b then start_at end (b ∷ rest)
    else Err Bad
