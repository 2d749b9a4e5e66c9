-- A tag, from behind its name to its end.
use Rattle.std.specs.Prelude.{ℕ, zero, suc, ◌+◌, List, [], ◌∷◌, ◌++◌, length, map, Option, None, Some, Result, Ok, Err}
use Rattle.std.specs.Borrow.{Bor}
use Rattle.fs_xml.specs.Results.{◌>>=◌}
use Rattle.fs_xml.specs.declared.attribute.Attr.{Attr}
use Rattle.fs_xml.specs.declared.attribute.Ending.{Ending}
use Rattle.fs_xml.specs.declared.attribute.Ending.TheVariants.{Opens}
use Rattle.fs_xml.specs.declared.stop.MarkupStop.{MarkupStop}
use Rattle.fs_xml.specs.declared.stop.TagStop.{TagStop}
use Rattle.fs_xml.specs.declared.stop.TagStop.TheVariants.{Bad}
use Rattle.fs_xml.specs.declared.tag.Body.{Body}
use Rattle.fs_xml.specs.declared.tag.Close.{Close}
use Rattle.fs_xml.specs.Answers.{MarkupGives}
use Rattle.fs_xml.specs.Attributes.{Written, TagPart, Has, Ends, Broken, written_of, part_at}

-- what a tag has behind its name: the attributes before the first malformed one, where that begins if there is one, and how the tag ends
pub record BodyText : Type 0 where
  pub attrs : List Written
  pub malformed : Option ℕ
  pub ending : Ending

abbrev pub body_of : Body → BodyText
body_of b = record { attrs = map written_of b.attrs.items; malformed = b.malformed; ending = b.ending }

abbrev pub body_seen : Body × Bor (List ℕ) → BodyText × List ℕ
body_seen x = (body_of x.0, x.1.now)

-- the attributes so far go on with one more, or the tag is at its end
pub data Step : Type 0 where
  More : List Written → Step
  Done : BodyText → Step

abbrev pub step_of : List Written → TagPart → Step
step_of so_far (Has a) = More (so_far ++ a ∷ [])
step_of so_far (Ends ending) = Done (record { attrs = so_far; malformed = None; ending = ending })
step_of so_far (Broken at) = Done (record { attrs = so_far; malformed = Some at; ending = Opens })

abbrev pub step_seen : List Written → Option Close → Step
step_seen so_far None = More so_far
step_seen so_far (Some close) = Done (record { attrs = so_far; malformed = close.malformed; ending = close.ending })

-- a call leaves these attributes and answers the end, if it is there, and the rest, as a step says
abbrev pub StepGives : List Attr → Result (Option Close × Bor (List ℕ)) MarkupStop → Result (Step × List ℕ) TagStop → Type 0
StepGives attrs result step = MarkupGives (λ x. (step_seen (map written_of attrs) x.0, x.1.now)) result step

abbrev pub Bodies : Type 0
Bodies = Result (BodyText × List ℕ) TagStop

abbrev pub go_on : (List Written → List ℕ → Bodies) → Step × List ℕ → Bodies
go_on read (More so_far, rest) = read so_far rest
go_on read (Done body, rest) = Ok (body, rest)

unfoldable pub body_step : ℕ → List Written → List ℕ → Result (Step × List ℕ) TagStop
body_step end so_far bytes = part_at end bytes >>= λ x. Ok (step_of so_far x.0, x.1)

-- with no more than so many parts
abbrev pub body_within : ℕ → ℕ → List Written → List ℕ → Bodies
body_within zero end so_far bytes = Err Bad
body_within (suc more) end so_far bytes = body_step end so_far bytes >>= λ x. go_on (λ next rest. body_within more end next rest) x

-- each part has a byte at least
unfoldable pub body_at : ℕ → List ℕ → Bodies
body_at end bytes = body_within (length bytes + 1) end [] bytes
