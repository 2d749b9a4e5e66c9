use Rattle.std.proofs.Common.{◌≡◌, ◌++◌, drop, map}
use Rattle.std.specs.List.{concat}
use Rattle.fs_event.specs.Texts.{line_with_value, ending, plain}
use Rattle.fs_event.proofs.texts.EventText.of.Given as goal

-- what stands so far, the headers that are left, and what stands behind them are the text
abbrev pub invariant-loop-name : goal.invariant-loop-name
invariant-loop-name l =
    l.text ++ concat (map line_with_value (drop l.name-index l.event.headers)) ++ ending l.event.body ≡ plain l.fn.event
