use Rattle.std.proofs.Common.{◌≡◌, drop}
use Rattle.fs_plan.specs.Hunting.{extensions_done}
use Rattle.fs_plan.proofs.hunt.Hunt.try_extensions.Given as goal

-- the extensions that are left lead to what all lead to
abbrev pub invariant-loop-extension : goal.invariant-loop-extension
invariant-loop-extension g l =
    extensions_done l.profile (drop l.extension-index l.extensions) l.self ≡ extensions_done l.profile l.extensions l.fn.self
