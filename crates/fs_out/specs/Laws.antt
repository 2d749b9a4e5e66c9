-- What is read of a target that was written.
use Rattle.std.specs.Prelude.{◌≡◌, ◌<◌, ◌≤◌, if◌then◌else◌, false, [], ◌∷◌, ◌++◌, length, codes}
use Rattle.std.specs.List.{list_any}
use Rattle.std.specs.Fmt.{decimal}
use Rattle.fs_text.specs.Texts.{Text}
use Rattle.fs_text.specs.Words.{is_byte}
use Rattle.fs_out.specs.declared.target.Target.{Target}

-- its host has bytes, and no space among them; its port is one
pub record IsTarget (target : Target) : Type 0 where
  pub some_host : 0 < length target.host
  pub no_space : list_any (is_byte 32) target.host ≡ false
  pub from_one : 0 < target.port
  pub within : target.port ≤ 65535

-- the text that says it
abbrev pub spelled : Target → Text
spelled target = (target.host ++ 58 ∷ decimal target.port) ++ (if target.full then codes " full" else [])
