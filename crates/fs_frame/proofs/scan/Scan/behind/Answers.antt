use Rattle.fs_frame.proofs.ScanLaws.{ends_head, passes_empty, passes_command, passes_header}
use Rattle.fs_frame.proofs.scan.Scan.behind.Goals as goal

pub returns-in-Some-eq0 : goal.returns-in-Some-eq0
returns-in-Some-eq0 c bytes scanned goes =
    ends_head bytes c.args.self _ _ c.in-Some-eq0.command scanned goes c.in-Some-eq0.is-0 c.in-Some-eq0.is-1

pub returns-in-None-eq0 : goal.returns-in-None-eq0
returns-in-None-eq0 c bytes scanned goes =
    passes_empty bytes c.args.self _ _ _ scanned goes c.in-None-eq0.is-0 c.in-None-eq0.is-1 c.at-in-None-eq0.ensures

pub returns-in-None-default : goal.returns-in-None-default
returns-in-None-default c bytes scanned goes =
    passes_command bytes c.args.self _ _ _ _ scanned goes c.in-None-default.is-0 c.in-None-default.is-1.1 c.command_at.ensures
    c.at-in-None-default.ensures

pub returns-in_default : goal.returns-in_default
returns-in_default c bytes scanned goes =
    passes_header bytes c.args.self _ _ _ scanned goes c.in_default.not-None-0 c.in_default.is-1.1 c.at.ensures
