use Rattle.std.proofs.Common.{sym}
use Rattle.std.proofs.lemmas.List.{length-take-le}
use Rattle.fs_frame.proofs.FrontLaws.{within_reach-slice, head_found, spoilt_by_many, still_open}
use Rattle.fs_frame.proofs.front.look_on.Goals as goal

pub search-requires : goal.search-requires
search-requires c = rw (within_reach-slice c.args.bytes.now c.min-end.result c.min-end.ensures) c.requires

pub slice_bounds-behind_head-end : goal.slice_bounds-behind_head-end
slice_bounds-behind_head-end c =
    sym (length-take-le c.in-Head.len c.args.bytes.now
    (head_found c.args.bytes.now c.in-Head.len c.in-Head.command
    (rw (within_reach-slice c.args.bytes.now c.min-end.result c.min-end.ensures) at c.in-Head.ensures)).within)

pub behind_head-requires : goal.behind_head-requires
behind_head-requires c =
    let found = head_found c.args.bytes.now c.in-Head.len c.in-Head.command
    (rw (within_reach-slice c.args.bytes.now c.min-end.result c.min-end.ensures) at c.in-Head.ensures) in
    record { within = found.short; command = found.command_is }

pub returns-in-Head : goal.returns-in-Head
returns-in-Head c =
    c.behind_head.ensures c.args.bytes.now
    (head_found c.args.bytes.now c.in-Head.len c.in-Head.command
    (rw (within_reach-slice c.args.bytes.now c.min-end.result c.min-end.ensures) at c.in-Head.ensures)).stands

pub returns-in-Open : goal.returns-in-Open
returns-in-Open c =
    spoilt_by_many c.args.bytes.now
    (rw (within_reach-slice c.args.bytes.now c.min-end.result c.min-end.ensures) at c.in-Open.ensures).1
    c.if-bytes-gt-MOST_BYTES.true

pub returns-in-Open-2 : goal.returns-in-Open-2
returns-in-Open-2 c =
    let found = rw (within_reach-slice c.args.bytes.now c.min-end.result c.min-end.ensures) at c.in-Open.ensures in
    still_open c.args.bytes.now c.in-Open.scan found.0 found.1 c.if-bytes-gt-MOST_BYTES.false
